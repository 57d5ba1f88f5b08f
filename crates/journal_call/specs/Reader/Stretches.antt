-- Consecutive entries of a journal: the definitions that the contracts of the reader and of its callers use.
use Rattle.std.specs.Prelude.{◌≡◌, List, [], ◌∷◌, ℕ, zero, suc, ◌+◌, ◌≤◌, ◌<◌, length, Option, Some, None}
use Rattle.std.proofs.lemmas.List.Edits.{sets}
use Rattle.journal.specs.declared.Entry.{Entry}
use Rattle.journal.specs.declared.Entry.TheVariants.{Named, Broken, End}
use Rattle.journal.specs.Reading.{entry_at}
use Rattle.refusals.specs.declared.reasons.Reason.{Reason}
use Rattle.refusals.specs.declared.reasons.Reason.TheVariants.{BadEntry, JournalBroken}
use Rattle.journal_call.specs.declared.reader.Piece.{Piece}

-- what follows an entry that is named; otherwise the position itself
abbrev pub position_by : Entry → (position : ℕ) → (then : (next thread : ℕ) → ℕ) → ℕ
position_by (Named i k next) p f = f next i
position_by Broken p f = p
position_by End p f = p

-- the position after a number of entries; if there are fewer, after the last of them
unfoldable pub position_after : (count : ℕ) → (bytes : List ℕ) → (position before : ℕ) → ℕ
position_after zero bs p b = p
position_after (suc n) bs p b = position_by (entry_at bs p b) p (λ next i. position_after n bs next i)

-- consecutive entries, each of a known thread: their threads and kinds, the position after them, the thread of the last
pub data Stretch (known : ℕ) (bytes : List ℕ) : (position before : ℕ) → (threads kinds : List ℕ) → (end last : ℕ) → Type 0 where
  none_read : {p b : ℕ} → Stretch known bytes p b [] [] p b
  one_read :
      {p b i k next end last : ℕ} {is ks : List ℕ} → entry_at bytes p b ≡ Named i k next → i < known →
      Stretch known bytes next i is ks end last → Stretch known bytes p b (i ∷ is) (k ∷ ks) end last

-- why reading stops: for no reason if there is no more space; the entry at the position is cut off or has another bit set; or its thread is unknown
pub data Stops (known : ℕ) (bytes : List ℕ) (position before : ℕ) : (refused : Option Reason) → Type 0 where
  for_room : Stops known bytes position before None
  for_broken : entry_at bytes position before ≡ Broken → Stops known bytes position before (Some JournalBroken)
  for_thread : {i k next : ℕ} → entry_at bytes position before ≡ Named i k next → known ≤ i → Stops known bytes position before (Some BadEntry)

-- consecutive entries read from a position on; their threads and kinds are stored in two arrays from an index on
pub record ReadOn (known : ℕ) (bytes : List ℕ) (position before : ℕ) (threads₀ kinds₀ : List ℕ) (from : ℕ) (threads kinds : List ℕ) (count end last : ℕ) : Type 0 where
  pub new_threads : List ℕ
  pub new_kinds : List ℕ
  pub read : Stretch known bytes position before new_threads new_kinds end last
  pub threads_stored : threads ≡ sets threads₀ from new_threads
  pub kinds_stored : kinds ≡ sets kinds₀ from new_kinds
  pub counted : count ≡ from + length new_threads
  pub threads_fit : count ≤ length threads₀
  pub kinds_fit : count ≤ length kinds₀

-- a piece with these parts
abbrev pub piece_of : {R : Type 0} → (count position before : ℕ) → (refused : R) → Piece R
piece_of n p b r = record { count = n; position = p; before = b; refused = r }

-- reading stopped after an entry, not before the index is reached unless a reason says why or the journal ends
pub record StoppedBefore (known : ℕ) (bytes : List ℕ) (index : ℕ) (piece : Piece (Option Reason)) : Type 0 where
  pub stops : Stops known bytes piece.position piece.before piece.refused
  pub full : piece.refused ≡ None → piece.position < length bytes → index ≤ piece.count
