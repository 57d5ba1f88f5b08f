-- Pieces of a journal, and entries that are read several at a time: the definitions that their contracts use.
use Rattle.std.specs.Prelude.{◌≡◌, List, ℕ, ◌+◌, ◌*◌, ◌≤◌, ◌<◌, length, get_or, take, Option, None}
use Rattle.journal.specs.Reading.{entry_size}
use Rattle.refusals.specs.declared.reasons.Reason.{Reason}
use Rattle.journal_call.specs.declared.reader.Piece.{Piece}
use Rattle.journal_call.specs.Reader.Stretches.{Stretch, Stops}

-- each of these numbers is equal to one number
abbrev pub AllAre : (number : ℕ) → (numbers : List ℕ) → Type 0
AllAre n ns = (j : ℕ) → j < length ns → get_or ns j 0 ≡ n

-- each of these numbers is below one number
abbrev pub AllBelow : (number : ℕ) → (numbers : List ℕ) → Type 0
AllBelow n ns = (j : ℕ) → j < length ns → get_or ns j 0 < n

-- enough bytes are left, and both arrays can take this many more entries
pub record Fits (size number bytes position threads kinds count : ℕ) : Type 0 where
  pub bytes_left : position + size ≤ bytes
  pub threads_left : count + number ≤ threads
  pub kinds_left : count + number ≤ kinds

-- consecutive entries of two bytes each, from a position on, whose bit map is for a kind only
abbrev pub KindsGiven : (count : ℕ) → (bytes : List ℕ) → (position : ℕ) → Type 0
KindsGiven n bs p = (k : ℕ) → k < n → get_or bs (p + 2 * k) 0 ≡ 2

-- for each byte from a position on, the size of the entry that would start there, if the byte is a bit map
pub record SizesFrom (bytes : List ℕ) (position count : ℕ) (sizes : List ℕ) : Type 0 where
  pub room : length sizes ≡ 128
  pub size : (k : ℕ) → k < count → get_or bytes (position + k) 0 ≤ 3 → get_or sizes k 0 ≡ entry_size (get_or bytes (position + k) 0)

-- a piece of the journal, with its threads and kinds at the front of two arrays; it stops without a reason if the arrays are full or the journal ends
pub record PieceRead (known : ℕ) (bytes : List ℕ) (position before : ℕ) (threads kinds : List ℕ) (piece : Piece (Option Reason)) : Type 0 where
  pub threads_fit : piece.count ≤ length threads
  pub kinds_fit : piece.count ≤ length kinds
  pub read : Stretch known bytes position before (take piece.count threads) (take piece.count kinds) piece.position piece.before
  pub stops : Stops known bytes piece.position piece.before piece.refused
  pub full : piece.refused ≡ None → piece.position < length bytes → (room : ℕ) → room ≤ length threads → room ≤ length kinds → room ≤ piece.count
