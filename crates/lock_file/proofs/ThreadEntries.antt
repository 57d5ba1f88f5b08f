-- The threads' entries: what reading them stores, and that it reads exactly the entries that are there.
use mathlib.Core.Path.{◌≡◌, refl, sym, ◌∙◌, ap}
use mathlib.Core.List.{List, [], ◌++◌, append_assoc}
use mathlib.Core.Logic.{inl}
use Prim.Native.Nat.{ℕ, zero, suc, ◌+◌, ◌≤◌, ◌<◌}
use native.Mathlib.Omega.{arith}
use native.Mathlib.Nat.{add-zero}
use native.Mathlib.Decide.{ℕ_discrete}
use lib.ListN.{length, get_or, drop, length-append}
use Rattle.lock_file.specs.Reading.{At, Ended, BadMap, ThreadsRead, thread_end, home_at, stored, threads_from}
use Rattle.lock_file.specs.Format.{ThreadEntries, no_thread, next_thread}
use Rattle.lock_file.proofs.Positions.{reached_cases, thread_then, thread_ended, thread_bad}
use Rattle.lock_file.proofs.Within.{position, threads_position}
use Rattle.lock_file.proofs.Stored.{stored_length, stored_here, stored_other, Outside, outside_next, outside_apart}
use Rattle.lock_file.proofs.ThreadEntry.{thread_bytes, thread_fields}

-- reading keeps the lengths of the arrays
pub threads_room :
    (bs : List ℕ) (k i before at : ℕ) (hs : List ℕ) → length (threads_from bs k i before at hs).homes ≡ length hs
unfolding threads_from
threads_room bs zero i before at hs = refl
threads_room bs (suc k) i before at hs =
    let h = home_at bs before at in
    reached_cases (thread_end bs at)
    (λ next e.
    rw (thread_then bs k i before at hs next e)
    (threads_room bs k (i + 1) h next (stored 256 hs i h) ∙ stored_length 256 hs i h))
    (λ e. rw (thread_ended bs k i before at hs e))
    (λ p e. rw (thread_bad bs k i before at hs p e))

-- the homes of other threads are unchanged
pub threads_kept :
    (bs : List ℕ) (k i before at : ℕ) (hs : List ℕ) (j : ℕ) → Outside j i k →
    get_or (threads_from bs k i before at hs).homes j 0 ≡ get_or hs j 0
unfolding threads_from
threads_kept bs zero i before at hs j o = refl
threads_kept bs (suc k) i before at hs j o =
    let h = home_at bs before at in
    reached_cases (thread_end bs at)
    (λ next e.
    rw (thread_then bs k i before at hs next e)
    (threads_kept bs k (i + 1) h next (stored 256 hs i h) j (outside_next j i k o) ∙ stored_other 256 hs i h j (outside_apart j i k o)))
    (λ e. rw (thread_ended bs k i before at hs e))
    (λ p e. rw (thread_bad bs k i before at hs p e))

-- a position that reading reaches is within the file
pub threads_within :
    (bs : List ℕ) (k i before at next : ℕ) (hs : List ℕ) → at ≤ length bs → (threads_from bs k i before at hs).reached ≡ At next →
    next ≤ length bs
unfolding position
threads_within bs k i before at next hs a e = rw e at (threads_position bs k i before at hs a)

-- entries that were read, with their bytes up to the position reached
pub record ThreadsAt (bs : List ℕ) (i k before at next : ℕ) (hs : List ℕ) : Type 0 where
  pub bytes : List ℕ
  pub entries : ThreadEntries hs i k before bytes
  pub split : drop at bs ≡ bytes ++ drop next bs

pub threads_bytes :
    (bs : List ℕ) (k i before at next : ℕ) (hs : List ℕ) → length hs ≡ 256 → (threads_from bs k i before at hs).reached ≡ At next →
    ThreadsAt bs i k before at next (threads_from bs k i before at hs).homes
unfolding threads_from
threads_bytes bs zero i before at next hs a e =
    let z : at ≡ next = cc in
    record { bytes = []; entries = no_thread i before; split = rw z }
threads_bytes bs (suc k) i before at next hs a e =
    reached_cases (thread_end bs at)
    (λ n g.
    let h = home_at bs before at in
    let ms = stored 256 hs i h in
    let then = thread_then bs k i before at hs n g in
    let long = stored_length 256 hs i h in
    let first = thread_bytes bs before at n g in
    let rest = threads_bytes bs k (i + 1) h n next ms (long ∙ a) (rw then at e) in
    let room = threads_room bs k (i + 1) h n ms in
    let kept = threads_kept bs k (i + 1) h n ms i (inl (omega arith)) in
    rw then
    (record {
      bytes = first.bytes ++ rest.bytes;
      entries =
          next_thread i k before h first.bytes rest.bytes first.entry
          (λ l. kept ∙ stored_here 256 hs i h (omega arith) (omega arith)) rest.entries;
      split = first.split ∙ ap (λ l. first.bytes ++ l) rest.split ∙ sym (append_assoc first.bytes rest.bytes (drop next bs));
    }))
    (λ g.
    let bad : Ended ≡ At next = rw (thread_ended bs k i before at hs g) at e in
    absurd (let z : ◌≡◌ {A = ℕ} 0 1 = cc in omega arith))
    (λ p g.
    let bad : BadMap p ≡ At next = rw (thread_bad bs k i before at hs p g) at e in
    absurd (let z : ◌≡◌ {A = ℕ} 0 1 = cc in omega arith))

-- conversely, entries at a position are read, and their homes stored
pub record ThreadsStored (bs : List ℕ) (i k at : ℕ) (r : ThreadsRead) (given bytes rest : List ℕ) : Type 0 where
  pub reached : r.reached ≡ At (at + length bytes)
  pub after : drop (at + length bytes) bs ≡ rest
  pub homes_given : (j : ℕ) → i ≤ j → j < i + k → j < 256 → get_or r.homes j 0 ≡ get_or given j 0

pub threads_stored :
    (bs given : List ℕ) (k i before at : ℕ) (hs xs rest : List ℕ) → length hs ≡ 256 → length given ≡ 256 →
    ThreadEntries given i k before xs → drop at bs ≡ xs ++ rest → ThreadsStored bs i k at (threads_from bs k i before at hs) given xs rest
unfolding threads_from
threads_stored bs given k i before at hs xs rest a b (no_thread i' before') e =
    record { reached = rw add-zero; after = rw add-zero e; homes_given = λ j l m n. absurd (omega arith) }
threads_stored bs given k i before at hs xs rest a b (next_thread i' k' before' h ys zs entry hold entries) e =
    let first = thread_fields bs at before h ys (zs ++ rest) entry (rw append_assoc at e) in
    let n = at + length ys in
    let long : n + length zs ≡ at + length (ys ++ zs) = omega (arith, length-append ys zs) in
    let then = rw first.home at (thread_then bs k' i before at hs n first.reached) in
    let ms = stored 256 hs i h in
    let others = threads_stored bs given k' (i + 1) h n ms zs rest (stored_length 256 hs i h ∙ a) b entries first.after in
    let kept = threads_kept bs k' (i + 1) h n ms i (inl (omega arith)) in
    rw then
    (record {
      reached = others.reached ∙ ap At long;
      after = rw long at others.after;
      homes_given =
          λ j l m o.
          elim (ℕ_discrete j i) [
            | yes z ↦ rw z (kept ∙ stored_here 256 hs i h (omega arith) (omega arith) ∙ sym (hold (omega arith)))
            | no z ↦ others.homes_given j (omega arith) (omega arith) o
          ];
    })
