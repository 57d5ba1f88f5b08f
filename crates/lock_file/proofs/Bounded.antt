-- The result of reading a file without running it, case by case, and how many elements its schedule needs.
use mathlib.Core.Path.{◌≡◌, refl}
use mathlib.Core.Bool.{Bool, true, false}
use mathlib.Core.List.{List}
use Prim.Native.Nat.{ℕ, ◌-◌, ◌/◌, ◌≤◌, ◌<◌}
use native.Mathlib.Omega.{arith}
use lib.Dec.{ltb}
use lib.ListN.{length}
use borrow.Author.Tests.{lt-ltb, le-ltb, ltb-false}
use Rattle.model.specs.Refusals.{refusal}
use Rattle.lock_file.specs.Reading.{Reached, At, Ended, BadMap, refused, described, reached_refusal, tree_read, entries_at, reading_of, file_read}
use Rattle.lock_file.specs.Answers.{bounded_read, reading_reply, read_answer, ScheduleRoomLaw}
use Rattle.lock_file.proofs.Positions.{entries_length}
use Rattle.lock_file.proofs.Within.{position, tree_position}

pub read_long : (bs : List ℕ) → 65536 < length bs → bounded_read bs ≡ refused (refusal 1 0)
unfolding bounded_read
read_long bs h = rw (lt-ltb 65536 (length bs) h)

module _ (bs : List ℕ) (h : length bs ≤ 65536) where
  pub read_at : (at : ℕ) → (tree_read bs).reached ≡ At at → bounded_read bs ≡ described (tree_read bs).tree (entries_at bs at)
  unfolding bounded_read file_read reading_of
  read_at at e = rw (le-ltb 65536 (length bs) h, e)

  pub read_ended : (tree_read bs).reached ≡ Ended → bounded_read bs ≡ refused (refusal 2 (length bs))
  unfolding bounded_read file_read reading_of reached_refusal
  read_ended e = rw (le-ltb 65536 (length bs) h, e)

  pub read_bad : (p : ℕ) → (tree_read bs).reached ≡ BadMap p → bounded_read bs ≡ refused (refusal 3 p)
  unfolding bounded_read file_read reading_of reached_refusal
  read_bad p e = rw (le-ltb 65536 (length bs) h, e)

pub place_within : (bs : List ℕ) (p : ℕ) → (tree_read bs).reached ≡ BadMap p → p ≤ length bs
unfolding position
place_within bs p e = rw e at (tree_position bs)

pub start_within : (bs : List ℕ) (at : ℕ) → (tree_read bs).reached ≡ At at → at ≤ length bs
unfolding position
start_within bs at e = rw e at (tree_position bs)

turns_within : (bs : List ℕ) → length bs ≤ 65536 → (r : Reached) → (reading_reply (reading_of bs r (tree_read bs).tree)).length ≤ 32768
unfolding reading_reply reading_of entries_at
turns_within bs h (At at) = omega (arith, entries_length bs ((length bs - at) / 2) at)
turns_within bs h Ended = omega arith
turns_within bs h (BadMap p) = omega arith

pub schedule_room_law : ScheduleRoomLaw
unfolding ScheduleRoomLaw read_answer bounded_read file_read reading_reply
schedule_room_law bs = by (ltb 65536 (length bs)) refl
  where
    by : (b : Bool) → ltb 65536 (length bs) ≡ b → (read_answer bs).length ≤ 32768
    by true e = rw e (omega arith)
    by false e = rw e (turns_within bs (ltb-false 65536 (length bs) e) (tree_read bs).reached)
