-- The tests of a schedule in order: what the code tests is the schedule's refusal.
use mathlib.Core.Path.{◌≡◌, refl, ◌∙◌}
use mathlib.Core.List.{List, []}
use Prim.Native.Nat.{ℕ, ◌≤◌, ◌<◌}
use lib.ListN.{length, drop}
use borrow.Author.Tests.{lt-ltb, le-ltb}
use Rattle.model.specs.Refusals.{refusal, accepted, Test, first_refusal, room_tests, bad_length, bad_entry, bad_room}
use Rattle.refusals.specs.Arrays.{threads_in, schedule_room_tests}
use Rattle.refusals.specs.Lowest.{Lowest}
use Rattle.refusals.proofs.Scanning.{single_hit, single_missed, test_hit, test_missed}

module _ (m : ℕ) (is : List ℕ) (room : ℕ) where
  abbrev tests : List Test
  tests = schedule_room_tests (threads_in m) is room

  pub long_refused : 65536 < length is → first_refusal tests ≡ refusal 11 0
  unfolding bad_length
  long_refused h = single_hit _ _ refl (lt-ltb 65536 (length is) h)

  module _ (short : length is ≤ 65536) (p : ℕ) (L : Lowest (length is) (bad_entry (threads_in m) is) p) where
    after_eleven : first_refusal tests ≡ first_refusal (drop 1 tests)
    unfolding bad_length
    after_eleven = single_missed _ _ refl (le-ltb 65536 (length is) short)

    pub entry_refused : p < length is → first_refusal tests ≡ refusal 12 p
    entry_refused h = after_eleven ∙ test_hit _ _ p L h

    pub room_refused : length is ≤ p → room < length is → first_refusal tests ≡ refusal 13 0
    unfolding bad_room
    room_refused h r = after_eleven ∙ test_missed _ (room_tests is room) p L h ∙ single_hit _ [] refl (lt-ltb room (length is) r)

    pub schedule_passes : length is ≤ p → length is ≤ room → first_refusal tests ≡ accepted
    unfolding bad_room first_refusal
    schedule_passes h r = after_eleven ∙ test_missed _ (room_tests is room) p L h ∙ single_missed _ [] refl (le-ltb room (length is) r)
