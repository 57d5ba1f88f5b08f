-- What refuses the call, in plain numbers.
use mathlib.Core.Path.{◌≡◌, refl, ◌∙◌}
use mathlib.Core.List.{List, [], ◌++◌}
use mathlib.Core.Logic.{◌≢◌}
use Prim.Native.Nat.{ℕ, ◌≤◌, ◌<◌}
use lib.ListN.{length}
use borrow.Author.Tests.{lt-ltb, le-ltb}
use Rattle.model.specs.Trees.{Tree}
use Rattle.model.specs.Refusals.{refusal, accepted, first_refusal, schedule_tests, tree_tests, has_number, tree_refusal}
use Rattle.model.specs.Laws.{Numbered, RefusalLaw, RefusesExactly}
use Rattle.model.proofs.Refusing.{numbered}
use Rattle.model.proofs.Laws.Refusals.{refusal_law, tree_numbered}
use Rattle.refusals.proofs.Joining.{first_decides, other_decides}
use Rattle.refusals.proofs.Scanning.{single_hit, single_missed}
use Rattle.lock_file.specs.FileWriter.Writing.{written_file}
use Rattle.lock_file.specs.FileWriter.Refusals.{bad_file_length, bad_file_room, file_room_tests, file_tests, write_tests, write_refusal}
use Rattle.lock_file.specs.FileWriter.Laws.{WriteRefusalLaw}

module _ (t : Tree) (is : List ℕ) (room : ℕ) where
  exactly : RefusesExactly (write_tests t is room)
  unfolding RefusalLaw has_number tree_tests write_tests
  exactly = refusal_law (write_tests t is room) (numbered (write_tests t is room) refl)

  schedule_numbered : Numbered (schedule_tests t is)
  unfolding has_number
  schedule_numbered = numbered (schedule_tests t is) refl

  pub tree_refused : (tree_refusal t).number ≢ 0 → write_refusal t is room ≡ tree_refusal t
  unfolding write_refusal write_tests tree_refusal
  tree_refused h = first_decides (tree_tests t) (schedule_tests t is ++ (file_tests t is room)) h

  module _ (tree_passes : (tree_refusal t).number ≡ 0) where
    after_tree : write_refusal t is room ≡ first_refusal (schedule_tests t is ++ (file_tests t is room))
    unfolding write_refusal write_tests tree_refusal
    after_tree =
        other_decides (tree_tests t) (schedule_tests t is ++ (file_tests t is room)) (tree_numbered t) tree_passes

    pub schedule_refused : (first_refusal (schedule_tests t is)).number ≢ 0 → write_refusal t is room ≡ first_refusal (schedule_tests t is)
    schedule_refused h = after_tree ∙ first_decides (schedule_tests t is) (file_tests t is room) h

    module _ (schedule_passes : (first_refusal (schedule_tests t is)).number ≡ 0) where
      after_schedule : write_refusal t is room ≡ first_refusal (file_tests t is room)
      after_schedule =
          after_tree ∙ other_decides (schedule_tests t is) (file_tests t is room) schedule_numbered schedule_passes

      pub length_refused : 65536 < length (written_file t is) → write_refusal t is room ≡ refusal 1 0
      unfolding bad_file_length
      length_refused h = after_schedule ∙ single_hit _ (file_room_tests t is room) refl (lt-ltb 65536 (length (written_file t is)) h)

      module _ (short : length (written_file t is) ≤ 65536) where
        after_length : write_refusal t is room ≡ first_refusal (file_room_tests t is room)
        unfolding bad_file_length
        after_length = after_schedule ∙ single_missed _ (file_room_tests t is room) refl (le-ltb 65536 (length (written_file t is)) short)

        pub room_refused : room < length (written_file t is) → write_refusal t is room ≡ refusal 17 0
        unfolding bad_file_room
        room_refused h = after_length ∙ single_hit _ [] refl (lt-ltb room (length (written_file t is)) h)

        pub accepts : length (written_file t is) ≤ room → write_refusal t is room ≡ accepted
        unfolding bad_file_room first_refusal
        accepts h = after_length ∙ single_missed _ [] refl (le-ltb room (length (written_file t is)) h)

pub write_refusal_law : WriteRefusalLaw
unfolding WriteRefusalLaw
write_refusal_law t is room =
    record {
      exactly = exactly t is room;
      tree_refused = tree_refused t is room;
      schedule_refused = schedule_refused t is room;
      length_refused = length_refused t is room;
      room_refused = room_refused t is room;
      accepts = accepts t is room;
    }
