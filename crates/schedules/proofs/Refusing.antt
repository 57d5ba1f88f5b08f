-- What refuses the whole call, in plain numbers.
use mathlib.Core.Path.{◌≡◌, refl, ◌∙◌}
use mathlib.Core.List.{List, [], ◌++◌}
use mathlib.Core.Logic.{◌≢◌}
use Prim.Native.Nat.{ℕ, ◌*◌, ◌/◌, ◌≤◌, ◌<◌}
use native.Mathlib.Omega.{arith}
use lib.ListN.{length}
use borrow.Author.Tests.{eq-eqb, ne_eqb, lt-ltb, le-ltb}
use Rattle.model.specs.Trees.{Tree}
use Rattle.model.specs.Refusals.{refusal, accepted, first_refusal, tree_tests, has_number, tree_refusal}
use Rattle.model.specs.Laws.{RefusalLaw, RefusesExactly}
use Rattle.model.proofs.Refusing.{numbered}
use Rattle.model.proofs.Laws.Refusals.{refusal_law, tree_numbered}
use Rattle.refusals.proofs.Joining.{first_decides, other_decides}
use Rattle.refusals.proofs.Scanning.{single_hit, single_missed}
use Rattle.schedules.specs.Rows.{total}
use Rattle.schedules.specs.Refusals.{bad_total, bad_row_room, total_tests, row_room_tests, many_tests, many_refusal}
use Rattle.schedules.specs.Laws.{ManyRefusalLaw}

module _ (t : Tree) (ns : List ℕ) (n room : ℕ) where
  exactly : RefusesExactly (many_tests t ns n room)
  unfolding RefusalLaw has_number tree_tests many_tests
  exactly = refusal_law (many_tests t ns n room) (numbered (many_tests t ns n room) refl)

  pub tree_refused : (tree_refusal t).number ≢ 0 → many_refusal t ns n room ≡ tree_refusal t
  unfolding many_refusal many_tests tree_refusal
  tree_refused h = first_decides (tree_tests t) (total_tests ns n ++ row_room_tests ns room) h

  module _ (tree_passes : (tree_refusal t).number ≡ 0) where
    after_tree : many_refusal t ns n room ≡ first_refusal (total_tests ns n ++ row_room_tests ns room)
    unfolding many_refusal many_tests tree_refusal
    after_tree = other_decides (tree_tests t) (total_tests ns n ++ row_room_tests ns room) (tree_numbered t) tree_passes

    pub total_refused : total ns ≢ n → many_refusal t ns n room ≡ refusal 22 0
    unfolding bad_total
    total_refused h = after_tree ∙ single_hit _ (row_room_tests ns room) refl (rw (ne_eqb (total ns) n h))

    module _ (adds_up : total ns ≡ n) where
      after_total : many_refusal t ns n room ≡ first_refusal (row_room_tests ns room)
      unfolding bad_total
      after_total = after_tree ∙ single_missed _ (row_room_tests ns room) refl (rw (eq-eqb (total ns) n adds_up))

      pub room_refused : room < 8 * length ns → many_refusal t ns n room ≡ refusal 23 0
      unfolding bad_row_room
      room_refused h = after_total ∙ single_hit _ [] refl (lt-ltb (room / 8) (length ns) (omega arith))

      pub accepts : 8 * length ns ≤ room → many_refusal t ns n room ≡ accepted
      unfolding bad_row_room first_refusal
      accepts h = after_total ∙ single_missed _ [] refl (le-ltb (room / 8) (length ns) (omega arith))

pub many_refusal_law : ManyRefusalLaw
unfolding ManyRefusalLaw
many_refusal_law t ns n room =
    record {
      exactly = exactly t ns n room;
      tree_refused = tree_refused t ns n room;
      total_refused = total_refused t ns n room;
      room_refused = room_refused t ns n room;
      accepts = accepts t ns n room;
    }
