-- What the code's tests imply about the refusals of the whole call.
use mathlib.Core.Path.{◌≡◌, sym, ◌∙◌}
use mathlib.Core.Bool.{true, false}
use mathlib.Core.List.{List}
use Prim.Native.Nat.{ℕ, ◌/◌, ◌≤◌, ◌<◌}
use native.Mathlib.Omega.{arith}
use lib.Dec.{eqb}
use lib.ListN.{length}
use borrow.Author.Tests.{eqb-true, eqb-false}
use Rattle.model.specs.Trees.{Tree}
use Rattle.model.specs.Refusals.{Refusal, refusal, accepted, tree_refusal}
use Rattle.schedules.specs.Rows.{total}
use Rattle.schedules.specs.Refusals.{many_refusal}
use Rattle.schedules.proofs.Refusing.{tree_refused, total_refused, room_refused, accepts}

module _ (t : Tree) (ns : List ℕ) (n room : ℕ) where
  pub tree_answered : (q : Refusal) → q ≡ tree_refusal t → ((tree_refusal t).number ≡ 0 → ⊥) → q ≡ many_refusal t ns n room
  tree_answered q e h = e ∙ sym (tree_refused t ns n room h)

  module _ (z : (tree_refusal t).number ≡ 0) where
    pub total_answered : false ≡ eqb (total ns) n → refusal 22 0 ≡ many_refusal t ns n room
    total_answered h = sym (total_refused t ns n room z (eqb-false (total ns) n (sym h)))

    module _ (h : true ≡ eqb (total ns) n) where
      pub room_answered : room / 8 < length ns → refusal 23 0 ≡ many_refusal t ns n room
      room_answered l = sym (room_refused t ns n room z (eqb-true (total ns) n (sym h)) (omega arith))

      pub acceptance_answered : length ns ≤ room / 8 → accepted ≡ many_refusal t ns n room
      acceptance_answered l = sym (accepts t ns n room z (eqb-true (total ns) n (sym h)) (omega arith))
