-- A place that rests needs no further test.
use mathlib.Core.Path.{◌≡◌, refl, ◌∙◌}
use mathlib.Core.Bool.{Bool, true, false, ◌&&◌, ◌||◌}
use mathlib.Core.List.{List}
use Prim.Native.Nat.{ℕ}
use lib.Dec.{eqb}
use borrow.Author.Tests.{eqb-true}
use Rattle.model.specs.declared.PlaceWords.{PlaceWords}
use Rattle.model.specs.Trees.{Tree}
use Rattle.model.proofs.Tests.{and_both}
use Rattle.refusals.specs.OfRuns.Tables.{barred_in, place_in, rests_in, Rest, of_wait, of_idle}
use Rattle.refusals.proofs.Meeting.{meets_here}

module _ (t : Tree) (os vs : List ℕ) (i h : ℕ) (q : PlaceWords) (none : q.word ≡ 0) (nobody : q.peer ≡ 0) where
  idle_good : q.row ≡ 0 → q.domain ≡ 0 → place_in t os vs i h q ≡ true
  unfolding place_in
  idle_good r d = rw (r, d, nobody, none)

  wait_good : barred_in t 4 h ≡ false → q.row ≡ 4 → q.domain ≡ h → place_in t os vs i h q ≡ true
  unfolding place_in
  wait_good b r d = rw (r, d, nobody, none, b, meets_here 6 t h h refl)

  -- a place that rests: Idle, or Wait at home
  rest_good : (r : ℕ) → Rest t h r → q.row ≡ r → q.domain ≡ h → place_in t os vs i h q ≡ true
  rest_good _ (of_wait b) e f = wait_good b e f
  rest_good _ (of_idle z) e f = idle_good e (f ∙ z)

  row_good : (r : ℕ) → Rest t h r → (b : Bool) → eqb q.row 0 && eqb q.domain 0 ≡ b → b || (eqb q.row r && eqb q.domain h) ≡ true → place_in t os vs i h q ≡ true
  row_good r x true e f = let a = and_both _ _ e in idle_good (eqb-true q.row 0 a.0) (eqb-true q.domain 0 a.1)
  row_good r x false e f = let a = and_both _ _ f in rest_good r x (eqb-true q.row r a.0) (eqb-true q.domain h a.1)

pub rests_good : (t : Tree) (os vs : List ℕ) (i h : ℕ) (q : PlaceWords) (r : ℕ) → Rest t h r → rests_in r h q ≡ true → place_in t os vs i h q ≡ true
rests_good t os vs i h q r x e =
    let a = and_both _ _ e in
    let b = and_both _ _ a.1 in
    row_good t os vs i h q (eqb-true q.word 0 a.0) (eqb-true q.peer 0 b.0) r x (eqb q.row 0 && eqb q.domain 0) refl b.1
