-- The wait of an attempt is the number of entries between its beginning and its end; the number of an attempt under way counts those since its beginning.
use mathlib.Core.Path.{◌≡◌, refl, ap, ◌∙◌}
use mathlib.Core.Bool.{true, false, cond}
use mathlib.Core.List.{List, [], ◌∷◌, ◌++◌}
use mathlib.Core.Logic.{◌≢◌}
use Prim.Native.Nat.{ℕ, zero, suc, ◌+◌}
use native.Mathlib.Omega.{arith}
use lib.Dec.{eqb}
use Rattle.model.specs.Trees.{Tree}
use Rattle.model.specs.Steps.{is_entry, Step}
use Rattle.model.specs.Runs.{how_many}
use Rattle.model.proofs.Tests.{and_both}
use Rattle.waits.specs.Attempts.{begins_from, begins, enters, begun, counted, under_way_after, finished, finished_by, waits_from, under_way_from}
use Rattle.waits.specs.Meanings.{Between, WaitLaw, UnderWayLaw}
use Rattle.waits.proofs.Joining.{under_way_join}

module _ (t : Tree) (i : ℕ) (after : List Step) (y : Step) (by : begins t i y ≡ false) (ey : enters i y ≡ true) where
  -- an attempt is under way with some entries counted
  counts : (n : ℕ) (xs : List Step) → Between t i xs → waits_from t i (suc n) (xs ++ (y ∷ after)) ≡ (n + how_many is_entry xs) ∷ waits_from t i 0 after
  unfolding waits_from finished_by under_way_after begun counted finished Between how_many
  counts n [] B = rw (ey, by) (ap (λ (v : ℕ). v ∷ waits_from t i 0 after) (omega arith))
  counts n (x ∷ xs) B =
      let m = n + cond (is_entry x.kind) 1 0 in
      let e : suc n + cond (is_entry x.kind) 1 0 ≡ suc m = omega arith in
      rw (B.0, B.1.0, e) (counts m xs B.1.1 ∙ ap (λ (v : ℕ). v ∷ waits_from t i 0 after) (omega arith))

  none : (xs : List Step) → Between t i xs → waits_from t i 0 (xs ++ (y ∷ after)) ≡ waits_from t i 0 after
  unfolding waits_from finished_by under_way_after begun counted finished Between
  none [] B = rw (ey, by)
  none (x ∷ xs) B = rw (B.0, B.1.0) (none xs B.1.1)

-- a step that begins an attempt and does not enter is no thread's entry
no_entry : (t : Tree) (i : ℕ) (x : Step) → begins t i x ≡ true → enters i x ≡ false → is_entry x.kind ≡ false
unfolding begins enters
no_entry t i x b e = let mine = (and_both (eqb x.thread i) (begins_from t i x.place) b).0 in rw mine at e

pub wait_law : WaitLaw
unfolding WaitLaw waits_from finished_by under_way_after begun counted finished how_many
wait_law t i after =
    record {
      attempt = λ a x y between bx ex B by ey.
          (let z : 0 + how_many is_entry between ≡ how_many is_entry between = omega arith in
          rw (ex, bx, no_entry t i x bx ex) (counts t i after y by ey 0 between B ∙ ap (λ (v : ℕ). v ∷ waits_from t i 0 after) z));
      at_once = λ a x bx ex. rw (ex, bx);
      no_attempt = λ y between B by ey. none t i after y by ey between B;
    }

-- THE ATTEMPT UNDER WAY: over steps in which the thread neither begins nor enters
module _ (t : Tree) (i : ℕ) where
  goes_on : (n : ℕ) (xs : List Step) → Between t i xs → under_way_from t i (suc n) xs ≡ suc n + how_many is_entry xs
  unfolding under_way_from under_way_after begun counted Between how_many
  goes_on n [] B = omega arith
  goes_on n (x ∷ xs) B =
      let m = n + cond (is_entry x.kind) 1 0 in
      let e : suc n + cond (is_entry x.kind) 1 0 ≡ suc m = omega arith in
      rw (B.0, B.1.0, e) (goes_on m xs B.1.1 ∙ omega arith)

  stays_none : (xs : List Step) → Between t i xs → under_way_from t i 0 xs ≡ 0
  unfolding under_way_from under_way_after begun counted Between
  stays_none [] B = refl
  stays_none (x ∷ xs) B = rw (B.0, B.1.0) (stays_none xs B.1.1)

pub under_way_law : UnderWayLaw
unfolding UnderWayLaw under_way_from under_way_after begun counted
under_way_law t i since =
    record {
      begun = λ a before x bx ex B.
          (under_way_join t i a before (x ∷ since)
          ∙ rw (ex, bx, no_entry t i x bx ex) (goes_on t i 0 since B ∙ (let z : 1 + how_many is_entry since ≡ how_many is_entry since + 1 = omega arith in z)));
      goes_on = λ a n B. by a n B;
      none = λ B. stays_none t i since B;
      entered = λ a before y ey B. under_way_join t i a before (y ∷ since) ∙ rw ey (stays_none t i since B);
    }
  where
    by : (a : ℕ) → a ≢ 0 → Between t i since → under_way_from t i a since ≡ a + how_many is_entry since
    by zero n B = absurd (n refl)
    by (suc a) n B = goes_on t i a since B
