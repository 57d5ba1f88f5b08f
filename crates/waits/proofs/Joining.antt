-- Steps followed by more steps: the waits of both, and the attempt under way.
use mathlib.Core.Path.{◌≡◌, refl, sym, ap, ◌∙◌}
use mathlib.Core.List.{List, [], ◌∷◌, ◌++◌, append_assoc}
use Prim.Native.Nat.{ℕ}
use Rattle.model.specs.Trees.{Tree}
use Rattle.model.specs.Steps.{Step}
use Rattle.waits.specs.Attempts.{under_way_after, finished_by, waits_from, under_way_from}
use Rattle.waits.specs.GoingOn.{AttemptsJoinLaw}

module _ (t : Tree) (i : ℕ) where
  pub under_way_join : (a : ℕ) (xs ys : List Step) → under_way_from t i a (xs ++ ys) ≡ under_way_from t i (under_way_from t i a xs) ys
  unfolding under_way_from
  under_way_join a [] ys = refl
  under_way_join a (x ∷ xs) ys = under_way_join (under_way_after t i x a) xs ys

  pub waits_join : (a : ℕ) (xs ys : List Step) → waits_from t i a (xs ++ ys) ≡ waits_from t i a xs ++ waits_from t i (under_way_from t i a xs) ys
  unfolding waits_from under_way_from
  waits_join a [] ys = refl
  waits_join a (x ∷ xs) ys =
      ap (λ (r : List ℕ). finished_by t i x a ++ r) (waits_join (under_way_after t i x a) xs ys)
      ∙ sym (append_assoc (finished_by t i x a) (waits_from t i (under_way_after t i x a) xs) (waits_from t i (under_way_from t i (under_way_after t i x a) xs) ys))

pub attempts_join_law : AttemptsJoinLaw
unfolding AttemptsJoinLaw
attempts_join_law t i a xs ys = record { waits = waits_join t i a xs ys; under_way = under_way_join t i a xs ys }
