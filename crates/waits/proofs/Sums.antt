-- Sums and maxima of joined lists of numbers.
use mathlib.Core.Path.{◌≡◌, ap, ◌∙◌}
use mathlib.Core.List.{List, [], ◌∷◌, ◌++◌}
use Prim.Native.Nat.{ℕ, ◌+◌, max}
use native.Mathlib.Omega.{arith}
use Rattle.schedules.specs.Rows.{total}
use Rattle.waits.specs.Rows.{largest}

pub total_join : (xs ys : List ℕ) → total (xs ++ ys) ≡ total xs + total ys
unfolding total
total_join [] ys = omega arith
total_join (x ∷ xs) ys = let e = total_join xs ys in omega arith

max_assoc : (a b c : ℕ) → max a (max b c) ≡ max (max a b) c
max_assoc a b c = omega arith

pub largest_join : (xs ys : List ℕ) → largest (xs ++ ys) ≡ max (largest xs) (largest ys)
unfolding largest
largest_join [] ys = omega arith
largest_join (x ∷ xs) ys = ap (max x) (largest_join xs ys) ∙ max_assoc x (largest xs) (largest ys)
