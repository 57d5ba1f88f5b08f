-- The sum of the passes of distinct members of a domain: at most that of all except one.
use mathlib.Core.Path.{◌≡◌, refl, sym}
use mathlib.Core.Bool.{true, ◌&&◌, not, cond}
use mathlib.Core.List.{List, [], ◌∷◌}
use mathlib.Core.Logic.{◌≢◌}
use Prim.Native.Nat.{ℕ, ◌+◌, ◌*◌, ◌≤◌, ◌<◌}
use native.Mathlib.Omega.{arith}
use lib.Dec.{eqb}
use borrow.Author.Tests.{ne_eqb}
use Rattle.model.specs.Trees.{Tree, is_member}
use Rattle.model.proofs.Lists.{less_or, is, is_same, count, count_cons}
use Rattle.bounds.specs.StarvationFreedom.Bounds.{sum_below, passes, others_passes}
use Rattle.claims.proofs.Sums.{sum_grows, sum_zero, sum_adds, sum_one}

-- the sum of a value over a list
unfoldable pub weight : (ℕ → ℕ) → List ℕ → ℕ
weight f [] = 0
weight f (x ∷ xs) = f x + weight f xs

-- a list's weight is the sum of its counts times the values
weight_counted : (n : ℕ) (f : ℕ → ℕ) (xs : List ℕ) → ((a : ℕ) → 1 ≤ count a xs → a < n) → weight f xs ≡ sum_below n (λ a. count a xs * f a)
unfolding weight count
weight_counted n f [] h = sym (sum_zero n (λ a. 0 * f a) (λ a b. omega arith))
weight_counted n f (x ∷ xs) h =
    let here = sum_one n f x (h x (omega (arith, count_cons x x xs, is_same x x refl))) in
    let more = weight_counted n f xs (λ a b. h a (omega (arith, count_cons a x xs))) in
    let both = sum_adds n (λ a. is a x * f a) (λ a. count a xs * f a) in
    let split : (a : ℕ) → is a x * f a + count a xs * f a ≡ count a (x ∷ xs) * f a = λ a. let z = count_cons a x xs in rw z (omega arith) in
    let low = sum_grows n (λ a. is a x * f a + count a xs * f a) (λ a. count a (x ∷ xs) * f a) (λ a b. omega (arith, split a)) in
    let high = sum_grows n (λ a. count a (x ∷ xs) * f a) (λ a. is a x * f a + count a xs * f a) (λ a b. omega (arith, split a)) in
    omega arith

-- members of a domain, none twice, and without one of them
pub weight_others :
    (t : Tree) (d m : ℕ) (xs : List ℕ) → ((a : ℕ) → 1 ≤ count a xs → (a < 320) × (is_member t d a ≡ true) × (a ≢ m)) → ((a : ℕ) → count a xs ≤ 1) →
    weight (passes t) xs ≤ others_passes t d m
unfolding others_passes
weight_others t d m xs h once =
    let counted = weight_counted 320 (passes t) xs (λ a b. (h a b).0) in
    let grows = sum_grows 320 (λ a. count a xs * passes t a) (λ q. cond (is_member t d q && not (eqb q m)) (passes t q) 0) (λ a b. each a) in
    omega arith
  where
    each : (a : ℕ) → count a xs * passes t a ≤ cond (is_member t d a && not (eqb a m)) (passes t a) 0
    each a =
        less_or 0 (count a xs) _
        (λ b.
        let x = h a b in
        let c : count a xs ≡ 1 = omega (arith, once a) in
        rw (x.1, ne_eqb a m x.2, c) (omega arith))
        (λ b. let c : count a xs ≡ 0 = omega arith in rw c (omega arith))
