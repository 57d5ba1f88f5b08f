-- Sums over all numbers below a bound.
use mathlib.Core.Path.{◌≡◌, refl, sym, ◌∙◌}
use mathlib.Core.Bool.{Bool, true, false, ◌&&◌, not, cond}
use mathlib.Core.List.{[], ◌∷◌, ◌++◌}
use mathlib.Core.Logic.{◌≢◌}
use Prim.Native.Nat.{ℕ, zero, suc, ◌+◌, ◌*◌, ◌≤◌, ◌<◌}
use native.Mathlib.Omega.{arith}
use lib.Dec.{eqb}
use lib.ListN.{length, length-append}
use borrow.Author.Tests.{eq-eqb, ne_eqb}
use Rattle.model.specs.Scans.{filter_below}
use Rattle.model.proofs.Tests.{and_true}
use Rattle.model.proofs.Lists.{same_or, is, is_same, is_other}
use Rattle.claims.specs.Tenures.Laws.{sum_below}

pub sum_same : (n : ℕ) (f g : ℕ → ℕ) → ((a : ℕ) → a < n → f a ≡ g a) → sum_below n f ≡ sum_below n g
unfolding sum_below
sum_same zero f g h = refl
sum_same (suc n) f g h = let r = sum_same n f g (λ a b. h a (omega arith)) in let x = h n (omega arith) in omega arith

pub sum_grows : (n : ℕ) (f g : ℕ → ℕ) → ((a : ℕ) → a < n → f a ≤ g a) → sum_below n f ≤ sum_below n g
unfolding sum_below
sum_grows zero f g h = omega arith
sum_grows (suc n) f g h = let r = sum_grows n f g (λ a b. h a (omega arith)) in let x = h n (omega arith) in omega arith

pub sum_zero : (n : ℕ) (f : ℕ → ℕ) → ((a : ℕ) → a < n → f a ≡ 0) → sum_below n f ≡ 0
unfolding sum_below
sum_zero zero f h = refl
sum_zero (suc n) f h = let r = sum_zero n f (λ a b. h a (omega arith)) in let x = h n (omega arith) in omega arith

pub sum_each : (n : ℕ) (f : ℕ → ℕ) → ((a : ℕ) → a < n → f a ≡ 1) → sum_below n f ≡ n
unfolding sum_below
sum_each zero f h = refl
sum_each (suc n) f h = let r = sum_each n f (λ a b. h a (omega arith)) in let x = h n (omega arith) in omega arith

pub sum_adds : (n : ℕ) (f g : ℕ → ℕ) → sum_below n (λ a. f a + g a) ≡ sum_below n f + sum_below n g
unfolding sum_below
sum_adds zero f g = refl
sum_adds (suc n) f g = let r = sum_adds n f g in omega arith

-- all values but one are 0
pub sum_single : (n : ℕ) (f : ℕ → ℕ) (k : ℕ) → k < n → ((a : ℕ) → a < n → a ≢ k → f a ≡ 0) → sum_below n f ≡ f k
unfolding sum_below
sum_single zero f k h z = absurd (omega arith)
sum_single (suc n) f k h z =
    same_or k n _
    (λ e. let a = sum_zero n f (λ a b. z a (omega arith) (λ q. omega arith)) in rw (a, e) (omega arith))
    (λ e.
    let a = sum_single n f k (omega arith) (λ a b q. z a (omega arith) q) in
    let b = z n (omega arith) (λ q. e (sym q)) in
    omega arith)

pub sum_one : (n : ℕ) (f : ℕ → ℕ) (x : ℕ) → x < n → sum_below n (λ a. is a x * f a) ≡ f x
sum_one n f x h = sum_single n (λ a. is a x * f a) x h (λ a b q. rw (is_other a x q) (omega arith)) ∙ rw (is_same x x refl) (omega arith)

-- sums in either order
pub sum_swaps : (n m : ℕ) (f : ℕ → ℕ → ℕ) → sum_below n (λ a. sum_below m (λ b. f a b)) ≡ sum_below m (λ b. sum_below n (λ a. f a b))
unfolding sum_below
sum_swaps zero m f = sym (sum_zero m (λ b. 0) (λ b h. refl))
sum_swaps (suc n) m f =
    let r = sum_swaps n m f in
    let x = sum_adds m (λ b. sum_below n (λ a. f a b)) (λ b. f n b) in
    omega arith

-- the sum over two consecutive ranges
pub sum_stretches : (n m : ℕ) (f : ℕ → ℕ) → sum_below (n + m) f ≡ sum_below n f + sum_below m (λ a. f (n + a))
unfolding sum_below
sum_stretches n zero f = let z : n + 0 ≡ n = omega arith in rw z (omega arith)
sum_stretches n (suc m) f = let z : n + suc m ≡ suc (n + m) = omega arith in rw z (let r = sum_stretches n m f in omega arith)

-- the same value for every number that passes a test
pub sum_of_value : (n : ℕ) (f : ℕ → Bool) (v : ℕ) → sum_below n (λ a. cond (f a) v 0) ≡ length (filter_below n f) * v
unfolding sum_below filter_below
sum_of_value zero f v = omega arith
sum_of_value (suc n) f v = by (f n) refl (sum_of_value n f v)
  where
    by : (b : Bool) → f n ≡ b → sum_below n (λ a. cond (f a) v 0) ≡ length (filter_below n f) * v →
        sum_below n (λ a. cond (f a) v 0) + cond (f n) v 0 ≡ length (filter_below n f ++ cond (f n) (n ∷ []) []) * v
    by true e r = rw e (let l = length-append (filter_below n f) (n ∷ []) in rw l (omega arith))
    by false e r = rw e (let l = length-append (filter_below n f) [] in rw l (omega arith))

-- without one number
others_none : (n : ℕ) (f : ℕ → Bool) (m v : ℕ) → n ≤ m → sum_below n (λ a. cond (f a && not (eqb a m)) v 0) ≡ sum_below n (λ a. cond (f a) v 0)
others_none n f m v h =
    sum_same n _ _ (λ a b. let z = ne_eqb a m (λ e. omega arith) in rw (z, and_true (f a)) refl)

pub sum_but_one : (n : ℕ) (f : ℕ → Bool) (m v : ℕ) → m < n → f m ≡ true → sum_below n (λ a. cond (f a && not (eqb a m)) v 0) + v ≡ sum_below n (λ a. cond (f a) v 0)
unfolding sum_below
sum_but_one zero f m v h e = absurd (omega arith)
sum_but_one (suc n) f m v h e =
    same_or m n _
    (λ z.
    let e' : f n ≡ true = rw z at e in
    let here = eq-eqb n m (sym z) in
    rw (here, e') (let r = others_none n f m v (omega arith) in omega arith))
    (λ z.
    let apart = ne_eqb n m (λ y. z (sym y)) in
    rw (apart, and_true (f n)) (let r = sum_but_one n f m v (omega arith) e in omega arith))
