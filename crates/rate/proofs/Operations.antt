-- Finite floats that are not negative, as fractions num / den: the result of each operation, and the bounds that rounding keeps.
use mathlib.Core.Path.{◌≡◌, refl, sym, ap, ◌∙◌, subst}
use mathlib.Core.Bool.{Bool, true, false, ◌&&◌, ◌||◌, cond, true≢false}
use Prim.Native.Nat.{ℕ, zero, suc, ◌+◌, ◌-◌, ◌*◌, ◌/◌, ◌%◌, ◌^◌, ◌≤◌, ◌<◌, compare}
use native.Mathlib.Nat.{le_trans, le_of_lt, le_of_eq, lt_irrefl, lt_of_lt_of_le, add-mul, add-le-add, le-add_right, one-mul, mul-one, mul_comm, mul_assoc, mul_left_comm, mul_right_comm, mul-pos, mul-le-mul_right, le_of_mul-le-mul_right, zero-lt-suc, zero-mul}
use native.Mathlib.Omega.{arith}
use lib.Dec.{T, ltb, eqb, ltb→lt, lt→ltb, eqb→eq, lit<}
use lib.Ieee.{Float, nan, inf, fin, binary64, up, down, prec, emax, low, size, nearest, odd, units, round, sum, add, mul, div, le, of_int}
use lib.Ieee.Fits.{core, round_is, down_pos}
use lib.Ieee.Exact.{HasValue, odd_sign}
use lib.Ieee.Back.{round_whole}
use lib.Ieee.Order.{round_mono}
use lib.Ieee.Positive.{positive, num, den, den_pos, own_value, value→cross, value_pos}
use lib.Ieee.Scale.{round_same}
use borrow.Author.Tests.{ne_eqb}
use Rattle.rate.specs.Rate.{shortest_time, as_float}

-- finite and not negative
abbrev pub Natural : Float → Type 0
Natural nan = ⊥
Natural (inf s) = ⊥
Natural (fin s m e) = s ≡ false

pub natural_of_positive : (x : Float) → T (positive x) → Natural x
natural_of_positive nan p = absurd p
natural_of_positive (inf s) p = absurd p
natural_of_positive (fin true m e) p = absurd p
natural_of_positive (fin false m e) p = refl

pub natural_of_value : (x : Float) (a c : ℕ) → HasValue x false a c → Natural x
natural_of_value nan a c h = absurd h
natural_of_value (inf s) a c h = absurd h
natural_of_value (fin s m e) a c h = h.0

-- THE OPERATIONS, each its exact result rounded once
pub mul_is : (x y : Float) → Natural x → Natural y → mul binary64 x y ≡ round binary64 false (num x * num y) (den x * den y)
unfolding mul
mul_is nan y p q = absurd p
mul_is (inf s) y p q = absurd p
mul_is (fin s m e) nan p q = absurd q
mul_is (fin s m e) (inf t) p q = absurd q
mul_is (fin s m e) (fin t n d) p q = rw (p, q)

pub add_is :
    (x y : Float) → Natural x → Natural y → add binary64 x y ≡ round binary64 false (num x * den y + num y * den x) (den x * den y)
unfolding add sum
add_is nan y p q = absurd p
add_is (inf s) y p q = absurd p
add_is (fin s m e) nan p q = absurd q
add_is (fin s m e) (inf t) p q = absurd q
add_is (fin s m e) (fin t n d) p q = rw (p, q)

pub div_is : (x y : Float) → Natural x → T (positive y) → div binary64 x y ≡ round binary64 false (num x * den y) (num y * den x)
unfolding div
div_is nan y p q = absurd p
div_is (inf s) y p q = absurd p
div_is (fin s m e) nan p q = absurd q
div_is (fin s m e) (inf t) p q = absurd q
div_is (fin s m e) (fin true n d) p q = absurd q
div_is (fin s m e) (fin false n d) p q = rw (p, ne_eqb n 0 (not_zero n (ltb→lt 0 n q)))
  where
    not_zero : (k : ℕ) → 0 < k → k ≡ 0 → ⊥
    not_zero k h z = omega arith

-- ROUNDING keeps the sign
abbrev SignClear : Float → Type 0
SignClear nan = ⊥
SignClear (inf s) = s ≡ false
SignClear (fin s m e) = s ≡ false

clear_of_value : (x : Float) (a c : ℕ) → HasValue x false a c → SignClear x
clear_of_value nan a c h = absurd h
clear_of_value (inf s) a c h = absurd h
clear_of_value (fin s m e) a c h = h.0

clear_either : (b : Bool) (x y : Float) → SignClear x → SignClear y → SignClear (cond b x y)
clear_either true x y p q = p
clear_either false x y p q = q

units_clear : (q k : ℕ) → SignClear (units binary64 false q k)
unfolding units
units_clear q k =
    clear_either (ltb (q * 2 ^ k) (2 ^ (low binary64 + suc (emax binary64)))) _ _
    (clear_of_value (odd (suc (prec binary64)) false q k (low binary64)) (q * 2 ^ k) (2 ^ low binary64) (odd_sign (suc (prec binary64)) false q k (low binary64))) refl

core_clear : (n c k : ℕ) → SignClear (core binary64 false n c k)
core_clear n c k = units_clear (nearest (n / (c * 2 ^ k)) (compare (n % (c * 2 ^ k) * 2) (c * 2 ^ k))) k

round_clear : (a c : ℕ) → SignClear (round binary64 false a c)
round_clear a c = subst SignClear (sym (round_is binary64 false a c)) (core_clear (a * 2 ^ low binary64) c (size (a * 2 ^ low binary64 / c) - prec binary64))

-- a value that is at most a finite one is finite
natural_under : (x y : Float) (k : ℕ) → SignClear x → HasValue y false k 1 → T (le x y) → Natural x
unfolding le
natural_under nan y k p h t = absurd p
natural_under (inf true) y k p h t = absurd (true≢false p)
natural_under (inf false) nan k p h t = absurd h
natural_under (inf false) (inf s) k p h t = absurd h
natural_under (inf false) (fin s n d) k p h t = absurd t
natural_under (fin s m e) y k p h t = p

-- the order of floats as the order of fractions
lt_or_eq : (a b : ℕ) (x y : Bool) → ltb a b ≡ x → eqb a b ≡ y → T (x || (y && true)) → a ≤ b
lt_or_eq a b true y p q t = le_of_lt (ltb→lt a b (subst T (sym p) tt))
lt_or_eq a b false true p q t = le_of_eq (eqb→eq a b (subst T (sym q) tt))
lt_or_eq a b false false p q t = absurd t

crossed : (x y : Float) → Natural x → Natural y → T (le x y) → num x * den y ≤ num y * den x
unfolding le
crossed nan y p q t = absurd p
crossed (inf s) y p q t = absurd p
crossed (fin true m e) y p q t = absurd (true≢false p)
crossed (fin false m e) nan p q t = absurd q
crossed (fin false m e) (inf s) p q t = absurd q
crossed (fin false m e) (fin true n d) p q t = absurd (true≢false q)
crossed (fin false m e) (fin false n d) p q t = lt_or_eq (m * up e * down d) (n * up d * down e) _ _ refl refl t

-- ROUNDING keeps the order, so it keeps a whole number as an upper bound
pub record AtMost (k : ℕ) (x : Float) : Type 0 where
  pub natural : Natural x
  pub most : num x ≤ k * den x

pub round_at_most : (a c k : ℕ) → 0 < c → k ≤ 2 ^ 53 → a ≤ k * c → AtMost k (round binary64 false a c)
round_at_most a c k C K h =
    let x = round binary64 false a c in
    let y = round binary64 false k 1 in
    let v = round_whole binary64 false k K in
    let l = round_mono binary64 a c k 1 C (lit< tt) (subst (λ (z : ℕ). z ≤ k * c) (sym (mul-one a)) h) in
    let n = natural_under x y k (round_clear a c) v l in
    let u : num y ≡ k * den y = sym (mul-one (num y)) ∙ value→cross y k 1 v in
    let w : num x * den y ≤ k * den y * den x = subst (λ (z : ℕ). num x * den y ≤ z * den x) u (crossed x y n (natural_of_value y k 1 v) l) in
    record { natural = n; most = le_of_mul-le-mul_right (subst (λ (z : ℕ). num x * den y ≤ z) (mul_right_comm k (den y) (den x)) w) (den_pos y) }

-- and 1/1024 as a lower bound
abbrev pub FromLeast : Float → Type 0
FromLeast x = den x ≤ num x * 1024

least_is : round binary64 false 1 1024 ≡ shortest_time
unfolding round
least_is = refl

pub round_from_least : (a c : ℕ) → 0 < c → Natural (round binary64 false a c) → c ≤ a * 1024 → FromLeast (round binary64 false a c)
round_from_least a c C n h =
    let x = round binary64 false a c in
    let l = round_mono binary64 1 1024 a c (lit< tt) C (subst (λ (z : ℕ). z ≤ a * 1024) (sym (one-mul c)) h) in
    let w = crossed shortest_time x refl n (subst (λ (z : Float). T (le z x)) least_is l) in
    omega (arith, w)

pub positive_from_least : (x : Float) → Natural x → FromLeast x → T (positive x)
positive_from_least nan n h = absurd n
positive_from_least (inf s) n h = absurd n
positive_from_least (fin true m e) n h = absurd (true≢false n)
positive_from_least (fin false zero e) n h = absurd (lt_irrefl 0 (lt_of_lt_of_le (down_pos e) (subst (λ (z : ℕ). down e ≤ z * 1024) (zero-mul (up e)) h)))
positive_from_least (fin false (suc m) e) n h = lt→ltb 0 (suc m) (zero-lt-suc m)

-- SUMS
sum_bound : (j k M N E F : ℕ) → M ≤ j * E → N ≤ k * F → M * F + N * E ≤ (j + k) * (E * F)
sum_bound j k M N E F p q =
    subst (λ (z : ℕ). M * F + N * E ≤ z) (simp (add-mul, mul_assoc, mul_comm)) (add-le-add (mul-le-mul_right F p) (mul-le-mul_right E q))

sum_least : (M N E F : ℕ) → E ≤ M * 1024 → E * F ≤ (M * F + N * E) * 1024
sum_least M N E F g =
    le_trans (mul-le-mul_right F g)
    (subst (λ (z : ℕ). z ≤ (M * F + N * E) * 1024) (mul_right_comm M F 1024) (mul-le-mul_right 1024 (le-add_right (M * F) (N * E))))

pub add_at_most : (j k : ℕ) (x y : Float) → j + k ≤ 2 ^ 53 → AtMost j x → AtMost k y → AtMost (j + k) (add binary64 x y)
add_at_most j k x y K p q =
    subst (AtMost (j + k)) (sym (add_is x y p.natural q.natural))
    (round_at_most (num x * den y + num y * den x) (den x * den y) (j + k) (mul-pos (den_pos x) (den_pos y)) K (sum_bound j k (num x) (num y) (den x) (den y) p.most q.most))

pub add_from_least : (j k : ℕ) (x y : Float) → j + k ≤ 2 ^ 53 → AtMost j x → FromLeast x → AtMost k y → FromLeast (add binary64 x y)
add_from_least j k x y K p g q =
    let e = add_is x y p.natural q.natural in
    let n = subst Natural e (add_at_most j k x y K p q).natural in
    subst FromLeast (sym e)
    (round_from_least (num x * den y + num y * den x) (den x * den y) (mul-pos (den_pos x) (den_pos y)) n (sum_least (num x) (num y) (den x) (den y) g))

-- WHOLE NUMBERS as floats are exact up to 2 ^ 53
pub exact : (n : ℕ) → n ≤ 2 ^ 53 → HasValue (as_float n) false n 1
unfolding of_int
exact n h = round_whole binary64 false n h

whole_natural : (n : ℕ) → n ≤ 2 ^ 53 → Natural (as_float n)
whole_natural n h = natural_of_value (as_float n) n 1 (exact n h)

whole_num : (n : ℕ) → n ≤ 2 ^ 53 → num (as_float n) ≡ n * den (as_float n)
whole_num n h = sym (mul-one (num (as_float n))) ∙ value→cross (as_float n) n 1 (exact n h)

-- so a product or quotient with one is the product or quotient with the whole number, rounded once
pub mul_whole : (n : ℕ) (y : Float) → n ≤ 2 ^ 53 → Natural y → mul binary64 (as_float n) y ≡ round binary64 false (n * num y) (den y)
mul_whole n y h q =
    let x = as_float n in
    mul_is x y (whole_natural n h) q
    ∙ round_same binary64 false (num x * num y) (den x * den y) (n * num y) (den y) (mul-pos (den_pos x) (den_pos y)) (den_pos y)
    (ap (λ (z : ℕ). z * num y * den y) (whole_num n h) ∙ simp (mul_assoc, mul_comm, mul_left_comm))

pub num_above_zero : (x : Float) → T (positive x) → 0 < num x
num_above_zero x p = value_pos x (num x) (den x) p (den_pos x) (own_value x p)

pub div_whole : (n : ℕ) (y : Float) → n ≤ 2 ^ 53 → T (positive y) → div binary64 (as_float n) y ≡ round binary64 false (n * den y) (num y)
div_whole n y h q =
    let x = as_float n in
    let z = num_above_zero y q in
    div_is x y (whole_natural n h) q
    ∙ round_same binary64 false (num x * den y) (num y * den x) (n * den y) (num y) (mul-pos z (den_pos x)) z
    (ap (λ (z : ℕ). z * den y * num y) (whole_num n h) ∙ simp (mul_assoc, mul_comm))
