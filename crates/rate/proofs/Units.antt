-- With both thresholds 1 the products are 0, adding 0 does not change a value of the format, and the rate is 1 over p3.
use mathlib.Core.Path.{◌≡◌, refl, sym, ap, ◌∙◌, subst}
use mathlib.Core.Bool.{Bool, true, false, not, ◌&&◌}
use Prim.Native.Nat.{ℕ, zero, suc, ◌+◌, ◌-◌, ◌*◌, ◌^◌, ◌≤◌, ◌<◌, ◌%◌}
use native.Mathlib.Nat.{lt_of_lt_of_le, lt_irrefl, zero-lt-suc, mul-one, one-mul, mul_comm, mul_assoc, mul-pos, mul-lt-mul_of_pos_right}
use native.Mathlib.Omega.{arith}
use lib.Dec.{T, eqb, ltb, leb, ltb→lt, leb→le, nleb→lt, lit<, lit≤}
use lib.Pow.{pow-add, pow-lt, pow_pos, pow_mono}
use lib.IntN.{ℤ, pos, negsuc}
use lib.Ieee.{Float, nan, inf, fin, binary64, up, down, round, add, mul, div, fits, of_int}
use lib.Ieee.Fits.{and_l, and_r}
use lib.Ieee.Digits.{back}
use lib.Ieee.Exact.{HasValue, round_exact}
use lib.Ieee.Scale.{round_same}
use lib.Ieee.Positive.{positive, num, den, den_pos, value→cross, positive_of_value}
use Rattle.rate.specs.declared.PassingTimes.{PassingTimes}
use Rattle.rate.specs.Rate.{as_float, p2_product, p1_product, outer_time, cycle_time, passing_rate}
use Rattle.rate.specs.Laws.{Accepted, UnitLaw}
use Rattle.rate.proofs.Operations.{Natural, natural_of_positive, natural_of_value, add_is, mul_whole, div_whole, num_above_zero}

-- rounding keeps a value that the format holds
small_power : (k l : ℕ) → 2 ^ k ≤ 2 ^ l → k ≤ l
small_power k l h = by (leb k l) refl
  where
    by : (b : Bool) → leb k l ≡ b → k ≤ l
    by true e = leb→le k l (subst T (sym e) tt)
    by false e = absurd (lt_irrefl (2 ^ l) (lt_of_lt_of_le (pow-lt (nleb→lt k l (subst (λ (b : Bool). T (not b)) (sym e) tt))) h))

-- m * 2 ^ k below 2 ^ 1024
kept_large : (m k : ℕ) → m < 2 ^ 53 → m * 2 ^ k < 2 ^ 1024 * 1 → HasValue (round binary64 false (m * 2 ^ k) 1) false (m * 2 ^ k) 1
kept_large m k small under =
    let e : m * 2 ^ k * 2 ^ 1074 ≡ m * 2 ^ (k + 1074) = mul_assoc m (2 ^ k) (2 ^ 1074) ∙ ap (λ (z : ℕ). m * z) (sym (pow-add 2 k 1074)) in
    let w : m * 2 ^ k * 2 ^ 1074 < 2 ^ 1024 * 2 ^ 1074 = mul-lt-mul_of_pos_right (subst (λ (z : ℕ). m * 2 ^ k < z) (mul-one (2 ^ 1024)) under) (pow_pos 1074) in
    round_exact binary64 false (m * 2 ^ k) 1 m (k + 1074) (lit< tt) small
    (subst (λ (z : ℕ). z < 2 ^ 2098) e (subst (λ (z : ℕ). m * 2 ^ k * 2 ^ 1074 < z) (mul_comm (2 ^ 1024) (2 ^ 1074) ∙ sym (pow-add 2 1074 1024)) w))
    (e ∙ sym (mul-one (m * 2 ^ (k + 1074))))

-- m / 2 ^ k with k at most 1074
kept_small : (m k : ℕ) → m < 2 ^ 53 → k ≤ 1074 → HasValue (round binary64 false (m * 1) (2 ^ k)) false (m * 1) (2 ^ k)
kept_small m k small within =
    let j = 1074 - k in
    let room : 53 + (1074 - k) ≤ 2098 = omega arith in
    let e : 2 ^ 1074 ≡ 2 ^ j * 2 ^ k = ap (λ (z : ℕ). 2 ^ z) (sym (back 1074 k within)) ∙ pow-add 2 j k in
    round_exact binary64 false (m * 1) (2 ^ k) m j (pow_pos k) small
    (lt_of_lt_of_le (mul-lt-mul_of_pos_right small (pow_pos j)) (subst (λ (z : ℕ). z ≤ 2 ^ 2098) (pow-add 2 53 j) (pow_mono room)))
    (ap (λ (z : ℕ). z * 2 ^ 1074) (mul-one m) ∙ ap (λ (z : ℕ). m * z) e ∙ sym (mul_assoc m (2 ^ j) (2 ^ k)))

-- what follows if the format holds a value other than 0
held : (m : ℕ) (e : ℤ) → T (fits binary64 (fin false m e)) → 0 < m → (m < 2 ^ 53) × (down e ≤ 2 ^ 1074) × (m * up e < 2 ^ 1024 * down e)
unfolding fits
held zero e f h = absurd (lt_irrefl 0 h)
held (suc m) e f h =
    let odd = eqb (suc m % 2) 1 in
    let small = ltb (suc m) (2 ^ 53) in
    let fine = leb (down e) (2 ^ 1074) in
    let under = ltb (suc m * up e) (2 ^ 1024 * down e) in (
      ltb→lt (suc m) (2 ^ 53) (and_r odd small (and_l (odd && small) fine (and_l (odd && small && fine) under f))),
      leb→le (down e) (2 ^ 1074) (and_r (odd && small) fine (and_l (odd && small && fine) under f)),
      ltb→lt (suc m * up e) (2 ^ 1024 * down e) (and_r (odd && small && fine) under f),
    )

kept : (x : Float) → T (fits binary64 x) → T (positive x) → HasValue (round binary64 false (num x) (den x)) false (num x) (den x)
unfolding fits
kept nan f p = absurd p
kept (inf s) f p = absurd p
kept (fin true m e) f p = absurd p
kept (fin false zero e) f p = absurd p
kept (fin false (suc m) (pos k)) f p = let h = held (suc m) (pos k) f (zero-lt-suc m) in kept_large (suc m) k h.0 h.2
kept (fin false (suc m) (negsuc k)) f p = let h = held (suc m) (negsuc k) f (zero-lt-suc m) in kept_small (suc m) (suc k) h.0 (small_power (suc k) 1074 h.1)

-- adding 0 gives the value again
abbrev zero_float : Float
zero_float = fin false 0 (pos 0)

add_zero_is : (x : Float) → Natural x → add binary64 x zero_float ≡ round binary64 false (num x) (den x)
add_zero_is x n =
    add_is x zero_float n refl
    ∙ round_same binary64 false (num x * 1 + 0 * 1 * den x) (den x * 1) (num x) (den x) (mul-pos (den_pos x) (lit< tt)) (den_pos x) (omega arith)

-- a product with 0 is 0
zero_rounds : round binary64 false 0 1 ≡ zero_float
unfolding round
zero_rounds = refl

mul-zero : (y : Float) → Natural y → mul binary64 (as_float 0) y ≡ zero_float
mul-zero y n =
    mul_whole 0 y (lit≤ tt) n
    ∙ round_same binary64 false (0 * num y) (den y) 0 1 (den_pos y) (lit< tt) (omega arith)
    ∙ zero_rounds

one_is : as_float 1 ≡ fin false 1 (pos 0)
unfolding of_int
one_is = refl

-- the cycle takes p3, rounded, and this has the value of p3
cycle_is : (p : PassingTimes) → T (fits binary64 p.p3) → Accepted 1 1 p → cycle_time 1 1 p ≡ round binary64 false (num p.p3) (den p.p3)
unfolding p2_product p1_product outer_time cycle_time
cycle_is p f r =
    let x = p.p3 in
    let n2 = natural_of_positive p.p2 r.p2_in_range.finite_above_zero in
    let n1 = natural_of_positive p.p1 r.p1_in_range.finite_above_zero in
    let z = r.p3_in_range.finite_above_zero in
    let v = kept x f z in
    let y = round binary64 false (num x) (den x) in
    ap (λ (u : Float). add binary64 (add binary64 x u) (mul binary64 (as_float 0) p.p1)) (mul-zero p.p2 n2)
    ∙ ap (λ (u : Float). add binary64 (add binary64 x zero_float) u) (mul-zero p.p1 n1)
    ∙ ap (λ (u : Float). add binary64 u zero_float) (add_zero_is x (natural_of_positive x z))
    ∙ add_zero_is y (natural_of_value y (num x) (den x) v)
    ∙ round_same binary64 false (num y) (den y) (num x) (den x) (den_pos y) (den_pos x) (value→cross y (num x) (den x) v)

pub unit_law : UnitLaw
unfolding UnitLaw passing_rate
unit_law p f r =
    let x = p.p3 in
    let z = r.p3_in_range.finite_above_zero in
    let v = kept x f z in
    let y = round binary64 false (num x) (den x) in
    let w = positive_of_value y (num x) (den x) v (num_above_zero x z) in
    ap (div binary64 (as_float 1)) (cycle_is p f r)
    ∙ div_whole 1 y (lit≤ tt) w
    ∙ round_same binary64 false (1 * den y) (num y) (1 * den x) (num x) (num_above_zero y w) (num_above_zero x z) (same (num y) (den y) (num x) (den x) (value→cross y (num x) (den x) v))
    ∙ sym (div_whole 1 x (lit≤ tt) z)
    ∙ ap (λ (u : Float). div binary64 u x) one_is
  where
    same : (a b c d : ℕ) → a * d ≡ c * b → 1 * b * c ≡ 1 * d * a
    same a b c d e = ap (λ (z : ℕ). z * c) (one-mul b) ∙ mul_comm b c ∙ sym e ∙ mul_comm a d ∙ ap (λ (z : ℕ). z * a) (sym (one-mul d))
