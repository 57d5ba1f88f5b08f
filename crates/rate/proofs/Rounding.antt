-- Each operation of an accepted rate rounds once, and the rate is a finite number above zero.
use mathlib.Core.Path.{sym, ap, ◌∙◌, subst}
use mathlib.Core.Bool.{false}
use Prim.Native.Nat.{ℕ, ◌+◌, ◌-◌, ◌*◌, ◌^◌, ◌≤◌, ◌<◌}
use native.Mathlib.Nat.{le_trans, mul-one, one-mul, mul_comm, mul_assoc, mul-le-mul_left, mul-le-mul_right, mul-pos}
use native.Mathlib.Omega.{arith}
use lib.Dec.{T, lit<, lit≤}
use lib.Ieee.{Float, binary64, round, mul}
use lib.Ieee.Fits.{div-fits}
use lib.Ieee.Bits.{of_bits-to_bits}
use lib.Ieee.Back.{round_whole}
use lib.Ieee.Order.{round_mono}
use lib.Ieee.Positive.{positive, num, den, den_pos, between, positive_of_value}
use Rattle.rate.specs.declared.PassingTimes.{PassingTimes}
use Rattle.rate.specs.Rate.{entries, p2_passes, p1_passes, as_float, p2_product, p1_product, outer_time, cycle_time, passing_rate}
use Rattle.rate.specs.Laws.{InRange, Accepted, RoundingLaw, RateLaw}
use Rattle.rate.proofs.Bounds.{product_at_most, one_less}
use Rattle.rate.proofs.Operations.{natural_of_positive, AtMost, FromLeast, round_at_most, positive_from_least, add_is, add_at_most, add_from_least, exact, mul_whole, div_whole, num_above_zero}

-- a time is at most 1,048,576, and its product with a whole number at most 1,048,576 times the number
time_at_most : (x : Float) → InRange x → AtMost 1048576 x
time_at_most x r = record { natural = natural_of_positive x r.finite_above_zero; most = r.to_most }

product_bound : (n : ℕ) (y : Float) → n ≤ 4294836225 → InRange y → AtMost (n * 1048576) (mul binary64 (as_float n) y)
product_bound n y h r =
    subst (AtMost (n * 1048576)) (sym (mul_whole n y (omega arith) (time_at_most y r).natural))
    (round_at_most (n * num y) (den y) (n * 1048576) (den_pos y) (omega arith)
    (subst (λ (z : ℕ). n * num y ≤ z) (sym (mul_assoc n 1048576 (den y))) (mul-le-mul_left n r.to_most)))

-- a quotient of a whole number of at least 1 by a float from 1/1024 to 2 ^ 53 is between 2 ^ -53 and 1024 times the number
smallest_positive : T (positive (round binary64 false 1 (2 ^ 53)))
unfolding round
smallest_positive = tt

quotient_least : (n j N D : ℕ) → 0 < n → j ≤ 2 ^ 53 → N ≤ j * D → 1 * N ≤ n * D * 2 ^ 53
quotient_least n j N D n_above j_most h =
    let one : D ≤ n * D = subst (λ (z : ℕ). z ≤ n * D) (one-mul D) (mul-le-mul_right D n_above) in
    subst (λ (z : ℕ). z ≤ n * D * 2 ^ 53) (sym (one-mul N))
    (le_trans h (le_trans (mul-le-mul_right D j_most) (subst (λ (z : ℕ). z ≤ n * D * 2 ^ 53) (mul_comm D (2 ^ 53)) (mul-le-mul_right (2 ^ 53) one))))

quotient_most : (n N D : ℕ) → D ≤ N * 1024 → n * D * 1 ≤ n * 1024 * N
quotient_most n N D h =
    subst (λ (z : ℕ). z ≤ n * 1024 * N) (sym (mul-one (n * D)))
    (subst (λ (z : ℕ). n * D ≤ z) (ap (λ (z : ℕ). n * z) (mul_comm N 1024) ∙ sym (mul_assoc n 1024 N)) (mul-le-mul_left n h))

quotient_positive :
    (n j : ℕ) (y : Float) → 0 < n → n * 1024 ≤ 2 ^ 53 → j ≤ 2 ^ 53 → AtMost j y → FromLeast y →
    T (positive (round binary64 false (n * den y) (num y)))
quotient_positive n j y n_above n_most j_most p g =
    let z = num_above_zero y (positive_from_least y p.natural g) in
    between (round binary64 false 1 (2 ^ 53)) (round binary64 false (n * den y) (num y)) (round binary64 false (n * 1024) 1) smallest_positive
    (positive_of_value (round binary64 false (n * 1024) 1) (n * 1024) 1 (round_whole binary64 false (n * 1024) n_most) (omega arith))
    (round_mono binary64 1 (2 ^ 53) (n * den y) (num y) (lit< tt) z (quotient_least n j (num y) (den y) n_above j_most p.most))
    (round_mono binary64 (n * den y) (num y) (n * 1024) 1 z (lit< tt) (quotient_most n (num y) (den y) g))

-- BOUNDS of an accepted rate's parts, in order
pub record Bounded (h1 h2 : ℕ) (p : PassingTimes) : Type 0 where
  pub entries_most : entries h1 h2 ≤ 4294836225
  pub p2_most : p2_passes h2 ≤ 65534
  pub p1_most : p1_passes h1 h2 ≤ 4294836225
  pub p2_bound : AtMost (p2_passes h2 * 1048576) (p2_product h2 p)
  pub p1_bound : AtMost (p1_passes h1 h2 * 1048576) (p1_product h1 h2 p)
  pub outer_bound : AtMost (1048576 + p2_passes h2 * 1048576) (outer_time h2 p)
  pub cycle_bound : AtMost (1048576 + p2_passes h2 * 1048576 + p1_passes h1 h2 * 1048576) (cycle_time h1 h2 p)
  pub cycle_least : FromLeast (cycle_time h1 h2 p)

outer_fits : (b : ℕ) → b ≤ 65534 → 1048576 + b * 1048576 ≤ 2 ^ 53
outer_fits b h = omega arith

cycle_fits : (b a : ℕ) → b ≤ 65534 → a ≤ 4294836225 → 1048576 + b * 1048576 + a * 1048576 ≤ 2 ^ 53
cycle_fits b a h k = omega arith

bounded : (h1 h2 : ℕ) (p : PassingTimes) → h1 < 2 ^ 16 → h2 < 2 ^ 16 → Accepted h1 h2 p → Bounded h1 h2 p
unfolding p2_product p1_product outer_time cycle_time
bounded h1 h2 p f g r =
    let b : p2_passes h2 ≤ 65534 = omega arith in
    let a = product_at_most h2 (h1 - 1) g (one_less h1 f) in
    let x2 = product_bound (p2_passes h2) p.p2 (omega arith) r.p2_in_range in
    let x1 = product_bound (p1_passes h1 h2) p.p1 a r.p1_in_range in
    let x3 = time_at_most p.p3 r.p3_in_range in
    let j = p2_passes h2 * 1048576 in
    let k = p1_passes h1 h2 * 1048576 in
    let s = add_at_most 1048576 j p.p3 (p2_product h2 p) (outer_fits (p2_passes h2) b) x3 x2 in
    let l = add_from_least 1048576 j p.p3 (p2_product h2 p) (outer_fits (p2_passes h2) b) x3 r.p3_in_range.from_least x2 in
    let fit = cycle_fits (p2_passes h2) (p1_passes h1 h2) b a in
    record {
      entries_most = product_at_most h1 h2 f g;
      p2_most = b;
      p1_most = a;
      p2_bound = x2;
      p1_bound = x1;
      outer_bound = s;
      cycle_bound = add_at_most (1048576 + j) k (outer_time h2 p) (p1_product h1 h2 p) fit s x1;
      cycle_least = add_from_least (1048576 + j) k (outer_time h2 p) (p1_product h1 h2 p) fit s l x1;
    }

whole_fits : (n : ℕ) → n ≤ 4294836225 → n ≤ 2 ^ 53
whole_fits n h = omega arith

quotient_fits : (n : ℕ) → n ≤ 4294836225 → n * 1024 ≤ 2 ^ 53
quotient_fits n h = omega arith

pub rounding_law : RoundingLaw
unfolding RoundingLaw p2_product p1_product outer_time cycle_time passing_rate
rounding_law h1 h2 p f g r =
    let b = bounded h1 h2 p f g r in
    let p2_fits : p2_passes h2 ≤ 2 ^ 53 = whole_fits (p2_passes h2) (le_trans b.p2_most (lit≤ tt)) in
    let p1_fits = whole_fits (p1_passes h1 h2) b.p1_most in
    let entries_fit = whole_fits (entries h1 h2) b.entries_most in
    let positive_cycle = positive_from_least (cycle_time h1 h2 p) b.cycle_bound.natural b.cycle_least in
    record {
      exact_entries = exact (entries h1 h2) entries_fit;
      exact_p2_passes = exact (p2_passes h2) p2_fits;
      exact_p1_passes = exact (p1_passes h1 h2) p1_fits;
      p2_product_once = mul_whole (p2_passes h2) p.p2 p2_fits (time_at_most p.p2 r.p2_in_range).natural;
      p1_product_once = mul_whole (p1_passes h1 h2) p.p1 p1_fits (time_at_most p.p1 r.p1_in_range).natural;
      outer_time_once = add_is p.p3 (p2_product h2 p) (time_at_most p.p3 r.p3_in_range).natural b.p2_bound.natural;
      cycle_time_once = add_is (outer_time h2 p) (p1_product h1 h2 p) b.outer_bound.natural b.p1_bound.natural;
      quotient_once = div_whole (entries h1 h2) (cycle_time h1 h2 p) entries_fit positive_cycle;
    }

pub rate_law : RateLaw
unfolding RateLaw RoundingLaw passing_rate
rate_law h1 h2 p f g r =
    let b = bounded h1 h2 p f g r in
    let n = mul-pos r.h1_above_zero r.h2_above_zero in
    let j = 1048576 + p2_passes h2 * 1048576 + p1_passes h1 h2 * 1048576 in
    let z =
    quotient_positive (entries h1 h2) j (cycle_time h1 h2 p) n (quotient_fits (entries h1 h2) b.entries_most) (cycle_fits (p2_passes h2) (p1_passes h1 h2) b.p2_most b.p1_most)
    b.cycle_bound b.cycle_least in
    record {
      finite_above_zero = subst (λ (x : Float). T (positive x)) (sym (rounding_law h1 h2 p f g r).quotient_once) z;
      reads_back = of_bits-to_bits binary64 (passing_rate h1 h2 p) (div-fits binary64 (as_float (entries h1 h2)) (cycle_time h1 h2 p));
    }
