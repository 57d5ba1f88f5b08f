-- THE LAWS OF THE RATE. These are statements; their proofs are in proofs/.
use Rattle.std.specs.Prelude.{◌≡◌, true, false, ℕ, ◌+◌, ◌*◌, ◌^◌, ◌≤◌, ◌<◌, T, pos, Float, Ok, Err}
use Rattle.std.specs.Float.{fin, binary64}
use Rattle.std.specs.Float.Ieee.{round, div, fits, of_bits, to_bits}
use Rattle.std.specs.Float.Ieee.Exact.{HasValue}
use Rattle.std.specs.Float.Ieee.Positive.{positive, num, den}
use Rattle.model.specs.Laws.{◌⟺◌, Refuses, RefusesExactly}
use Rattle.rate.specs.declared.PassingTimes.{PassingTimes}
use Rattle.model.specs.Refusals.{refusal}
use Rattle.rate.specs.Rate.{is_time, entries, p2_passes, p1_passes, as_float, p2_product, p1_product, outer_time, cycle_time, passing_rate}
use Rattle.rate.specs.Answers.{rate_tests, rate_answer}

-- 1. TIMES. A float is in the range from 1/1024 to 1,048,576, stated for its fraction num / den: finite, above zero, both ends included
pub record InRange (x : Float) : Type 0 where
  pub finite_above_zero : T (positive x)
  pub from_least : den x ≤ num x * 1024
  pub to_most : num x ≤ 1048576 * den x

-- a time is accepted exactly if it is in this range
unfoldable pub TimeLaw : Type 0
TimeLaw = (x : Float) → (is_time x ≡ true) ⟺ InRange x

-- the inputs that neither 8 nor 24 refuses
pub record Accepted (h1 h2 : ℕ) (p : PassingTimes) : Type 0 where
  pub h1_above_zero : 0 < h1
  pub h2_above_zero : 0 < h2
  pub p1_in_range : InRange p.p1
  pub p2_in_range : InRange p.p2
  pub p3_in_range : InRange p.p3

-- 2. ANSWERS. The general law of refusals covers the list of tests; the answer is a refusal exactly if the tests refuse with its number and place, and it is this rate exactly if every input is in its range
pub record AnswersExactly (h1 h2 : ℕ) (p : PassingTimes) : Type 0 where
  pub refuses : RefusesExactly (rate_tests h1 h2 p)
  pub refused : (n q : ℕ) → 0 < n → (rate_answer h1 h2 p ≡ Err (refusal n q)) ⟺ Refuses (rate_tests h1 h2 p) n q
  pub accepts : (rate_answer h1 h2 p ≡ Ok (passing_rate h1 h2 p)) ⟺ Accepted h1 h2 p
  pub no_other : (x : Float) → rate_answer h1 h2 p ≡ Ok x → x ≡ passing_rate h1 h2 p

-- for every input
unfoldable pub AnswerLaw : Type 0
AnswerLaw = (h1 h2 : ℕ) (p : PassingTimes) → AnswersExactly h1 h2 p

-- 3. ROUNDED ONCE. The whole-number parts are exact as floats, and the result of each operation is the exact fraction rounded once
pub record RoundsOnce (h1 h2 : ℕ) (p : PassingTimes) : Type 0 where
  pub exact_entries : HasValue (as_float (entries h1 h2)) false (entries h1 h2) 1
  pub exact_p2_passes : HasValue (as_float (p2_passes h2)) false (p2_passes h2) 1
  pub exact_p1_passes : HasValue (as_float (p1_passes h1 h2)) false (p1_passes h1 h2) 1
  pub p2_product_once : p2_product h2 p ≡ round binary64 false (p2_passes h2 * num p.p2) (den p.p2)
  pub p1_product_once : p1_product h1 h2 p ≡ round binary64 false (p1_passes h1 h2 * num p.p1) (den p.p1)
  pub outer_time_once :
      outer_time h2 p
      ≡ round binary64 false (num p.p3 * den (p2_product h2 p) + num (p2_product h2 p) * den p.p3) (den p.p3 * den (p2_product h2 p))
  pub cycle_time_once :
      cycle_time h1 h2 p
      ≡ round binary64 false (num (outer_time h2 p) * den (p1_product h1 h2 p) + num (p1_product h1 h2 p) * den (outer_time h2 p)) (den (outer_time h2 p) * den (p1_product h1 h2 p))
  pub quotient_once : passing_rate h1 h2 p ≡ round binary64 false (entries h1 h2 * den (cycle_time h1 h2 p)) (num (cycle_time h1 h2 p))

-- for every accepted input with 16-bit thresholds
unfoldable pub RoundingLaw : Type 0
RoundingLaw = (h1 h2 : ℕ) (p : PassingTimes) → h1 < 2 ^ 16 → h2 < 2 ^ 16 → Accepted h1 h2 p → RoundsOnce h1 h2 p

-- 4. BITS. A rate is a finite number above zero, so it has one bit pattern, and the pattern determines the rate
pub record OnePattern (x : Float) : Type 0 where
  pub finite_above_zero : T (positive x)
  pub reads_back : of_bits binary64 (to_bits binary64 x) ≡ x

-- for every accepted input with 16-bit thresholds
unfoldable pub RateLaw : Type 0
RateLaw = (h1 h2 : ℕ) (p : PassingTimes) → h1 < 2 ^ 16 → h2 < 2 ^ 16 → Accepted h1 h2 p → OnePattern (passing_rate h1 h2 p)

-- 5. BOTH THRESHOLDS 1. The rate is 1 over p3, rounded once; p3 is the value of an f64
unfoldable pub UnitLaw : Type 0
UnitLaw = (p : PassingTimes) → T (fits binary64 p.p3) → Accepted 1 1 p → passing_rate 1 1 p ≡ div binary64 (fin false 1 (pos 0)) p.p3
