-- Document 02, (xiii): when a rate is refused, what is answered, and the answer as numbers.
use Rattle.std.specs.Prelude.{ℕ, zero, suc, Bool, false, not, cond, List, [], ◌∷◌, eqb, pos, Float, Result, Ok, Err}
use Rattle.std.specs.Float.{fin}
use Rattle.model.specs.Refusals.{Refusal, refusal, Test, test, first_refusal}
use Rattle.rate.specs.declared.PassingTimes.{PassingTimes}
use Rattle.refusals.specs.Reasons.{number_of}
use Rattle.refusals.specs.declared.reasons.Refusal as reasons
use Rattle.rate.specs.declared.RateAnswer.{RateAnswer}
use Rattle.rate.specs.declared.RateAnswer.TheVariants.{Rate, Refused}
use Rattle.rate.specs.declared.RateReply.{RateReply}
use Rattle.rate.specs.Rate.{is_time, passing_rate}

-- 8: a threshold is 0; the place is 1 or 2. Place 0 is never bad
unfoldable pub zero_threshold : (h1 h2 : ℕ) → (place : ℕ) → Bool
zero_threshold h1 h2 zero = false
zero_threshold h1 h2 (suc zero) = eqb h1 0
zero_threshold h1 h2 (suc (suc p)) = eqb h2 0

-- 24: a time is outside the range from 1/1024 to 1,048,576 or is no number; the place is 1 to 3. Place 0 is never bad
unfoldable pub bad_time : PassingTimes → (place : ℕ) → Bool
bad_time p zero = false
bad_time p (suc zero) = not (is_time p.p1)
bad_time p (suc (suc zero)) = not (is_time p.p2)
bad_time p (suc (suc (suc q))) = not (is_time p.p3)

-- the tests of a rate: 8, then 24
unfoldable pub rate_tests : (h1 h2 : ℕ) → PassingTimes → List Test
rate_tests h1 h2 p = test 8 3 (zero_threshold h1 h2) ∷ test 24 4 (bad_time p) ∷ []

-- the refusal of a rate
unfoldable pub rate_refusal : (h1 h2 : ℕ) → PassingTimes → Refusal
rate_refusal h1 h2 p = first_refusal (rate_tests h1 h2 p)

-- the answer: the rate, or a refusal
unfoldable pub answer_of : Refusal → (rate : Float) → Result Float Refusal
answer_of r x = cond (eqb r.number 0) (Ok x) (Err r)

-- what the call answers
unfoldable pub rate_answer : (h1 h2 : ℕ) → PassingTimes → Result Float Refusal
rate_answer h1 h2 p = answer_of (rate_refusal h1 h2 p) (passing_rate h1 h2 p)

-- the answer, from what the code returns
abbrev pub answer_from : Result Float reasons.Refusal → Result Float Refusal
answer_from (Ok x) = Ok x
answer_from (Err r) = Err (refusal (number_of r.reason) r.place)

-- the same, from the enum of which the code makes a reply; it has every number and place
abbrev pub answer_in : RateAnswer → Result Float Refusal
answer_in (Rate x) = Ok x
answer_in (Refused n p) = Err (refusal n p)

-- the answer as numbers: number, place, and the rate, which is 0 if refused
abbrev pub reply_of : Result Float Refusal → RateReply
reply_of (Ok x) = record { number = 0; place = 0; rate = x }
reply_of (Err r) = record { number = r.number; place = r.place; rate = fin false 0 (pos 0) }
