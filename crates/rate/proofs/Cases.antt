-- The cases hold, by computation.
use mathlib.Core.Path.{◌≡◌, refl}
use mathlib.Core.Bool.{true}
use lib.Ieee.{of_bits, to_bits, add, mul, div, of_int, lt, le}
use Rattle.model.specs.Refusals.{refusal, accepted, lowest_bad, first_refusal}
use Rattle.rate.specs.Rate.{is_time, p2_product, p1_product, outer_time, cycle_time, passing_rate}
use Rattle.rate.specs.Answers.{zero_threshold, bad_time, rate_tests, rate_refusal, answer_of, rate_answer}
use Rattle.rate.specs.Cases.Rates.{cases, parts, EveryPart}

pub cases_hold : cases ≡ true
unfolding of_bits to_bits add mul div of_int lt le refusal accepted lowest_bad first_refusal is_time p2_product p1_product outer_time cycle_time passing_rate zero_threshold bad_time rate_tests rate_refusal answer_of rate_answer cases
cases_hold = refl

pub every_part : EveryPart
unfolding of_bits to_bits parts EveryPart
every_part = refl
