-- `rate::reply` meets its contract: each arm is the definition's case of the answer.
use mathlib.Core.Path.{◌≡◌, refl, sym, ap}
use mathlib.Core.Bool.{false}
use lib.IntN.{pos}
use lib.Ieee.{fin, of_bits, binary64}
use Rattle.model.specs.Refusals.{refusal}
use Rattle.rate.specs.Answers.{answer_in, reply_of}
use Rattle.rate.proofs.reply.Goals as goal

-- the compiled code has 0.0 as its bit pattern
zero_is : of_bits binary64 0 ≡ fin false 0 (pos 0)
unfolding of_bits
zero_is = refl

pub returns-in-Rate : goal.returns-in-Rate
returns-in-Rate c = sym (ap (λ a. reply_of (answer_in a)) c.in-Rate.is)

pub returns-in-Refused : goal.returns-in-Refused
unfolding refusal
returns-in-Refused c = rw zero_is (sym (ap (λ a. reply_of (answer_in a)) c.in-Refused.is))
