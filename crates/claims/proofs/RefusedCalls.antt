-- The claim holds for a list with refused calls.
use mathlib.Core.Path.{◌≡◌, refl}
use Rattle.model.specs.Trees.{tree_of}
use Rattle.model.specs.States.{fresh_words, fresh_state}
use Rattle.model.specs.Counters.{fresh_lock}
use Rattle.model.specs.Answers.{fresh_answer}
use Rattle.claims.specs.Claim.{DemandThree}
use Rattle.model.specs.Cases.Marked.{tree, two_homes}
use Rattle.model.specs.Cases.Claim.{mixed_calls}
use Rattle.claims.specs.RefusedCalls.{RefusedCallsAllowed}
use Rattle.model.proofs.ClaimCases.{mixed_calls_answered}
use Rattle.claims.proofs.Claims.Demand.{demand_three}

-- at a queue root a fresh state is 0 throughout
fresh_zero : (fresh_answer two_homes 0).state ≡ fresh_lock
unfolding fresh_answer fresh_state fresh_words tree_of two_homes tree
fresh_zero = refl

pub refused_calls_allowed : RefusedCallsAllowed
unfolding DemandThree
refused_calls_allowed =
    let a = mixed_calls_answered in
    record {
      answered = a;
      claim = rw (fresh_zero, a.schedule) at (demand_three two_homes 0 mixed_calls a.fresh (rw fresh_zero a.names));
    }
