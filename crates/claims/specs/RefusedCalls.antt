-- The claim covers a list with refused calls, some of which name other trees.
use Rattle.model.specs.Trees.{tree_of}
use Rattle.model.specs.Counters.{fresh_lock}
use Rattle.model.specs.Cases.Marked.{two_homes}
use Rattle.model.specs.Cases.Claim.{mixed_calls, mixed_schedule, MixedCallsAnswered}
use Rattle.claims.specs.Claim.{Claim}

-- its calls are answered as computed, and the claim holds for it
pub record RefusedCallsAllowed : Type 0 where
  pub answered : MixedCallsAnswered
  pub claim : Claim (tree_of two_homes) fresh_lock mixed_calls mixed_schedule
