-- `lock::run_lock` meets its contract: the run in place, on its own state.
use mathlib.Core.Path.{◌∙◌}
use Rattle.refusals.proofs.Refusing.{ok_numbered}
use Rattle.lock.proofs.steps.Answering.{run_accepts, run_refuses}
use Rattle.lock.proofs.run_lock.Goals as goal

pub returns-in-Ok-clause-value : goal.returns-in-Ok-clause-value
returns-in-Ok-clause-value c = run_accepts _ _ _ _ (ok_numbered c.in-Ok.ensures.refused) _ _ c.in-Ok.ensures.counts c.run_in_place.ensures.state_after

pub returns-in-Err-clause-value : goal.returns-in-Err-clause-value
returns-in-Err-clause-value c = c.refused.ensures ∙ rw c.number.ensures (run_refuses _ _ _ _ _ c.in-Err.ensures.refused _ c.run_in_place.ensures.state_after)
