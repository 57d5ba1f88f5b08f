-- The step in place gives the parts of the model's answer.
use mathlib.Core.Path.{ap}
use Rattle.lock.proofs.steps.Answering.{step_passes, step_refuses}
use Rattle.host.specs.InPlace.{step_without_state}
use Rattle.host.proofs.hmcs_step_in_place.Goals as goal

pub returns-in-Ok : goal.returns-in-Ok
returns-in-Ok c = (rw (c.from.ensures, c.number.ensures) (ap step_without_state (step_passes _ _ _ _ c.step_in_place.ensures.state_after _ c.in-Ok.ensures.taken c.in-Ok.ensures.refused)), c.step_in_place.ensures.state_after)

pub returns-in-Err : goal.returns-in-Err
returns-in-Err c = (rw c.number-in-Err.ensures (ap step_without_state (step_refuses _ _ _ _ c.step_in_place.ensures.state_after _ c.in-Err.ensures.refused)), c.step_in_place.ensures.state_after)
