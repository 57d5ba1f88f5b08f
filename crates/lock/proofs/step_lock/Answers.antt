-- `lock::step_lock` meets its contract: the step in place, on its own state.
use Rattle.lock.proofs.steps.Answering.{step_passes, step_refuses}
use Rattle.lock.proofs.step_lock.Goals as goal

pub returns-in-Ok : goal.returns-in-Ok
returns-in-Ok c = rw (c.from.ensures, c.number.ensures) (step_passes _ _ _ _ c.step_in_place.ensures.state_after _ c.in-Ok.ensures.taken c.in-Ok.ensures.refused)

pub returns-in-Err : goal.returns-in-Err
returns-in-Err c = rw c.number-in-Err.ensures (step_refuses _ _ _ _ c.step_in_place.ensures.state_after _ c.in-Err.ensures.refused)
