-- `lock::steps::limits::refusal_of` meets its contract: the tests before 19 refuse, or 19 decides.
use Rattle.refusals.proofs.Refusing.{error_passed}
use Rattle.lock.proofs.steps.CounterLimits.{before_decides, before_passes, counters_decide}
use Rattle.lock.proofs.steps.limits.refusal_of.Goals as goal

pub returns-in_err-lent_refusal_of : goal.returns-in_err-lent_refusal_of
returns-in_err-lent_refusal_of c = error_passed c.from_residual.result _ c.from_residual.ensures.1 (before_decides _ _ _ _ _ c.in_err-lent_refusal_of.ensures)

pub lent_counter_refusal_of-requires : goal.lent_counter_refusal_of-requires
lent_counter_refusal_of-requires c = before_passes _ _ _ _ c.in_ok-lent_refusal_of.ensures

pub returns : goal.returns
returns c = counters_decide _ _ _ _ c.in_ok-lent_refusal_of.ensures _ c.lent_counter_refusal_of.ensures
