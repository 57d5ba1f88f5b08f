-- `runs_call::with_waits::refusal_of` meets its contract: the tests before 27 refuse, or a number does, or 19 decides.
use mathlib.Core.Path.{sym, ◌∙◌}
use Rattle.refusals.proofs.Refusing.{error_passed, error_numbered, ok_numbered}
use Rattle.lock.proofs.steps.CounterLimits.{passes_alone}
use Rattle.runs_call.proofs.with_waits.Answering.{waits_answered, number_answered, counters_left, run_passes}
use Rattle.runs_call.proofs.with_waits.refusal_of.Goals as goal

pub returns-in_err-waits_refusal_of : goal.returns-in_err-waits_refusal_of
returns-in_err-waits_refusal_of c = error_passed c.from_residual.result _ c.from_residual.ensures.1 (waits_answered _ _ _ _ _ _ _ c.in_err-waits_refusal_of.ensures (error_numbered _ c.in_err-waits_refusal_of.ensures))

pub returns-in-Some : goal.returns-in-Some
returns-in-Some c = rw c.at.ensures (number_answered _ _ _ _ _ _ (ok_numbered c.in_ok-waits_refusal_of.ensures) _ c.in-Some.ensures.lowest c.in-Some.ensures.inside)

pub lent_counter_refusal_of-requires : goal.lent_counter_refusal_of-requires
lent_counter_refusal_of-requires c = passes_alone _ _ _ _ (run_passes _ _ _ _ _ c.args.under_way.now (ok_numbered c.in_ok-waits_refusal_of.ensures))

pub returns : goal.returns
returns c = c.lent_counter_refusal_of.ensures ∙ sym (counters_left _ _ _ _ _ _ (ok_numbered c.in_ok-waits_refusal_of.ensures) c.in_default.ensures.lowest)
