-- `runs_call::with_kinds::reporting::refusal_of` meets its contract: the tests before 28 refuse, or 28 does, or 19 decides.
use Rattle.refusals.proofs.Refusing.{error_passed, error_numbered, ok_numbered}
use Rattle.runs_call.proofs.with_kinds.Refused.{run_answered, room_answered, alone, counters_answered}
use Rattle.runs_call.proofs.with_kinds.reporting.refusal_of.Goals as goal

pub returns-in_err-lent_refusal_of : goal.returns-in_err-lent_refusal_of
returns-in_err-lent_refusal_of c = error_passed c.from_residual.result _ c.from_residual.ensures.1 (run_answered _ _ _ _ _ _ c.in_err-lent_refusal_of.ensures (error_numbered _ c.in_err-lent_refusal_of.ensures))

pub returns-then-row_room-schedule : goal.returns-then-row_room-schedule
returns-then-row_room-schedule c = rw c.at.ensures (room_answered _ _ _ _ _ (ok_numbered c.in_ok-lent_refusal_of.ensures) c.if-row_room-schedule.true)

pub lent_counter_refusal_of-requires : goal.lent_counter_refusal_of-requires
lent_counter_refusal_of-requires c = alone _ _ _ _ 0 (ok_numbered c.in_ok-lent_refusal_of.ensures)

pub returns : goal.returns
returns c = counters_answered _ _ _ _ _ (ok_numbered c.in_ok-lent_refusal_of.ensures) c.if-row_room-schedule.false _ c.lent_counter_refusal_of.ensures
