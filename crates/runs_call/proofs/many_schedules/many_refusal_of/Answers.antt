-- `runs_call::many_schedules::many_refusal_of` meets its contract: the tests of the tree, then 22 and 23.
use Rattle.refusals.proofs.Refusing.{error_passed, error_numbered, ok_numbered}
use Rattle.runs_call.proofs.many_schedules.Answering.{tree_answered, total_answered, room_answered, acceptance_answered}
use Rattle.runs_call.proofs.many_schedules.many_refusal_of.Goals as goal

pub returns-in_err-tree_refusal_of : goal.returns-in_err-tree_refusal_of
returns-in_err-tree_refusal_of c = error_passed c.from_residual.result _ c.from_residual.ensures.1 (tree_answered _ _ _ _ _ c.in_err-tree_refusal_of.ensures (error_numbered _ c.in_err-tree_refusal_of.ensures))

pub returns-then-not-adds_up : goal.returns-then-not-adds_up
returns-then-not-adds_up c = rw c.at.ensures (total_answered _ _ _ _ (ok_numbered c.in_ok-tree_refusal_of.ensures) c.if-not-adds_up.ensures)

pub returns-then-room-lengths : goal.returns-then-room-lengths
returns-then-room-lengths c = rw c.at-then-room-lengths.ensures (room_answered _ _ _ _ (ok_numbered c.in_ok-tree_refusal_of.ensures) c.if-not-adds_up.ensures c.if-room-lengths.true)

pub returns : goal.returns
returns c = acceptance_answered _ _ _ _ (ok_numbered c.in_ok-tree_refusal_of.ensures) c.if-not-adds_up.ensures c.if-room-lengths.false
