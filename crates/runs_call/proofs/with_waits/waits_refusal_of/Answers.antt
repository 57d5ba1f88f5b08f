-- `runs_call::with_waits::waits_refusal_of` meets its contract: the tests of the run except 19, then 18.
use Rattle.model.specs.Trees.{tree_of}
use Rattle.refusals.proofs.Refusing.{error_passed, error_numbered, ok_numbered}
use Rattle.runs_call.proofs.with_waits.Answering.{run_answered, room_answered, acceptance_answered}
use Rattle.runs_call.proofs.with_waits.waits_refusal_of.Goals as goal

pub returns-in_err-lent_refusal_of : goal.returns-in_err-lent_refusal_of
returns-in_err-lent_refusal_of c = error_passed c.from_residual.result _ c.from_residual.ensures.1 (run_answered _ _ _ _ _ _ c.in_err-lent_refusal_of.ensures (error_numbered _ c.in_err-lent_refusal_of.ensures))

pub returns-then-row_room-tree : goal.returns-then-row_room-tree
unfolding tree_of
returns-then-row_room-tree c = rw c.at.ensures (room_answered _ _ _ _ _ (ok_numbered c.in_ok-lent_refusal_of.ensures) c.if-row_room-tree.true)

pub returns : goal.returns
unfolding tree_of
returns c = acceptance_answered _ _ _ _ _ (ok_numbered c.in_ok-lent_refusal_of.ensures) c.if-row_room-tree.false
