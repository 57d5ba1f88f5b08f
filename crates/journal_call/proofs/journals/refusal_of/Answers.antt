-- `journal_call::journals::refusal_of` meets its contract: the tree's refusal, or that of the entries.
use Rattle.refusals.proofs.Refusing.{ok_numbered}
use Rattle.journal_call.proofs.Journaling.{tree_refused, refusal_passed}
use Rattle.journal_call.proofs.journals.refusal_of.Goals as goal

pub check_entries-requires : goal.check_entries-requires
check_entries-requires c = ok_numbered c.in_ok-tree_refusal_of.ensures

pub returns-in_err-tree_refusal_of : goal.returns-in_err-tree_refusal_of
returns-in_err-tree_refusal_of c = refusal_passed c.from_residual.result _ c.from_residual.ensures.1 (tree_refused _ _ _ c.in_err-tree_refusal_of.ensures)
