-- `refusals::of_runs::marks::mark_block` meets its contract: the marks so far are 0 only for threads that rest.
use native.Mathlib.Omega.{arith}
use Rattle.refusals.proofs.of_runs.Marking.{marks_next}
use Rattle.refusals.proofs.of_runs.marks.mark_block.Goals as goal

pub loop-k-preserved : goal.loop-k-preserved
loop-k-preserved c =
    marks_next _ _ _ _ _ _ c.row_mark.result c.part_mark-parts.result _ (omega arith) (omega arith) (omega (arith, c.requires.from_bound)) c.row_mark.ensures c.part_mark-parts.ensures c.loop-k.invariant
