-- `refusals::of_runs::marks::mark_block` meets its contract: the marks so far are 0 only for threads that rest.
use Rattle.refusals.specs.OfRuns.Tables.{RestMarks}
use Rattle.refusals.proofs.of_runs.marks.mark_block.Given as goal

abbrev pub invariant-loop-k : goal.invariant-loop-k
invariant-loop-k l = RestMarks l.k l.resting l.owners l.places l.marks
