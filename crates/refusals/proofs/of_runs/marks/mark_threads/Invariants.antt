-- `refusals::of_runs::marks::mark_threads` meets its contract: the marks of all blocks so far are right.
use Prim.Native.Nat.{◌*◌}
use Rattle.refusals.specs.OfRuns.Tables.{RestMarks}
use Rattle.refusals.proofs.of_runs.marks.mark_threads.Given as goal

abbrev pub invariant-loop-block : goal.invariant-loop-block
invariant-loop-block l = RestMarks (l.block * 32) l.resting l.owners l.places l.marks
