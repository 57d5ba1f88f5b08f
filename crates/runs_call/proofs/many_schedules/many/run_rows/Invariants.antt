-- `runs_call::many_schedules::many::run_rows` meets its contract: the rows stored so far, and those left.
use mathlib.Core.Path.{◌≡◌}
use lib.ListN.{length}
use Rattle.runs_call.proofs.many_schedules.Storing.{SoFar}
use Rattle.runs_call.proofs.many_schedules.many.run_rows.Given as goal

abbrev pub invariant-loop-n : goal.invariant-loop-n
invariant-loop-n l = SoFar l.tree.words.now l.lengths l.entries l.initial.rows l.rows l.n-index l.from l.at × (length l.trace ≡ length l.initial.trace)
