-- `runs_call::with_waits::greatest_divisor` meets its contract: each division keeps the greatest common divisor.
use mathlib.Core.Path.{◌≡◌}
use Rattle.waits.specs.Rows.{greatest_divisor}
use Rattle.runs_call.proofs.with_waits.greatest_divisor.Given as goal

abbrev pub invariant-loop-y : goal.invariant-loop-y
invariant-loop-y l = greatest_divisor l.x l.y ≡ greatest_divisor l.a l.b

abbrev pub decreases-loop-y : goal.decreases-loop-y
decreases-loop-y l = l.y
