-- `runs_call::with_waits::mean_of` meets its contract: 0 over 0 without attempts; otherwise the greatest common divisor is not 0, and both numbers are divided by it.
use native.Mathlib.Omega.{arith}
use borrow.Author.Tests.{eq-eqb, ne_eqb}
use Rattle.waits.specs.Rows.{mean}
use Rattle.waits.proofs.Divisors.{positive}
use Rattle.runs_call.proofs.with_waits.mean_of.Goals as goal

pub returns-then-attempts-eq0 : goal.returns-then-attempts-eq0
unfolding mean
returns-then-attempts-eq0 c = rw (eq-eqb _ 0 c.if-attempts-eq0.true)

pub nonzero_div-result : goal.nonzero_div-result
nonzero_div-result c = omega (arith, c.greatest_divisor-d.ensures, positive c.args.total c.args.attempts c.if-attempts-eq0.false)

pub nonzero_div-result-2 : goal.nonzero_div-result-2
nonzero_div-result-2 c = omega (arith, c.greatest_divisor-d.ensures, positive c.args.total c.args.attempts c.if-attempts-eq0.false)

pub returns : goal.returns
unfolding mean
returns c = rw (c.greatest_divisor-d.ensures, ne_eqb _ 0 c.if-attempts-eq0.false)
