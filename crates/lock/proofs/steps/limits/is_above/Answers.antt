-- `lock::steps::limits::is_above` meets its contract: none of the counters so far is above 2^63.
use mathlib.Core.Path.{sym, ◌∙◌}
use mathlib.Core.Bool.{false}
use native.Mathlib.Omega.{arith}
use Rattle.refusals.proofs.Scanning.{one_more}
use Rattle.lock.proofs.steps.Above.{some_above, none_above}
use Rattle.lock.proofs.steps.limits.is_above.Goals as goal

pub loop-d-init : goal.loop-d-init
loop-d-init c = λ j l. absurd (omega arith)

pub returns-then-is_above_at : goal.returns-then-is_above_at
returns-then-is_above_at c = sym (some_above _ _ c.loop-d-test.true (sym c.is_above_at.ensures ∙ c.if-is_above_at.true))

pub loop-d-preserved : goal.loop-d-preserved
loop-d-preserved c = one_more _ false _ c.loop-d.invariant (sym c.is_above_at.ensures ∙ c.if-is_above_at.false)

pub returns : goal.returns
returns c = sym (none_above _ (λ j h. c.loop-d.invariant j (omega (arith, c.loop-d-test.false))))
