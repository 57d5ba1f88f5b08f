-- `runs_call::with_waits::greatest_divisor` meets its contract: each division keeps the greatest common divisor.
use mathlib.Core.Path.{refl, ◌∙◌}
use native.Mathlib.Omega.{arith}
use native.Mathlib.Nat.{mod-lt}
use Rattle.waits.proofs.Divisors.{euclid, euclid_ends}
use Rattle.runs_call.proofs.with_waits.greatest_divisor.Goals as goal

pub loop-y-init : goal.loop-y-init
loop-y-init c = refl

pub loop-y-smaller : goal.loop-y-smaller
loop-y-smaller c = mod-lt _ (omega arith)

pub loop-y-preserved : goal.loop-y-preserved
loop-y-preserved c = euclid _ _ c.loop-y-test.true ∙ c.loop-y.invariant

pub returns : goal.returns
returns c = euclid_ends _ _ c.loop-y-test.false ∙ c.loop-y.invariant
