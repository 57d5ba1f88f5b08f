-- `runs_call::many_schedules::adds_up` meets its contract: at each turn, the entries left and the lengths left.
use native.Mathlib.Omega.{arith}
use Rattle.runs_call.proofs.many_schedules.Adding.{too_long, one_less, none_left}
use Rattle.runs_call.proofs.many_schedules.adds_up.Goals as goal

pub loop-n-preserved : goal.loop-n-preserved
loop-n-preserved c = one_less _ _ _ c.loop-n.n-index c.loop-n.invariant c.loop-n-test.true c.in-Some.ensures.0 _ (omega (arith, c.in-Some.ensures.0, c.in-Some.ensures.1))

pub returns-in-None : goal.returns-in-None
returns-in-None c = too_long _ _ _ c.loop-n.n-index c.loop-n.invariant c.loop-n-test.true (omega (arith, c.in-None.ensures))

pub returns : goal.returns
returns c = none_left _ _ _ _ c.loop-n.invariant (omega arith)
