-- The largest level of the domains so far.
use mathlib.Core.Path.{refl}
use native.Mathlib.Omega.{arith}
use Rattle.model.specs.Scans.{largest_below}
use Rattle.model.specs.Trees.{tree_of}
use Rattle.bounds.specs.StarvationFreedom.Bounds.{levels}
use Rattle.bounds_call.proofs.Filling.{largest_next, largest_all}
use Rattle.bounds_call.proofs.accepted_tree.levels.Goals as goal

pub loop-d-init : goal.loop-d-init
unfolding largest_below
loop-d-init c = (omega arith, refl)

pub loop-d-preserved : goal.loop-d-preserved
loop-d-preserved c = (omega (arith, c.max-most.ensures, c.level.ensures.1, c.loop-d.invariant.0), largest_next _ _ _ _ _ c.loop-d.invariant.1 c.level.ensures.0 c.max-most.ensures)

pub returns : goal.returns
unfolding levels tree_of
returns c = (largest_all _ _ _ _ (omega (arith, c.loop-d-test.false, c.loop-d.auto.d-end)) c.loop-d.invariant.1, c.loop-d.invariant.0)
