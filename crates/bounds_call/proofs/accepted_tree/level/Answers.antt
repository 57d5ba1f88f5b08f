-- The levels so far and those above add up to the level.
use native.Mathlib.Omega.{arith}
use Rattle.model.specs.Trees.{level}
use Rattle.bounds_call.proofs.RoundWords.{parent_below, level_few, level_up, level_done}
use Rattle.bounds_call.proofs.accepted_tree.level.Goals as goal

pub loop-x-init : goal.loop-x-init
unfolding level
loop-x-init c = (c.requires, omega arith)

pub overflow_add-n : goal.overflow_add-n
overflow_add-n c = let few = level_few _ c.args.tree.now.accepted _ c.requires in omega (arith, few, c.loop-x.invariant.1)

pub loop-x-smaller : goal.loop-x-smaller
loop-x-smaller c = parent_below _ c.args.tree.now.accepted _ _ (omega (arith, c.loop-x-test.true)) c.loop-x.invariant.0 c.from-x.ensures

pub loop-x-preserved : goal.loop-x-preserved
loop-x-preserved c = let v = c.loop-x.invariant in
    let low = parent_below _ c.args.tree.now.accepted _ _ (omega (arith, c.loop-x-test.true)) v.0 c.from-x.ensures in
    (omega (arith, low, v.0), level_up _ c.args.tree.now.accepted _ _ _ _ (omega (arith, c.loop-x-test.true)) v.0 c.from-x.ensures v.1)

pub returns : goal.returns
returns c = let few = level_few _ c.args.tree.now.accepted _ c.requires in
    let done = level_done _ c.args.tree.now.accepted _ _ _ (omega arith) c.loop-x.invariant.1 in
    (done, omega arith)
