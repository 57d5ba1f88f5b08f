-- `refusals::trees::occupied` meets its contract: the parents of the marked domains so far are marked.
use Rattle.std.proofs.Common.{arith}
use Rattle.refusals.proofs.Occupying.{down_first, down_marked, down_empty, down_all}
use Rattle.refusals.proofs.trees.occupied.Goals as goal

pub loop-d-init : goal.loop-d-init
loop-d-init c = let some = c.args.tree.now.some_domain in
    down_first _ c.args.tree.now.few_domains some c.requires.lower c.requires.real_homes _ _ (omega arith) c.marked_homes-occupied.ensures

pub loop-d-preserved-then-occupied-d : goal.loop-d-preserved-then-occupied-d
loop-d-preserved-then-occupied-d c =
    rw c.from-p.ensures (down_marked _ c.args.tree.now.few_domains c.args.tree.now.some_domain c.requires.lower c.requires.real_homes _ _ c.loop-d.invariant (omega arith) (omega (arith, c.loop-d.auto.d)) c.if-occupied-d.true)

pub loop-d-preserved : goal.loop-d-preserved
loop-d-preserved c =
    down_empty _ c.args.tree.now.few_domains c.args.tree.now.some_domain c.requires.lower c.requires.real_homes _ _ c.loop-d.invariant (omega arith) c.if-occupied-d.false

pub returns : goal.returns
returns c = down_all _ c.args.tree.now.few_domains c.args.tree.now.some_domain c.requires.lower c.requires.real_homes _ _ c.loop-d.invariant (omega arith)
