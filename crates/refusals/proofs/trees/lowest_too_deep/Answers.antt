-- `refusals::trees::lowest_too_deep` meets its contract: the levels of the domains so far are in the array, and are small.
use Rattle.std.proofs.Common.{arith}
use Rattle.refusals.proofs.Levels.{levels_first, levels_next, level_passes, level_fails}
use Rattle.refusals.proofs.Scanning.{scan_found, scan_ended}
use Rattle.refusals.proofs.trees.lowest_too_deep.Goals as goal

pub loop-d-init : goal.loop-d-init
loop-d-init c = levels_first _

pub returns-then-level-gt6 : goal.returns-then-level-gt6
returns-then-level-gt6 c = let low = c.requires in
    let deep = rw c.from.ensures at c.if-level-gt6.true in
    (scan_found _ _ _ (omega arith, level_passes _ _ _ c.loop-d.invariant low) (level_fails _ _ _ c.loop-d.invariant low c.loop-d.auto.d c.loop-d-test.true deep), c.loop-d-test.true)

pub loop-d-preserved : goal.loop-d-preserved
loop-d-preserved c = rw c.from.ensures (levels_next _ _ _ c.args.tree.now.few_domains c.loop-d.invariant c.loop-d.auto.d c.loop-d-test.true (rw c.from.ensures at c.if-level-gt6.false))

pub returns : goal.returns
returns c = let n = c.args.tree.now.words.now.domains in
    (scan_ended n _ n (omega arith, λ j l. level_passes _ _ _ c.loop-d.invariant c.requires j (omega arith)) (omega arith), tt)
