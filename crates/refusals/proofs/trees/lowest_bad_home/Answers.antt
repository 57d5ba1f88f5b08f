-- `refusals::trees::lowest_bad_home` meets its contract: all threads so far have good homes.
use Rattle.std.proofs.Common.{◌<◌, get_or, sym, ◌∙◌, arith, rules}
use Rattle.refusals.proofs.Homes.{home_test}
use Rattle.refusals.proofs.Scanning.{scan_begun, scan_goes_on, scan_found, scan_ended}
use Rattle.refusals.proofs.trees.lowest_bad_home.Goals as goal

pub loop-i-init : goal.loop-i-init
loop-i-init c = scan_begun _ _

pub returns-then-unfit-h : goal.returns-then-unfit-h
returns-then-unfit-h c = let small : get_or c.args.tree.now.words.now.homes c.loop-i.i 0 < 256 = search rules in
    let bad = rw c.from-h.ensures at c.if-unfit-h.true in
    (scan_found _ _ _ c.loop-i.invariant (sym (home_test c.args.tree.now.words.now _ _ c.requires c.loop-i-test.true small) ∙ bad), c.loop-i-test.true)

pub loop-i-preserved : goal.loop-i-preserved
loop-i-preserved c = let small : get_or c.args.tree.now.words.now.homes c.loop-i.i 0 < 256 = search rules in
    let good = rw c.from-h.ensures at c.if-unfit-h.false in
    scan_goes_on _ _ _ c.loop-i.invariant c.loop-i-test.true (sym (home_test c.args.tree.now.words.now _ _ c.requires c.loop-i-test.true small) ∙ good)

pub returns : goal.returns
returns c = let n = c.args.tree.now.words.now.threads in
    (scan_ended n _ n (omega arith, λ j l. c.loop-i.invariant.1 j (omega arith)) (omega arith), tt)
