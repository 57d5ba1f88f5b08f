-- `refusals::trees::lowest_no_threshold` meets its contract: all domains so far have thresholds.
use Rattle.std.proofs.Common.{◌≡◌, ◌<◌, ◌≤◌, false, ℕ, eqb, get_or, refl, arith, rules}
use borrow.Author.Tests.{ne_eqb, eq-eqb}
use Rattle.model.specs.declared.TreeWords.{TreeWords}
use Rattle.model.specs.Trees.{tree_of}
use Rattle.model.specs.Refusals.{no_threshold}
use Rattle.refusals.proofs.Reading.{threshold_of}
use Rattle.refusals.proofs.Scanning.{single, scan_goes_on, scan_found, scan_ended}
use Rattle.refusals.proofs.trees.lowest_no_threshold.Goals as goal

here : (w : TreeWords) (d : ℕ) → 1 ≤ d → d < w.domains → get_or w.thresholds d 0 < 65536 → no_threshold (tree_of w) d ≡ eqb (get_or w.thresholds d 0) 0
unfolding no_threshold
here w d p l small = rw (ne_eqb d 0 (omega arith), threshold_of w d (omega arith) l small)

pub loop-d-init : goal.loop-d-init
unfolding no_threshold
loop-d-init c = (omega (arith, c.args.tree.now.some_domain), single _ false refl)

pub returns-then-tree-d-eq0 : goal.returns-then-tree-d-eq0
returns-then-tree-d-eq0 c = let w = c.args.tree.now.words.now in
    let small : get_or w.thresholds c.loop-d.d 0 < 65536 = search rules in
    (scan_found _ _ _ c.loop-d.invariant (rw (here w c.loop-d.d c.loop-d.auto.d c.loop-d-test.true small) (eq-eqb _ _ c.if-tree-d-eq0.true)), c.loop-d-test.true)

pub loop-d-preserved : goal.loop-d-preserved
loop-d-preserved c = let w = c.args.tree.now.words.now in
    let small : get_or w.thresholds c.loop-d.d 0 < 65536 = search rules in
    scan_goes_on _ _ _ c.loop-d.invariant c.loop-d-test.true (rw (here w c.loop-d.d c.loop-d.auto.d c.loop-d-test.true small) (ne_eqb _ _ c.if-tree-d-eq0.false))

pub returns : goal.returns
returns c = let n = c.args.tree.now.words.now.domains in
    (scan_ended n _ n (omega arith, λ j l. c.loop-d.invariant.1 j (omega arith)) (omega arith), tt)
