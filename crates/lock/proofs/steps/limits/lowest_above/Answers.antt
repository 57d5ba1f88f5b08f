-- `lock::steps::limits::lowest_above` meets its contract: the entries tried so far left no counter above 2^63.
use mathlib.Core.Path.{◌≡◌, sym, ◌∙◌}
use lib.ListN.{length}
use native.Mathlib.Omega.{arith}
use Rattle.model.specs.Trees.{tree_of}
use Rattle.model.proofs.Laws.Calls.{early_facts}
use Rattle.refusals.proofs.Scanning.{scan_found, scan_ended}
use Rattle.lock.proofs.steps.Trying.{tried_start, tried_asks, tried_count, tried_next, Tries}
use Rattle.lock.proofs.steps.limits.lowest_above.Goals as goal

pub loop-k-init : goal.loop-k-init
unfolding Tries
loop-k-init c = λ R. tried_start _ _ _ _ _ R (record { typed = c.fits_its_type.ensures; form = R.form })

pub run_lent-requires : goal.run_lent-requires
unfolding Tries
run_lent-requires c = let R = early_facts (tree_of c.args.tree.now) _ _ _ c.requires in tried_asks _ _ _ _ _ R _ _ _ c.loop-k-test.true (c.loop-k.invariant R)

pub overflow_cast-result : goal.overflow_cast-result
overflow_cast-result c = omega (arith, c.loop-k-test.true, (early_facts (tree_of c.args.tree.now) _ _ _ c.requires).short)

pub returns-then-is_above-clause-lowest : goal.returns-then-is_above-clause-lowest
unfolding Tries
returns-then-is_above-clause-lowest c = let R = early_facts (tree_of c.args.tree.now) _ _ _ c.requires in
    let so_far = c.loop-k.invariant R in
    scan_found _ _ _ (so_far.within, so_far.passed)
    (sym (tried_count _ _ _ _ _ R _ _ _ c.loop-k-test.true so_far _ _ c.run_lent.ensures.words_after c.run_lent.ensures.counters_after) ∙ sym c.is_above.ensures ∙ c.if-is_above.true)

pub loop-k-preserved : goal.loop-k-preserved
unfolding Tries
loop-k-preserved c = λ R.
    tried_next _ _ _ _ _ R _ _ _ c.loop-k-test.true (c.loop-k.invariant R) _ _ c.run_lent.ensures.words_after c.run_lent.ensures.counters_after (sym c.is_above.ensures ∙ c.if-is_above.false)

pub returns-clause-lowest : goal.returns-clause-lowest
unfolding Tries
returns-clause-lowest c = let so_far = c.loop-k.invariant (early_facts (tree_of c.args.tree.now) _ _ _ c.requires) in
    let end : c.loop-k.k ≡ length c.args.schedule.now = omega (arith, so_far.within, c.loop-k-test.false) in
    rw end at (scan_ended _ _ _ (so_far.within, so_far.passed) (omega (arith, c.loop-k-test.false)))
