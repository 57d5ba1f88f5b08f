-- `lock::steps::run::mark_watching` meets its contract: the threads so far have marked their domains.
use native.Mathlib.Omega.{arith}
use Rattle.refusals.proofs.of_runs.Passing.{shape_of}
use Rattle.lock.proofs.steps.Looking.{home_small, marked_start, marked_next}
use Rattle.lock.proofs.steps.run.mark_watching.Goals as goal

pub loop-other-init : goal.loop-other-init
loop-other-init c = marked_start c.args.tree.now c.requires.tree_value _ _ _ _ c.requires.clear

pub place_at-place-requires : goal.place_at-place-requires
place_at-place-requires c = omega (arith, c.loop-other-test.true, c.requires.threads_bound, (shape_of c.args.tree.now c.requires.tree_value).few_threads)

pub bounds-tree-at : goal.bounds-tree-at
bounds-tree-at c = omega (arith, c.loop-other-test.true, c.requires.threads_bound, (shape_of c.args.tree.now c.requires.tree_value).few_threads)

pub mark_shown-requires-clause-leads_up : goal.mark_shown-requires-clause-leads_up
mark_shown-requires-clause-leads_up c = let k = shape_of c.args.tree.now c.requires.tree_value in record { few_domains = k.few_domains; lower = k.low }

pub mark_shown-requires-clause-home_lt_domains : goal.mark_shown-requires-clause-home_lt_domains
mark_shown-requires-clause-home_lt_domains c = home_small c.args.tree.now c.requires.tree_value c.loop-other.other (omega (arith, c.loop-other-test.true, c.requires.threads_bound))

pub loop-other-preserved : goal.loop-other-preserved
loop-other-preserved c = marked_next c.args.tree.now c.requires.tree_value _ _ _ _ _ _ (omega (arith, c.loop-other-test.true, c.requires.threads_bound)) c.loop-other.invariant (rw c.place_at-place.ensures at c.mark_shown.ensures)
