-- `refusals::of_runs::counters::good_counts` meets its contract: `all` tests the domains below 64.
use mathlib.Core.Path.{refl, ◌∙◌}
use Rattle.std.proofs.Common.{rules, tests}
use Rattle.std.proofs.lemmas.Iterator.{YieldsList-from_range}
use Rattle.std.proofs.lemmas.Iterator.Search.{all_from_yields_List}
use Rattle.model.specs.Trees.{tree_of}
use Rattle.model.specs.Counters.{good_count, good_counts}
use Rattle.refusals.proofs.Ranges.{all_in_range}
use Rattle.refusals.proofs.of_runs.counters.good_counts.Goals as goal

pub returns : goal.returns
unfolding good_counts
returns c = let test = good_count (tree_of c.args.tree.now) c.args.counters.now in
    all_from_yields_List test _ _ _ c.all.ensures.ran (YieldsList-from_range 0 64 64 (cc) refl) (λ x b q k. search (rules, tests)) ∙ all_in_range 64 test
