-- `refusals::of_runs::counters::good_count_at` meets its contract: a threshold that is read is a 16-bit number.
use mathlib.Core.Path.{sym, ◌∙◌}
use Rattle.std.proofs.Common.{rules}
use Rattle.refusals.proofs.of_runs.Counts.{count_same}
use Rattle.refusals.proofs.of_runs.counters.good_count_at.Goals as goal

pub returns : goal.returns
returns c = c.count_fits.ensures ∙ sym (count_same c.args.tree.now c.args.counters.now c.args.d (search rules))
