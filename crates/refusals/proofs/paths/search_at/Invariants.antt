-- `refusals::paths::search_at` meets its contract: at each turn of the loop, the search from the domain reached gives the result of the whole.
use mathlib.Core.Path.{◌≡◌}
use Prim.Native.Nat.{◌-◌, ◌≤◌, ◌<◌}
use Rattle.model.specs.Search.{search_from}
use Rattle.refusals.specs.Arrays.{parents_in}
use Rattle.refusals.proofs.paths.search_at.Given as goal

abbrev pub invariant-loop-looked : goal.invariant-loop-looked
invariant-loop-looked l = (l.looked ≤ 6) × (l.c < l.tree.domains) × (search_from (6 - l.looked) (parents_in l.tree.domains l.tree.parents) l.l l.c l.looked ≡ search_from 6 (parents_in l.tree.domains l.tree.parents) l.l l.home 0)

abbrev pub decreases-loop-looked : goal.decreases-loop-looked
decreases-loop-looked l = 6 - l.looked
