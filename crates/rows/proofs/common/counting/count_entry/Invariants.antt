-- `rows::common::counting::count_entry` counts level by level up to the root.
use Rattle.rows.proofs.common.Counts.{Climbs}
use Rattle.rows.proofs.common.counting.count_entry.Given as goal

abbrev pub invariant-loop-c : goal.invariant-loop-c
invariant-loop-c l = Climbs l.tree.domains l.tree.parents l.home l.initial.entries l.c l.entries

abbrev pub decreases-loop-c : goal.decreases-loop-c
decreases-loop-c l = l.c
