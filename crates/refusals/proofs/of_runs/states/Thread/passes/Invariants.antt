-- `refusals::of_runs::states::Thread::passes` meets its contract: the levels that are left and the domain reached give the same answer as the whole search.
use mathlib.Core.Path.{◌≡◌}
use Prim.Native.Nat.{◌<◌, ◌-◌}
use Rattle.model.specs.Trees.{tree_of, meets}
use Rattle.refusals.proofs.of_runs.states.Thread.passes.Given as goal

abbrev pub invariant-loop-level : goal.invariant-loop-level
invariant-loop-level l =
    (l.c < l.self.tree.now.domains)
    × (meets (6 - l._level) (tree_of l.self.tree.now) l.c l.d ≡ meets 6 (tree_of l.self.tree.now) l.self.home l.d)
