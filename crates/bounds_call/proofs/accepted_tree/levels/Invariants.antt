-- The largest level of the domains so far.
use mathlib.Core.Path.{◌≡◌}
use Prim.Native.Nat.{◌≤◌}
use Rattle.model.specs.Scans.{largest_below}
use Rattle.model.specs.Trees.{tree_of, level}
use Rattle.bounds_call.proofs.accepted_tree.levels.Given as goal

abbrev pub invariant-loop-d : goal.invariant-loop-d
invariant-loop-d l = (l.most ≤ 6) × (l.most ≡ largest_below l.d (level (tree_of l.tree.words.now)))
