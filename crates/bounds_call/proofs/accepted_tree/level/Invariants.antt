-- The levels so far and those above add up to the level.
use mathlib.Core.Path.{◌≡◌}
use Prim.Native.Nat.{◌+◌, ◌<◌}
use Rattle.model.specs.Trees.{tree_of, depth, level}
use Rattle.bounds_call.proofs.accepted_tree.level.Given as goal

abbrev pub invariant-loop-x : goal.invariant-loop-x
invariant-loop-x l = (l.x < l.tree.words.now.domains) × (l.n + depth (tree_of l.tree.words.now) l.x ≡ level (tree_of l.tree.words.now) l.d)

abbrev pub decreases-loop-x : goal.decreases-loop-x
decreases-loop-x l = l.x
