-- No domain passed is a child.
use mathlib.Core.Path.{◌≡◌}
use mathlib.Core.Bool.{false}
use Prim.Native.Nat.{ℕ, ◌<◌}
use Rattle.model.specs.Trees.{tree_of, is_child}
use Rattle.bounds_call.proofs.accepted_tree.has_child.Given as goal

abbrev pub invariant-loop-c : goal.invariant-loop-c
invariant-loop-c l = (j : ℕ) → j < l.c → is_child (tree_of l.tree.words.now) l.d j ≡ false
