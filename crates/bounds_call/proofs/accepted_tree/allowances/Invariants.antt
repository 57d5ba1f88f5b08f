-- The words from domain d on are their allowances.
use mathlib.Core.Path.{◌≡◌}
use Prim.Native.Nat.{◌≤◌}
use lib.ListN.{length}
use Rattle.model.specs.Trees.{tree_of}
use Rattle.bounds_call.proofs.Filling.{Filled}
use Rattle.bounds_call.proofs.accepted_tree.allowances.Given as goal

abbrev pub invariant-loop-d : goal.invariant-loop-d
invariant-loop-d l = (1 ≤ l.d) × Filled (tree_of l.tree.words.now) l.d l.words × (length l.words ≡ 64)
