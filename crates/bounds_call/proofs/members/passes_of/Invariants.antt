-- The words from domain d on are the passes.
use mathlib.Core.Path.{◌≡◌}
use Prim.Native.Nat.{◌≤◌}
use lib.ListN.{length}
use Rattle.model.specs.Trees.{tree_of}
use Rattle.bounds.specs.LongestWait.Bounds.{effective}
use Rattle.bounds_call.proofs.Filling.{Filled}
use Rattle.bounds_call.proofs.members.passes_of.Given as goal

abbrev pub invariant-loop-d : goal.invariant-loop-d
invariant-loop-d l = (1 ≤ l.d) × Filled (effective (tree_of l.tree.words.now)) l.d l.words × (length l.words ≡ 64)
