-- The largest of the rounds of the threads so far.
use mathlib.Core.Path.{◌≡◌}
use Prim.Native.Nat.{◌+◌}
use Rattle.model.specs.Scans.{largest_below}
use Rattle.model.specs.Trees.{tree_of}
use Rattle.bounds.specs.StarvationFreedom.Bounds.{acquire_bound, release_bound}
use Rattle.bounds.specs.Answers.{capped}
use Rattle.bounds_call.proofs.everyone.Rounds.everyone.Given as goal

abbrev pub invariant-loop-i : goal.invariant-loop-i
invariant-loop-i l = let t = tree_of l.self.members.tree.words.now in l.most ≡ largest_below l.i (λ j. capped (acquire_bound t j + release_bound t j))
