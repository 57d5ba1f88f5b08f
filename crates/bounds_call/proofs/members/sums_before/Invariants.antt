-- For the records so far, the passes of those before each in its domain.
use Rattle.model.specs.Trees.{tree_of}
use Rattle.bounds.specs.LongestWait.Bounds.{passes}
use Rattle.bounds_call.proofs.WaitSums.{Summed, BeforeSoFar}
use Rattle.bounds_call.proofs.members.sums_before.Given as goal

abbrev pub invariant-loop-m : goal.invariant-loop-m
invariant-loop-m l = Summed (tree_of l.tree.words.now) (passes (tree_of l.tree.words.now)) l.m l.sums × BeforeSoFar (tree_of l.tree.words.now) l.m l.before
