-- From the last record down, the passes of the others in its domain.
use Rattle.model.specs.Trees.{tree_of}
use Rattle.bounds_call.proofs.WaitSums.{Rest, OthersSoFar}
use Rattle.bounds_call.proofs.members.sums_of_others.Given as goal

abbrev pub invariant-loop-m : goal.invariant-loop-m
invariant-loop-m l = Rest (tree_of l.tree.words.now) l.m l.sums × OthersSoFar (tree_of l.tree.words.now) l.m l.others
