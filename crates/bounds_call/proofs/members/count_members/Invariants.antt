-- The members among the records so far.
use Rattle.model.specs.Trees.{tree_of}
use Rattle.bounds_call.proofs.WaitSums.{Summed}
use Rattle.bounds_call.proofs.members.count_members.Given as goal

abbrev pub invariant-loop-m : goal.invariant-loop-m
invariant-loop-m l = Summed (tree_of l.tree.words.now) (λ q. 1) l.m l.counts
