-- The words of the domains so far are the rounds above them.
use Rattle.model.specs.Trees.{tree_of}
use Rattle.bounds_call.specs.Arrays.{RoundsAbove}
use Rattle.bounds_call.proofs.everyone.Rounds.all_rounds_above.Given as goal

abbrev pub invariant-loop-d : goal.invariant-loop-d
invariant-loop-d l = RoundsAbove (tree_of l.self.members.tree.words.now) l.d l.above
