-- `refusals::trees::lowest_too_deep` meets its contract: the levels of the domains so far are in the array, and are small.
use Rattle.refusals.proofs.Levels.{Levels}
use Rattle.refusals.proofs.trees.lowest_too_deep.Given as goal

abbrev pub invariant-loop-d : goal.invariant-loop-d
invariant-loop-d l = Levels l.tree.words.now l.levels l.d
