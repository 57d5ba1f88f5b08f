-- `refusals::trees::unfit_homes` meets its contract: the parents of the domains so far are marked.
use Rattle.refusals.proofs.Homes.{Marked}
use Rattle.refusals.proofs.trees.unfit_homes.Given as goal

abbrev pub invariant-loop-d : goal.invariant-loop-d
invariant-loop-d l = Marked l.tree.words.now.domains l.tree.words.now.parents l.unfit l.d
