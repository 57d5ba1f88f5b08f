-- `refusals::trees::occupied` meets its contract: the parents of the marked domains so far are marked.
use Prim.Native.Nat.{◌-◌}
use Rattle.refusals.proofs.Occupying.{MarkedDown}
use Rattle.refusals.proofs.trees.occupied.Given as goal

abbrev pub invariant-loop-d : goal.invariant-loop-d
invariant-loop-d l = MarkedDown l.tree.words.now l.occupied (l.d - 1)
