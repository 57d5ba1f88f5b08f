-- `refusals::trees::marked_homes` meets its contract: the homes of the threads so far are marked.
use Prim.Native.Nat.{ℕ, ◌<◌}
use lib.ListN.{get_or}
use Rattle.refusals.proofs.Homes.{MarkedBelow}
use Rattle.refusals.proofs.trees.marked_homes.Given as goal

abbrev pub invariant-loop-i : goal.invariant-loop-i
invariant-loop-i l = MarkedBelow l.tree.words.now.homes l.marked l.i × ((j : ℕ) → j < l.i → get_or l.tree.words.now.homes j 0 < 256)
