-- `refusals::trees::lowest_bad_home` meets its contract: all threads so far have good homes.
use Rattle.model.specs.Trees.{tree_of}
use Rattle.model.specs.Refusals.{bad_home}
use Rattle.refusals.proofs.Scanning.{Scanned}
use Rattle.refusals.proofs.trees.lowest_bad_home.Given as goal

abbrev pub invariant-loop-i : goal.invariant-loop-i
invariant-loop-i l = Scanned l.tree.words.now.threads (bad_home (tree_of l.tree.words.now)) l.i
