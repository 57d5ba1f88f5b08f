-- `refusals::trees::lowest_no_threshold` meets its contract: all domains so far have thresholds.
use Rattle.model.specs.Trees.{tree_of}
use Rattle.model.specs.Refusals.{no_threshold}
use Rattle.refusals.proofs.Scanning.{Scanned}
use Rattle.refusals.proofs.trees.lowest_no_threshold.Given as goal

abbrev pub invariant-loop-d : goal.invariant-loop-d
invariant-loop-d l = Scanned l.tree.words.now.domains (no_threshold (tree_of l.tree.words.now)) l.d
