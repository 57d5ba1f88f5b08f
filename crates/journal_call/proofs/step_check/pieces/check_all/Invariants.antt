-- `journal_call::step_check::pieces::check_all` meets its contract: piece by piece, up to the first that has a wrong step, or the last.
use mathlib.Core.Path.{◌≡◌}
use Prim.Native.Nat.{◌-◌}
use lib.ListN.{length}
use Rattle.model.specs.Trees.{tree_of}
use Rattle.journal_call.proofs.step_check.Wholes.{SoFar}
use Rattle.journal_call.proofs.step_check.pieces.check_all.Given as goal

abbrev pub invariant-loop-at : goal.invariant-loop-at
invariant-loop-at l = (length l.trace ≡ 1024) × ((length l.codes ≡ 1024) × SoFar (tree_of l.tree) l.initial.state l.named.threads.now l.named.kinds.now l.named.domains.now l.state l.at)

abbrev pub decreases-loop-at : goal.decreases-loop-at
decreases-loop-at l = length l.named.threads.now - l.at
