-- The domains so far are entered.
use Rattle.model.specs.Trees.{tree_of}
use Rattle.chain_call.proofs.Noting.{Noting}
use Rattle.chain_call.proofs.tables.note_path.Given as goal

abbrev pub invariant-loop-ahead : goal.invariant-loop-ahead
invariant-loop-ahead l = Noting (tree_of l.lock.tree.now) l.lock.state.now.nexts l.from l.j l.initial.ahead l.ahead l.r l.c

abbrev pub decreases-loop-ahead : goal.decreases-loop-ahead
decreases-loop-ahead l = l.c
