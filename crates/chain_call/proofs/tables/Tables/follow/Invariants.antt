-- The chain continues from the last thread found.
use Rattle.model.specs.Trees.{tree_of}
use Rattle.chain_call.proofs.Following.{Follows}
use Rattle.chain_call.proofs.tables.Tables.follow.Given as goal

abbrev pub invariant-loop-n : goal.invariant-loop-n
invariant-loop-n l = Follows (tree_of l.lock.tree.now) l.lock.state.now l.thread l.found l.seen l.i l.n
