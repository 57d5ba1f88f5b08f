-- The threads so far are in the tables.
use Rattle.model.specs.Trees.{tree_of}
use Rattle.chain_call.specs.Tables.{Filled}
use Rattle.chain_call.proofs.tables.Tables.of.Given as goal

abbrev pub invariant-loop-j : goal.invariant-loop-j
invariant-loop-j l = Filled (tree_of l.lock.tree.now) l.lock.state.now l.j l.tables.ahead l.tables.linking l.tables.tickets
