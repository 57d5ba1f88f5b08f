-- `lock::steps::run::run_lent` meets its contract: the entries so far have given the state, the trace, how many steps are of each kind and the counters of the domains.
use Rattle.model.specs.Trees.{tree_of}
use Rattle.rows.specs.Common.Counting.{Clear}
use Rattle.lock.proofs.steps.SoFar.{SoFar}
use Rattle.lock.proofs.steps.Reporting.{Coded}
use Rattle.lock.proofs.steps.Tallying.{Tallied}
use Rattle.lock.proofs.steps.run.run_lent.Given as goal

abbrev pub invariant-loop-k : goal.invariant-loop-k
invariant-loop-k l = SoFar (tree_of l.tree) l.schedule l.initial.trace l.initial.state.words l.trace l.state.words l.kinds l.entered l.k
    × Coded (tree_of l.tree) l.schedule l.initial.state.words l.initial.codes l.codes l.k
    × Tallied (tree_of l.tree) l.schedule l.initial.state.words l.initial.state.counters l.state.counters l.k
    × Clear l.shown
