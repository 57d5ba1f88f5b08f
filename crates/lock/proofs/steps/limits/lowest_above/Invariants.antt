-- `lock::steps::limits::lowest_above` meets its contract: the entries tried so far left no counter above 2^63.
use Rattle.lock.proofs.steps.Trying.{Tries}
use Rattle.lock.proofs.steps.limits.lowest_above.Given as goal

abbrev pub invariant-loop-k : goal.invariant-loop-k
invariant-loop-k l = Tries l.tree l.state l.schedule l.tried.words l.tried.counters l.k
