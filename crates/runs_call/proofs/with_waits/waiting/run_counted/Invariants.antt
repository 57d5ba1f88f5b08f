-- `runs_call::with_waits::waiting::run_counted` meets its contract: the pieces so far are run and counted.
use Prim.Native.Nat.{◌-◌}
use lib.ListN.{length}
use Rattle.runs_call.proofs.with_waits.Pieces.{InPieces}
use Rattle.runs_call.proofs.with_waits.waiting.run_counted.Given as goal

abbrev pub invariant-loop-from : goal.invariant-loop-from
invariant-loop-from l = InPieces l.tree l.under_way l.schedule l.initial.trace l.initial.state.words l.initial.state.counters l.trace l.tally.threads l.state.words l.state.counters l.counts l.entered l.from

abbrev pub decreases-loop-from : goal.decreases-loop-from
decreases-loop-from l = length l.schedule - l.from
