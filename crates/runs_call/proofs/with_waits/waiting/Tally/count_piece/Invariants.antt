-- `runs_call::with_waits::waiting::Tally::count_piece` meets its contract: the steps so far are counted.
use Rattle.runs_call.proofs.with_waits.Counting.{CountedSoFar}
use Rattle.runs_call.proofs.with_waits.waiting.Tally.count_piece.Given as goal

abbrev pub invariant-loop-k : goal.invariant-loop-k
invariant-loop-k l = CountedSoFar l.tree l.schedule l.codes l.initial.self.threads l.count l.self.threads l.entered l.k
