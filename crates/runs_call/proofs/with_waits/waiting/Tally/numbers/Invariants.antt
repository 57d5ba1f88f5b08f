-- `runs_call::with_waits::waiting::Tally::numbers` meets its contract: the numbers stored so far.
use Rattle.runs_call.specs.WithWaits.Waiting.{marks_of}
use Rattle.runs_call.proofs.with_waits.Writing.{Numbered}
use Rattle.runs_call.proofs.with_waits.waiting.Tally.numbers.Given as goal

abbrev pub invariant-loop-k : goal.invariant-loop-k
invariant-loop-k l = Numbered l.threads l.entered (marks_of l.self.threads) l.initial.numbers l.numbers l.k
