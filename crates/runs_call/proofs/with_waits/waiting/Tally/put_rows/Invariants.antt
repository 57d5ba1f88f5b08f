-- `runs_call::with_waits::waiting::Tally::put_rows` meets its contract: the rows stored so far.
use Prim.Native.Nat.{◌*◌}
use Rattle.runs_call.specs.WithWaits.Waiting.{attempts_of, totals_of, longest_of}
use Rattle.runs_call.proofs.with_waits.Writing.{Written}
use Rattle.runs_call.proofs.with_waits.waiting.Tally.put_rows.Given as goal

abbrev pub invariant-loop-k : goal.invariant-loop-k
invariant-loop-k l = Written l.threads (attempts_of l.self.threads) (totals_of l.self.threads) (longest_of l.self.threads) l.initial.rows l.rows l.k (5 * l.k) l.attempts l.total l.most
