-- `runs_call::with_waits::waiting::mark_with` meets its contract: one more than the entries, or the mark unchanged, by its test.
use Rattle.runs_call.proofs.with_waits.waiting.mark_with.Goals as goal

pub returns-then-begins : goal.returns-then-begins
returns-then-begins c = rw c.if-begins.true
