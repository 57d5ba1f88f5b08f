-- `journal_call::step_check::comparison::largest` meets its contract: none of the threads so far is larger.
use Rattle.journal_call.specs.StepCheck.Stretches.{NoneLarger}
use Rattle.journal_call.proofs.step_check.comparison.largest.Given as goal

abbrev pub invariant-loop-thread : goal.invariant-loop-thread
invariant-loop-thread l = NoneLarger l.threads l.thread-index l.most
