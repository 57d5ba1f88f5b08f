-- `journal_call::step_check::comparison::homes_of` meets its contract: the homes of the threads so far are in the table.
use Rattle.journal_call.specs.StepCheck.Stretches.{HomesOf}
use Rattle.journal_call.proofs.step_check.comparison.homes_of.Given as goal

abbrev pub invariant-loop-k : goal.invariant-loop-k
invariant-loop-k l = HomesOf l.homes l.steps.threads.now l.k l.found
