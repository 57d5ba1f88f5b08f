-- `journal_call::step_check::comparison::all_same_domains` meets its contract: the domains so far are those of the steps.
use mathlib.Core.Path.{◌≡◌}
use mathlib.Core.Bool.{true}
use Rattle.journal_call.specs.StepCheck.Stretches.{AllSameDomains}
use Rattle.journal_call.proofs.step_check.comparison.all_same_domains.Given as goal

abbrev pub invariant-loop-k : goal.invariant-loop-k
invariant-loop-k l = l.same ≡ true → AllSameDomains l.homes l.steps.domains.now l.steps.codes.now l.k
