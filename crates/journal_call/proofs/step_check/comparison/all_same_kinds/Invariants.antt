-- `journal_call::step_check::comparison::all_same_kinds` meets its contract: the kinds so far are the reported ones.
use mathlib.Core.Path.{◌≡◌}
use mathlib.Core.Bool.{true}
use lib.ListN.{length}
use Rattle.journal_call.specs.Kinds.{AllSameKinds}
use Rattle.journal_call.proofs.step_check.comparison.all_same_kinds.Given as goal

abbrev pub invariant-loop-kind : goal.invariant-loop-kind
invariant-loop-kind l = l.same ≡ true → AllSameKinds l.steps.kinds.now l.steps.codes.now (length l.yielded)
