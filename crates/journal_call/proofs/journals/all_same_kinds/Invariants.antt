-- `journal_call::journals::all_same_kinds` meets its contract: the entries so far name the reported kinds.
use mathlib.Core.Path.{◌≡◌}
use mathlib.Core.Bool.{true}
use lib.ListN.{length}
use Rattle.journal_call.specs.Kinds.{AllSameKinds}
use Rattle.journal_call.proofs.journals.all_same_kinds.Given as goal

abbrev pub invariant-loop-kind : goal.invariant-loop-kind
invariant-loop-kind l = l.same ≡ true → AllSameKinds l.kinds l.codes (length l.yielded)
