-- `lock::steps::run::trace_at` meets its contract: an entry is written and counted, any other step is not.
use mathlib.Core.Path.{sym, ◌∙◌}
use native.Mathlib.Nat.{add-zero}
use Rattle.lock.proofs.steps.run.trace_at.Goals as goal

pub returns-then-is_entry : goal.returns-then-is_entry
returns-then-is_entry c = let e = sym c.is_entry.ensures ∙ c.if-is_entry.true in record { value = rw e; trace_after = rw e }

pub returns : goal.returns
returns c = let e = sym c.is_entry.ensures ∙ c.if-is_entry.false in record { value = rw (e, add-zero); trace_after = rw e }
