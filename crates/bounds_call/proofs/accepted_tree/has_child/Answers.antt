-- No domain passed is a child.
use mathlib.Core.Path.{sym, ◌∙◌}
use native.Mathlib.Omega.{arith}
use Rattle.model.proofs.Tests.{any_found, any_nowhere}
use Rattle.bounds_call.proofs.accepted_tree.has_child.Goals as goal

pub returns-then-is_child : goal.returns-then-is_child
returns-then-is_child c = sym (any_found _ _ _ c.loop-c-test.true (sym c.is_child.ensures ∙ c.if-is_child.true))

pub returns : goal.returns
returns c = sym (any_nowhere _ _ (λ j l. c.loop-c.invariant j (omega arith)))
