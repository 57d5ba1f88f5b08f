-- The definition's two cases, at the root and below it.
use borrow.Author.Tests.{eq-eqb, ne_eqb}
use Rattle.model.specs.Acts.{sends_inside}
use Rattle.chain_call.proofs.tables.sends_inside.Goals as goal

pub returns-then-l-eq0 : goal.returns-then-l-eq0
unfolding sends_inside
returns-then-l-eq0 c = rw (eq-eqb _ _ c.if-l-eq0.true)

pub returns-else-l-eq0 : goal.returns-else-l-eq0
unfolding sends_inside
returns-else-l-eq0 c = rw (ne_eqb _ _ c.if-l-eq0.false)
