-- `rate::rate` meets its contract: each return is the answer for the results of the tests before it.
use borrow.Author.Tests.{eq-eqb, ne_eqb}
use Rattle.rate.proofs.Tests.{answer_tested}
use Rattle.rate.proofs.rate.Goals as goal

pub returns-then-h1-eq0 : goal.returns-then-h1-eq0
returns-then-h1-eq0 c = rw (c.at.ensures, answer_tested, eq-eqb _ _ c.if-h1-eq0.true)

pub returns-then-h2-eq0 : goal.returns-then-h2-eq0
returns-then-h2-eq0 c = rw (c.at-then-h2-eq0.ensures, answer_tested, ne_eqb _ _ c.if-h1-eq0.false, eq-eqb _ _ c.if-h2-eq0.true)

pub returns-then-not-in_range : goal.returns-then-not-in_range
returns-then-not-in_range c = rw (c.at-then-not-in_range.ensures, answer_tested, ne_eqb _ _ c.if-h1-eq0.false, ne_eqb _ _ c.if-h2-eq0.false, ← c.in_range.ensures, c.if-not-in_range.true)

pub returns-then-not-in_range-2 : goal.returns-then-not-in_range-2
returns-then-not-in_range-2 c = rw (c.at-then-not-in_range-2.ensures, answer_tested, ne_eqb _ _ c.if-h1-eq0.false, ne_eqb _ _ c.if-h2-eq0.false, ← c.in_range.ensures, c.if-not-in_range.false, ← c.in_range-2.ensures, c.if-not-in_range-2.true)

pub returns-then-not-in_range-3 : goal.returns-then-not-in_range-3
returns-then-not-in_range-3 c =
    rw (c.at-then-not-in_range-3.ensures, answer_tested, ne_eqb _ _ c.if-h1-eq0.false, ne_eqb _ _ c.if-h2-eq0.false, ← c.in_range.ensures, c.if-not-in_range.false, ← c.in_range-2.ensures, c.if-not-in_range-2.false, ← c.in_range-3.ensures, c.if-not-in_range-3.true)

pub returns : goal.returns
returns c =
    rw (answer_tested, c.rate_of.ensures, ne_eqb _ _ c.if-h1-eq0.false, ne_eqb _ _ c.if-h2-eq0.false, ← c.in_range.ensures, c.if-not-in_range.false, ← c.in_range-2.ensures, c.if-not-in_range-2.false, ← c.in_range-3.ensures, c.if-not-in_range-3.false)
