-- `refusals::paths::record_at` meets its contract: a thread at home uses its own record, otherwise that of the domain's child on its path, which is below 320.
use mathlib.Core.Path.{ap, ◌∙◌}
use native.Mathlib.Omega.{arith}
use borrow.Author.Tests.{eq-eqb, ne_eqb}
use Rattle.model.specs.declared.Found.{Found}
use Rattle.model.proofs.Laws.Search.{same_child_from}
use Rattle.refusals.proofs.paths.record_at.Goals as goal

pub returns-then-l-home : goal.returns-then-l-home
returns-then-l-home c = (rw (eq-eqb _ _ c.if-l-home.true), omega arith)

pub returns : goal.returns
returns c = (rw (c.from.ensures, ap (λ (r : Found). r.child) c.search_at.ensures.value ∙ same_child_from 6 _ _ _ 0, ne_eqb _ _ c.if-l-home.false), omega (arith, c.search_at.ensures.child_bound))
