-- `rows::common::taken_at` meets its contract: 0 at home, else the result of the search.
use Rattle.std.proofs.Common.{ap, ◌∙◌, ne_eqb}
use Rattle.model.proofs.Laws.Search.{same_child_from}
use Rattle.rows.proofs.common.taken_at.Goals as goal

pub returns-clause-value : goal.returns-clause-value
returns-clause-value c = rw (ne_eqb _ _ c.if-l-home.false) (ap (λ x. x.child) c.search_at.ensures.value ∙ same_child_from 6 _ _ _ 0)
