-- `rows::acquire::link` meets its contract: it does Link.
use Rattle.std.proofs.Common.{refl}
use Rattle.model.specs.Steps.{link_row}
use Rattle.rows.proofs.acquire.link.Goals as goal

pub returns-clause-row_done : goal.returns-clause-row_done
unfolding link_row
returns-clause-row_done c = record { places_kept = refl; does = λ t i ps S. rw (c.to.ensures, ← S.own_is) (record { kind_is = refl; state_left = refl }) }
