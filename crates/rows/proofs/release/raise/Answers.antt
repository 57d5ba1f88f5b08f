-- `rows::release::raise` meets its contract: it does Raise.
use Rattle.std.proofs.Common.{refl}
use Rattle.model.specs.Steps.{raise_row}
use Rattle.rows.proofs.release.Leaving.{root_done}
use Rattle.rows.proofs.release.raise.Goals as goal

pub returns-clause-row_done : goal.returns-clause-row_done
unfolding raise_row
returns-clause-row_done c = record { places_kept = refl; does = λ t i ps S. rw (c.to.ensures, c.done_place_at.ensures, root_done t i _ S c.requires, c.next_number-words.ensures) (record { kind_is = refl; state_left = refl }) }
