-- `rows::release::grant` meets its contract: it does Grant.
use Rattle.std.proofs.Common.{refl}
use Rattle.model.specs.Steps.{grant_row}
use Rattle.rows.proofs.release.Leaving.{done_is}
use Rattle.rows.proofs.release.grant.Goals as goal

pub returns-clause-row_done : goal.returns-clause-row_done
unfolding grant_row
returns-clause-row_done c = record { places_kept = refl; does = λ t i ps S. rw (c.to.ensures, c.done_place_at.ensures, done_is t i _ S) (record { kind_is = refl; state_left = refl }) }
