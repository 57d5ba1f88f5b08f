-- `rows::release::leave` meets its contract: the thread leaves.
use Rattle.std.proofs.Common.{refl}
use Rattle.model.specs.Steps.{leave_row}
use Rattle.rows.proofs.release.Leaving.{release_is}
use Rattle.rows.proofs.release.leave.Goals as goal

pub returns-clause-row_done : goal.returns-clause-row_done
unfolding leave_row
returns-clause-row_done c s = record { places_kept = refl; does = λ t i ps S. rw (c.to.ensures, c.release_place_at.ensures, release_is t _ S.1 _, ← S.0) (record { kind_is = refl; state_left = refl }) }
