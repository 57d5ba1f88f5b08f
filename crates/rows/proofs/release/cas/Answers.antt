-- `rows::release::cas` meets its contract: it does Cas.
use Rattle.std.proofs.Common.{refl, eq-eqb, ne_eqb}
use Rattle.model.specs.Steps.{cas_row}
use Rattle.rows.proofs.release.Leaving.{done_is}
use Rattle.rows.proofs.release.cas.Goals as goal

pub returns-then-words-d-clause-row_done : goal.returns-then-words-d-clause-row_done
unfolding cas_row
returns-then-words-d-clause-row_done c = record { places_kept = refl; does = λ t i ps S. rw (c.to.ensures, ← S.own_is, ne_eqb _ _ c.if-words-d.true) (record { kind_is = refl; state_left = refl }) }

pub returns-clause-row_done : goal.returns-clause-row_done
unfolding cas_row
returns-clause-row_done c = record { places_kept = refl; does = λ t i ps S. rw (c.to-2.ensures, c.done_place_at.ensures, done_is t i _ S, ← S.own_is, eq-eqb _ _ c.if-words-d.false) (record { kind_is = refl; state_left = refl }) }
