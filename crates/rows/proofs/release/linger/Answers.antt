-- `rows::release::linger` meets its contract: it does Linger.
use Rattle.std.proofs.Common.{refl, eq-eqb, ne_eqb}
use Rattle.model.specs.Steps.{linger_row}
use Rattle.rows.proofs.common.Staying.{unmoved}
use Rattle.rows.proofs.release.linger.Goals as goal

pub returns-then-n-eq0-clause-row_done : goal.returns-then-n-eq0-clause-row_done
unfolding linger_row
returns-then-n-eq0-clause-row_done c s = record { places_kept = refl; does = λ t i ps S. rw (c.stay.ensures, ← S.0.own_is, ← S.1.0, eq-eqb _ _ c.if-n-eq0.true) (record { kind_is = refl; state_left = unmoved _ i _ S.1.1 }) }

pub returns-clause-row_done : goal.returns-clause-row_done
unfolding linger_row
returns-clause-row_done c s = record { places_kept = refl; does = λ t i ps S. rw (c.to.ensures, c.root_word_at-v.ensures, ← S.0.own_is, ← S.1.0, ne_eqb _ _ c.if-n-eq0.false) (record { kind_is = refl; state_left = refl }) }
