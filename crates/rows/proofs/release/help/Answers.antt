-- `rows::release::help` meets its contract: it does Help.
use Rattle.std.proofs.Common.{refl, eq-eqb, ne_eqb}
use Rattle.model.specs.Steps.{help_row}
use Rattle.rows.proofs.release.help.Goals as goal

pub returns-then-n-eq0-clause-row_done : goal.returns-then-n-eq0-clause-row_done
unfolding help_row
returns-then-n-eq0-clause-row_done c s = record { places_kept = refl; does = λ t i ps S. rw (c.to.ensures, ← S.0.own_is, ← S.1, eq-eqb _ _ c.if-n-eq0.true) (record { kind_is = refl; state_left = refl }) }

pub returns-clause-row_done : goal.returns-clause-row_done
unfolding help_row
returns-clause-row_done c s = record { places_kept = refl; does = λ t i ps S. rw (c.to-2.ensures, c.root_word_at-v.ensures, ← S.0.own_is, ← S.1, ne_eqb _ _ c.if-n-eq0.false) (record { kind_is = refl; state_left = refl }) }
