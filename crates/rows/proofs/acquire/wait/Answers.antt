-- `rows::acquire::wait` meets its contract: it does Wait.
use Rattle.std.proofs.Common.{refl, eq-eqb, ne_eqb}
use Rattle.model.specs.Steps.{wait_row}
use Rattle.rows.proofs.common.Staying.{unmoved}
use Rattle.rows.proofs.acquire.Acquiring.{acquire_is}
use Rattle.rows.proofs.acquire.wait.Goals as goal

pub returns-then-v-eq-LOCKED-clause-row_done : goal.returns-then-v-eq-LOCKED-clause-row_done
unfolding wait_row
returns-then-v-eq-LOCKED-clause-row_done c = record { places_kept = refl; does = λ t i ps S. rw (c.stay.ensures, ← S.0.own_is, eq-eqb _ _ c.if-l-eq0.true, eq-eqb _ _ c.if-v-eq-LOCKED.true) (record { kind_is = refl; state_left = unmoved _ i _ S.1.1 }) }

pub returns-then-l-eq0-clause-row_done : goal.returns-then-l-eq0-clause-row_done
unfolding wait_row
returns-then-l-eq0-clause-row_done c = record { places_kept = refl; does = λ t i ps S. rw (c.to.ensures, ← S.0.own_is, eq-eqb _ _ c.if-l-eq0.true, ne_eqb _ _ c.if-v-eq-LOCKED.false) (record { kind_is = refl; state_left = refl }) }

pub returns-then-v-clause-row_done : goal.returns-then-v-clause-row_done
unfolding wait_row
returns-then-v-clause-row_done c = record { places_kept = refl; does = λ t i ps S. rw (c.stay-then-v.ensures, ← S.0.own_is, ne_eqb _ _ c.if-l-eq0.false, eq-eqb _ _ c.if-v.true) (record { kind_is = refl; state_left = unmoved _ i _ S.1.1 }) }

pub returns-then-v-2-clause-row_done : goal.returns-then-v-2-clause-row_done
unfolding wait_row
returns-then-v-2-clause-row_done c = record { places_kept = refl; does = λ t i ps S. rw (c.to-then-v-2.ensures, c.acquire_place_at-next.ensures, acquire_is t _ S.1.0.root_is _, ← S.0.own_is, ne_eqb _ _ c.if-l-eq0.false, ne_eqb _ _ c.if-v.false, eq-eqb _ _ c.if-v-2.true, ← S.1.0.parent_is c.if-l-eq0.false) (record { kind_is = refl; state_left = refl }) }

pub returns-then-l-w-clause-row_done : goal.returns-then-l-w-clause-row_done
unfolding wait_row
returns-then-l-w-clause-row_done c = record { places_kept = refl; does = λ t i ps S. rw (c.to-then-l-w.ensures, ← S.0.own_is, ← S.0.home_is, ne_eqb _ _ c.if-l-eq0.false, ne_eqb _ _ c.if-v.false, ne_eqb _ _ c.if-v-2.false, eq-eqb _ _ c.if-l-w.true) (record { kind_is = refl; state_left = refl }) }

pub returns-clause-row_done : goal.returns-clause-row_done
unfolding wait_row
returns-clause-row_done c = record { places_kept = refl; does = λ t i ps S. rw (c.to-2.ensures, ← S.0.own_is, ← S.0.home_is, ne_eqb _ _ c.if-l-eq0.false, ne_eqb _ _ c.if-v.false, ne_eqb _ _ c.if-v-2.false, ne_eqb _ _ c.if-l-w.false) (record { kind_is = refl; state_left = refl }) }
