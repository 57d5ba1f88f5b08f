-- `rows::acquire::swap` meets its contract: it does Swap, and starts a tenure if it finds no tail.
use Rattle.std.proofs.Common.{refl, eq-eqb, ne_eqb}
use Rattle.model.specs.Steps.{swap_row}
use Rattle.rows.proofs.acquire.Acquiring.{acquire_is}
use Rattle.rows.proofs.acquire.swap.Goals as goal

pub returns-then-old-ne0-clause-row_done : goal.returns-then-old-ne0-clause-row_done
unfolding swap_row
returns-then-old-ne0-clause-row_done c = record { places_kept = refl; does = λ t i ps S. rw (c.to.ensures, ← S.0.own_is, ne_eqb _ _ c.if-old-ne0.true) (record { kind_is = refl; state_left = refl }) }

pub returns-then-l-eq0-clause-row_done : goal.returns-then-l-eq0-clause-row_done
unfolding swap_row
returns-then-l-eq0-clause-row_done c = record { places_kept = refl; does = λ t i ps S. rw (c.to-then-l-eq0.ensures, ← S.0.own_is, eq-eqb _ _ c.if-old-ne0.false, eq-eqb _ _ c.if-l-eq0.true) (record { kind_is = refl; state_left = refl }) }

pub returns-clause-row_done : goal.returns-clause-row_done
unfolding swap_row
returns-clause-row_done c = record { places_kept = refl; does = λ t i ps S. rw (c.to-2.ensures, c.acquire_place_at-next.ensures, acquire_is t _ S.1.root_is _, ← S.0.own_is, eq-eqb _ _ c.if-old-ne0.false, ne_eqb _ _ c.if-l-eq0.false, ← S.1.parent_is c.if-l-eq0.false) (record { kind_is = refl; state_left = refl }) }
