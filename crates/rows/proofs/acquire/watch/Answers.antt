-- `rows::acquire::watch` meets its contract: it does Watch.
use Rattle.std.proofs.Common.{refl, eq-eqb, ne_eqb}
use Rattle.model.specs.Steps.{watch_row}
use Rattle.rows.proofs.common.Staying.{unmoved}
use Rattle.rows.proofs.acquire.Acquiring.{root_own}
use Rattle.rows.proofs.acquire.watch.Goals as goal

pub returns-then-v-from-clause-row_done : goal.returns-then-v-from-clause-row_done
unfolding watch_row
returns-then-v-from-clause-row_done c s = record { places_kept = refl; does = λ t i ps S. rw (c.stay.ensures, root_own t i _ S.0 c.requires.home_lt_domains.1, ← S.1.0, ← S.1.1.0, ← c.from.ensures, ne_eqb _ _ c.if-v-from.true) (record { kind_is = refl; state_left = unmoved _ i _ S.1.1.1 }) }

pub returns-clause-row_done : goal.returns-clause-row_done
unfolding watch_row
returns-clause-row_done c s = record { places_kept = refl; does = λ t i ps S. rw (c.to.ensures, root_own t i _ S.0 c.requires.home_lt_domains.1, ← S.1.0, ← S.1.1.0, ← c.from.ensures, eq-eqb _ _ c.if-v-from.false) (record { kind_is = refl; state_left = refl }) }
