-- `rows::acquire::draw` meets its contract: it draws a ticket, and starts a tenure if the grant shows it.
use Rattle.std.proofs.Common.{refl, eq-eqb, ne_eqb}
use Rattle.model.specs.Steps.{draw_row}
use Rattle.rows.proofs.acquire.Acquiring.{root_own}
use Rattle.rows.proofs.acquire.draw.Goals as goal

pub returns-then-v-words-clause-row_done : goal.returns-then-v-words-clause-row_done
unfolding draw_row
returns-then-v-words-clause-row_done c = record { places_kept = refl; does = λ t i ps S. rw (c.to.ensures, root_own t i _ S c.requires.home_lt_domains.1.1, ne_eqb _ _ c.if-v-words.true, c.next_number-words.ensures, c.from.ensures) (record { kind_is = refl; state_left = refl }) }

pub returns-clause-row_done : goal.returns-clause-row_done
unfolding draw_row
returns-clause-row_done c = record { places_kept = refl; does = λ t i ps S. rw (c.to-2.ensures, root_own t i _ S c.requires.home_lt_domains.1.1, eq-eqb _ _ c.if-v-words.false, c.next_number-words.ensures, c.from.ensures) (record { kind_is = refl; state_left = refl }) }
