-- By the number of the fresh call's reply.
use mathlib.Core.Path.{ap}
use borrow.Author.Tests.{eq-eqb, ne_eqb}
use Rattle.host.specs.InPlace.{fresh_without_state, fresh_left}
use Rattle.host.proofs.hmcs_fresh_in_place.Goals as goal

pub returns-then-fresh-eq0 : goal.returns-then-fresh-eq0
unfolding fresh_left
returns-then-fresh-eq0 c = (ap fresh_without_state c.fresh_lock-fresh.ensures, rw (← c.fresh_lock-fresh.ensures, eq-eqb _ _ c.if-fresh-eq0.true))

pub returns-else-fresh-eq0 : goal.returns-else-fresh-eq0
unfolding fresh_left
returns-else-fresh-eq0 c = (ap fresh_without_state c.fresh_lock-fresh.ensures, rw (← c.fresh_lock-fresh.ensures, ne_eqb _ _ c.if-fresh-eq0.false))
