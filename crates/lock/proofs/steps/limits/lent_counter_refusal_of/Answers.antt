-- `lock::steps::limits::lent_counter_refusal_of` meets its contract: no schedule can reach the limit, or the lowest position is searched.
use Rattle.lock.proofs.steps.CounterLimits.{has_room, is_above, is_none}
use Rattle.lock.proofs.steps.limits.lent_counter_refusal_of.Goals as goal

pub returns-then-has_room : goal.returns-then-has_room
returns-then-has_room c = has_room _ _ _ c.requires _ c.has_room.ensures c.if-has_room.true

pub returns-in-Some : goal.returns-in-Some
returns-in-Some c = rw c.at.ensures (is_above _ _ _ _ c.in-Some.ensures.lowest c.in-Some.ensures.found)

pub returns-in-None : goal.returns-in-None
returns-in-None c = is_none _ _ _ c.in-None.ensures.lowest
