-- The tree's refusal with zeros, or the rounds and turns.
use Rattle.bounds_call.proofs.Answers.{rounds_refused, rounds_accepted}
use Rattle.bounds_call.proofs.rounds.Goals as goal

pub returns-in-Ok : goal.returns-in-Ok
returns-in-Ok c = rounds_accepted _ _ _ c.in-Ok.ensures.refused c.in-Ok.ensures.rounds c.in-Ok.ensures.turns

pub returns-in-Err : goal.returns-in-Err
returns-in-Err c = rw c.number.ensures (rounds_refused _ _ c.in-Err.ensures.refused)
