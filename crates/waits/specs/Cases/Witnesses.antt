-- WHO MEETS WHAT THE LAWS ASK: inputs that have at once all that a law of `waits` asks of them, where no line of the cases does; docs/WITNESSES.md is the list.
use Rattle.std.specs.Prelude.{◌≡◌, true, false, List, [], ◌∷◌, replicate}
use Rattle.model.specs.declared.State.{State}
use Rattle.model.specs.Trees.{Tree, tree_of}
use Rattle.model.specs.States.{fresh_words}
use Rattle.model.specs.Steps.{Step, step}
use Rattle.model.specs.Runs.{steps, run}
use Rattle.model.specs.Counters.{fresh_lock}
use Rattle.model.specs.Cases.Marked.{two_in_root}
use Rattle.model.specs.Cases.Ticket.{three_in_ticket}
use Rattle.waits.specs.Attempts.{begins, enters}
use Rattle.waits.specs.Answers.{refused_on}
use Rattle.waits.specs.GoingOn.{Left, left_by}
use Rattle.waits.specs.Meanings.{Between}

-- 1. TWO CALLS, the second from what the first leaves, and one on the joined schedule: all three are accepted
unfoldable pub first_left : Left
first_left = left_by two_in_root fresh_lock (0 ∷ 0 ∷ []) (replicate 2 9) (replicate 15 7) (replicate 256 0)

pub record CallsMeet : Type 0 where
  pub first : (refused_on two_in_root fresh_lock (0 ∷ 0 ∷ []) (replicate 2 9) (replicate 15 7) (replicate 256 0)).number ≡ 0
  pub second : (refused_on two_in_root first_left.state (1 ∷ []) (9 ∷ []) (replicate 15 7) first_left.under_way).number ≡ 0
  pub whole : (refused_on two_in_root fresh_lock (0 ∷ 0 ∷ 1 ∷ []) (replicate 3 9) (replicate 15 7) (replicate 256 0)).number ≡ 0

-- 2. AN ATTEMPT. Three threads draw at a ticket root; thread 2 begins, thread 1 enters in between, and thread 2 enters
unfoldable pub in_ticket : Tree
in_ticket = tree_of three_in_ticket

unfoldable pub two_drawn : State
two_drawn = (run in_ticket (0 ∷ 1 ∷ []) fresh_words).state

unfoldable pub draw : Step
draw = step in_ticket 2 two_drawn

unfoldable pub between : List Step
between = steps in_ticket (0 ∷ 0 ∷ 1 ∷ 1 ∷ 1 ∷ []) draw.state

unfoldable pub entry : Step
entry = step in_ticket 2 (run in_ticket (0 ∷ 0 ∷ 1 ∷ 1 ∷ 1 ∷ []) draw.state).state

pub record AttemptMet : Type 0 where
  pub begins_there : begins in_ticket 2 draw ≡ true
  pub not_yet : enters 2 draw ≡ false
  pub meanwhile : Between in_ticket 2 between
  pub begins_no_other : begins in_ticket 2 entry ≡ false
  pub enters_there : enters 2 entry ≡ true
  -- and one that begins and finishes with the same step
  pub at_once : (begins in_ticket 0 (step in_ticket 0 fresh_words) ≡ true) × (enters 0 (step in_ticket 0 fresh_words) ≡ true)

pub record Witnesses : Type 0 where
  pub calls : CallsMeet
  pub attempt : AttemptMet
