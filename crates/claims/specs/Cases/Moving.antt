-- COMPUTED CASES OF "SOMEONE CAN MOVE", document 02, (ix): states reached from fresh in which all threads except one stay; and states that a caller may pass in, in which no thread can move.
use Rattle.std.specs.Prelude.{◌≡◌, Bool, true, ◌&&◌, not, List, [], ◌∷◌, ◌++◌, ◌≢◌, ℕ, replicate}
use Rattle.model.specs.declared.TreeWords.{TreeWords}
use Rattle.model.specs.declared.State.{State}
use Rattle.model.specs.declared.Place.TheVariants.{Idle, Wait, Linger, Watch}
use Rattle.model.specs.Scans.{filter_below}
use Rattle.model.specs.Trees.{Tree, tree_of}
use Rattle.model.specs.Places.{is_idle}
use Rattle.model.specs.States.{locked, place, fresh_words, fresh_state, with_status, with_place}
use Rattle.model.specs.Steps.{stay, is_kind, step}
use Rattle.model.specs.Runs.{run}
use Rattle.model.specs.Answers.{step_answer}
use Rattle.claims.specs.Reached.{CanMove}
use Rattle.model.specs.Cases.Marked.{tree, at_ticket_root, uncounted, same_numbers, two_homes, one_home}
use Rattle.model.specs.Cases.Ticket.{two_in_ticket, three_in_ticket}

-- the threads that are not Idle
unfoldable pub busy_threads : Tree → State → List ℕ
busy_threads t s = filter_below t.threads (λ i. not (is_idle (place s i)))

-- those of them whose next step is not a stay
unfoldable pub moving_threads : Tree → State → List ℕ
moving_threads t s = filter_below t.threads (λ i. not (is_idle (place s i)) && not (is_kind stay (step t i s).kind))

-- after a schedule from fresh: the threads that are not Idle, and the only one of them that can move
pub record MoveCase : Type 0 where
  pub words : TreeWords
  pub start : ℕ
  pub schedule : List ℕ
  pub busy : List ℕ
  pub mover : ℕ

-- a case with these parts
abbrev pub move_case : TreeWords → (start : ℕ) → (schedule busy : List ℕ) → (mover : ℕ) → MoveCase
move_case w v is bs m = record { words = w; start = v; schedule = is; busy = bs; mover = m }

-- three threads at a queue root
unfoldable pub three_in_root : TreeWords
three_in_root = tree 1 3 (0 ∷ []) (0 ∷ []) (0 ∷ 0 ∷ 0 ∷ [])

-- thread 0 is Inside; thread 1's next step is Link, and thread 2 waits after it; thread 0 leaves and lingers
unfoldable pub until_lingering : List ℕ
until_lingering = 0 ∷ 0 ∷ 1 ∷ 1 ∷ 2 ∷ 2 ∷ 2 ∷ 0 ∷ 0 ∷ 0 ∷ []

-- below the root, thread 1's next step is Link; thread 0 leaves, releases the root and lingers; thread 1 links and is granted its domain
unfoldable pub until_woken : List ℕ
until_woken = replicate 4 0 ++ replicate 2 1 ++ replicate 6 0 ++ 1 ∷ 0 ∷ 0 ∷ []

-- the cases
unfoldable pub move_cases : List MoveCase
move_cases =
    -- one is Inside, the others wait for it
    move_case three_in_root 0 (0 ∷ 0 ∷ 1 ∷ 1 ∷ 1 ∷ 2 ∷ 2 ∷ 2 ∷ []) (0 ∷ 1 ∷ 2 ∷ []) 0
    -- the thread that has the lock lingers: only the one in Link can move
    ∷ move_case three_in_root 0 until_lingering (0 ∷ 1 ∷ 2 ∷ []) 1
    -- the link is there: Linger sees it
    ∷ move_case three_in_root 0 (until_lingering ++ 1 ∷ []) (0 ∷ 1 ∷ 2 ∷ []) 0
    -- granted: that thread enters
    ∷ move_case three_in_root 0 (until_lingering ++ 1 ∷ 0 ∷ 0 ∷ []) (1 ∷ 2 ∷ []) 1
    -- granted a domain: that thread goes on to the parent
    ∷ move_case one_home 0 until_woken (1 ∷ []) 1
    -- thread 2 is Inside, thread 0 waits at the root, and thread 1 waits for it at their home
    ∷ move_case two_homes 0 (replicate 4 2 ++ replicate 5 0 ++ replicate 3 1) (0 ∷ 1 ∷ 2 ∷ []) 2
    -- the same at a ticket root, where thread 0 watches
    ∷ move_case (at_ticket_root two_homes) 9 (replicate 3 2 ++ replicate 3 0 ++ replicate 3 1) (0 ∷ 1 ∷ 2 ∷ []) 2
    -- one is Inside, the others watch
    ∷ move_case three_in_ticket 65535 (0 ∷ 1 ∷ 2 ∷ []) (0 ∷ 1 ∷ 2 ∷ []) 0
    -- the grant goes from 65,535 to 0: the thread whose ticket it shows enters
    ∷ move_case three_in_ticket 65535 (0 ∷ 1 ∷ 2 ∷ 0 ∷ 0 ∷ []) (1 ∷ 2 ∷ []) 1
    ∷ []

-- whether a case holds
unfoldable pub move_holds : MoveCase → Bool
move_holds c =
    let t = tree_of c.words in
    let s = (run t c.schedule (fresh_state t c.start)).state in
    same_numbers (busy_threads t s) c.busy && same_numbers (moving_threads t s) (c.mover ∷ [])

-- whether every case of a list holds
unfoldable pub all_move : List MoveCase → Bool
all_move [] = true
all_move (c ∷ cs) = move_holds c && all_move cs

-- FALSE FOR STATES THAT A CALLER PASSES IN. A state in which a step is accepted and thread 0 is not Idle, but no thread can move
pub record NobodyMoves (w : TreeWords) (s : State) : Type 0 where
  pub accepted : (step_answer w (uncounted s) 0).number ≡ 0
  pub not_idle : place s 0 ≢ Idle
  pub nobody : ¬ CanMove (tree_of w) s

-- at a queue root thread 0 waits with LOCKED, thread 1 lingers without a next, and thread 2 is Idle
unfoldable pub dead_queue : State
dead_queue = with_place 0 (Wait 0) (with_place 1 (Linger 0) (with_status 0 locked fresh_words))

-- at a ticket root thread 0 watches with ticket 5 while the grant is 0, and thread 1 is Idle
unfoldable pub dead_ticket : State
dead_ticket = with_place 0 Watch (with_status 0 5 fresh_words)

-- no thread can move in these states
pub record DeadStates : Type 0 where
  pub of_queue : NobodyMoves three_in_root dead_queue
  pub of_ticket : NobodyMoves two_in_ticket dead_ticket
