-- Cases of waits, in one list: rows worked out by hand, attempts that begin before the run or end after it, both kinds of root, means that reduce, refusals and their order.
use Rattle.std.specs.Prelude.{◌≡◌, Bool, true, false, ◌&&◌, ◌||◌, List, [], ◌∷◌, ◌++◌, ℕ, eqb, replicate, set}
use Rattle.model.specs.declared.TreeWords.{TreeWords}
use Rattle.model.specs.declared.State.{State}
use Rattle.model.specs.declared.LockState.{LockState}
use Rattle.model.specs.declared.RunReply.{RunReply}
use Rattle.model.specs.Trees.{tree_of}
use Rattle.model.specs.States.{fresh_words}
use Rattle.model.specs.Runs.{steps, state_after}
use Rattle.model.specs.Counters.{lock_state, fresh_lock, most_counted}
use Rattle.model.specs.Cases.Marked.{tree, at_ticket_root, two_homes, first_entries, two_in_root, three_levels, same_numbers, same_counts, same_lock, uncounted}
use Rattle.model.specs.Answers.{no_counts}
use Rattle.waits.specs.Answers.{run_part, waits_answer, waits_trace, waits_rows}

-- a call, the number and place expected, and the row buffer expected after it
pub record Case : Type 0 where
  pub words : TreeWords
  pub state : LockState
  pub schedule : List ℕ
  pub trace : List ℕ
  pub rows : List ℕ
  pub number : ℕ
  pub place : ℕ
  pub after : List ℕ

-- accepted from a state with these words, with these rows at the front of a buffer of sevens and two numbers after them
unfoldable pub rows_given : TreeWords → State → (schedule : List ℕ) → (threads : ℕ) → (rows : List ℕ) → Case
rows_given w s is n xs =
    record {
      words = w;
      state = uncounted s;
      schedule = is;
      trace = replicate 64 9;
      rows = replicate 5 7 ++ (replicate n 7 ++ replicate 2 7);
      number = 0;
      place = 0;
      after = xs ++ replicate 2 7;
    }

-- refused: both buffers are unchanged
unfoldable pub refused_from : LockState → (number place : ℕ) → TreeWords → (schedule : List ℕ) → (room row_room : ℕ) → Case
refused_from s n p w is room m =
    record { words = w; state = s; schedule = is; trace = replicate room 9; rows = replicate m 7; number = n; place = p; after = replicate m 7 }

-- refused from a fresh lock, at place 0
unfoldable pub refused_with : (number : ℕ) → TreeWords → (schedule : List ℕ) → (room row_room : ℕ) → Case
refused_with n w is room m = refused_from fresh_lock n 0 w is room m

-- fresh words, and all counters 0 except the entries of domain 1, which have the largest value
unfoldable pub full_entries : LockState
full_entries = lock_state fresh_words (record { entries = set (replicate 64 0) 1 most_counted; tenures = replicate 64 0; longest = replicate 64 0 })

-- the state after these entries from fresh
unfoldable pub reached : TreeWords → (schedule : List ℕ) → State
reached w is = state_after fresh_words (steps (tree_of w) is fresh_words)

-- the row of no attempt
unfoldable pub no_attempt : List ℕ
no_attempt = replicate 5 0

-- the row of some attempts without any wait
unfoldable pub no_wait : (attempts : ℕ) → List ℕ
no_wait n = n ∷ 0 ∷ 0 ∷ 0 ∷ 1 ∷ []

-- threads 0 and 1 take turns at a ticket root: each draws before the other enters
unfoldable pub taking_turns : List ℕ
taking_turns = 1 ∷ 0 ∷ 1 ∷ 1 ∷ 1 ∷ 0 ∷ 0 ∷ 0 ∷ 0 ∷ 1 ∷ 1 ∷ 1 ∷ 1 ∷ 0 ∷ 0 ∷ 0 ∷ 1 ∷ 1 ∷ 1 ∷ 1 ∷ []

-- the cases
unfoldable pub cases : List Case
cases =
    -- the 22 entries: one attempt each, and nobody enters between its Swap and its entry
    rows_given two_homes fresh_words (first_entries ++ 2 ∷ []) 15 (no_wait 1 ++ no_wait 1 ++ no_wait 1 ++ no_wait 3)
    -- home at the root: the Swap itself is the entry; the other thread has no attempt
    ∷ rows_given two_in_root fresh_words (0 ∷ 0 ∷ []) 10 (no_wait 1 ++ no_attempt ++ no_wait 1)
    -- thread 1 has waits 0, 1, 1, 0, with mean 2 over 4 reduced; thread 0 has waits 0, 1
    ∷ rows_given (at_ticket_root two_in_root) fresh_words taking_turns 10 ((2 ∷ 1 ∷ 1 ∷ 1 ∷ 2 ∷ []) ++ (4 ∷ 2 ∷ 1 ∷ 1 ∷ 2 ∷ []) ++ (6 ∷ 3 ∷ 1 ∷ 1 ∷ 2 ∷ []))
    -- a queue root: thread 1 queues after thread 0, which enters first; the entry of thread 0 belongs to an attempt from before the run
    ∷ rows_given two_in_root (reached two_in_root (1 ∷ 1 ∷ 0 ∷ 0 ∷ 0 ∷ [])) (1 ∷ 1 ∷ 1 ∷ 1 ∷ 1 ∷ 1 ∷ 0 ∷ 0 ∷ 0 ∷ 0 ∷ 1 ∷ []) 10 (no_attempt ++ (1 ∷ 1 ∷ 1 ∷ 1 ∷ 1 ∷ []) ++ (1 ∷ 1 ∷ 1 ∷ 1 ∷ 1 ∷ []))
    -- an attempt that began before the run: its entry finishes no attempt of the run
    ∷ rows_given two_in_root (reached two_in_root (0 ∷ 0 ∷ 1 ∷ 1 ∷ 1 ∷ [])) (0 ∷ 0 ∷ 0 ∷ 1 ∷ []) 10 (no_attempt ++ no_attempt ++ no_attempt)
    -- an attempt that the run does not finish
    ∷ rows_given two_in_root fresh_words (0 ∷ 0 ∷ 1 ∷ 1 ∷ 1 ∷ 0 ∷ []) 10 (no_wait 1 ++ no_attempt ++ no_wait 1)
    -- an entry of another thread between Prep and Swap comes before the attempt
    ∷ rows_given two_in_root fresh_words (1 ∷ 0 ∷ 0 ∷ 1 ∷ 1 ∷ 0 ∷ 0 ∷ 0 ∷ 1 ∷ []) 10 (no_wait 1 ++ no_wait 1 ++ no_wait 2)
    -- a ticket root that is home: an attempt begins with the draw, a step from Idle; the mean of all, 1 over 3, is not the mean of the two means
    ∷ rows_given (at_ticket_root two_in_root) fresh_words (0 ∷ 1 ∷ 0 ∷ 0 ∷ 0 ∷ 1 ∷ 1 ∷ 1 ∷ 0 ∷ []) 10 ((2 ∷ 1 ∷ 1 ∷ 1 ∷ 2 ∷ []) ++ no_wait 1 ++ (3 ∷ 1 ∷ 1 ∷ 1 ∷ 3 ∷ []))
    -- a ticket root that is not home: an attempt begins with the Swap at home, before the draw
    ∷ rows_given (at_ticket_root two_homes) fresh_words (0 ∷ 0 ∷ 2 ∷ 2 ∷ 2 ∷ 0 ∷ 2 ∷ 2 ∷ 2 ∷ 0 ∷ []) 15 ((1 ∷ 1 ∷ 1 ∷ 1 ∷ 1 ∷ []) ++ no_attempt ++ no_wait 1 ++ (2 ∷ 1 ∷ 1 ∷ 1 ∷ 2 ∷ []))
    -- a queue root that is not home: the Swap there begins no attempt, so an entry before it counts in the wait of the attempt that began at home
    ∷ rows_given two_homes fresh_words (replicate 2 0 ++ replicate 8 2 ++ replicate 2 0) 15 ((1 ∷ 1 ∷ 1 ∷ 1 ∷ 1 ∷ []) ++ no_attempt ++ no_wait 1 ++ (2 ∷ 1 ∷ 1 ∷ 1 ∷ 2 ∷ []))
    -- three levels, a crossed entry: the Swap between home and root begins no attempt
    ∷ rows_given three_levels fresh_words (replicate 6 0 ++ replicate 6 1 ++ replicate 4 0 ++ 1 ∷ []) 10 (no_wait 1 ++ no_wait 1 ++ no_wait 2)
    -- an empty schedule
    ∷ rows_given two_in_root fresh_words [] 10 (no_attempt ++ no_attempt ++ no_attempt)
    -- the last row is incomplete, and an empty buffer
    ∷ refused_with 18 two_in_root (0 ∷ 0 ∷ []) 2 14
    ∷ refused_with 18 two_in_root [] 0 0
    -- 12 and 13 come before 18, and 12 before 13
    ∷ refused_with 13 two_in_root (0 ∷ 0 ∷ []) 1 0
    ∷ refused_with 12 two_in_root (2 ∷ []) 0 14
    ∷ refused_with 5 (tree 1 0 (0 ∷ []) (0 ∷ []) []) [] 0 0
    -- an entry would raise a counter above 2^63: 13 and 18 come before 19; 19 has the entry's position if the buffers are long enough
    ∷ refused_from full_entries 13 0 two_homes (replicate 4 0) 3 20
    ∷ refused_from full_entries 18 0 two_homes (replicate 4 0) 4 19
    ∷ refused_from full_entries 19 3 two_homes (replicate 4 0) 4 20 ∷ []

-- WHEN A LINE HOLDS: the run's reply and both buffers after it. If refused: all counts 0, state and trace unchanged
abbrev pub nothing_done : RunReply → (traced : List ℕ) → Case → Bool
nothing_done r tr c = (same_counts r.counts no_counts && same_lock r.state c.state) && same_numbers tr c.trace

-- number, place and rows are as expected, and a refused call has changed nothing
abbrev pub answered : RunReply → (traced rows : List ℕ) → Case → Bool
answered r tr xs c =
    ((eqb r.number c.number && eqb r.place c.place) && (eqb r.number 0 || nothing_done r tr c)) && same_numbers xs c.after

-- whether a case holds
unfoldable pub holds : Case → Bool
holds c =
    answered (run_part (waits_answer c.words c.state c.schedule c.trace c.rows)) (waits_trace c.words c.state c.schedule c.trace c.rows)
    (waits_rows c.words c.state c.schedule c.trace c.rows) c

-- whether every case of a list holds
unfoldable pub all_hold : List Case → Bool
all_hold [] = true
all_hold (c ∷ cs) = holds c && all_hold cs

-- EVERY PART MATTERS: the right answer to a refused case, and answers that are wrong only in the number, the place, the counts, the state, the trace or the rows. A reply with these parts
abbrev pub reply : (number place stays : ℕ) → LockState → RunReply
reply n p k s = record { number = n; place = p; counts = record { steps = 0; entries = 0; stays = k; root = 0; passed = 0; crossed = 0 }; state = s }

-- whether each of them is accepted for the case
unfoldable pub parts : List Bool
parts =
    let c = refused_with 18 two_in_root (0 ∷ 0 ∷ []) 2 3 in
    let trace : List ℕ = replicate 2 9 in
    let rows : List ℕ = replicate 3 7 in
    answered (reply 18 0 0 fresh_lock) trace rows c
    ∷ answered (reply 13 0 0 fresh_lock) trace rows c
    ∷ answered (reply 18 1 0 fresh_lock) trace rows c
    ∷ answered (reply 18 0 1 fresh_lock) trace rows c
    ∷ answered (reply 18 0 0 full_entries) trace rows c
    ∷ answered (reply 18 0 0 fresh_lock) (0 ∷ 9 ∷ []) rows c
    ∷ answered (reply 18 0 0 fresh_lock) trace (7 ∷ 7 ∷ 0 ∷ []) c ∷ []

-- only the right answer is
unfoldable pub EveryPart : Type 0
EveryPart = parts ≡ true ∷ replicate 6 false
