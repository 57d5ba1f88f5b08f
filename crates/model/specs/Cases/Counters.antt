-- COMPUTED CASES of the counters, document 02, (vii): what runs leave in them, at both kinds of root; refusal 10 for each reason that concerns counters; and refusal 19 where a step would raise a counter above 2^63.
use Rattle.std.specs.Prelude.{◌≡◌, Bool, true, ◌&&◌, List, [], ◌∷◌, ◌++◌, ℕ, zero, suc, eqb, length, replicate}
use Rattle.model.specs.declared.TreeWords.{TreeWords}
use Rattle.model.specs.declared.Place.TheVariants.{Watch, Raise}
use Rattle.model.specs.declared.State.{State}
use Rattle.model.specs.declared.Counters.{Counters}
use Rattle.model.specs.declared.LockState.{LockState}
use Rattle.model.specs.declared.StepReply.{StepReply}
use Rattle.model.specs.declared.RunReply.{RunReply}
use Rattle.model.specs.Trees.{tree_of}
use Rattle.model.specs.States.{fresh_words, with_status, with_place}
use Rattle.model.specs.Runs.{run}
use Rattle.model.specs.Counters.{lock_state, most_counted}
use Rattle.model.specs.Answers.{step_answer, run_answer, trace_answer}
use Rattle.model.specs.Cases.Marked.{padded, tree, at_ticket_root, counters as ticket_counters, two_homes, first_entries, same_numbers, same_counters, same_lock, uncounted}

-- counters given by their first numbers, starting at the root; the other slots are 0
unfoldable pub counters : (entries tenures longest : List ℕ) → Counters
counters es ns ls = record { entries = padded 64 es; tenures = padded 64 ns; longest = padded 64 ls }

-- the forms of a case
pub data Case : Type 0 where
  -- an accepted run from fresh words and counters, and the counters after it
  leaves : TreeWords → (schedule : List ℕ) → Counters → Case
  -- a run from fresh words and these counters, with a trace buffer of this length: number and place; if refused, state and trace are unchanged
  run_with : TreeWords → Counters → (schedule : List ℕ) → (room number place : ℕ) → Case
  -- a step from the words after a schedule, with these counters
  step_with : TreeWords → (before : List ℕ) → Counters → (thread number place : ℕ) → Case
  -- an accepted step from these words and fresh counters, and the counters after it
  step_leaves : TreeWords → State → (thread : ℕ) → Counters → Case

-- domain 1 below the root; below it the leaves 2 and 3 with one thread each; all thresholds 1
unfoldable pub two_below : TreeWords
two_below = tree 4 2 (0 ∷ 0 ∷ 1 ∷ 1 ∷ []) (0 ∷ 1 ∷ 1 ∷ 1 ∷ []) (2 ∷ 3 ∷ [])

-- a leaf below the root with threads 0 and 1, threshold 1
unfoldable pub one_pass : TreeWords
one_pass = tree 2 2 (0 ∷ 0 ∷ []) (0 ∷ 1 ∷ []) (1 ∷ 1 ∷ [])

-- the leaves 1 and 2 below the root, thresholds 2, with threads 0 and 1
unfoldable pub two_leaves : TreeWords
two_leaves = tree 3 2 (0 ∷ 0 ∷ 0 ∷ []) (0 ∷ 2 ∷ 2 ∷ []) (1 ∷ 2 ∷ [])

-- the leaves 1, 2 and 3 below the root, thresholds 2, with one thread each
unfoldable pub three_leaves : TreeWords
three_leaves = tree 4 3 (0 ∷ 0 ∷ 0 ∷ 0 ∷ []) (0 ∷ 2 ∷ 2 ∷ 2 ∷ []) (1 ∷ 2 ∷ 3 ∷ [])

-- thread 0 is about to raise the grant to 6, and the threads of leaves 2 and 3 watch with ticket 6
unfoldable pub two_watch : State
two_watch = with_place 0 Raise (with_place 1 Watch (with_place 2 Watch (with_status 258 6 (with_status 259 6 (ticket_counters 7 5 fresh_words)))))

-- the largest value of a counter
abbrev pub limit : ℕ
limit = most_counted

-- the cases
unfoldable pub cases : List Case
cases =
    -- the 22 entries: domain 1 has one tenure of length 2 with two entries, domain 2 one tenure of length 1 with one entry
    leaves two_homes (first_entries ++ 2 ∷ []) (counters (0 ∷ 2 ∷ 1 ∷ []) (0 ∷ 1 ∷ 1 ∷ []) (0 ∷ 2 ∷ 1 ∷ []))
    -- a Check that finds a successor counts before its Grant
    ∷ leaves two_homes (replicate 4 0 ++ replicate 3 1 ++ 0 ∷ []) (counters (0 ∷ 1 ∷ []) (0 ∷ 1 ∷ []) (0 ∷ 1 ∷ []))
    ∷ leaves two_homes (replicate 4 0 ++ replicate 3 1 ++ replicate 2 0) (counters (0 ∷ 1 ∷ []) (0 ∷ 1 ∷ []) (0 ∷ 2 ∷ []))
    -- ACQUIRE_PARENT granted to a thread starts no tenure; the domain's next Swap above does
    ∷ leaves one_pass (replicate 4 0 ++ replicate 3 1 ++ replicate 6 0) (counters (0 ∷ 1 ∷ []) (0 ∷ 1 ∷ []) (0 ∷ 1 ∷ []))
    ∷ leaves one_pass (replicate 4 0 ++ replicate 3 1 ++ replicate 6 0 ++ replicate 3 1) (counters (0 ∷ 2 ∷ []) (0 ∷ 2 ∷ []) (0 ∷ 1 ∷ []))
    -- ACQUIRE_PARENT granted to a domain's record starts one; an entry counts in each domain of the path except the root
    ∷ leaves two_below (replicate 6 0 ++ replicate 5 1 ++ replicate 6 0) (counters (0 ∷ 1 ∷ 1 ∷ 0 ∷ []) (0 ∷ 1 ∷ 1 ∷ 0 ∷ []) (0 ∷ 1 ∷ 1 ∷ 0 ∷ []))
    ∷ leaves two_below (replicate 6 0 ++ replicate 5 1 ++ replicate 7 0) (counters (0 ∷ 1 ∷ 1 ∷ 0 ∷ []) (0 ∷ 1 ∷ 1 ∷ 1 ∷ []) (0 ∷ 1 ∷ 1 ∷ 1 ∷ []))
    -- at a ticket root: a draw that goes Inside, and a raise that shows a ticket
    ∷ leaves (at_ticket_root two_leaves) (replicate 3 0 ++ replicate 3 1 ++ replicate 2 0) (counters (0 ∷ 1 ∷ []) (0 ∷ 1 ∷ []) (0 ∷ 1 ∷ []))
    ∷ leaves (at_ticket_root two_leaves) (replicate 3 0 ++ replicate 3 1 ++ replicate 3 0) (counters (0 ∷ 1 ∷ []) (0 ∷ 1 ∷ 1 ∷ []) (0 ∷ 1 ∷ 1 ∷ []))
    -- a raise that shows the tickets of two children at once starts a tenure of each
    ∷ step_leaves (at_ticket_root three_leaves) two_watch 0 (counters [] (0 ∷ 0 ∷ 1 ∷ 1 ∷ []) (0 ∷ 0 ∷ 1 ∷ 1 ∷ []))
    -- 10: the root and unused slots
    ∷ run_with two_homes (counters (1 ∷ []) [] []) [] 0 10 0
    ∷ run_with two_homes (counters [] (1 ∷ []) []) [] 0 10 0
    ∷ run_with two_homes (counters [] [] (1 ∷ [])) [] 0 10 0
    ∷ run_with two_homes (counters (replicate 3 0 ++ 1 ∷ []) [] []) [] 0 10 0
    ∷ run_with two_homes (counters [] (replicate 3 0 ++ 1 ∷ []) []) [] 0 10 0
    ∷ run_with two_homes (counters [] [] (replicate 3 0 ++ 1 ∷ [])) [] 0 10 0
    -- 10: a longest tenure above the threshold, a counter above 2^63; values equal to these limits pass
    ∷ run_with two_homes (counters [] [] (0 ∷ 3 ∷ [])) [] 0 10 0
    ∷ run_with two_homes (counters (0 ∷ limit ∷ limit ∷ []) (0 ∷ limit ∷ []) (0 ∷ 2 ∷ 16 ∷ [])) [] 0 0 0
    ∷ run_with two_homes (counters (0 ∷ 9223372036854775809 ∷ []) [] []) [] 0 10 0
    ∷ run_with two_homes (counters [] (0 ∷ 0 ∷ 9223372036854775809 ∷ []) []) [] 0 10 0
    -- 19: the entry at position 5 and the tenure at position 3 would exceed 2^63; with a counter one lower they pass
    ∷ run_with two_below (counters (0 ∷ 0 ∷ limit ∷ []) [] []) (replicate 6 0) 6 19 5
    ∷ run_with two_below (counters [] (0 ∷ 0 ∷ limit ∷ []) []) (replicate 6 0) 6 19 3
    ∷ run_with two_below (counters (0 ∷ 9223372036854775807 ∷ []) (0 ∷ 9223372036854775807 ∷ []) []) (replicate 6 0) 6 0 0
    ∷ run_with two_below (counters (0 ∷ 0 ∷ limit ∷ []) [] []) (replicate 5 0) 5 0 0
    ∷ step_with two_below (replicate 5 0) (counters (0 ∷ 0 ∷ limit ∷ []) [] []) 0 19 0
    ∷ step_with two_below (replicate 4 0) (counters (0 ∷ 0 ∷ limit ∷ []) [] []) 0 0 0
    -- 12 and 13 come before 19
    ∷ run_with two_below (counters (0 ∷ 0 ∷ limit ∷ []) [] []) (replicate 6 0 ++ 2 ∷ []) 7 12 6
    ∷ run_with two_below (counters (0 ∷ 0 ∷ limit ∷ []) [] []) (replicate 6 0) 5 13 0
    ∷ []

-- the buffer of a run; none of its numbers is a thread
abbrev pub buffer : (room : ℕ) → List ℕ
buffer n = replicate n 999

-- a run's reply: accepted, with these counters
abbrev pub counters_are : RunReply → Counters → Bool
counters_are r c = (eqb r.number 0 && eqb r.place 0) && same_counters r.state.counters c

-- a run's reply: this number and place; if refused, 0 steps, state and buffer unchanged
unfoldable pub run_replies : (number place : ℕ) → RunReply → (traced : List ℕ) → LockState → (room : ℕ) → Bool
run_replies zero p r tr s n = eqb r.number 0 && eqb r.place 0
run_replies (suc k) p r tr s n =
    (eqb r.number (suc k) && eqb r.place p) && (eqb r.counts.steps 0 && (same_lock r.state s && same_numbers tr (buffer n)))

-- a step's reply: this number and place; if refused, kind and domain 0 and the state unchanged
unfoldable pub step_replies : (number place : ℕ) → StepReply → LockState → Bool
step_replies zero p r s = eqb r.number 0 && eqb r.place 0
step_replies (suc k) p r s = (eqb r.number (suc k) && eqb r.place p) && (eqb r.kind 0 && (eqb r.domain 0 && same_lock r.state s))

-- whether a case holds
unfoldable pub holds : Case → Bool
holds (leaves w is c) = counters_are (run_answer w (uncounted fresh_words) is (buffer (length is))) c
holds (run_with w c is n k p) =
    let s = lock_state fresh_words c in
    run_replies k p (run_answer w s is (buffer n)) (trace_answer w s is (buffer n)) s n
holds (step_with w is c i k p) =
    let s = lock_state (run (tree_of w) is fresh_words).state c in
    step_replies k p (step_answer w s i) s
holds (step_leaves w s i c) =
    let r = step_answer w (uncounted s) i in
    (eqb r.number 0 && eqb r.place 0) && same_counters r.state.counters c

-- whether every case of a list holds
unfoldable pub all_hold : List Case → Bool
all_hold [] = true
all_hold (c ∷ cs) = holds c && all_hold cs

-- all these cases hold
unfoldable pub CounterCasesHold : Type 0
CounterCasesHold = all_hold cases ≡ true
