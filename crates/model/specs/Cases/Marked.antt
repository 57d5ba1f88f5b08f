-- The cases marked * in document 01, "Ladder of cases", with Inside in an unused slot, a case with three levels, and steps with their whole states, in one table; and an allowance that is reached.
use Rattle.std.specs.Prelude.{Bool, true, false, ◌&&◌, List, [], ◌∷◌, ◌++◌, ℕ, zero, suc, ◌-◌, eqb, length, drop, replicate}
use Rattle.model.specs.declared.TreeWords.{TreeWords}
use Rattle.model.specs.declared.Place.TheVariants.{Idle, Prep, Swap, Wait, Inside, Check, Help, Linger, Grant}
use Rattle.model.specs.declared.State.{State}
use Rattle.model.specs.declared.Counters.{Counters}
use Rattle.model.specs.declared.LockState.{LockState}
use Rattle.model.specs.declared.Counts.{Counts}
use Rattle.model.specs.declared.StepReply.{StepReply}
use Rattle.model.specs.declared.RunReply.{RunReply}
use Rattle.model.specs.declared.PlaceArrays.{PlaceArrays}
use Rattle.model.specs.Trees.{tree_of, allowance}
use Rattle.model.specs.States.{acquire_parent, wait_word, locked, fresh_words, with_tail, with_next, with_status, with_place, with_ticket, with_grant}
use Rattle.model.specs.Runs.{steps, state_after, begun, ended, entries_under, occurrences}
use Rattle.model.specs.Counters.{lock_state, fresh_counters}
use Rattle.model.specs.Answers.{no_counts, fresh_answer, step_answer, run_answer, trace_answer}

-- INPUTS. A list filled up with 0 to a given length
unfoldable pub padded : (room : ℕ) → List ℕ → List ℕ
padded n xs = xs ++ replicate (n - length xs) 0

-- a tree with a queue root, given by its numbers of domains and threads, its parents, thresholds and homes
unfoldable pub tree : (domains threads : ℕ) → (parents thresholds homes : List ℕ) → TreeWords
tree d t ps hs is = record { domains = d; threads = t; parents = padded 64 ps; thresholds = padded 64 hs; homes = padded 256 is; ticket_root = 0 }

-- the same tree with a ticket root
unfoldable pub at_ticket_root : TreeWords → TreeWords
at_ticket_root w =
    record {
      domains = w.domains;
      threads = w.threads;
      parents = w.parents;
      thresholds = w.thresholds;
      homes = w.homes;
      ticket_root = 1;
    }

-- consecutive numbers, as many as given
unfoldable pub count_up : (from many : ℕ) → List ℕ
count_up k zero = []
count_up k (suc n) = k ∷ count_up (suc k) n

-- ANSWERS, as the program prints them: ok with steps, entries, stays, root entries, passed entries, crossed entries and the trace; or refused with number and place
pub record Expected : Type 0 where
  pub number : ℕ
  pub place : ℕ
  pub counts : Counts
  pub trace : List ℕ

-- accepted, with these counts and this trace
unfoldable pub ok : (steps entries stays root passed crossed : ℕ) → (trace : List ℕ) → Expected
ok a b c d e f tr = record { number = 0; place = 0; counts = record { steps = a; entries = b; stays = c; root = d; passed = e; crossed = f }; trace = tr }

-- refused, with this number and place
unfoldable pub refused : (number place : ℕ) → Expected
refused n p = record { number = n; place = p; counts = no_counts; trace = [] }

-- accepted, with all counts 0
unfoldable pub passes : Expected
passes = ok 0 0 0 0 0 0 []

-- THE TABLE'S LINES: what a fresh call, a step from a state, and a run from a state are expected to answer. The trace buffer is as long as the schedule. All counters are fresh; Counters.antt has the cases with other counters
pub data Case : Type 0 where
  -- a fresh call with a start that is not used: the state is 0 throughout
  fresh_call : TreeWords → Expected → Case
  -- an accepted fresh call with a start, and the value of both ticket counters after it
  fresh_starts : TreeWords → (start counters : ℕ) → Case
  -- a refused step; its kind and domain are 0
  step_call : TreeWords → State → (thread : ℕ) → Expected → Case
  -- an accepted step: the number of its kind, its domain and the whole state after it
  step_gives : TreeWords → (before : State) → (thread : ℕ) → (kind domain : ℕ) → (after : State) → Case
  run_call : TreeWords → State → (schedule : List ℕ) → Expected → Case

-- the tree of document 01's printed input: two domains below the root, thresholds 2 and 16; two threads in the first, one in the second
unfoldable pub two_homes : TreeWords
two_homes = tree 3 3 (0 ∷ 0 ∷ 0 ∷ []) (0 ∷ 2 ∷ 16 ∷ []) (1 ∷ 1 ∷ 2 ∷ [])

-- the 22 entries of that input without the last
unfoldable pub first_entries : List ℕ
first_entries = 0 ∷ 0 ∷ 0 ∷ 0 ∷ 1 ∷ 1 ∷ 1 ∷ 1 ∷ 0 ∷ 0 ∷ 0 ∷ 1 ∷ 2 ∷ 2 ∷ 2 ∷ 2 ∷ 2 ∷ 1 ∷ 1 ∷ 1 ∷ 1 ∷ []

-- one domain, one thread
unfoldable pub root_alone : TreeWords
root_alone = tree 1 1 (0 ∷ []) (0 ∷ []) (0 ∷ [])

-- one domain, two threads
unfoldable pub two_in_root : TreeWords
two_in_root = tree 1 2 (0 ∷ []) (0 ∷ []) (0 ∷ 0 ∷ [])

-- two threads in one domain below the root, threshold 2
unfoldable pub one_home : TreeWords
one_home = tree 2 2 (0 ∷ 0 ∷ []) (0 ∷ 2 ∷ []) (1 ∷ 1 ∷ [])

-- three levels: domain 1 below the root, threshold 2; below it two domains with one thread each, thresholds 1
unfoldable pub three_levels : TreeWords
three_levels = tree 4 2 (0 ∷ 0 ∷ 1 ∷ 1 ∷ []) (0 ∷ 2 ∷ 1 ∷ 1 ∷ []) (2 ∷ 3 ∷ [])

-- four levels: domain 1 below the root, threshold 2; below it two domains, thresholds 1, and below each of them a domain with one thread, threshold 1
unfoldable pub four_levels : TreeWords
four_levels = tree 6 2 (0 ∷ 0 ∷ 1 ∷ 2 ∷ 1 ∷ 4 ∷ []) (0 ∷ 2 ∷ 1 ∷ 1 ∷ 1 ∷ 1 ∷ []) (3 ∷ 5 ∷ [])

-- the cases
unfoldable pub cases : List Case
cases =
    -- the 22 entries
    run_call two_homes fresh_words (first_entries ++ 2 ∷ []) (ok 22 3 1 2 1 0 (0 ∷ 1 ∷ 2 ∷ []))
    -- no domains
    ∷ fresh_call (tree 0 1 [] [] (0 ∷ [])) (refused 4 0)
    -- 64 domains, a thread in every leaf
    ∷ fresh_call (tree 64 63 (replicate 64 0) (replicate 64 1) (count_up 1 63)) passes
    -- 65 domains
    ∷ fresh_call (tree 65 63 (replicate 64 0) (replicate 64 1) (count_up 1 63)) (refused 4 0)
    -- 256 threads
    ∷ fresh_call (tree 2 256 (0 ∷ 0 ∷ []) (0 ∷ 1 ∷ []) (replicate 256 1)) passes
    -- 257 threads
    ∷ fresh_call (tree 2 257 (0 ∷ 0 ∷ []) (0 ∷ 1 ∷ []) (replicate 256 1)) (refused 5 0)
    -- a chain of 6 domains
    ∷ fresh_call (tree 6 1 (0 ∷ count_up 0 5) (0 ∷ replicate 5 1) (5 ∷ [])) passes
    -- a chain of 7 domains
    ∷ fresh_call (tree 7 1 (0 ∷ count_up 0 6) (0 ∷ replicate 6 1) (6 ∷ [])) (refused 7 6)
    -- threshold 0 at domain 1 together with parent 2 at domain 2
    ∷ fresh_call (tree 3 1 (0 ∷ 0 ∷ 2 ∷ []) (0 ∷ 0 ∷ 1 ∷ []) (1 ∷ [])) (refused 6 2)
    -- a parent that is not below its domain is refused before the level it would give
    ∷ fresh_call (tree 8 1 (replicate 7 0 ++ 7 ∷ []) (0 ∷ replicate 7 1) (1 ∷ [])) (refused 6 7)
    -- an empty leaf next to one with a thread
    ∷ fresh_call (tree 3 1 (0 ∷ 0 ∷ 0 ∷ []) (0 ∷ 2 ∷ 16 ∷ []) (1 ∷ [])) (refused 16 2)
    -- an inner domain whose leaves are all empty: its own number is the lower one
    ∷ fresh_call (tree 5 2 (0 ∷ 0 ∷ 0 ∷ 1 ∷ 1 ∷ []) (0 ∷ replicate 4 1) (2 ∷ 2 ∷ [])) (refused 16 1)
    -- two empty leaves: the lower one is the place
    ∷ fresh_call (tree 4 1 (replicate 4 0) (0 ∷ replicate 3 1) (2 ∷ [])) (refused 16 1)
    -- an empty leaf, and a home that is no leaf: 9 comes first
    ∷ fresh_call (tree 3 2 (0 ∷ 0 ∷ 0 ∷ []) (0 ∷ 2 ∷ 16 ∷ []) (1 ∷ 0 ∷ [])) (refused 9 1)
    -- an empty leaf and a state that is not well formed: 16 comes before 10
    ∷ step_call (tree 3 1 (0 ∷ 0 ∷ 0 ∷ []) (0 ∷ 2 ∷ 16 ∷ []) (1 ∷ [])) (with_place 0 (Check 0) fresh_words) 0 (refused 16 2)
    ∷ run_call (tree 3 1 (0 ∷ 0 ∷ 0 ∷ []) (0 ∷ 2 ∷ 16 ∷ []) (1 ∷ [])) (with_place 0 (Check 0) fresh_words) (0 ∷ []) (refused 16 2)
    -- one domain, one thread, entries 0 0
    ∷ run_call root_alone fresh_words (0 ∷ 0 ∷ []) (ok 2 1 0 1 0 0 (0 ∷ []))
    -- the empty schedule: all counts 0
    ∷ run_call root_alone fresh_words [] passes
    -- 0 four times, 1 twice, 0 seven times, then 1 0 0 1 1 1
    ∷ run_call one_home fresh_words (replicate 4 0 ++ replicate 2 1 ++ replicate 7 0 ++ 1 ∷ 0 ∷ 0 ∷ 1 ∷ 1 ∷ 1 ∷ []) (ok 19 2 1 2 0 0 (0 ∷ 1 ∷ []))
    -- the 22 entries with the last one changed to 3
    ∷ run_call two_homes fresh_words (first_entries ++ 3 ∷ []) (refused 12 21)
    -- Check at the root in the given state
    ∷ step_call root_alone (with_place 0 (Check 0) fresh_words) 0 (refused 10 0)
    -- Inside in an unused slot
    ∷ step_call root_alone (with_place 1 Inside fresh_words) 0 (refused 10 0)
    -- Swap at the root that finds no tail: UNLOCKED
    ∷ step_gives root_alone (with_place 0 (Swap 0) (with_status 0 locked fresh_words)) 0 2 0 (with_place 0 Inside (with_tail 0 1 fresh_words))
    -- Wait at the root with a status that no schedule reaches: any status except LOCKED goes Inside
    ∷ step_gives root_alone (with_place 0 (Wait 0) (with_status 0 7 fresh_words)) 0 2 0 (with_place 0 Inside (with_status 0 7 fresh_words))
    -- Check with status 0 grants 1
    ∷ step_gives one_home (with_place 0 (Check 1) (with_next 0 2 fresh_words)) 0 1 1 (with_place 0 (Grant 1 1 1) (with_next 0 2 fresh_words))
    -- Check with a status above the threshold releases the parent first
    ∷ step_gives one_home (with_place 0 (Check 1) (with_next 0 2 (with_status 0 900 fresh_words))) 0 1 1 (with_place 0 (Help 0) (with_next 0 2 (with_status 0 900 fresh_words)))
    -- Help at the root: UNLOCKED is granted
    ∷ step_gives two_in_root (with_place 0 (Help 0) (with_next 0 2 fresh_words)) 0 1 0 (with_place 0 (Grant 0 1 0) (with_next 0 2 fresh_words))
    -- Grant writes only the status of its record
    ∷ step_gives two_in_root (with_place 0 (Grant 0 1 0) (with_next 0 2 (with_status 1 locked fresh_words))) 0 1 0 (with_place 0 Idle (with_next 0 2 fresh_words))
    -- Linger stays without a next, and goes on to grant with one
    ∷ step_gives two_in_root (with_place 0 (Linger 0) fresh_words) 0 0 0 (with_place 0 (Linger 0) fresh_words)
    ∷ step_gives two_in_root (with_place 0 (Linger 0) (with_next 0 2 fresh_words)) 0 1 0 (with_place 0 (Grant 0 1 0) (with_next 0 2 fresh_words))
    -- Prep at home does the same as Idle
    ∷ step_gives one_home (with_place 0 (Prep 1) fresh_words) 0 1 1 (with_place 0 (Swap 1) (with_status 0 wait_word fresh_words))
    -- Prep clears an old next
    ∷ step_gives one_home (with_place 0 (Prep 1) (with_next 0 2 fresh_words)) 0 1 1 (with_place 0 (Swap 1) (with_status 0 wait_word fresh_words))
    -- Idle and leaving are at home
    ∷ step_gives one_home fresh_words 0 1 1 (with_place 0 (Swap 1) (with_status 0 wait_word fresh_words))
    ∷ step_gives one_home (with_place 1 Inside fresh_words) 1 5 1 (with_place 1 (Check 1) fresh_words)
    -- Wait at home: WAIT stays, a count gives a passed entry
    ∷ step_gives one_home (with_place 0 (Wait 1) (with_status 0 wait_word fresh_words)) 0 0 1 (with_place 0 (Wait 1) (with_status 0 wait_word fresh_words))
    ∷ step_gives one_home (with_place 0 (Wait 1) (with_status 0 2 fresh_words)) 0 3 1 (with_place 0 Inside (with_status 0 2 fresh_words))
    -- Wait at home with ACQUIRE_PARENT: status 1, and the parent is acquired
    ∷ step_gives one_home (with_place 0 (Wait 1) (with_status 0 acquire_parent fresh_words)) 0 1 1 (with_place 0 (Prep 0) (with_status 0 1 fresh_words))
    -- Wait between home and root: a crossed entry at that domain
    ∷ step_gives three_levels (with_place 1 (Wait 1) (with_status 259 2 fresh_words)) 1 4 1 (with_place 1 Inside (with_status 259 2 fresh_words))
    -- three levels: 0 six times, 1 six times, 0 four times, 1 once
    ∷ run_call three_levels fresh_words (replicate 6 0 ++ replicate 6 1 ++ replicate 4 0 ++ 1 ∷ []) (ok 17 2 1 1 0 1 (0 ∷ 1 ∷ []))
    -- four levels: 0 eight times, 1 eight times, 0 five times, 1 once: a crossed entry two levels above the home
    ∷ run_call four_levels fresh_words (replicate 8 0 ++ replicate 8 1 ++ replicate 5 0 ++ 1 ∷ []) (ok 22 2 1 1 0 1 (0 ∷ 1 ∷ []))
    ∷ []

-- WHEN A LINE HOLDS. Two lists are equal
unfoldable pub same_numbers : List ℕ → List ℕ → Bool
same_numbers [] [] = true
same_numbers [] (y ∷ ys) = false
same_numbers (x ∷ xs) [] = false
same_numbers (x ∷ xs) (y ∷ ys) = eqb x y && same_numbers xs ys

-- two sets of place arrays are equal
unfoldable pub same_places : PlaceArrays → PlaceArrays → Bool
same_places a b =
    (same_numbers a.rows b.rows && same_numbers a.domains b.domains)
    && (same_numbers a.peers b.peers && same_numbers a.words b.words)

-- a state with these two ticket counters
unfoldable pub counters : (ticket grant : ℕ) → State → State
counters a b s = with_grant b (with_ticket a s)

-- two states are equal
unfoldable pub same_state : State → State → Bool
same_state a b =
    (same_numbers a.tails b.tails && same_numbers a.nexts b.nexts)
    && ((same_numbers a.statuses b.statuses && same_places a.places b.places)
    && (eqb a.ticket b.ticket && eqb a.grant b.grant))

-- number and place are as expected
unfoldable pub gives : (number place : ℕ) → Expected → Bool
gives n p x = eqb n x.number && eqb p x.place

-- two sets of counts are equal
unfoldable pub same_counts : Counts → Counts → Bool
same_counts r x =
    (eqb r.steps x.steps && eqb r.entries x.entries)
    && ((eqb r.stays x.stays && eqb r.root x.root) && (eqb r.passed x.passed && eqb r.crossed x.crossed))

-- two sets of counters are equal
unfoldable pub same_counters : Counters → Counters → Bool
same_counters a b =
    same_numbers a.entries b.entries && (same_numbers a.tenures b.tenures && same_numbers a.longest b.longest)

-- two lock states are equal
unfoldable pub same_lock : LockState → LockState → Bool
same_lock a b = same_state a.words b.words && same_counters a.counters b.counters

-- if refused, the state is unchanged
unfoldable pub kept : (refused : ℕ) → (before after : LockState) → Bool
kept zero s n = true
kept (suc r) s n = same_lock n s

-- a run's reply and trace buffer: number, place, counts and the whole buffer; if refused, also the state
abbrev pub run_holds : RunReply → (traced : List ℕ) → LockState → (buffer : List ℕ) → Expected → Bool
run_holds r tr s b x =
    (gives r.number r.place x && same_counts r.counts x.counts)
    && (kept x.number s r.state && same_numbers tr (x.trace ++ drop (length x.trace) b))

-- a step's reply where a refusal is expected: number, place, kind 0, domain 0 and the state
abbrev pub step_holds : StepReply → LockState → Expected → Bool
step_holds r s x = (gives r.number r.place x && kept x.number s r.state) && (eqb r.kind 0 && eqb r.domain 0)

-- an accepted step's reply: kind, domain and all words of the state
abbrev pub step_gave : StepReply → (kind domain : ℕ) → State → Bool
step_gave r k d n = (eqb r.number 0 && eqb r.place 0) && ((eqb r.kind k && eqb r.domain d) && same_state r.state.words n)

-- the trace buffer of a run: as long as the schedule; none of its numbers is a thread
abbrev pub trace_room : (schedule : List ℕ) → List ℕ
trace_room is = replicate (length is) 999

-- a lock with these words and fresh counters
abbrev pub uncounted : State → LockState
uncounted s = lock_state s fresh_counters

-- whether a case holds
unfoldable pub holds : Case → Bool
holds (fresh_call w x) = let r = fresh_answer w 7 in gives r.number r.place x && same_lock r.state (uncounted fresh_words)
holds (fresh_starts w v c) =
    let r = fresh_answer w v in
    (eqb r.number 0 && eqb r.place 0) && same_lock r.state (uncounted (counters c c fresh_words))
holds (step_call w s i x) = step_holds (step_answer w (uncounted s) i) (uncounted s) x
holds (step_gives w s i k d n) = step_gave (step_answer w (uncounted s) i) k d n
holds (run_call w s is x) =
    run_holds (run_answer w (uncounted s) is (trace_room is)) (trace_answer w (uncounted s) is (trace_room is)) (uncounted s) (trace_room is) x

-- whether every case of a list holds
unfoldable pub all_hold : List Case → Bool
all_hold [] = true
all_hold (c ∷ cs) = holds c && all_hold cs

-- THE ALLOWANCE IS REACHED, so no lower bound would hold: three domains below the root, thresholds 2, 1 and 1; threads 0 and 1 are in the first, thread 2 in the second, thread 3 in the third
unfoldable pub three_homes : TreeWords
three_homes = tree 4 4 (0 ∷ 0 ∷ 0 ∷ 0 ∷ []) (0 ∷ 2 ∷ 1 ∷ 1 ∷ []) (1 ∷ 1 ∷ 2 ∷ 3 ∷ [])

-- thread 3 is Inside; domain 1 stands in the root's queue and thread 1 in domain 1's queue; last, domain 2 begins to stand after domain 1
unfoldable pub until_standing : List ℕ
until_standing = replicate 4 3 ++ replicate 5 0 ++ replicate 3 1 ++ replicate 4 2

-- while domain 2 stands: thread 3 leaves and grants domain 1; threads 0 and 1 enter
unfoldable pub while_standing : List ℕ
while_standing = (2 ∷ []) ++ replicate 4 3 ++ replicate 4 0 ++ (1 ∷ [])

-- domain 2 stands throughout, and the entries under domain 1 are as many as its allowance, 2
unfoldable pub allowance_reached : Bool
allowance_reached =
    let t = tree_of three_homes in
    let before = steps t until_standing fresh_words in
    let meanwhile = steps t while_standing (state_after fresh_words before) in
    (same_numbers (begun 0 before) (257 ∷ 258 ∷ []) && eqb (occurrences 258 (ended 0 meanwhile)) 0)
    && (eqb (entries_under t 257 meanwhile) 2 && eqb (allowance t 257) 2)
