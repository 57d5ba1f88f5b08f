-- Cases of runs with waits that go on, in one list: an attempt from before the run that finishes, goes on or is not known, others' entries counted on, numbers up to 2^63 and a total that is cut, 27 and its order.
use Rattle.std.specs.Prelude.{◌≡◌, Bool, true, false, ◌&&◌, ◌||◌, List, [], ◌∷◌, ◌++◌, ℕ, ◌+◌, ◌-◌, ◌*◌, eqb, length, replicate}
use Rattle.model.specs.declared.TreeWords.{TreeWords}
use Rattle.model.specs.declared.State.{State}
use Rattle.model.specs.declared.LockState.{LockState}
use Rattle.model.specs.States.{fresh_words}
use Rattle.model.specs.Counters.{fresh_lock, most_counted}
use Rattle.model.specs.Cases.Marked.{tree, at_ticket_root, two_homes, two_in_root, same_numbers, same_counts, same_lock, uncounted}
use Rattle.model.specs.Answers.{no_counts}
use Rattle.waits.specs.declared.WaitsReply.{WaitsReply}
use Rattle.waits.specs.Answers.{waits_on_answer, waits_on_trace, waits_on_rows, waits_on_under_way}
use Rattle.waits.specs.Cases.Waits.{full_entries, reached, no_attempt, no_wait}

-- a call, number and place that it is to answer, and the row buffer and the numbers after it
pub record OnCase : Type 0 where
  pub words : TreeWords
  pub state : LockState
  pub schedule : List ℕ
  pub trace : List ℕ
  pub rows : List ℕ
  pub under_way : List ℕ
  pub number : ℕ
  pub place : ℕ
  pub after : List ℕ
  pub left : List ℕ

-- 256 numbers, 0 after those that are given
unfoldable pub all_numbers : List ℕ → List ℕ
all_numbers us = us ++ replicate (256 - length us) 0

-- accepted from the words of a state and some numbers, with these rows at the front of a buffer of sevens, two more numbers after them, and these numbers after the run
unfoldable pub goes_on : TreeWords → State → (schedule under_way rows left : List ℕ) → OnCase
goes_on w s is us xs vs =
    record {
      words = w;
      state = uncounted s;
      schedule = is;
      trace = replicate 64 9;
      rows = replicate (length xs) 7 ++ replicate 2 7;
      under_way = all_numbers us;
      number = 0;
      place = 0;
      after = xs ++ replicate 2 7;
      left = all_numbers vs;
    }

-- refused: all buffers as they came
unfoldable pub refused_from : LockState → (number place : ℕ) → TreeWords → (schedule : List ℕ) → (room row_room : ℕ) → (under_way : List ℕ) → OnCase
refused_from s n p w is room m us =
    record {
      words = w;
      state = s;
      schedule = is;
      trace = replicate room 9;
      rows = replicate m 7;
      under_way = us;
      number = n;
      place = p;
      after = replicate m 7;
      left = us;
    }

-- four threads in the root: thread 0 is inside, the others wait in the queue, in their order
unfoldable pub four_in_root : TreeWords
four_in_root = tree 1 4 [] [] (0 ∷ 0 ∷ 0 ∷ 0 ∷ [])

unfoldable pub three_wait : List ℕ
three_wait = replicate 2 0 ++ replicate 3 1 ++ replicate 3 2 ++ replicate 3 3

-- each leaves, and the next one enters
unfoldable pub all_enter : List ℕ
all_enter = replicate 3 0 ++ replicate 4 1 ++ replicate 4 2 ++ 3 ∷ []

unfoldable pub on_cases : List OnCase
on_cases =
    -- thread 1 waits since before the run: it finishes with no entry in between, and with what the number says besides
    goes_on two_in_root (reached two_in_root (0 ∷ 0 ∷ 1 ∷ 1 ∷ 1 ∷ [])) (0 ∷ 0 ∷ 0 ∷ 1 ∷ []) (0 ∷ 1 ∷ []) (no_attempt ++ no_wait 1 ++ no_wait 1) []
    ∷ goes_on two_in_root (reached two_in_root (0 ∷ 0 ∷ 1 ∷ 1 ∷ 1 ∷ [])) (0 ∷ 0 ∷ 0 ∷ 1 ∷ []) (0 ∷ 8 ∷ []) (no_attempt ++ (1 ∷ 7 ∷ 7 ∷ 7 ∷ 1 ∷ []) ++ (1 ∷ 7 ∷ 7 ∷ 7 ∷ 1 ∷ [])) []
    -- with 0 its attempt is not known, and its entry is none of the run's attempts
    ∷ goes_on two_in_root (reached two_in_root (0 ∷ 0 ∷ 1 ∷ 1 ∷ 1 ∷ [])) (0 ∷ 0 ∷ 0 ∷ 1 ∷ []) [] (no_attempt ++ no_attempt ++ no_attempt) []
    -- it does not finish, and its number goes on as it came
    ∷ goes_on two_in_root (reached two_in_root (0 ∷ 0 ∷ 1 ∷ 1 ∷ 1 ∷ [])) (0 ∷ []) (0 ∷ 8 ∷ []) (no_attempt ++ no_attempt ++ no_attempt) (0 ∷ 8 ∷ [])
    -- an attempt that begins within the run and does not finish, before and after another thread's entry; at a ticket root it begins with the draw
    ∷ goes_on two_in_root fresh_words (0 ∷ 0 ∷ 1 ∷ 1 ∷ 1 ∷ 0 ∷ []) [] (no_wait 1 ++ no_attempt ++ no_wait 1) (0 ∷ 1 ∷ [])
    ∷ goes_on (at_ticket_root two_in_root) fresh_words (0 ∷ 1 ∷ 0 ∷ 0 ∷ 0 ∷ []) [] (no_wait 1 ++ no_attempt ++ no_wait 1) (1 ∷ 1 ∷ [])
    ∷ goes_on (at_ticket_root two_in_root) fresh_words (0 ∷ 1 ∷ 0 ∷ 0 ∷ 0 ∷ 1 ∷ []) [] (no_wait 1 ++ no_wait 1 ++ no_wait 2) (2 ∷ 0 ∷ [])
    -- a queue root that is not home: the attempt began at home, before thread 2 entered
    ∷ goes_on two_homes fresh_words (replicate 2 0 ++ replicate 8 2) [] (no_attempt ++ no_attempt ++ no_wait 1 ++ no_wait 1) (2 ∷ 0 ∷ 0 ∷ [])
    -- a number of a thread that is not on its way is gone with its next beginning
    ∷ goes_on two_in_root fresh_words (0 ∷ 0 ∷ []) (9 ∷ 0 ∷ []) (no_wait 1 ++ no_attempt ++ no_wait 1) []
    -- the largest numbers: a thread's total is exact, that of all is cut, and its mean is that of what stands there
    ∷ goes_on four_in_root (reached four_in_root three_wait) all_enter (0 ∷ most_counted ∷ most_counted ∷ most_counted ∷ [])
    (no_attempt ++ (1 ∷ 9223372036854775807 ∷ 9223372036854775807 ∷ 9223372036854775807 ∷ 1 ∷ []) ++ (1 ∷ 9223372036854775808 ∷ 9223372036854775808 ∷ 9223372036854775808 ∷ 1 ∷ [])
    ++ (1 ∷ 9223372036854775809 ∷ 9223372036854775809 ∷ 9223372036854775809 ∷ 1 ∷ [])
    ++ (3 ∷ 18446744073709551615 ∷ 9223372036854775809 ∷ 6148914691236517205 ∷ 1 ∷ []))
    []
    -- no entries: the numbers as they came
    ∷ goes_on two_in_root fresh_words [] (most_counted ∷ 3 ∷ []) (no_attempt ++ no_attempt ++ no_attempt) (most_counted ∷ 3 ∷ [])
    -- above 2^63, after the last thread, and the lowest of both
    ∷ refused_from fresh_lock 27 1 two_in_root (0 ∷ 0 ∷ []) 2 15 (all_numbers (1 ∷ 9223372036854775809 ∷ []))
    ∷ refused_from fresh_lock 27 2 two_in_root (0 ∷ 0 ∷ []) 2 15 (all_numbers (1 ∷ 0 ∷ 1 ∷ []))
    ∷ refused_from fresh_lock 27 255 two_in_root [] 0 15 (replicate 255 0 ++ 1 ∷ [])
    ∷ refused_from fresh_lock 27 0 two_in_root [] 0 15 (all_numbers (9223372036854775809 ∷ 0 ∷ 1 ∷ []))
    -- 13 and 18 before 27, and 27 before 19
    ∷ refused_from fresh_lock 13 0 two_in_root (0 ∷ 0 ∷ []) 1 15 (all_numbers (9223372036854775809 ∷ []))
    ∷ refused_from fresh_lock 18 0 two_in_root (0 ∷ 0 ∷ []) 2 14 (all_numbers (9223372036854775809 ∷ []))
    ∷ refused_from full_entries 27 3 two_homes (replicate 4 0) 4 20 (all_numbers (0 ∷ 0 ∷ 0 ∷ 1 ∷ []))
    ∷ refused_from full_entries 19 3 two_homes (replicate 4 0) 4 20 (all_numbers (1 ∷ 0 ∷ 0 ∷ [])) ∷ []

-- WHEN A LINE HOLDS, of the reply and of the three buffers after it. Refused, zero counts, no rows, and state and trace as they came
abbrev pub nothing_done : WaitsReply → (traced : List ℕ) → OnCase → Bool
nothing_done r tr c = ((same_counts r.counts no_counts && same_lock r.state c.state) && eqb r.rows 0) && same_numbers tr c.trace

-- accepted, a row for each thread and one more
abbrev pub row_per_thread : WaitsReply → OnCase → Bool
row_per_thread r c = eqb (5 * r.rows + 2) (length c.rows)

abbrev pub answered : WaitsReply → (traced rows left : List ℕ) → OnCase → Bool
answered r tr xs us c =
    ((eqb r.number c.number && eqb r.place c.place) && ((eqb r.number 0 && row_per_thread r c) || nothing_done r tr c))
    && (same_numbers xs c.after && same_numbers us c.left)

unfoldable pub holds : OnCase → Bool
holds c =
    answered (waits_on_answer c.words c.state c.schedule c.trace c.rows c.under_way)
    (waits_on_trace c.words c.state c.schedule c.trace c.rows c.under_way)
    (waits_on_rows c.words c.state c.schedule c.trace c.rows c.under_way)
    (waits_on_under_way c.words c.state c.schedule c.trace c.rows c.under_way) c

unfoldable pub all_hold : List OnCase → Bool
all_hold [] = true
all_hold (c ∷ cs) = holds c && all_hold cs

-- EVERY PART COUNTS: the right answer to a refused line, and answers that are wrong in the number, the place, the counts, the rows reported, the state, the trace, the rows and the numbers alone
abbrev pub reply : (number place stays rows : ℕ) → LockState → WaitsReply
reply n p k m s = record { number = n; place = p; counts = record { steps = 0; entries = 0; stays = k; root = 0; passed = 0; crossed = 0 }; rows = m; state = s }

unfoldable pub parts : List Bool
parts =
    let us : List ℕ = 1 ∷ 0 ∷ 1 ∷ [] in
    let c = refused_from fresh_lock 27 2 two_in_root (0 ∷ 0 ∷ []) 2 3 us in
    let trace : List ℕ = replicate 2 9 in
    let rows : List ℕ = replicate 3 7 in
    answered (reply 27 2 0 0 fresh_lock) trace rows us c
    ∷ answered (reply 18 2 0 0 fresh_lock) trace rows us c
    ∷ answered (reply 27 0 0 0 fresh_lock) trace rows us c
    ∷ answered (reply 27 2 1 0 fresh_lock) trace rows us c
    ∷ answered (reply 27 2 0 3 fresh_lock) trace rows us c
    ∷ answered (reply 27 2 0 0 full_entries) trace rows us c
    ∷ answered (reply 27 2 0 0 fresh_lock) (0 ∷ 9 ∷ []) rows us c
    ∷ answered (reply 27 2 0 0 fresh_lock) trace (7 ∷ 7 ∷ 0 ∷ []) us c
    ∷ answered (reply 27 2 0 0 fresh_lock) trace rows (0 ∷ 0 ∷ 1 ∷ []) c ∷ []

unfoldable pub EveryPart : Type 0
EveryPart = parts ≡ true ∷ replicate 8 false
