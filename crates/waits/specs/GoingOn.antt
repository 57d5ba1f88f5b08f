-- THE LAWS OF A RUN WITH WAITS THAT GOES ON from attempts under way. Each is a statement; proofs/ has its proof.
use Rattle.std.specs.Prelude.{◌≡◌, cond, List, [], ◌∷◌, ◌++◌, ◌≢◌, ℕ, ◌+◌, ◌-◌, ◌*◌, ◌≤◌, ◌<◌, max, eqb, length, drop, get_or, replicate}
use Rattle.model.specs.declared.TreeWords.{TreeWords}
use Rattle.model.specs.declared.State.{State}
use Rattle.model.specs.declared.LockState.{LockState}
use Rattle.model.specs.Trees.{Tree, tree_of}
use Rattle.model.specs.States.{fresh_state}
use Rattle.model.specs.Steps.{Step}
use Rattle.model.specs.Runs.{steps}
use Rattle.model.specs.Counters.{most_counted}
use Rattle.model.specs.Refusals.{refusal, first_refusal}
use Rattle.model.specs.Answers.{run_refused, run_answer, trace_answer}
use Rattle.model.specs.Laws.{FreshRun, RefusesExactly}
use Rattle.schedules.specs.Rows.{total}
use Rattle.waits.specs.Attempts.{begins, waits_from, under_way_from, waits}
use Rattle.waits.specs.Rows.{largest, row_with, row_of, capped}
use Rattle.waits.specs.Refusals.{waits_tests_before_19, waits_refusal, waits_on_tests, waits_on_refusal}
use Rattle.waits.specs.Answers.{with_rows, run_part, waits_answer, waits_trace, waits_rows, refused_on, waits_on_answer, waits_on_trace, waits_on_rows, waits_on_under_way}
use Rattle.waits.specs.Laws.{row_at, column, entered}

-- 1. REFUSALS. The tests are a list that the one law of refusals covers; in plain numbers, one of these three holds of every call: a test before 27 refuses it as a run with waits; 27 refuses, before 19 is tested, at the lowest number that cannot be; or the answer of a run with waits stands, 19 or accepted
abbrev pub NumberFits : Tree → (under_way : List ℕ) → (thread : ℕ) → Type 0
NumberFits t us i = (get_or us i 0 ≤ most_counted) × (t.threads ≤ i → get_or us i 0 ≡ 0)

pub record RefusesWaitsOn (t : Tree) (s : LockState) (schedule : List ℕ) (room row_room : ℕ) (under_way : List ℕ) : Type 0 where
  pub exactly : RefusesExactly (waits_on_tests t s schedule room row_room under_way)
  pub waits_refused :
      (first_refusal (waits_tests_before_19 t s schedule room row_room)).number ≢ 0 →
      waits_on_refusal t s schedule room row_room under_way ≡ waits_refusal t s schedule room row_room
  pub number_refused :
      (first_refusal (waits_tests_before_19 t s schedule room row_room)).number ≡ 0 → (i : ℕ) → i < 256 → (NumberFits t under_way i → ⊥) →
      ((j : ℕ) → j < i → NumberFits t under_way j) → waits_on_refusal t s schedule room row_room under_way ≡ refusal 27 i
  pub numbers_fit :
      (first_refusal (waits_tests_before_19 t s schedule room row_room)).number ≡ 0 → ((i : ℕ) → i < 256 → NumberFits t under_way i) →
      waits_on_refusal t s schedule room row_room under_way ≡ waits_refusal t s schedule room row_room

unfoldable pub WaitsOnRefusalLaw : Type 0
WaitsOnRefusalLaw =
    (t : Tree) (s : LockState) (schedule : List ℕ) (room row_room : ℕ) (under_way : List ℕ) → RefusesWaitsOn t s schedule room row_room under_way

-- 2. WITH ZEROS it is document 02's run with waits: reply, trace and rows are the same
pub record AsWaits (w : TreeWords) (s : LockState) (schedule trace rows : List ℕ) : Type 0 where
  pub reply : waits_on_answer w s schedule trace rows (replicate 256 0) ≡ waits_answer w s schedule trace rows
  pub traced : waits_on_trace w s schedule trace rows (replicate 256 0) ≡ waits_trace w s schedule trace rows
  pub written : waits_on_rows w s schedule trace rows (replicate 256 0) ≡ waits_rows w s schedule trace rows

unfoldable pub ZerosLaw : Type 0
ZerosLaw = (w : TreeWords) (s : LockState) (schedule trace rows : List ℕ) → AsWaits w s schedule trace rows

-- 3. THE RUN. Where neither 18 nor 27 refuses, the run's reply and the trace are those of the run itself
pub record RunsOnAs (w : TreeWords) (s : LockState) (schedule trace rows under_way : List ℕ) : Type 0 where
  pub reply : run_part (waits_on_answer w s schedule trace rows under_way) ≡ run_answer w s schedule trace
  pub traced : waits_on_trace w s schedule trace rows under_way ≡ trace_answer w s schedule trace

unfoldable pub WaitsOnRunLaw : Type 0
WaitsOnRunLaw =
    (w : TreeWords) (s : LockState) (schedule trace rows under_way : List ℕ) → (refused_on w s schedule trace rows under_way).number ≢ 18 →
    (refused_on w s schedule trace rows under_way).number ≢ 27 → RunsOnAs w s schedule trace rows under_way

-- 4. WHAT THE BUFFERS SAY after an accepted call: each thread's row is that of its waits, and its number is the attempt under way after the run. Attempts of the last row are the sum of those above, its largest wait is the largest of them; its total is the sum of the totals above, cut at the largest number of 64 bits, and its mean that of this total
pub record SaysOn (w : TreeWords) (s : LockState) (schedule trace rows under_way : List ℕ) : Type 0 where
  pub of_thread :
      (i : ℕ) → i < (tree_of w).threads →
      row_at i (waits_on_rows w s schedule trace rows under_way) ≡ row_of (waits_from (tree_of w) i (get_or under_way i 0) (steps (tree_of w) schedule s.words))
  pub number :
      (i : ℕ) → i < (tree_of w).threads →
      get_or (waits_on_under_way w s schedule trace rows under_way) i 0 ≡ under_way_from (tree_of w) i (get_or under_way i 0) (steps (tree_of w) schedule s.words)
  pub of_all :
      (let b = waits_on_rows w s schedule trace rows under_way in
      let n = (tree_of w).threads in
      row_at n b ≡ row_with (total (column 0 n b)) (capped (total (column 1 n b))) (largest (column 2 n b)))
  -- nothing is cut where the numbers handed in and the run's entries, as often as there are threads, add up to a number of 64 bits
  pub exact :
      total under_way + (tree_of w).threads * entered (tree_of w) schedule s.words ≤ 18446744073709551615 →
      (let all = total (column 1 (tree_of w).threads (waits_on_rows w s schedule trace rows under_way)) in capped all ≡ all)

unfoldable pub RowOnLaw : Type 0
RowOnLaw =
    (w : TreeWords) (s : LockState) (schedule trace rows under_way : List ℕ) → (refused_on w s schedule trace rows under_way).number ≡ 0 →
    SaysOn w s schedule trace rows under_way

-- 5. THE BUFFERS. That of the rows keeps its length and what is after them; accepted, there are 256 numbers, 0 after the last thread, and the reply says how many rows stand at the front. Refused, zero counts, no rows, and state, trace, rows and numbers are as they came
pub record Untouched (w : TreeWords) (s : LockState) (schedule trace rows under_way : List ℕ) : Type 0 where
  pub reply : waits_on_answer w s schedule trace rows under_way ≡ with_rows (run_refused (refused_on w s schedule trace rows under_way) s) 0
  pub traced : waits_on_trace w s schedule trace rows under_way ≡ trace
  pub written : waits_on_rows w s schedule trace rows under_way ≡ rows
  pub numbers : waits_on_under_way w s schedule trace rows under_way ≡ under_way

pub record KeepsRestOn (w : TreeWords) (s : LockState) (schedule trace rows under_way : List ℕ) : Type 0 where
  pub long : length (waits_on_rows w s schedule trace rows under_way) ≡ length rows
  pub after : drop (5 * ((tree_of w).threads + 1)) (waits_on_rows w s schedule trace rows under_way) ≡ drop (5 * ((tree_of w).threads + 1)) rows
  pub as_many : (refused_on w s schedule trace rows under_way).number ≡ 0 → length (waits_on_under_way w s schedule trace rows under_way) ≡ 256
  pub zeros :
      (refused_on w s schedule trace rows under_way).number ≡ 0 → (i : ℕ) → (tree_of w).threads ≤ i → get_or (waits_on_under_way w s schedule trace rows under_way) i 0 ≡ 0
  pub rows_counted : (refused_on w s schedule trace rows under_way).number ≡ 0 → (waits_on_answer w s schedule trace rows under_way).rows ≡ (tree_of w).threads + 1
  pub refused : (refused_on w s schedule trace rows under_way).number ≢ 0 → Untouched w s schedule trace rows under_way

unfoldable pub BuffersOnLaw : Type 0
BuffersOnLaw = (w : TreeWords) (s : LockState) (schedule trace rows under_way : List ℕ) → KeepsRestOn w s schedule trace rows under_way

-- 6. ONE CALL AFTER ANOTHER. Of any steps and more steps after them, the waits are those of both, the second time from the attempt that is under way after the first
pub record AttemptsJoin (t : Tree) (i a : ℕ) (xs ys : List Step) : Type 0 where
  pub waits : waits_from t i a (xs ++ ys) ≡ waits_from t i a xs ++ waits_from t i (under_way_from t i a xs) ys
  pub under_way : under_way_from t i a (xs ++ ys) ≡ under_way_from t i (under_way_from t i a xs) ys

unfoldable pub AttemptsJoinLaw : Type 0
AttemptsJoinLaw = (t : Tree) (i under_way : ℕ) (xs ys : List Step) → AttemptsJoin t i under_way xs ys

-- the row of two rows: attempts and totals added, the larger largest, the mean of both; of two last rows the same, the total cut
abbrev pub joined_row : (first second : List ℕ) → List ℕ
joined_row r q = row_with (get_or r 0 0 + get_or q 0 0) (get_or r 1 0 + get_or q 1 0) (max (get_or r 2 0) (get_or q 2 0))

abbrev pub joined_last_row : (first second : List ℕ) → List ℕ
joined_last_row r q = row_with (get_or r 0 0 + get_or q 0 0) (capped (get_or r 1 0 + get_or q 1 0)) (max (get_or r 2 0) (get_or q 2 0))

-- what a call leaves: state, rows and numbers
pub record Left : Type 0 where
  pub state : LockState
  pub rows : List ℕ
  pub under_way : List ℕ

abbrev pub left_by : TreeWords → LockState → (schedule trace rows under_way : List ℕ) → Left
left_by w s is b rs us = record { state = (waits_on_answer w s is b rs us).state; rows = waits_on_rows w s is b rs us; under_way = waits_on_under_way w s is b rs us }

-- what two calls leave, and what one leaves
pub record CallsJoin (threads : ℕ) (first second whole : Left) : Type 0 where
  pub of_thread : (i : ℕ) → i < threads → row_at i whole.rows ≡ joined_row (row_at i first.rows) (row_at i second.rows)
  pub of_all : row_at threads whole.rows ≡ joined_last_row (row_at threads first.rows) (row_at threads second.rows)
  pub under_way : whole.under_way ≡ second.under_way
  pub state : whole.state ≡ second.state

-- two calls, the second from the state and the numbers that the first leaves, and one call on the joined schedule, all three accepted, with any buffers: for any state and any numbers handed in
unfoldable pub WaitsJoinLaw : Type 0
WaitsJoinLaw =
    (w : TreeWords) (s : LockState) (schedule schedule' trace rows trace' rows' trace'' rows'' under_way : List ℕ) →
    (let first = left_by w s schedule trace rows under_way in
    (refused_on w s schedule trace rows under_way).number ≡ 0 → (refused_on w first.state schedule' trace' rows' first.under_way).number ≡ 0 →
    (refused_on w s (schedule ++ schedule') trace'' rows'' under_way).number ≡ 0 →
    CallsJoin (tree_of w).threads first (left_by w first.state schedule' trace' rows' first.under_way) (left_by w s (schedule ++ schedule') trace'' rows'' under_way))

-- 7. BEGINNINGS. From fresh, the attempts that a thread has begun are those that it has finished and the one that is under way
unfoldable pub beginnings : Tree → (thread : ℕ) → List Step → ℕ
beginnings t i [] = 0
beginnings t i (x ∷ xs) = cond (begins t i x) 1 0 + beginnings t i xs

unfoldable pub BeginningLaw : Type 0
BeginningLaw =
    (t : Tree) (start : ℕ) (schedule : List ℕ) → FreshRun t schedule → (i : ℕ) → i < t.threads →
    (let xs = steps t schedule (fresh_state t start) in beginnings t i xs ≡ length (waits t i xs) + cond (eqb (under_way_from t i 0 xs) 0) 0 1)

-- 8. BOUNDS, by the number handed in: a thread's attempts are at most the run's entries; its total and its largest wait at most these and the entries that the number says; and the number after the run at most one more than both
pub record BoundedOn (t : Tree) (schedule : List ℕ) (s : State) (i under_way : ℕ) : Type 0 where
  pub attempts : length (waits_from t i under_way (steps t schedule s)) ≤ entered t schedule s
  pub total_wait : total (waits_from t i under_way (steps t schedule s)) ≤ under_way - 1 + entered t schedule s
  pub largest_wait : largest (waits_from t i under_way (steps t schedule s)) ≤ under_way - 1 + entered t schedule s
  pub number : under_way_from t i under_way (steps t schedule s) ≤ under_way - 1 + entered t schedule s + 1

unfoldable pub BoundOnLaw : Type 0
BoundOnLaw = (t : Tree) (schedule : List ℕ) (s : State) (i under_way : ℕ) → BoundedOn t schedule s i under_way
