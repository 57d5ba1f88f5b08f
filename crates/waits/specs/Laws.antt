-- THE LAWS OF WAITS. Each is a statement; proofs/ has its proof.
use Rattle.std.specs.Prelude.{◌≡◌, List, [], ◌∷◌, ◌++◌, ◌≢◌, ◌⊎◌, ℕ, zero, suc, ◌+◌, ◌*◌, ◌≤◌, ◌<◌, length, take, drop, get_or}
use Rattle.std.specs.Int.{◌∣◌}
use Rattle.model.specs.declared.TreeWords.{TreeWords}
use Rattle.model.specs.declared.State.{State}
use Rattle.model.specs.declared.LockState.{LockState}
use Rattle.model.specs.Trees.{Tree, tree_of}
use Rattle.model.specs.States.{fresh_state}
use Rattle.model.specs.Runs.{steps, run, occurrences}
use Rattle.model.specs.Refusals.{refusal, first_refusal, run_tests_before_19, run_refusal}
use Rattle.model.specs.Answers.{no_counts, run_answer, trace_answer}
use Rattle.model.specs.Laws.{FreshRun, Formed, RefusesExactly}
use Rattle.schedules.specs.Rows.{total}
use Rattle.waits.specs.declared.Fraction.{Fraction}
use Rattle.waits.specs.Attempts.{waits, waits_below}
use Rattle.waits.specs.Rows.{largest, mean, row_with, row_of}
use Rattle.waits.specs.Refusals.{waits_tests, waits_refusal}
use Rattle.waits.specs.Answers.{run_part, refused_by, waits_answer, waits_trace, waits_rows}

-- 1. REFUSALS. The tests are a list that the one law of refusals covers; in plain numbers, one of these three holds of every call: a test before 18 refuses the run; 18 refuses, before 19 is tested; or the run's own answer stands, 19 or accepted
pub record RefusesWaits (t : Tree) (s : LockState) (schedule : List ℕ) (room row_room : ℕ) : Type 0 where
  pub exactly : RefusesExactly (waits_tests t s schedule room row_room)
  pub run_refused :
      (first_refusal (run_tests_before_19 t s schedule room)).number ≢ 0 → waits_refusal t s schedule room row_room ≡ run_refusal t s schedule room
  pub room_refused :
      (first_refusal (run_tests_before_19 t s schedule room)).number ≡ 0 → row_room < 5 * (t.threads + 1) →
      waits_refusal t s schedule room row_room ≡ refusal 18 0
  pub rows_fit :
      (first_refusal (run_tests_before_19 t s schedule room)).number ≡ 0 → 5 * (t.threads + 1) ≤ row_room →
      waits_refusal t s schedule room row_room ≡ run_refusal t s schedule room

unfoldable pub WaitsRefusalLaw : Type 0
WaitsRefusalLaw = (t : Tree) (s : LockState) (schedule : List ℕ) (room row_room : ℕ) → RefusesWaits t s schedule room row_room

-- 2. THE RUN. Where 18 does not refuse, the run's reply and the trace are those of the run itself
pub record RunsAs (w : TreeWords) (s : LockState) (schedule trace rows : List ℕ) : Type 0 where
  pub reply : run_part (waits_answer w s schedule trace rows) ≡ run_answer w s schedule trace
  pub traced : waits_trace w s schedule trace rows ≡ trace_answer w s schedule trace

unfoldable pub WaitsRunLaw : Type 0
WaitsRunLaw =
    (w : TreeWords) (s : LockState) (schedule trace rows : List ℕ) → (refused_by w s schedule trace rows).number ≢ 18 → RunsAs w s schedule trace rows

-- refused, by 18 too: no counts, and state and trace as they came
pub record NothingDone (w : TreeWords) (s : LockState) (schedule trace rows : List ℕ) : Type 0 where
  pub counts : (waits_answer w s schedule trace rows).counts ≡ no_counts
  pub state : (waits_answer w s schedule trace rows).state ≡ s
  pub traced : waits_trace w s schedule trace rows ≡ trace

unfoldable pub WaitsRefusedLaw : Type 0
WaitsRefusedLaw =
    (w : TreeWords) (s : LockState) (schedule trace rows : List ℕ) → (refused_by w s schedule trace rows).number ≢ 0 → NothingDone w s schedule trace rows

-- 3. THE MEAN. It is total over attempts, and no number but 1 divides both its parts; without attempts it is 0 over 0, and a total of 0 over some attempts is 0 over 1
pub record InLowestTerms (total attempts : ℕ) (f : Fraction) : Type 0 where
  pub same : f.numerator * attempts ≡ total * f.denominator
  pub lowest : (d : ℕ) → attempts ≢ 0 → d ∣ f.numerator → d ∣ f.denominator → d ≡ 1
  pub none : attempts ≡ 0 → (f.numerator ≡ 0) × (f.denominator ≡ 0)
  pub nothing : attempts ≢ 0 → total ≡ 0 → (f.numerator ≡ 0) × (f.denominator ≡ 1)

unfoldable pub MeanLaw : Type 0
MeanLaw = (total attempts : ℕ) → InLowestTerms total attempts (mean total attempts)

-- 4. ROWS. The row at an index of a buffer
abbrev pub row_at : (index : ℕ) → (buffer : List ℕ) → List ℕ
row_at k b = take 5 (drop (5 * k) b)

-- a column of the first rows: its numbers one after another
unfoldable pub column : (at rows : ℕ) → (buffer : List ℕ) → List ℕ
column c zero b = []
column c (suc n) b = column c n b ++ (get_or (row_at n b) c 0 ∷ [])

-- what the row buffer of an accepted call says: each thread's row is that of its waits; attempts and total of the last row are the sums of those above, its largest wait is the largest of them, and its mean that of all attempts
pub record Says (w : TreeWords) (s : LockState) (schedule trace rows : List ℕ) : Type 0 where
  pub of_thread : (i : ℕ) → i < (tree_of w).threads → row_at i (waits_rows w s schedule trace rows) ≡ row_of (waits (tree_of w) i (steps (tree_of w) schedule s.words))
  pub of_all :
      (let b = waits_rows w s schedule trace rows in
      let n = (tree_of w).threads in
      row_at n b ≡ row_with (total (column 0 n b)) (total (column 1 n b)) (largest (column 2 n b)))

unfoldable pub RowLaw : Type 0
RowLaw = (w : TreeWords) (s : LockState) (schedule trace rows : List ℕ) → (refused_by w s schedule trace rows).number ≡ 0 → Says w s schedule trace rows

-- 5. THE ROW BUFFER keeps its length and what is after the rows; refused, all of it. The reply says how many rows stand at its front
pub record KeepsRest (w : TreeWords) (s : LockState) (schedule trace rows : List ℕ) : Type 0 where
  pub long : length (waits_rows w s schedule trace rows) ≡ length rows
  pub after : drop (5 * ((tree_of w).threads + 1)) (waits_rows w s schedule trace rows) ≡ drop (5 * ((tree_of w).threads + 1)) rows
  pub refused : (refused_by w s schedule trace rows).number ≢ 0 → waits_rows w s schedule trace rows ≡ rows
  pub rows_counted : (refused_by w s schedule trace rows).number ≡ 0 → (waits_answer w s schedule trace rows).rows ≡ (tree_of w).threads + 1
  pub none_reported : (refused_by w s schedule trace rows).number ≢ 0 → (waits_answer w s schedule trace rows).rows ≡ 0

unfoldable pub RowBufferLaw : Type 0
RowBufferLaw = (w : TreeWords) (s : LockState) (schedule trace rows : List ℕ) → KeepsRest w s schedule trace rows

-- 6. ENTRIES. In a run from any well-formed state a thread's entries are its attempts, or one more: of an attempt that was under way before; from fresh they are its attempts
abbrev pub entries_of : (thread : ℕ) → Tree → (schedule : List ℕ) → State → ℕ
entries_of i t is s = occurrences i (run t is s).trace

pub record EntersByAttempts (t : Tree) (schedule : List ℕ) (i : ℕ) : Type 0 where
  pub of_state :
      (s : State) → Formed t s →
      (entries_of i t schedule s ≡ length (waits t i (steps t schedule s))) ⊎ (entries_of i t schedule s ≡ length (waits t i (steps t schedule s)) + 1)
  pub of_fresh : (start : ℕ) → entries_of i t schedule (fresh_state t start) ≡ length (waits t i (steps t schedule (fresh_state t start)))

unfoldable pub EntryLaw : Type 0
EntryLaw =
    (t : Tree) (schedule : List ℕ) → FreshRun t schedule → (i : ℕ) → i < t.threads → EntersByAttempts t schedule i

-- 7. BOUNDS. Attempts, total and largest wait of a thread's row are at most the run's entries. So are attempts and largest wait of the last row, and its total is at most as much for each thread. The run's entries are at most the schedule's, so that no number of a row overflows
abbrev pub entered : Tree → (schedule : List ℕ) → State → ℕ
entered t is s = (run t is s).counts.entries

pub record Bounded (t : Tree) (schedule : List ℕ) (s : State) : Type 0 where
  pub attempts : (i : ℕ) → length (waits t i (steps t schedule s)) ≤ entered t schedule s
  pub total_wait : (i : ℕ) → total (waits t i (steps t schedule s)) ≤ entered t schedule s
  pub largest_wait : (i : ℕ) → largest (waits t i (steps t schedule s)) ≤ entered t schedule s
  pub all_attempts : length (waits_below t t.threads (steps t schedule s)) ≤ entered t schedule s
  pub all_total : total (waits_below t t.threads (steps t schedule s)) ≤ t.threads * entered t schedule s
  pub all_largest : largest (waits_below t t.threads (steps t schedule s)) ≤ entered t schedule s
  pub entries : entered t schedule s ≤ length schedule

unfoldable pub BoundLaw : Type 0
BoundLaw = (t : Tree) (schedule : List ℕ) (s : State) → Bounded t schedule s
