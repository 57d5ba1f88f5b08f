-- THE LAWS OF A RUN THAT REPORTS ITS STEPS. These are statements; their proofs are in proofs/.
use Rattle.std.specs.Prelude.{◌≡◌, List, [], ◌∷◌, ◌++◌, ◌≢◌, ℕ, ◌+◌, ◌*◌, ◌≤◌, ◌<◌, length, take, drop, get_or}
use Rattle.model.specs.declared.TreeWords.{TreeWords}
use Rattle.model.specs.declared.LockState.{LockState}
use Rattle.model.specs.Trees.{Tree, tree_of}
use Rattle.model.specs.Steps.{kind_number, step}
use Rattle.model.specs.Runs.{run}
use Rattle.model.specs.Refusals.{refusal, first_refusal, run_tests_before_19, run_refusal}
use Rattle.model.specs.Answers.{run_refused, step_answer, run_answer, trace_answer}
use Rattle.model.specs.Laws.{Formed, RefusesExactly}
use Rattle.kinds.specs.Answers.{kinds_tests, kinds_refusal, with_rows, run_part, refused_by, kinds_answer, kinds_trace, kinds_rows}

-- 1. REFUSALS. The general law of refusals covers the list of tests; in plain numbers, one of these three holds for every call: a test before 28 refuses the run; 28 refuses before 19 is tested; or the answer is the run's own, 19 or accepted
pub record RefusesKinds (t : Tree) (s : LockState) (schedule : List ℕ) (room row_room : ℕ) : Type 0 where
  pub exactly : RefusesExactly (kinds_tests t s schedule room row_room)
  pub run_refused :
      (first_refusal (run_tests_before_19 t s schedule room)).number ≢ 0 → kinds_refusal t s schedule room row_room ≡ run_refusal t s schedule room
  pub room_refused :
      (first_refusal (run_tests_before_19 t s schedule room)).number ≡ 0 → row_room < 2 * length schedule →
      kinds_refusal t s schedule room row_room ≡ refusal 28 0
  pub rows_fit :
      (first_refusal (run_tests_before_19 t s schedule room)).number ≡ 0 → 2 * length schedule ≤ row_room →
      kinds_refusal t s schedule room row_room ≡ run_refusal t s schedule room

-- for every call
unfoldable pub KindsRefusalLaw : Type 0
KindsRefusalLaw = (t : Tree) (s : LockState) (schedule : List ℕ) (room row_room : ℕ) → RefusesKinds t s schedule room row_room

-- 2. THE RUN. Unless 28 refuses, reply and trace are those of the run itself
pub record RunsAs (w : TreeWords) (s : LockState) (schedule trace rows : List ℕ) : Type 0 where
  pub reply : run_part (kinds_answer w s schedule trace rows) ≡ run_answer w s schedule trace
  pub traced : kinds_trace w s schedule trace rows ≡ trace_answer w s schedule trace

-- for every call that 28 does not refuse
unfoldable pub KindsRunLaw : Type 0
KindsRunLaw =
    (w : TreeWords) (s : LockState) (schedule trace rows : List ℕ) → (refused_by w s schedule trace rows).number ≢ 28 → RunsAs w s schedule trace rows

-- 3. ROWS. The row of a buffer at an index
abbrev pub row_at : (index : ℕ) → (buffer : List ℕ) → List ℕ
row_at k b = take 2 (drop (2 * k) b)

-- each row of an accepted call is that of the table's step from the state after the entries before it
unfoldable pub RowLaw : Type 0
RowLaw =
    (w : TreeWords) (s : LockState) (schedule trace rows : List ℕ) → (refused_by w s schedule trace rows).number ≡ 0 → (k : ℕ) → k < length schedule →
    (let x = step (tree_of w) (get_or schedule k 0) (run (tree_of w) (take k schedule) s.words).state in
    row_at k (kinds_rows w s schedule trace rows) ≡ kind_number x.kind ∷ x.domain ∷ [])

-- each row is what single calls report: a run of the entries before it is accepted, and so is the step from the state that it returns
pub record SaysStep (w : TreeWords) (s : LockState) (schedule trace rows : List ℕ) (k : ℕ) : Type 0 where
  pub run_accepted : (run_answer w s (take k schedule) trace).number ≡ 0
  pub step_accepted : (step_answer w (run_answer w s (take k schedule) trace).state (get_or schedule k 0)).number ≡ 0
  pub row :
      (let r = step_answer w (run_answer w s (take k schedule) trace).state (get_or schedule k 0) in
      row_at k (kinds_rows w s schedule trace rows) ≡ r.kind ∷ r.domain ∷ [])

-- for every row of an accepted call on a well-formed state
unfoldable pub SingleStepLaw : Type 0
SingleStepLaw =
    (w : TreeWords) (s : LockState) (schedule trace rows : List ℕ) → Formed (tree_of w) s.words → (refused_by w s schedule trace rows).number ≡ 0 →
    (k : ℕ) → k < length schedule → SaysStep w s schedule trace rows k

-- 4. THE BUFFER OF KINDS. A refused call has all counts 0 and no rows; state, trace and rows are unchanged
pub record Untouched (w : TreeWords) (s : LockState) (schedule trace rows : List ℕ) : Type 0 where
  pub reply : kinds_answer w s schedule trace rows ≡ with_rows (run_refused (refused_by w s schedule trace rows) s) 0
  pub traced : kinds_trace w s schedule trace rows ≡ trace
  pub written : kinds_rows w s schedule trace rows ≡ rows

-- the buffer keeps its length and what is after the rows, and the reply reports how many rows are at its front
pub record KeepsRest (w : TreeWords) (s : LockState) (schedule trace rows : List ℕ) : Type 0 where
  pub long : length (kinds_rows w s schedule trace rows) ≡ length rows
  pub after : drop (2 * length schedule) (kinds_rows w s schedule trace rows) ≡ drop (2 * length schedule) rows
  pub rows_counted : (refused_by w s schedule trace rows).number ≡ 0 → (kinds_answer w s schedule trace rows).rows ≡ length schedule
  pub refused : (refused_by w s schedule trace rows).number ≢ 0 → Untouched w s schedule trace rows

-- for every call
unfoldable pub KindsBufferLaw : Type 0
KindsBufferLaw = (w : TreeWords) (s : LockState) (schedule trace rows : List ℕ) → KeepsRest w s schedule trace rows

-- 5. CONSECUTIVE CALLS. The rows that a call writes
abbrev pub written : TreeWords → LockState → (schedule trace rows : List ℕ) → List ℕ
written w s is b rs = take (2 * (kinds_answer w s is b rs).rows) (kinds_rows w s is b rs)

-- two calls, the second from the state that the first returns, give the same as one call on the joined schedule
pub record CallsJoin (w : TreeWords) (s s' : LockState) (schedule schedule' trace rows trace' rows' trace'' rows'' : List ℕ) : Type 0 where
  pub rows_joined : written w s (schedule ++ schedule') trace'' rows'' ≡ written w s schedule trace rows ++ written w s' schedule' trace' rows'
  pub as_many :
      (kinds_answer w s (schedule ++ schedule') trace'' rows'').rows
      ≡ (kinds_answer w s schedule trace rows).rows + (kinds_answer w s' schedule' trace' rows').rows
  pub state : (kinds_answer w s (schedule ++ schedule') trace'' rows'').state ≡ (kinds_answer w s' schedule' trace' rows').state

-- for any three accepted calls, with any buffers
unfoldable pub KindsJoinLaw : Type 0
KindsJoinLaw =
    (w : TreeWords) (s : LockState) (schedule schedule' trace rows trace' rows' trace'' rows'' : List ℕ) →
    (let s' = (kinds_answer w s schedule trace rows).state in
    (refused_by w s schedule trace rows).number ≡ 0 → (refused_by w s' schedule' trace' rows').number ≡ 0 →
    (refused_by w s (schedule ++ schedule') trace'' rows'').number ≡ 0 →
    CallsJoin w s s' schedule schedule' trace rows trace' rows' trace'' rows'')
