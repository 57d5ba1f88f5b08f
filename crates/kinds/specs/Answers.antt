-- A run that reports the kind and domain of each step: what refuses it, what it answers, and its buffers after it, for every input.
use Rattle.std.specs.Prelude.{Bool, cond, List, [], ◌∷◌, ◌++◌, ℕ, ◌/◌, eqb, ltb, length}
use Rattle.model.specs.declared.TreeWords.{TreeWords}
use Rattle.model.specs.declared.LockState.{LockState}
use Rattle.model.specs.declared.Counters.{Counters}
use Rattle.model.specs.declared.RunReply.{RunReply}
use Rattle.model.specs.Trees.{Tree, tree_of}
use Rattle.model.specs.Steps.{kind_number, Step}
use Rattle.model.specs.Runs.{steps, Run, run}
use Rattle.model.specs.Refusals.{Refusal, Test, test, first_refusal, counter_tests, run_tests_before_19}
use Rattle.model.specs.Answers.{counters_after_run, run_reply, run_buffer}
use Rattle.schedules.specs.Answers.{row_buffer}
use Rattle.kinds.specs.declared.KindsReply.{KindsReply}

-- one row per step: the number of its kind, and its domain
unfoldable pub rows_of : List Step → List ℕ
rows_of [] = []
rows_of (x ∷ xs) = kind_number x.kind ∷ x.domain ∷ rows_of xs

-- 28: the buffer of kinds is too short for one row per schedule entry. A row is two numbers
unfoldable pub bad_kind_room : (schedule : List ℕ) → (row_room : ℕ) → ℕ → Bool
bad_kind_room is n p = ltb (n / 2) (length is)

-- the test of this buffer
abbrev pub kind_room_tests : (schedule : List ℕ) → (row_room : ℕ) → List Test
kind_room_tests is n = test 28 1 (bad_kind_room is n) ∷ []

-- the tests of the run except 19, then 28
abbrev pub kinds_tests_before_19 : Tree → LockState → (schedule : List ℕ) → (room row_room : ℕ) → List Test
kinds_tests_before_19 t s is room n = run_tests_before_19 t s is room ++ kind_room_tests is n

-- the tests of the call: 19 comes last
unfoldable pub kinds_tests : Tree → LockState → (schedule : List ℕ) → (room row_room : ℕ) → List Test
kinds_tests t s is room n = kinds_tests_before_19 t s is room n ++ counter_tests t s is

-- the refusal of the call
unfoldable pub kinds_refusal : Tree → LockState → (schedule : List ℕ) → (room row_room : ℕ) → Refusal
kinds_refusal t s is room n = first_refusal (kinds_tests t s is room n)

-- the reply of a run, with the number of rows written
abbrev pub with_rows : RunReply → (rows : ℕ) → KindsReply
with_rows y n = record { number = y.number; place = y.place; counts = y.counts; rows = n; state = y.state }

-- the run's part of a reply
abbrev pub run_part : KindsReply → RunReply
run_part r = record { number = r.number; place = r.place; counts = r.counts; state = r.state }

-- the reply: what the run returns, and the number of rows written: one per schedule entry, or none if refused
unfoldable pub kinds_reply : Refusal → LockState → Run → Counters → (entries : ℕ) → KindsReply
kinds_reply r s x c n = with_rows (run_reply r s x c) (cond (eqb r.number 0) n 0)

-- THE CALL. The number and place of its answer
unfoldable pub refused_by : TreeWords → LockState → (schedule trace rows : List ℕ) → Refusal
refused_by w s is b rs = kinds_refusal (tree_of w) s is (length b) (length rs)

-- its reply
unfoldable pub kinds_answer : TreeWords → LockState → (schedule trace rows : List ℕ) → KindsReply
kinds_answer w s is b rs =
    kinds_reply (refused_by w s is b rs) s (run (tree_of w) is s.words) (counters_after_run (tree_of w) is s) (length is)

-- the trace buffer after it: the entering threads at the front; if refused, unchanged
unfoldable pub kinds_trace : TreeWords → LockState → (schedule trace rows : List ℕ) → List ℕ
kinds_trace w s is b rs = run_buffer (refused_by w s is b rs) b (run (tree_of w) is s.words)

-- the buffer of kinds after it: the rows at the front, in the schedule's order, the rest unchanged; if refused, all of it unchanged
unfoldable pub kinds_rows : TreeWords → LockState → (schedule trace rows : List ℕ) → List ℕ
kinds_rows w s is b rs = row_buffer (refused_by w s is b rs) rs (rows_of (steps (tree_of w) is s.words))
