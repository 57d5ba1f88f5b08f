-- LISTS OF CALLS on one lock: what is assumed about them, what each call is expected to answer, and the schedule of the list. The third demand is a claim about such lists.
use Rattle.std.specs.Prelude.{◌≡◌, cond, List, [], ◌∷◌, ◌++◌, ℕ, ◌+◌, eqb, length, take, drop}
use Rattle.model.specs.declared.TreeWords.{TreeWords}
use Rattle.model.specs.declared.State.{State}
use Rattle.model.specs.declared.Counters.{Counters}
use Rattle.model.specs.declared.LockState.{LockState}
use Rattle.model.specs.declared.StepReply.{StepReply}
use Rattle.model.specs.declared.RunReply.{RunReply}
use Rattle.model.specs.Trees.{Tree, tree_of}
use Rattle.model.specs.Steps.{Step}
use Rattle.model.specs.Runs.{steps, run_of, run}
use Rattle.model.specs.Counters.{lock_state, counters_after}
use Rattle.model.specs.Refusals.{Refusal, step_refusal, run_refusal}
use Rattle.model.specs.Answers.{step_reply, step_answer, run_reply, run_buffer, run_answer, trace_answer}

-- CALLS. A call asks for one step of a thread, or for a run of a schedule with a trace buffer
pub data Ask : Type 0 where
  one_step : (thread : ℕ) → Ask
  a_run : (schedule buffer : List ℕ) → Ask

-- a call: the tree it names and what it asks for
pub record Call : Type 0 where
  pub tree : TreeWords
  pub ask : Ask

-- what a call returns and writes
pub data Answer : Type 0 where
  stepped : StepReply → Answer
  ran : RunReply → (buffer : List ℕ) → Answer

-- the state in an answer
unfoldable pub state_in : Answer → LockState
state_in (stepped r) = r.state
state_in (ran r b) = r.state

-- the answer to a request on a given tree and state
unfoldable pub answer_to : TreeWords → Ask → LockState → Answer
answer_to w (one_step i) s = stepped (step_answer w s i)
answer_to w (a_run is b) s = ran (run_answer w s is b) (trace_answer w s is b)

-- the answer to a call on a given state
unfoldable pub answer : Call → LockState → Answer
answer c s = answer_to c.tree c.ask s

-- the refusal of a request on a given tree and state
unfoldable pub ask_refusal : Tree → Ask → LockState → Refusal
ask_refusal t (one_step i) s = step_refusal t s i
ask_refusal t (a_run is b) s = run_refusal t s is (length b)

-- the refusal of a call on a given state
unfoldable pub call_refusal : Call → LockState → Refusal
call_refusal c s = ask_refusal (tree_of c.tree) c.ask s

-- the schedule entries of a request
unfoldable pub asked_entries : Ask → List ℕ
asked_entries (one_step i) = i ∷ []
asked_entries (a_run is b) = is

-- the schedule entries that a call adds to the list's schedule: its own if it is accepted, none if it is refused
unfoldable pub added : Call → LockState → List ℕ
added c s = cond (eqb (call_refusal c s).number 0) (asked_entries c.ask) []

-- THE LIST: each call gets the state that the call before it returned
unfoldable pub answers : List Call → LockState → List Answer
answers [] s = []
answers (c ∷ cs) s = let a = answer c s in a ∷ answers cs (state_in a)

-- the list's schedule: the schedule entries of the accepted calls, in order
unfoldable pub joined : List Call → LockState → List ℕ
joined [] s = []
joined (c ∷ cs) s = added c s ++ joined cs (state_in (answer c s))

-- assumed about the list: each accepted call names the tree of the fresh call
unfoldable pub Names : Tree → List Call → LockState → Type 0
Names t [] s = Unit {0}
Names t (c ∷ cs) s = ((call_refusal c s).number ≡ 0 → tree_of c.tree ≡ t) × Names t cs (state_in (answer c s))

-- WHAT IS EXPECTED, computed from the step table over a schedule that starts at the fresh state; no other state is used
-- the words after the first k entries, by the step table
unfoldable pub state_at : Tree → (fresh : State) → (schedule : List ℕ) → (k : ℕ) → State
state_at t f S k = (run t (take k S) f).state

-- the steps of the n entries after the first k
unfoldable pub stretch : Tree → (fresh : State) → (schedule : List ℕ) → (k n : ℕ) → List Step
stretch t f S k n = take n (drop k (steps t S f))

-- the counters after the first k entries
unfoldable pub counters_at : Tree → (fresh : LockState) → (schedule : List ℕ) → (k : ℕ) → Counters
counters_at t f S k = counters_after t f.counters (stretch t f.words S 0 k)

-- the lock state after the first k entries
abbrev pub lock_at : Tree → (fresh : LockState) → (schedule : List ℕ) → (k : ℕ) → LockState
lock_at t f S k = lock_state (state_at t f.words S k) (counters_at t f S k)

-- the expected answer to a request after the first k entries: whether it is refused depends on the table's state there; an accepted one returns what the table gives over its part of the schedule
unfoldable pub expected_ask : Tree → (fresh : LockState) → (schedule : List ℕ) → (k : ℕ) → (named : Tree) → Ask → Answer
expected_ask t f S k u (one_step i) =
    let s = lock_at t f S k in
    stepped (step_reply (step_refusal u s i) s (stretch t f.words S k 1) (counters_at t f S (k + 1)))
expected_ask t f S k u (a_run is b) =
    let s = lock_at t f S k in
    let r = run_refusal u s is (length b) in
    let x = run_of s.words (stretch t f.words S k (length is)) in
    ran (run_reply r s x (counters_at t f S (k + length is))) (run_buffer r b x)

-- the expected answer to a call after the first k entries
unfoldable pub expected : Tree → (fresh : LockState) → (schedule : List ℕ) → (k : ℕ) → Call → Answer
expected t f S k c = expected_ask t f S k (tree_of c.tree) c.ask

-- the expected answers to a list of calls, the first of them after k entries
unfoldable pub expected_answers : Tree → (fresh : LockState) → (schedule : List ℕ) → (k : ℕ) → List Call → List Answer
expected_answers t f S k [] = []
expected_answers t f S k (c ∷ cs) = expected t f S k c ∷ expected_answers t f S (k + length (added c (lock_at t f S k))) cs

-- the entries of each accepted call are its part of the schedule, and the parts cover the schedule from entry k to its end
unfoldable pub Stretches : Tree → (fresh : LockState) → (schedule : List ℕ) → (k : ℕ) → List Call → Type 0
Stretches t f S k [] = k ≡ length S
Stretches t f S k (c ∷ cs) =
    let own = added c (lock_at t f S k) in
    (take (length own) (drop k S) ≡ own) × Stretches t f S (k + length own) cs

-- xs is a prefix of ys: ys is xs followed by a remainder
pub record Prefix (xs ys : List ℕ) : Type 0 where
  pub remainder : List ℕ
  pub joins : xs ++ remainder ≡ ys
