-- What the fresh call, a step and a run answer, for every input.
use Rattle.std.specs.Prelude.{cond, List, [], ◌∷◌, ◌++◌, ℕ, eqb, length, drop, replicate}
use Rattle.model.specs.declared.TreeWords.{TreeWords}
use Rattle.model.specs.declared.LockState.{LockState}
use Rattle.model.specs.declared.Counts.{Counts}
use Rattle.model.specs.declared.Counters.{Counters}
use Rattle.model.specs.declared.FreshReply.{FreshReply}
use Rattle.model.specs.declared.StepReply.{StepReply}
use Rattle.model.specs.declared.RunReply.{RunReply}
use Rattle.model.specs.Trees.{Tree, tree_of}
use Rattle.model.specs.States.{fresh_state}
use Rattle.model.specs.Steps.{kind_number, Step}
use Rattle.model.specs.Runs.{steps, state_after, Run, run}
use Rattle.model.specs.Counters.{lock_state, fresh_counters, fresh_lock, counters_after}
use Rattle.model.specs.Refusals.{Refusal, tree_refusal, step_refusal, run_refusal}

-- the answer of the fresh call. Its state is fresh whether accepted or refused; a refused call uses start 0
unfoldable pub fresh_answer : TreeWords → (start : ℕ) → FreshReply
fresh_answer w v =
    let r = tree_refusal (tree_of w) in
    let first = cond (eqb r.number 0) v 0 in
    record { number = r.number; place = r.place; state = lock_state (fresh_state (tree_of w) first) fresh_counters }

-- the kind number of the first step; 0 if there is none
unfoldable pub first_kind : List Step → ℕ
first_kind [] = 0
first_kind (x ∷ xs) = kind_number x.kind

-- the domain of the first step; 0 if there is none
unfoldable pub first_domain : List Step → ℕ
first_domain [] = 0
first_domain (x ∷ xs) = x.domain

-- the counters after the steps of a schedule
unfoldable pub counters_after_run : Tree → (schedule : List ℕ) → LockState → Counters
counters_after_run t is s = counters_after t s.counters (steps t is s.words)

-- the reply to an accepted step: its kind and domain, and the words and counters after it
abbrev pub step_accepted : LockState → (taken : List Step) → Counters → StepReply
step_accepted s xs c = record { number = 0; place = 0; kind = first_kind xs; domain = first_domain xs; state = lock_state (state_after s.words xs) c }

-- the reply to a refused step: kind 0, domain 0 and the state unchanged
abbrev pub step_refused : Refusal → LockState → StepReply
step_refused r s = record { number = r.number; place = r.place; kind = 0; domain = 0; state = s }

-- the reply to a step, given its refusal, the state before, the step taken and the counters after it
unfoldable pub step_reply : Refusal → LockState → (taken : List Step) → Counters → StepReply
step_reply r s xs c = cond (eqb r.number 0) (step_accepted s xs c) (step_refused r s)

-- what a step call answers
unfoldable pub step_answer : TreeWords → LockState → (thread : ℕ) → StepReply
step_answer w s i =
    step_reply (step_refusal (tree_of w) s i) s (steps (tree_of w) (i ∷ []) s.words) (counters_after_run (tree_of w) (i ∷ []) s)

-- all counts 0
abbrev pub no_counts : Counts
no_counts = record { steps = 0; entries = 0; stays = 0; root = 0; passed = 0; crossed = 0 }

-- the reply to a refused run: all counts 0 and the state unchanged
abbrev pub run_refused : Refusal → LockState → RunReply
run_refused r s = record { number = r.number; place = r.place; counts = no_counts; state = s }

-- the reply to an accepted run: its counts, and the words and counters after it
abbrev pub run_accepted : Run → Counters → RunReply
run_accepted x c = record { number = 0; place = 0; counts = x.counts; state = lock_state x.state c }

-- the reply to a run, given its refusal, the state before, the run and the counters after it
unfoldable pub run_reply : Refusal → LockState → Run → Counters → RunReply
run_reply r s x c = cond (eqb r.number 0) (run_accepted x c) (run_refused r s)

-- the trace buffer after a run: the entering threads at the front, the rest unchanged; if refused, all of it unchanged
unfoldable pub run_buffer : Refusal → (buffer : List ℕ) → Run → List ℕ
run_buffer r b x = cond (eqb r.number 0) (x.trace ++ drop (length x.trace) b) b

-- what a run call answers
unfoldable pub run_answer : TreeWords → LockState → (schedule buffer : List ℕ) → RunReply
run_answer w s is b = run_reply (run_refusal (tree_of w) s is (length b)) s (run (tree_of w) is s.words) (counters_after_run (tree_of w) is s)

-- what a run call leaves in the trace buffer
unfoldable pub trace_answer : TreeWords → LockState → (schedule buffer : List ℕ) → List ℕ
trace_answer w s is b = run_buffer (run_refusal (tree_of w) s is (length b)) b (run (tree_of w) is s.words)

-- the answer of a run on its own lock: from fresh words, with a trace buffer as long as the schedule
abbrev pub lone_answer : TreeWords → (schedule : List ℕ) → RunReply
lone_answer w is = run_answer w fresh_lock is (replicate (length is) 0)
