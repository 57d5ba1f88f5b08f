-- THE LAWS OF THE CHECK OF A STATE. These are statements; their proofs are in proofs/.
use Rattle.std.specs.Prelude.{◌≡◌, true, false, List, [], ◌∷◌, ℕ, ◌<◌, length}
use Rattle.model.specs.declared.TreeWords.{TreeWords}
use Rattle.model.specs.declared.LockState.{LockState}
use Rattle.model.specs.Trees.{Tree, tree_of}
use Rattle.model.specs.WellFormed.{well_formed}
use Rattle.model.specs.Counters.{good_counts}
use Rattle.model.specs.Refusals.{accepted, tree_refusal, bad_counter, step_refusal, run_refusal}
use Rattle.model.specs.Answers.{fresh_answer, step_answer, run_answer}
use Rattle.model.specs.Laws.{◌⟺◌, Formed, RefusesExactly}
use Rattle.refusals.specs.StateCheck.Answers.{check_tests, check_refusal, check_answer}

-- 1. REFUSALS. The general law of refusals covers the list of tests
unfoldable pub CheckRefusalLaw : Type 0
CheckRefusalLaw = (t : Tree) (s : LockState) → RefusesExactly (check_tests t s)

-- 2. WHAT IS ACCEPTED: a tree that a fresh lock accepts, with well-formed words and good counters
unfoldable pub AcceptedLaw : Type 0
AcceptedLaw =
    (t : Tree) (s : LockState) →
    (check_refusal t s ≡ accepted) ⟺ (((tree_refusal t).number ≡ 0) × (well_formed t s.words ≡ true) × (good_counts t s.counters ≡ true))

-- 3. AN EMPTY RUN answers the same number and place, whatever the length of its trace buffer
pub record AsEmptyRun (w : TreeWords) (s : LockState) (trace : List ℕ) : Type 0 where
  pub refusal : check_refusal (tree_of w) s ≡ run_refusal (tree_of w) s [] (length trace)
  pub number : (check_answer w s).number ≡ (run_answer w s [] trace).number
  pub place : (check_answer w s).place ≡ (run_answer w s [] trace).place

-- for every tree, state and trace buffer
unfoldable pub EmptyRunLaw : Type 0
EmptyRunLaw = (w : TreeWords) (s : LockState) (trace : List ℕ) → AsEmptyRun w s trace

-- 4. WHAT CALLS RETURN IS ACCEPTED: the state of an accepted fresh call, and that of an accepted step or run on a state whose arrays have the right lengths
pub record ReturnsAccepted (w : TreeWords) : Type 0 where
  pub of_fresh : (start : ℕ) → (fresh_answer w start).number ≡ 0 → check_answer w (fresh_answer w start).state ≡ accepted
  pub of_step : (s : LockState) (i : ℕ) → Formed (tree_of w) s.words → (step_answer w s i).number ≡ 0 → check_answer w (step_answer w s i).state ≡ accepted
  pub of_run :
      (s : LockState) (schedule trace : List ℕ) → Formed (tree_of w) s.words → (run_answer w s schedule trace).number ≡ 0 →
      check_answer w (run_answer w s schedule trace).state ≡ accepted

-- for every tree
unfoldable pub ReturnedStateLaw : Type 0
ReturnedStateLaw = (w : TreeWords) → ReturnsAccepted w

-- 5. AN ACCEPTED STATE can be stepped: only 19 refuses a step of a thread of the tree
unfoldable pub SteppedLaw : Type 0
SteppedLaw =
    (t : Tree) (s : LockState) (i : ℕ) → check_refusal t s ≡ accepted → i < t.threads →
    (step_refusal t s i ≡ accepted) ⟺ ((p : ℕ) → p < 1 → bad_counter t s (i ∷ []) p ≡ false)
