-- The check of steps that a host names by thread, kind and domain, from a state that it passes in: what it answers, for every input.
use Rattle.std.specs.Prelude.{Bool, ◌&&◌, not, cond, List, [], ◌∷◌, ◌++◌, ℕ, ◌+◌, eqb, leb, length}
use Rattle.model.specs.declared.TreeWords.{TreeWords}
use Rattle.model.specs.declared.LockState.{LockState}
use Rattle.model.specs.Trees.{Tree, tree_of}
use Rattle.model.specs.Steps.{kind_number, step}
use Rattle.model.specs.Counters.{counters_after, any_above, lock_after}
use Rattle.model.specs.Refusals.{Refusal, Test, test, first_refusal, tree_tests, state_tests}
use Rattle.journal.specs.declared.step_check.StepsReply.{StepsReply}

-- BEFORE THE STEPS. 30: the lists of threads, kinds and domains have different lengths
unfoldable pub bad_lengths : (threads kinds domains : List ℕ) → ℕ → Bool
bad_lengths is ks ds p = not (eqb (length ks) (length is) && eqb (length ds) (length is))

-- the test of the lengths
abbrev pub length_tests : (threads kinds domains : List ℕ) → List Test
length_tests is ks ds = test 30 1 (bad_lengths is ks ds) ∷ []

-- 4 to 9 and 16 for the tree, 10 for the state, then 30
unfoldable pub early_tests : Tree → LockState → (threads kinds domains : List ℕ) → List Test
early_tests t s is ks ds = (tree_tests t ++ state_tests t s) ++ length_tests is ks ds

-- the refusal before the steps
unfoldable pub early_refusal : Tree → LockState → (threads kinds domains : List ℕ) → Refusal
early_refusal t s is ks ds = first_refusal (early_tests t s is ks ds)

-- STEP BY STEP. The number that refuses a named step in a state, or 0: 12 if the thread is not in the tree; 19 if the step would raise a counter above 2^63; 26 if the kind is not the step's; 29 if the domain is not the step's
unfoldable pub step_number : Tree → LockState → (thread kind domain : ℕ) → ℕ
step_number t s i k d =
    let x = step t i s.words in
    cond (leb t.threads i) 12
    (cond (any_above (counters_after t s.counters (x ∷ []))) 19
    (cond (eqb k (kind_number x.kind)) (cond (eqb d x.domain) 0 29) 26))

-- the result for named steps: the number that refuses the first wrong one, or 0; how many steps come before it, or all; and the state after those
pub record Checked : Type 0 where
  pub number : ℕ
  pub steps : ℕ
  pub state : LockState

-- no step is left
abbrev pub ended : LockState → Checked
ended s = record { number = 0; steps = 0; state = s }

-- the next step is refused
abbrev pub stopped : (number : ℕ) → LockState → Checked
stopped n s = record { number = n; steps = 0; state = s }

-- the result with one more right step in front
abbrev pub one_more : Checked → Checked
one_more c = record { number = c.number; steps = c.steps + 1; state = c.state }

-- the state after one step
abbrev pub next : Tree → LockState → (thread : ℕ) → LockState
next t s i = lock_after t s (step t i s.words ∷ [])

-- the result for lists of threads, kinds and domains
unfoldable pub checked : Tree → LockState → (threads kinds domains : List ℕ) → Checked
checked t s [] ks ds = ended s
checked t s (i ∷ is) [] ds = ended s
checked t s (i ∷ is) (k ∷ ks) [] = ended s
checked t s (i ∷ is) (k ∷ ks) (d ∷ ds) =
    cond (eqb (step_number t s i k d) 0) (one_more (checked t (next t s i) is ks ds)) (stopped (step_number t s i k d) s)

-- THE ANSWER. Refused before the steps: nothing is checked, and the state is unchanged
abbrev pub refused : Refusal → LockState → StepsReply
refused r s = record { number = r.number; place = r.place; checked = 0; state = s }

-- the reply for the steps: the place is that of the first wrong step, counted from 0; the state is the one before it, or the one after the last step
abbrev pub replied : Checked → StepsReply
replied c = record { number = c.number; place = cond (eqb c.number 0) 0 c.steps; checked = c.steps; state = c.state }

-- what the call answers
unfoldable pub steps_answer : TreeWords → LockState → (threads kinds domains : List ℕ) → StepsReply
steps_answer w s is ks ds =
    let r = early_refusal (tree_of w) s is ks ds in
    cond (eqb r.number 0) (replied (checked (tree_of w) s is ks ds)) (refused r s)
