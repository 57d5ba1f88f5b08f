-- Runs: a sequence of steps, and what is counted over it.
use Rattle.std.specs.Prelude.{Bool, cond, List, [], ◌∷◌, ◌++◌, ℕ, ◌+◌, eqb, length}
use Rattle.model.specs.declared.State.{State}
use Rattle.model.specs.declared.Counts.{Counts}
use Rattle.model.specs.Trees.{Tree, under}
use Rattle.model.specs.Steps.{Kind, stay, root_entry, passed_entry, crossed_entry, is_kind, is_entry, Standing, unchanged, begins, ends, Step, step}

-- the steps of a schedule from a state, in order
unfoldable pub steps : Tree → (schedule : List ℕ) → State → List Step
steps t [] s = []
steps t (i ∷ is) s = let x = step t i s in x ∷ steps t is x.state

-- the state after the last step
unfoldable pub state_after : State → List Step → State
state_after s [] = s
state_after s (x ∷ xs) = state_after x.state xs

-- how many steps have a kind that passes
unfoldable pub how_many : (Kind → Bool) → List Step → ℕ
how_many f [] = 0
how_many f (x ∷ xs) = cond (f x.kind) 1 0 + how_many f xs

-- the trace: the entering threads
unfoldable pub entering : List Step → List ℕ
entering [] = []
entering (x ∷ xs) = cond (is_entry x.kind) (x.thread ∷ []) [] ++ entering xs

-- steps (stays included), entries, stays, root entries, passed entries and crossed entries, each counted over the steps
unfoldable pub counts_of : List Step → Counts
counts_of xs =
    record {
      steps = length xs;
      entries = how_many is_entry xs;
      stays = how_many (is_kind stay) xs;
      root = how_many (is_kind root_entry) xs;
      passed = how_many (is_kind passed_entry) xs;
      crossed = how_many (is_kind crossed_entry) xs;
    }

-- a run: its counts, its trace, and the state after its last step
pub record Run : Type 0 where
  pub counts : Counts
  pub trace : List ℕ
  pub state : State

-- the run that consists of these steps from a state
unfoldable pub run_of : State → List Step → Run
run_of s xs = record { counts = counts_of xs; trace = entering xs; state = state_after s xs }

-- the run of a schedule from a state
unfoldable pub run : Tree → (schedule : List ℕ) → State → Run
run t is s = run_of s (steps t is s)

-- the members that begin to stand ungranted with a step
unfoldable pub begun_in : Standing → List ℕ
begun_in unchanged = []
begun_in (begins m) = m ∷ []
begun_in (ends ms) = []

-- the members whose standing ungranted ends with a step
unfoldable pub ended_in : Standing → List ℕ
ended_in unchanged = []
ended_in (begins m) = []
ended_in (ends ms) = ms

-- the members that begin to stand ungranted in a domain, in order, once for each beginning
unfoldable pub begun : (domain : ℕ) → List Step → List ℕ
begun d [] = []
begun d (x ∷ xs) = cond (eqb x.domain d) (begun_in x.standing) [] ++ begun d xs

-- the members whose standing ungranted ends in a domain, in order, once for each end
unfoldable pub ended : (domain : ℕ) → List Step → List ℕ
ended d [] = []
ended d (x ∷ xs) = cond (eqb x.domain d) (ended_in x.standing) [] ++ ended d xs

-- the entries of threads under a member
unfoldable pub entries_under : Tree → (member : ℕ) → List Step → ℕ
entries_under t q [] = 0
entries_under t q (x ∷ xs) = cond (is_entry x.kind) (cond (under t q x.thread) 1 0) 0 + entries_under t q xs

-- how often a number occurs in a list
unfoldable pub occurrences : ℕ → List ℕ → ℕ
occurrences m [] = 0
occurrences m (x ∷ xs) = cond (eqb m x) 1 0 + occurrences m xs
