-- WHO MEETS WHAT THE LAWS ASK. Of each law of `model` that asks something of its input, an input that has all of it at once; docs/WITNESSES.md is the list.
use Rattle.std.specs.Prelude.{◌≡◌, true, false, List, [], ◌∷◌, ◌++◌, ◌≢◌, ℕ, ◌<◌, length, get_or, replicate}
use Rattle.model.specs.declared.TreeWords.{TreeWords}
use Rattle.model.specs.declared.LockState.{LockState}
use Rattle.model.specs.Trees.{Tree, tree_of, is_leaf, on_path, is_member}
use Rattle.model.specs.States.{acquire_parent, wait_word, status, fresh_words, fresh_state}
use Rattle.model.specs.Steps.{kind_number, Step}
use Rattle.model.specs.Runs.{steps, run}
use Rattle.model.specs.Counters.{lock_state, fresh_counters, fresh_lock, good_counts}
use Rattle.model.specs.Refusals.{tree_tests, run_tests_before_19, bad_counter, tree_refusal, step_refusal, run_refusal}
use Rattle.model.specs.Laws.{FreshRun, FromFresh, Formed, Numbered, ReadAlike}
use Rattle.model.specs.CounterLaws.{RoomLeft}
use Rattle.model.specs.Search.{SameUpTo, with_parent, six_levels}
use Rattle.model.specs.Cases.Marked.{at_ticket_root, two_homes, first_entries, three_levels}
use Rattle.model.specs.Cases.Counters.{counters, one_pass}
use Rattle.model.specs.Cases.Claim.{two_homes_again}

-- 1. WHAT NEARLY EVERY LAW ASKS: an accepted tree with 16-bit thresholds, a schedule of its threads, the state that it leaves on a fresh lock, and a thread
pub record Meets (w : TreeWords) (schedule : List ℕ) (thread : ℕ) : Type 0 where
  pub fresh_run : FreshRun (tree_of w) schedule
  pub from_fresh : FromFresh (tree_of w) (run (tree_of w) schedule (fresh_state (tree_of w) 0)).state
  pub real : thread < (tree_of w).threads

-- thread 0 enters and crosses to thread 1, on three levels
unfoldable pub crossing : List ℕ
crossing = replicate 6 0 ++ replicate 6 1 ++ replicate 4 0 ++ 1 ∷ []

-- document 01's example with a root of each kind, and three levels
pub record TreesMeet : Type 0 where
  pub queue_root : Meets two_homes (first_entries ++ 2 ∷ []) 2
  pub ticket_root : Meets (at_ticket_root two_homes) (first_entries ++ 2 ∷ []) 2
  pub inner : Meets three_levels crossing 1

-- 2. STATES AND COUNTERS. From fresh, also after a schedule: formed, with good counters, and none that a further schedule pushes too far
pub record StatesMeet (w : TreeWords) (before after : List ℕ) : Type 0 where
  pub formed : Formed (tree_of w) (run (tree_of w) before (fresh_state (tree_of w) 0)).state
  pub good : good_counts (tree_of w) fresh_counters ≡ true
  pub room : RoomLeft fresh_counters (length after)
  pub not_bad : (p : ℕ) → p < length after → bad_counter (tree_of w) (lock_state (fresh_state (tree_of w) 0) fresh_counters) after p ≡ false

unfoldable pub StatesMet : Type 0
StatesMet = StatesMeet two_homes first_entries (2 ∷ [])

-- with fresh counters and with others a step and a run are accepted
unfoldable pub counted_before : LockState
counted_before = lock_state fresh_words (counters (0 ∷ 7 ∷ []) (0 ∷ 4 ∷ []) (0 ∷ 2 ∷ []))

pub record CountersMet : Type 0 where
  pub of_step : (step_refusal (tree_of two_homes) fresh_lock 0).number ≡ 0
  pub of_step_counted : (step_refusal (tree_of two_homes) counted_before 0).number ≡ 0
  pub of_run : (run_refusal (tree_of two_homes) fresh_lock (0 ∷ 1 ∷ []) 2).number ≡ 0
  pub of_run_counted : (run_refusal (tree_of two_homes) counted_before (0 ∷ 1 ∷ []) 2).number ≡ 0

-- 3. KINDS. The numbers of the kinds of some steps: all six occur
unfoldable pub kinds_of : List Step → List ℕ
kinds_of [] = []
kinds_of (x ∷ xs) = kind_number x.kind ∷ kinds_of xs

pub record KindsMet : Type 0 where
  pub of_two_homes :
      kinds_of (steps (tree_of two_homes) (first_entries ++ 2 ∷ []) fresh_words)
      ≡ 1 ∷ 1 ∷ 1 ∷ 2 ∷ 1 ∷ 1 ∷ 1 ∷ 0 ∷ 5 ∷ 1 ∷ 1 ∷ 3 ∷ 1 ∷ 1 ∷ 1 ∷ 1 ∷ 1 ∷ 5 ∷ 1 ∷ 1 ∷ 1 ∷ 2 ∷ []
  pub of_three_levels :
      kinds_of (steps (tree_of three_levels) crossing fresh_words)
      ≡ 1 ∷ 1 ∷ 1 ∷ 1 ∷ 1 ∷ 2 ∷ 1 ∷ 1 ∷ 1 ∷ 1 ∷ 1 ∷ 0 ∷ 5 ∷ 1 ∷ 1 ∷ 1 ∷ 4 ∷ []

-- 4. TESTS of every tree, state and schedule have numbers other than 0
unfoldable pub TestsNumbered : Type 0
TestsNumbered =
    (t : Tree) (s : LockState) (is : List ℕ) (room : ℕ) → Numbered (tree_tests t) × Numbered (run_tests_before_19 t s is room)

-- 5. OTHER WORDS OF A TREE, which differ where nothing is read
pub record UnreadMet : Type 0 where
  pub alike : ReadAlike two_homes two_homes_again
  pub parent : get_or two_homes_again.parents 0 0 ≢ get_or two_homes.parents 0 0
  pub threshold : get_or two_homes_again.thresholds 3 0 ≢ get_or two_homes.thresholds 3 0

-- 6. WORDS. Each of the three is some member's, from fresh: a count, WAIT, and ACQUIRE_PARENT
unfoldable pub status_after : TreeWords → (schedule : List ℕ) → (of : ℕ) → ℕ
status_after w is r = status (run (tree_of w) is (fresh_state (tree_of w) 0)).state r

pub record WordsMet : Type 0 where
  pub count : status_after two_homes (replicate 3 0) 0 ≡ 1
  pub waits : status_after two_homes (replicate 4 0 ++ replicate 3 1) 1 ≡ wait_word
  pub granted : status_after one_pass (replicate 4 0 ++ replicate 3 1 ++ replicate 6 0) 1 ≡ acquire_parent

-- 7. LEAVES, DOMAINS WITH CHILDREN, AND PATHS
pub record DomainsMet : Type 0 where
  pub member : is_member (tree_of two_homes) 1 0 ≡ true
  pub leaf : is_leaf (tree_of three_levels) 2 ≡ true
  pub inner : is_leaf (tree_of three_levels) 1 ≡ false
  pub root : is_leaf (tree_of three_levels) 0 ≡ false
  pub six_accepted : (tree_refusal (tree_of six_levels)).number ≡ 0
  pub six_path : on_path (tree_of six_levels) 0 3 ≡ true
  pub off_path : on_path (tree_of three_levels) 1 2 ≡ false

-- the parent that a domain has, put there again, leaves every tree the same up to every domain
unfoldable pub OwnParent : Type 0
OwnParent = (t : Tree) (i c d : ℕ) → SameUpTo c t (with_parent d (t.parent d) t) i

pub record Witnesses : Type 0 where
  pub trees : TreesMeet
  pub states : StatesMet
  pub counters_alone : CountersMet
  pub kinds : KindsMet
  pub tests : TestsNumbered
  pub unread : UnreadMet
  pub words : WordsMet
  pub domains : DomainsMet
  pub own_parent : OwnParent
