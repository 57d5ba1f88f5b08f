-- THE THIRD DEMAND: one claim for every list of steps and runs on one fresh lock.
use Rattle.std.specs.Prelude.{◌≡◌, true, List, ◌∷◌, ◌++◌, ◌≢◌, ℕ, ◌≤◌, take}
use Rattle.model.specs.declared.TreeWords.{TreeWords}
use Rattle.model.specs.declared.LockState.{LockState}
use Rattle.model.specs.declared.Place.TheVariants.{Inside}
use Rattle.model.specs.Trees.{Tree, tree_of, is_member, allowance}
use Rattle.model.specs.States.{place}
use Rattle.model.specs.Steps.{begins, Step}
use Rattle.model.specs.Runs.{steps, begun, ended, entries_under, occurrences}
use Rattle.model.specs.Answers.{fresh_answer}
use Rattle.model.specs.Calls.{Call, answers, joined, Names, state_at, expected_answers, Stretches, Prefix}

-- THE CLAIM for a list of calls on a fresh lock of tree t; f is its lock state and S the list's schedule
pub record Claim (t : Tree) (f : LockState) (cs : List Call) (S : List ℕ) : Type 0 where
  -- each call answers what the refusals and the step table give at that point of the whole schedule
  pub each : answers cs f ≡ expected_answers t f S 0 cs
  -- the accepted calls' own schedules, one after another, are the list's schedule
  pub stretches : Stretches t f S 0 cs
  -- no two threads are Inside after any schedule entry, unused slots included: threads i and j at Inside are the same thread
  pub alone : (k i j : ℕ) → place (state_at t f.words S k) i ≡ Inside → place (state_at t f.words S k) j ≡ Inside → i ≡ j
  -- in each domain, after every entry: the members whose standing ungranted has ended are a prefix of those that began it
  pub in_order : (k d : ℕ) → Prefix (ended d (take k (steps t S f.words))) (begun d (take k (steps t S f.words)))
  -- while m stands ungranted, possibly until the list ends, the entries under another member q of the same domain are at most q's allowance
  pub bounded :
      (before meanwhile later : List Step) (x : Step) (m q : ℕ) → steps t S f.words ≡ before ++ (x ∷ (meanwhile ++ later)) →
      x.standing ≡ begins m → occurrences m (ended x.domain meanwhile) ≡ 0 → is_member t x.domain q ≡ true → q ≢ m →
      entries_under t q meanwhile ≤ allowance t q

-- the claim holds for both kinds of root and for any start of the fresh call
unfoldable pub DemandThree : Type 0
DemandThree =
    (w : TreeWords) (start : ℕ) (cs : List Call) → (fresh_answer w start).number ≡ 0 → Names (tree_of w) cs (fresh_answer w start).state →
    Claim (tree_of w) (fresh_answer w start).state cs (joined cs (fresh_answer w start).state)
