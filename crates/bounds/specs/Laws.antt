-- THE LAWS OF THE CALLS OF ALLOWANCES AND ROUNDS. Each is a statement; proofs/ has its proof.
use Rattle.std.specs.Prelude.{◌≡◌, List, ℕ, ◌+◌, ◌*◌, ◌≤◌, ◌<◌, ◌^◌, get_or, length}
use Rattle.model.specs.declared.TreeWords.{TreeWords}
use Rattle.model.specs.declared.State.{State}
use Rattle.model.specs.Trees.{tree_of, allowance}
use Rattle.model.specs.Runs.{run, occurrences}
use Rattle.model.specs.Laws.{FromFresh}
use Rattle.bounds.specs.StarvationFreedom.Bounds.{everyone_bound}
use Rattle.bounds.specs.StarvationFreedom.Laws.{Rounds, round_robin}
use Rattle.bounds.specs.LongestWait.Bounds.{wait_bound}
use Rattle.bounds.specs.Answers.{allowances_answer, allowances_left, rounds_answer, wait_bounds_answer, wait_bounds_left}

-- ALLOWANCES. Accepted, the word of a domain other than the root is its allowance wherever that is a number of 64 bits, and else 2 ^ 64 less 1
pub record ReportsAllowances (w : TreeWords) (buffer : List ℕ) : Type 0 where
  pub exact :
      (d : ℕ) → 0 < d → d < w.domains → allowance (tree_of w) (256 + d) < 2 ^ 64 →
      get_or (allowances_left w buffer) d 0 ≡ allowance (tree_of w) (256 + d)
  pub cut : (d : ℕ) → 0 < d → d < w.domains → 2 ^ 64 ≤ allowance (tree_of w) (256 + d) → get_or (allowances_left w buffer) d 0 + 1 ≡ 2 ^ 64

unfoldable pub AllowancesLaw : Type 0
AllowancesLaw = (w : TreeWords) (buffer : List ℕ) → (allowances_answer w).number ≡ 0 → ReportsAllowances w buffer

-- ROUNDS. Accepted, the rounds are the bound for all threads and the turns that bound times the threads, each wherever that is a number of 64 bits, and else 2 ^ 64 less 1
pub record ReportsRounds (w : TreeWords) : Type 0 where
  pub rounds_exact : everyone_bound (tree_of w) < 2 ^ 64 → (rounds_answer w).rounds ≡ everyone_bound (tree_of w)
  pub rounds_cut : 2 ^ 64 ≤ everyone_bound (tree_of w) → (rounds_answer w).rounds + 1 ≡ 2 ^ 64
  pub turns_exact : everyone_bound (tree_of w) * w.threads < 2 ^ 64 → (rounds_answer w).turns ≡ everyone_bound (tree_of w) * w.threads
  pub turns_cut : 2 ^ 64 ≤ everyone_bound (tree_of w) * w.threads → (rounds_answer w).turns + 1 ≡ 2 ^ 64

unfoldable pub RoundsLaw : Type 0
RoundsLaw = (w : TreeWords) → (rounds_answer w).number ≡ 0 → ReportsRounds w

-- WHAT THE ROUNDS ARE, from every state reached from fresh. Below 2 ^ 64 less 1, every thread enters in any so many rounds, joined; by round robin these are as many turns as answered, where the turns are below 2 ^ 64 less 1 too
pub record EntersAsAnswered (w : TreeWords) (s : State) : Type 0 where
  pub in_rounds :
      (rounds_answer w).rounds + 1 < 2 ^ 64 → (S : List ℕ) → Rounds (tree_of w) (rounds_answer w).rounds S → (i : ℕ) → i < w.threads →
      1 ≤ occurrences i (run (tree_of w) S s).trace
  pub by_round_robin :
      (rounds_answer w).rounds + 1 < 2 ^ 64 → (i : ℕ) → i < w.threads →
      1 ≤ occurrences i (run (tree_of w) (round_robin w.threads (rounds_answer w).rounds) s).trace
  pub turns : (rounds_answer w).turns + 1 < 2 ^ 64 → length (round_robin w.threads (rounds_answer w).rounds) ≡ (rounds_answer w).turns

unfoldable pub EnteringLaw : Type 0
EnteringLaw = (w : TreeWords) (s : State) → FromFresh (tree_of w) s → EntersAsAnswered w s

-- THE LONGEST WAIT. Accepted, the word of a thread is its W wherever that is a number of 64 bits, and else 2 ^ 64 less 1; after the last thread it is 0
pub record ReportsWaitBounds (w : TreeWords) (buffer : List ℕ) : Type 0 where
  pub exact : (i : ℕ) → i < w.threads → wait_bound (tree_of w) i < 2 ^ 64 → get_or (wait_bounds_left w buffer) i 0 ≡ wait_bound (tree_of w) i
  pub cut : (i : ℕ) → i < w.threads → 2 ^ 64 ≤ wait_bound (tree_of w) i → get_or (wait_bounds_left w buffer) i 0 + 1 ≡ 2 ^ 64
  pub after : (i : ℕ) → w.threads ≤ i → get_or (wait_bounds_left w buffer) i 0 ≡ 0

unfoldable pub WaitBoundsLaw : Type 0
WaitBoundsLaw = (w : TreeWords) (buffer : List ℕ) → (wait_bounds_answer w).number ≡ 0 → ReportsWaitBounds w buffer
