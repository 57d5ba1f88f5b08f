-- THE LONGEST WAIT. Which thresholds may one choose if a thread may wait for at most so many entries of others? The laws are about the step table's steps along schedules of any length, and not about calls or refusals. Each is a statement; proofs/ has its proof.
use Rattle.std.specs.Prelude.{◌≡◌, true, cond, List, ◌∷◌, ◌++◌, ◌≢◌, ℕ, ◌+◌, ◌*◌, ◌-◌, ◌≤◌, ◌<◌}
use Rattle.std.specs.Int.{◌∣◌}
use Rattle.model.specs.Scans.{largest_below}
use Rattle.model.specs.Trees.{Tree, is_record, is_member, level, allowance}
use Rattle.model.specs.States.{fresh_state}
use Rattle.model.specs.Steps.{is_entry, begins, Step}
use Rattle.model.specs.Runs.{steps, how_many, entering, ended, entries_under, occurrences}
use Rattle.model.specs.Refusals.{tree_refusal}
use Rattle.model.specs.Laws.{FreshRun}
use Rattle.bounds.specs.StarvationFreedom.Bounds.{members}
use Rattle.waits.specs.Attempts.{begins as begins_attempt, waits}
use Rattle.bounds.specs.LongestWait.Bounds.{effective_threshold, passes, others_passes, tenures_for_all, member_wait, wait_bound}
use Rattle.bounds.specs.LongestWait.InLine.{in_line, bypass, late_entry, count_steps}

-- 0. THE NUMBERS, without quotients and without a limit on the depth of recursion: passes by members, W from a domain to its parent, and the fewest tenures that are enough for all members
pub record Numbers (t : Tree) : Type 0 where
  pub of_thread : (i : ℕ) → i < t.threads → passes t i ≡ 1
  pub of_domain : (d : ℕ) → d < t.domains → passes t (256 + d) ≡ effective_threshold t d * largest_below 320 (λ q. cond (is_member t d q) (passes t q) 0)
  pub at_root : (m : ℕ) → member_wait t 0 m ≡ others_passes t 0 m
  pub below_root :
      (d m : ℕ) → 0 < d → d < t.domains → member_wait t d m ≡ others_passes t d m + tenures_for_all t d * member_wait t (t.parent d) (256 + d)
  pub enough : (d : ℕ) → 0 < d → d < t.domains → members t d ≤ tenures_for_all t d * t.threshold d
  pub fewest : (d k : ℕ) → 0 < d → d < t.domains → members t d ≤ k * t.threshold d → tenures_for_all t d ≤ k

unfoldable pub NumbersLaw : Type 0
NumbersLaw = (t : Tree) → (tree_refusal t).number ≡ 0 → Numbers t

-- AN ATTEMPT among the steps of a schedule from fresh: it begins with a step, and up to the end of the steps meanwhile its thread does not enter. It may go on, and the schedule may end with it under way
pub record Attempt (t : Tree) (schedule : List ℕ) (start thread : ℕ) (first : Step) (meanwhile : List Step) : Type 0 where
  pub real : thread < t.threads
  pub before : List Step
  pub later : List Step
  pub there : steps t schedule (fresh_state t start) ≡ before ++ (first ∷ (meanwhile ++ later))
  pub begun : begins_attempt t thread first ≡ true
  pub not_entered : occurrences thread (entering (first ∷ meanwhile)) ≡ 0

-- 1. THE BOUND. In line for a thread there are at most W entries in an attempt; so its wait, which is the entries meanwhile, is at most W and its bypasses. No number bounds the bypasses: while a thread has no turn, others may enter any number of times
pub record BoundedWait (t : Tree) (thread : ℕ) (first : Step) (meanwhile : List Step) : Type 0 where
  pub in_line_entries : count_steps (in_line t thread) first.state meanwhile ≤ wait_bound t thread
  pub wait : how_many is_entry meanwhile ≤ wait_bound t thread + count_steps (bypass t thread) first.state meanwhile
  -- where every entry meanwhile is prompt there is no bypass, and the wait is at most W
  pub no_bypass : count_steps (late_entry t thread) first.state meanwhile ≡ 0 → count_steps (bypass t thread) first.state meanwhile ≡ 0
  pub prompt_wait : count_steps (late_entry t thread) first.state meanwhile ≡ 0 → how_many is_entry meanwhile ≤ wait_bound t thread

-- for every accepted tree and both kinds of root
unfoldable pub WaitBoundLaw : Type 0
WaitBoundLaw =
    (t : Tree) (start : ℕ) (schedule : List ℕ) → FreshRun t schedule → (i : ℕ) (x : Step) (meanwhile : List Step) →
    Attempt t schedule start i x meanwhile → BoundedWait t i x meanwhile

-- 2. THE WAITS OF A RUN, which document 02, (vi), counts: each but 0 is the wait of such an attempt; and where every entry of another in the run is prompt, none is above W
pub record Waited (t : Tree) (schedule : List ℕ) (start thread wait : ℕ) : Type 0 where
  pub first : Step
  pub meanwhile : List Step
  pub attempt : Attempt t schedule start thread first meanwhile
  pub entries : how_many is_entry meanwhile ≡ wait

pub record WaitsBounded (t : Tree) (schedule : List ℕ) (start i : ℕ) : Type 0 where
  pub of_attempts : (w : ℕ) → 1 ≤ occurrences w (waits t i (steps t schedule (fresh_state t start))) → 1 ≤ w → Waited t schedule start i w
  pub prompt_waits :
      count_steps (late_entry t i) (fresh_state t start) (steps t schedule (fresh_state t start)) ≡ 0 →
      (w : ℕ) → 1 ≤ occurrences w (waits t i (steps t schedule (fresh_state t start))) → w ≤ wait_bound t i

unfoldable pub WaitsBoundLaw : Type 0
WaitsBoundLaw =
    (t : Tree) (start : ℕ) (schedule : List ℕ) → FreshRun t schedule → (i : ℕ) → i < t.threads → WaitsBounded t schedule start i

-- 3. PASSES are at most the allowance, and bound the entries under a member as the third demand has it: for two different members of a domain, while m stands ungranted, the entries of threads under q are at most its passes
unfoldable pub FewerPassesLaw : Type 0
FewerPassesLaw = (t : Tree) → (tree_refusal t).number ≡ 0 → (m : ℕ) → is_record t m ≡ true → passes t m ≤ allowance t m

unfoldable pub PassesLaw : Type 0
PassesLaw =
    (t : Tree) (start : ℕ) (schedule : List ℕ) → FreshRun t schedule →
    (before meanwhile later : List Step) (x : Step) (m q : ℕ) → steps t schedule (fresh_state t start) ≡ before ++ (x ∷ (meanwhile ++ later)) →
    x.standing ≡ begins m → occurrences m (ended x.domain meanwhile) ≡ 0 → is_member t x.domain q ≡ true → q ≢ m →
    entries_under t q meanwhile ≤ passes t q

-- 4. EQUAL LEVELS. All homes are on one level; the domains of a level have the same number of members and the same threshold
pub record EqualLevels (t : Tree) : Type 0 where
  pub one_level : (i j : ℕ) → i < t.threads → j < t.threads → level t (t.home i) ≡ level t (t.home j)
  pub same_members : (c d : ℕ) → c < t.domains → d < t.domains → level t c ≡ level t d → members t c ≡ members t d
  pub same_threshold : (c d : ℕ) → 0 < c → 0 < d → c < t.domains → d < t.domains → level t c ≡ level t d → t.threshold c ≡ t.threshold d

-- where besides each threshold divides its number of members, W is the number of the other threads, as with one queue for all
pub record Even (t : Tree) : Type 0 where
  pub levels : EqualLevels t
  pub divides : (d : ℕ) → 0 < d → d < t.domains → t.threshold d ∣ members t d

unfoldable pub EvenTreeLaw : Type 0
EvenTreeLaw = (t : Tree) → (tree_refusal t).number ≡ 0 → Even t → (i : ℕ) → i < t.threads → wait_bound t i + 1 ≡ t.threads

-- the other threads, and their unfair entries by source document 000, section 4.2, equation 18, where there are a threads a home, b homes a socket and c sockets, and the thresholds are h and k
unfoldable pub equation_18 : (a b c h k : ℕ) → ℕ
equation_18 a b c h k = (a * b * c - 1) + (h * k - a * b) * (c - 1) + (h - a) * (b - 1)

-- on three equal levels it is W, where no threshold is below its number of members, and no home or socket has one member
unfoldable pub Equation18Law : Type 0
Equation18Law =
    (t : Tree) → (tree_refusal t).number ≡ 0 → EqualLevels t → (i : ℕ) → i < t.threads → level t (t.home i) ≡ 3 →
    (let home = t.home i in
    let socket = t.parent (t.home i) in
    2 ≤ members t home → 2 ≤ members t socket → members t home ≤ t.threshold home → members t socket ≤ t.threshold socket →
    wait_bound t i ≡ equation_18 (members t home) (members t socket) (members t 0) (t.threshold home) (t.threshold socket))
