-- NOBODY STARVES under fair schedules: after so many rounds every thread has entered. The laws are about the step table's steps along schedules of any length, and not about calls or refusals. Each is a statement; proofs/ has its proof.
use Rattle.std.specs.Prelude.{◌≡◌, Bool, true, false, ◌&&◌, not, List, [], ◌∷◌, ◌++◌, ℕ, zero, suc, ◌+◌, ◌*◌, ◌≤◌, ◌<◌, length, take, drop}
use Rattle.model.specs.declared.Place.{Place}
use Rattle.model.specs.declared.Place.TheVariants.{Idle, Prep, Swap, Link, Wait, Inside, Check, Help, Cas, Linger, Grant, Draw, Watch, Raise, Invalid}
use Rattle.model.specs.declared.State.{State}
use Rattle.model.specs.Trees.{Tree}
use Rattle.model.specs.Places.{same_row}
use Rattle.model.specs.States.{place}
use Rattle.model.specs.Runs.{run, occurrences}
use Rattle.model.specs.Refusals.{tree_refusal}
use Rattle.model.specs.Laws.{AllThreads, FromFresh}
use Rattle.model.specs.Calls.{state_at}
use Rattle.bounds.specs.StarvationFreedom.Bounds.{acquire_bound, release_bound, everyone_bound, allowance_acquire_bound, allowance_everyone_bound}

-- Idle, or on the way up
unfoldable pub is_acquiring : Place → Bool
is_acquiring Idle = true
is_acquiring (Prep l) = true
is_acquiring (Swap l) = true
is_acquiring (Link l p) = true
is_acquiring (Wait l) = true
is_acquiring Inside = false
is_acquiring (Check l) = false
is_acquiring (Help l) = false
is_acquiring (Cas l) = false
is_acquiring (Linger l) = false
is_acquiring (Grant l r w) = false
is_acquiring Draw = true
is_acquiring Watch = true
is_acquiring Raise = false
is_acquiring Invalid = false

-- Inside, or on the way down
unfoldable pub is_releasing : Place → Bool
is_releasing p = not (is_acquiring p) && not (same_row p Invalid)

-- a round: a schedule of threads of the tree in which every thread occurs
pub record Round (t : Tree) (schedule : List ℕ) : Type 0 where
  pub threads : AllThreads t schedule
  pub everyone : (i : ℕ) → i < t.threads → 1 ≤ occurrences i schedule

-- so many rounds, joined
pub data Rounds (t : Tree) : (number : ℕ) → (schedule : List ℕ) → Type 0 where
  none : Rounds t 0 []
  one_more : {n : ℕ} {rounds : List ℕ} (round : List ℕ) → Round t round → Rounds t n rounds → Rounds t (suc n) (round ++ rounds)

-- in the run of a schedule from a state, the thread is at a place after some entry, among the first so many
pub record Arrives (t : Tree) (s : State) (schedule : List ℕ) (thread : ℕ) (there : Place) (entries : ℕ) : Type 0 where
  pub entry : ℕ
  pub some : 1 ≤ entry
  pub within : entry ≤ entries
  pub arrived : place (state_at t s schedule entry) thread ≡ there

-- THE BOUNDS, of a thread in a state
pub record Bounded (t : Tree) (s : State) (i : ℕ) : Type 0 where
  -- Idle or on its way up, it is Inside after some entry of any B rounds, joined
  pub acquiring : (S : List ℕ) → is_acquiring (place s i) ≡ true → Rounds t (acquire_bound t i) S → Arrives t s S i Inside (length S)
  -- Inside or releasing, it is Idle after some entry of any R rounds, joined
  pub releasing : (S : List ℕ) → is_releasing (place s i) ≡ true → Rounds t (release_bound t i) S → Arrives t s S i Idle (length S)
  -- any B + R rounds, joined, contain an entry of it
  pub entering : (S : List ℕ) → Rounds t (acquire_bound t i + release_bound t i) S → 1 ≤ occurrences i (run t S s).trace

-- for every accepted tree, both kinds of root, and every state reached from fresh
unfoldable pub StarvationLaw : Type 0
StarvationLaw = (t : Tree) (s : State) → FromFresh t s → (i : ℕ) → i < t.threads → Bounded t s i

-- EVERYONE. The threads in order, again and again: round robin
unfoldable pub in_order : (threads : ℕ) → List ℕ
in_order zero = []
in_order (suc n) = in_order n ++ (n ∷ [])

unfoldable pub round_robin : (threads rounds : ℕ) → List ℕ
round_robin m zero = []
round_robin m (suc n) = in_order m ++ round_robin m n

-- in so many rounds, joined, every thread enters; by round robin that is so many turns for each thread
pub record EveryoneEnters (t : Tree) (s : State) : Type 0 where
  pub in_rounds : (S : List ℕ) → Rounds t (everyone_bound t) S → (i : ℕ) → i < t.threads → 1 ≤ occurrences i (run t S s).trace
  pub by_round_robin : (i : ℕ) → i < t.threads → 1 ≤ occurrences i (run t (round_robin t.threads (everyone_bound t)) s).trace
  pub turns : length (round_robin t.threads (everyone_bound t)) ≡ everyone_bound t * t.threads

unfoldable pub EveryoneLaw : Type 0
EveryoneLaw = (t : Tree) (s : State) → FromFresh t s → EveryoneEnters t s

-- IN WINDOWS: every thread occurs among each N entries one after the other
pub record Windows (t : Tree) (N : ℕ) (schedule : List ℕ) : Type 0 where
  pub threads : AllThreads t schedule
  pub everyone : (k i : ℕ) → k + N ≤ length schedule → i < t.threads → 1 ≤ occurrences i (take N (drop k schedule))

-- round robin is such a schedule: every thread occurs among as many entries as there are threads, wherever they begin
unfoldable pub RoundRobinLaw : Type 0
RoundRobinLaw = (t : Tree) (rounds : ℕ) → Windows t t.threads (round_robin t.threads rounds)

-- the same bounds in entries, N for each round
pub record BoundedInWindows (t : Tree) (s : State) (i N : ℕ) (S : List ℕ) : Type 0 where
  pub acquiring : is_acquiring (place s i) ≡ true → N * acquire_bound t i ≤ length S → Arrives t s S i Inside (N * acquire_bound t i)
  pub releasing : is_releasing (place s i) ≡ true → N * release_bound t i ≤ length S → Arrives t s S i Idle (N * release_bound t i)
  pub entering :
      N * (acquire_bound t i + release_bound t i) ≤ length S → 1 ≤ occurrences i (run t (take (N * (acquire_bound t i + release_bound t i)) S) s).trace

unfoldable pub WindowLaw : Type 0
WindowLaw =
    (t : Tree) (s : State) → FromFresh t s → (i : ℕ) → i < t.threads → (N : ℕ) (S : List ℕ) → Windows t N S → BoundedInWindows t s i N S

-- SHARPER than by allowances: no bound is larger
pub record Sharper (t : Tree) : Type 0 where
  pub acquiring : (i : ℕ) → i < t.threads → acquire_bound t i ≤ allowance_acquire_bound t i
  pub everyone : everyone_bound t ≤ allowance_everyone_bound t

unfoldable pub SharperLaw : Type 0
SharperLaw = (t : Tree) → (tree_refusal t).number ≡ 0 → Sharper t
