-- THE LAWS OF THE CHAIN, document 02, (x). Each is a statement; proofs/ has its proof.
use Rattle.std.specs.Prelude.{◌≡◌, true, false, List, [], ◌∷◌, ◌++◌, ◌≢◌, ℕ, ◌≤◌, ◌<◌}
use Rattle.model.specs.declared.State.{State}
use Rattle.model.specs.declared.Counters.{Counters}
use Rattle.model.specs.declared.LockState.{LockState}
use Rattle.model.specs.Trees.{Tree}
use Rattle.model.specs.Steps.{stay, step}
use Rattle.model.specs.Runs.{run, occurrences}
use Rattle.model.specs.Counters.{lock_state, good_counts}
use Rattle.model.specs.Refusals.{accepted}
use Rattle.model.specs.Laws.{AllThreads, FromFresh, RefusesExactly}
use Rattle.chain.specs.Chain.{stays, looks_to, chain}
use Rattle.chain.specs.Answers.{chain_tests, chain_refusal}

-- 1. THE CHAIN, said without fuel: it ends at a thread whose next step is not a stay, and goes on to the one thread that its last looks to, which is not yet in it
pub data ChainOn (t : Tree) (s : State) : (so_far : List ℕ) → (last : ℕ) → (chain : List ℕ) → Type 0 where
  ends : (c : List ℕ) (i : ℕ) → stays t s i ≡ false → ChainOn t s c i c
  goes_on :
      (c : List ℕ) (i j : ℕ) (all : List ℕ) → stays t s i ≡ true → looks_to t s i ≡ j ∷ [] → occurrences j c ≡ 0 →
      ChainOn t s (c ++ (j ∷ [])) j all → ChainOn t s c i all

-- the chain is the one list that is so, and empty where there is none
pub record IsChain (t : Tree) (s : State) (i : ℕ) : Type 0 where
  pub found : chain t s i ≢ [] → ChainOn t s (i ∷ []) i (chain t s i)
  pub exactly : (c : List ℕ) → ChainOn t s (i ∷ []) i c → chain t s i ≡ c

unfoldable pub ChainLaw : Type 0
ChainLaw = (t : Tree) (s : State) (i : ℕ) → i < t.threads → IsChain t s i

-- 2. REFUSALS: the call's tests are such a list as the law of refusals speaks of
unfoldable pub ChainRefusalLaw : Type 0
ChainRefusalLaw = (t : Tree) (s : LockState) (i room : ℕ) → RefusesExactly (chain_tests t s i room)

-- 3. FROM FRESH. While the thread ahead takes no step, the one after it can only stay: after every schedule without the one ahead, its next step is a stay
unfoldable pub OnlyStays : Tree → State → (waiting ahead : ℕ) → Type 0
OnlyStays t s a b = (js : List ℕ) → AllThreads t js → occurrences b js ≡ 0 → (step t a (run t js s).state).kind ≡ stay

-- two threads one after the other in a list
pub record LinkIn (chain : List ℕ) (waiting ahead : ℕ) : Type 0 where
  pub before : List ℕ
  pub after : List ℕ
  pub there : chain ≡ before ++ (waiting ∷ ahead ∷ after)

-- the chain has its thread first, no thread twice, and at its end a thread whose next step is not a stay; at every link, while the thread ahead takes no step, the one after it can only stay
pub record Explains (t : Tree) (s : State) (i : ℕ) (chain : List ℕ) : Type 0 where
  pub more : List ℕ
  pub itself_first : chain ≡ i ∷ more
  pub once : (j : ℕ) → occurrences j chain ≤ 1
  pub front : List ℕ
  pub last : ℕ
  pub at_end : chain ≡ front ++ (last ∷ [])
  pub last_moves : (step t last s).kind ≢ stay
  pub only_stays : (a b : ℕ) → LinkIn chain a b → OnlyStays t s a b

-- and 21 never occurs: with room for as many entries as there are threads, and with any counters that 10 lets pass, no thread's chain is refused
pub record AnswersWhy (t : Tree) (s : State) (i : ℕ) : Type 0 where
  pub never_refused :
      (c : Counters) → good_counts t c ≡ true → (room : ℕ) → t.threads ≤ room → chain_refusal t (lock_state s c) i room ≡ accepted
  pub explains : Explains t s i (chain t s i)

unfoldable pub WaitingLaw : Type 0
WaitingLaw = (t : Tree) (s : State) → FromFresh t s → (i : ℕ) → i < t.threads → AnswersWhy t s i
