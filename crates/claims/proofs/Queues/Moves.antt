-- A tree of abstract queues: the stages of threads, and the moves. No tails, nexts or status words here.
use mathlib.Core.Path.{◌≡◌}
use mathlib.Core.Bool.{Bool, false, cond, ◌||◌}
use mathlib.Core.List.{List, [], ◌∷◌, ◌++◌}
use mathlib.Core.Logic.{◌≢◌}
use Prim.Native.Nat.{ℕ, zero, suc, ◌+◌, ◌≤◌, ◌<◌}
use lib.Dec.{eqb}
use Rattle.model.specs.Trees.{Tree}
use Rattle.model.proofs.Trees.Index.{ancestor, height, record_at}
use Rattle.model.proofs.Lists.{put, first}

-- thread i is under the record r
unfoldable pub under_from : Tree → (i n r : ℕ) → Bool
under_from T i zero r = false
under_from T i (suc n) r = eqb (record_at T i n) r || under_from T i n r

unfoldable pub under : Tree → (i r : ℕ) → Bool
under T i r = under_from T i (suc (height T i)) r

-- STAGES. The number is an index on the thread's path: where the thread joins, stands, or releases.
pub data Stage : Type 0 where
  out ready inside holding : Stage
  climb queued releasing : ℕ → Stage

-- the stage after letting go at index j
unfoldable pub down : ℕ → Stage
down zero = out
down (suc j) = releasing j

-- the number of its domains, from the home up, in which the thread's record is first; h is its height
unfoldable pub low : (h : ℕ) → Stage → ℕ
low h out = 0
low h (climb j) = j
low h (queued j) = j
low h ready = suc h
low h inside = suc h
low h holding = suc h
low h (releasing j) = suc j

-- the number of domains in which it acts: one more if it stands ungranted
unfoldable pub acts : (h : ℕ) → Stage → ℕ
acts h out = 0
acts h (climb j) = j
acts h (queued j) = suc j
acts h ready = suc h
acts h inside = suc h
acts h holding = suc h
acts h (releasing j) = suc j

-- the number of domains that its path must have: one more if it is about to join, or has released the one above
unfoldable pub reach : (h : ℕ) → Stage → ℕ
reach h out = 0
reach h (climb j) = suc j
reach h (queued j) = suc j
reach h ready = suc h
reach h inside = suc h
reach h holding = suc h
reach h (releasing j) = suc (suc j)

-- how many entries it still makes before it lets go
unfoldable pub pending : Stage → ℕ
pending out = 1
pending (climb j) = 1
pending (queued j) = 1
pending ready = 1
pending inside = 0
pending holding = 0
pending (releasing j) = 0

-- STATES
pub record State : Type 0 where
  pub queue : ℕ → List ℕ
  pub stage : ℕ → Stage
  pub tally : ℕ → ℕ

unfoldable pub empty : State
empty = record { queue = λ d. []; stage = λ i. out; tally = λ r. 0 }

pub data Event : Type 0 where
  nothing : Event
  begins ends : (d m : ℕ) → Event
  entered : ℕ → Event

-- thread i lets go at index j, after the domains above: it is holding at the root, or releasing below it
pub data Last (T : Tree) (st : State) (i j : ℕ) : Type 0 where
  root : st.stage i ≡ holding → j ≡ height T i → Last T st i j
  lower : st.stage i ≡ releasing j → Last T st i j

-- MOVES
pub data Move (T : Tree) (st : State) : Event → State → Type 0 where
  start : (i : ℕ) → i < T.threads → st.stage i ≡ out →
      Move T st nothing (record { queue = st.queue; stage = put st.stage i (climb 0); tally = st.tally })
  join_empty : (i j : ℕ) → st.stage i ≡ climb j → ancestor T i j ≢ 0 → st.queue (ancestor T i j) ≡ [] →
      Move T st nothing (record {
        queue = put st.queue (ancestor T i j) (st.queue (ancestor T i j) ++ (record_at T i j ∷ []));
        stage = put st.stage i (climb (suc j));
        tally = put st.tally (record_at T i j) 1;
      })
  join_root : (i j : ℕ) → st.stage i ≡ climb j → ancestor T i j ≡ 0 → st.queue (ancestor T i j) ≡ [] →
      Move T st (entered i) (record {
        queue = put st.queue (ancestor T i j) (st.queue (ancestor T i j) ++ (record_at T i j ∷ []));
        stage = put st.stage i inside;
        tally = st.tally;
      })
  join_after : (i j a : ℕ) → st.stage i ≡ climb j → first (st.queue (ancestor T i j)) ≡ suc a →
      Move T st (begins (ancestor T i j) (record_at T i j)) (record {
        queue = put st.queue (ancestor T i j) (st.queue (ancestor T i j) ++ (record_at T i j ∷ []));
        stage = put st.stage i (queued j);
        tally = st.tally;
      })
  enter : (i : ℕ) → st.stage i ≡ ready →
      Move T st (entered i) (record { queue = st.queue; stage = put st.stage i inside; tally = st.tally })
  leave : (i : ℕ) → st.stage i ≡ inside →
      Move T st nothing (record { queue = st.queue; stage = put st.stage i holding; tally = st.tally })
  -- s is granted the lock, with all domains above index j: a pass below the root, or the root's own release
  hand_on : (i j s l : ℕ) (xs : List ℕ) → st.stage i ≡ holding → j ≤ height T i → st.stage s ≡ queued l → ancestor T s l ≡ ancestor T i j →
      (ancestor T i j ≢ 0 → st.tally (record_at T i j) < T.threshold (ancestor T i j)) → st.queue (ancestor T i j) ≡ record_at T i j ∷ record_at T s l ∷ xs →
      Move T st (ends (ancestor T i j) (record_at T s l)) (record {
        queue = put st.queue (ancestor T i j) (record_at T s l ∷ xs);
        stage = put (put st.stage i (down j)) s ready;
        tally = put st.tally (record_at T s l) (suc (st.tally (record_at T i j)));
      })
  -- s is granted the domain only, and must still climb
  release : (i j s l : ℕ) (xs : List ℕ) → st.stage i ≡ releasing j → st.stage s ≡ queued l → ancestor T s l ≡ ancestor T i j →
      st.queue (ancestor T i j) ≡ record_at T i j ∷ record_at T s l ∷ xs →
      Move T st (ends (ancestor T i j) (record_at T s l)) (record {
        queue = put st.queue (ancestor T i j) (record_at T s l ∷ xs);
        stage = put (put st.stage i (down j)) s (climb (suc l));
        tally = put st.tally (record_at T s l) 1;
      })
  -- nobody stands after it
  let_go : (i j : ℕ) → Last T st i j → st.queue (ancestor T i j) ≡ record_at T i j ∷ [] →
      Move T st nothing (record { queue = put st.queue (ancestor T i j) []; stage = put st.stage i (down j); tally = st.tally })

-- RUNS: moves, and what they show. A move without an event may be left out of the list
pub data Run (T : Tree) : State → List Event → State → Type 0 where
  done : {st : State} → Run T st [] st
  silent : {st st₁ st₂ : State} {es : List Event} → Move T st nothing st₁ → Run T st₁ es st₂ → Run T st es st₂
  more : {st st₁ st₂ : State} {e : Event} {es : List Event} → Move T st e st₁ → Run T st₁ es st₂ → Run T st (e ∷ es) st₂

-- WHAT A RUN SHOWS
unfoldable pub here : (d e : ℕ) → ℕ → List ℕ
here d e m = cond (eqb d e) (m ∷ []) []

unfoldable pub begun_by : ℕ → Event → List ℕ
begun_by d nothing = []
begun_by d (begins e m) = here d e m
begun_by d (ends e m) = []
begun_by d (entered i) = []

unfoldable pub given_by : ℕ → Event → List ℕ
given_by d nothing = []
given_by d (begins e m) = []
given_by d (ends e m) = here d e m
given_by d (entered i) = []

unfoldable pub entry_by : Tree → ℕ → Event → ℕ
entry_by T q nothing = 0
entry_by T q (begins e m) = 0
entry_by T q (ends e m) = 0
entry_by T q (entered i) = cond (under T i q) 1 0

-- the members that began to stand in d, those whose standing ended there, the entries under q
unfoldable pub begun : ℕ → List Event → List ℕ
begun d [] = []
begun d (e ∷ es) = begun_by d e ++ begun d es

unfoldable pub given : ℕ → List Event → List ℕ
given d [] = []
given d (e ∷ es) = given_by d e ++ given d es

unfoldable pub entries : Tree → ℕ → List Event → ℕ
entries T q [] = 0
entries T q (e ∷ es) = entry_by T q e + entries T q es
