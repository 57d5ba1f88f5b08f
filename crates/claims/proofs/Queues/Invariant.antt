-- The invariant, and that at most one thread acts for a record.
use mathlib.Core.Path.{◌≡◌, refl, sym, ap, ◌∙◌}
use mathlib.Core.List.{List}
use mathlib.Core.Logic.{◌≢◌}
use Prim.Native.Nat.{ℕ, zero, suc, ◌≤◌, ◌<◌}
use native.Mathlib.Omega.{arith}
use Rattle.model.proofs.Lists.{less_or, first, rest, count, count_nil}
use Rattle.model.specs.Trees.{Tree}
use Rattle.model.proofs.Trees.Index.{ancestor, height, record_at}
use Rattle.claims.proofs.Queues.Paths.{Laws}
use Rattle.claims.proofs.Queues.Moves.{Stage, out, climb, queued, ready, inside, holding, releasing, down, low, acts, reach, State, empty}

-- NUMBERS OF A STAGE
stage_numbers : (h : ℕ) (x : Stage) → (low h x ≤ acts h x) × (acts h x ≤ suc (low h x)) × (acts h x ≤ reach h x)
unfolding low acts reach
stage_numbers h out = (omega arith, omega arith, omega arith)
stage_numbers h (climb j) = (omega arith, omega arith, omega arith)
stage_numbers h (queued j) = (omega arith, omega arith, omega arith)
stage_numbers h ready = (omega arith, omega arith, omega arith)
stage_numbers h inside = (omega arith, omega arith, omega arith)
stage_numbers h holding = (omega arith, omega arith, omega arith)
stage_numbers h (releasing j) = (omega arith, omega arith, omega arith)

pub low_acts : (h : ℕ) (x : Stage) → low h x ≤ acts h x
low_acts h x = (stage_numbers h x).0

pub acts_low : (h : ℕ) (x : Stage) → acts h x ≤ suc (low h x)
acts_low h x = (stage_numbers h x).1

pub acts_reach : (h : ℕ) (x : Stage) → acts h x ≤ reach h x
acts_reach h x = (stage_numbers h x).2

pub low_down : (h j : ℕ) → low h (down j) ≡ j
unfolding low down
low_down h zero = refl
low_down h (suc j) = refl

pub acts_down : (h j : ℕ) → acts h (down j) ≡ j
unfolding acts down
acts_down h zero = refl
acts_down h (suc j) = refl

pub reach_down : (h j : ℕ) → reach h (down j) ≤ suc j
unfolding reach down
reach_down h zero = omega arith
reach_down h (suc j) = omega arith

-- THE INVARIANT
-- in the first k domains of its path, thread i's record is the first of the queue
abbrev pub Below : Tree → (ℕ → List ℕ) → (i k : ℕ) → Type 0
Below T Q i k = (n : ℕ) → n < k → first (Q (ancestor T i n)) ≡ suc (record_at T i n)

-- what the queues imply about thread i, which is at stage x
pub record Thread (T : Tree) (Q : ℕ → List ℕ) (i : ℕ) (x : Stage) : Type 0 where
  pub real : 0 < reach (height T i) x → i < T.threads
  pub range : reach (height T i) x ≤ suc (height T i)
  pub heads : Below T Q i (low (height T i) x)
  pub stands : low (height T i) x < acts (height T i) x → 1 ≤ count (record_at T i (low (height T i) x)) (rest (Q (ancestor T i (low (height T i) x))))

-- a thread that acts for the record m in domain d
pub record Acted (T : Tree) (stage : ℕ → Stage) (d m : ℕ) : Type 0 where
  pub thread : ℕ
  pub index : ℕ
  pub acting : index < acts (height T thread) (stage thread)
  pub place : ancestor T thread index ≡ d
  pub mine : record_at T thread index ≡ m

-- the tally of a record that is first in a domain below the root
abbrev pub Counts : Tree → (ℕ → List ℕ) → (ℕ → ℕ) → Type 0
Counts T Q t = (d m : ℕ) → d ≢ 0 → first (Q d) ≡ suc m → (1 ≤ t m) × (t m ≤ T.threshold d)

pub record Inv (T : Tree) (st : State) : Type 0 where
  pub threads : (i : ℕ) → Thread T st.queue i (st.stage i)
  pub acted : (d m : ℕ) → 1 ≤ count m (st.queue d) → Acted T st.stage d m
  pub once : (d m : ℕ) → count m (st.queue d) ≤ 1
  pub counts : Counts T st.queue st.tally

pub inv_empty : (T : Tree) → Inv T empty
unfolding empty low acts reach first
inv_empty T =
    record {
      threads = λ i. record { real = λ h. absurd (omega arith); range = omega arith; heads = λ n h. absurd (omega arith); stands = λ h. absurd (omega arith) };
      acted = λ d m h. absurd (omega (arith, count_nil m));
      once = λ d m. omega (arith, count_nil m);
      counts = λ d m n e. absurd (omega arith);
    }

-- UNIQUENESS: two threads that are first below their indices and have the same record there are one thread at one index
pub same_user :
    (T : Tree) (Q : ℕ → List ℕ) (i j : ℕ) → i < 256 → j < 256 → (k l : ℕ) → Below T Q i k → Below T Q j l → record_at T i k ≡ record_at T j l → (i ≡ j) × (k ≡ l)
unfolding record_at
same_user T Q i j hi hj zero zero b c e = (e, refl)
same_user T Q i j hi hj zero (suc l) b c e = absurd (omega arith)
same_user T Q i j hi hj (suc k) zero b c e = absurd (omega arith)
same_user T Q i j hi hj (suc k) (suc l) b c e =
    let same : ancestor T i k ≡ ancestor T j l = omega arith in
    let x = b k (omega arith) in
    let y = c l (omega arith) in
    let z = ap (λ d. first (Q d)) same in
    let r = same_user T Q i j hi hj k l (λ n h. b n (omega arith)) (λ n h. c n (omega arith)) (omega arith) in
    (r.0, ap suc r.1)

module _ (T : Tree) (tree_laws : Laws T) (st : State) (inv : Inv T st) where
  -- a thread that acts has a number below 256, and is first below its index
  pub small : (i k : ℕ) → k < reach (height T i) (st.stage i) → i < 256
  small i k h = let r = (inv.threads i).real (omega arith) in let f = tree_laws.few in omega arith

  pub acts_small : (i k : ℕ) → k < acts (height T i) (st.stage i) → i < 256
  acts_small i k h = small i k (omega (arith, acts_reach (height T i) (st.stage i)))

  pub below : (i k : ℕ) → k < acts (height T i) (st.stage i) → Below T st.queue i k
  below i k h n b = (inv.threads i).heads n (omega (arith, acts_low (height T i) (st.stage i)))

  pub unique :
      (i j k l : ℕ) → k < acts (height T i) (st.stage i) → l < acts (height T j) (st.stage j) → record_at T i k ≡ record_at T j l → (i ≡ j) × (k ≡ l)
  unique i j k l h g e = same_user T st.queue i j (acts_small i k h) (acts_small j l g) k l (below i k h) (below j l g) e

  -- two threads that are first in one domain are the same
  pub one_head :
      (i j k l : ℕ) → k < low (height T i) (st.stage i) → l < low (height T j) (st.stage j) → ancestor T i k ≡ ancestor T j l → (i ≡ j) × (k ≡ l)
  one_head i j k l h g e =
      let x = (inv.threads i).heads k h in
      let y = (inv.threads j).heads l g in
      let z = ap (λ d. first (st.queue d)) e in
      unique i j k l (omega (arith, low_acts (height T i) (st.stage i))) (omega (arith, low_acts (height T j) (st.stage j))) (omega arith)

  -- a record is in one queue only
  pub one_queue : (d e m : ℕ) → 1 ≤ count m (st.queue d) → 1 ≤ count m (st.queue e) → d ≡ e
  one_queue d e m h g =
      let a = inv.acted d m h in
      let b = inv.acted e m g in
      let u = unique a.thread b.thread a.index b.index a.acting b.acting (a.mine ∙ sym b.mine) in
      let x = a.place in
      let y = b.place in
      let p = u.0 in
      let q = u.1 in
      cc

  -- the record after those for which a thread acts is in no queue
  pub absent : (i j d : ℕ) → acts (height T i) (st.stage i) ≡ j → i < 256 → Below T st.queue i j → count (record_at T i j) (st.queue d) ≡ 0
  absent i j d w few b =
      less_or 0 (count (record_at T i j) (st.queue d)) _
      (λ h.
      let a = inv.acted d (record_at T i j) h in
      let u = same_user T st.queue a.thread i (acts_small a.thread a.index a.acting) few a.index j (below a.thread a.index a.acting) b a.mine in
      let z : acts (height T a.thread) (st.stage a.thread) ≡ acts (height T i) (st.stage i) = ap (λ n. acts (height T n) (st.stage n)) u.0 in
      let y = a.acting in
      let q = u.1 in
      absurd (omega arith))
      (λ h. omega arith)

  -- so the record of a thread about to join is in no queue
  pub fresh : (i j d : ℕ) → st.stage i ≡ climb j → count (record_at T i j) (st.queue d) ≡ 0
  unfolding low acts reach
  fresh i j d e = absent i j d (rw e refl) (small i j (rw e (omega arith))) (λ n g. (inv.threads i).heads n (rw e g))
