-- A leaf's entries and tenures, given by its queue: what holds between moves.
use mathlib.Core.Path.{◌≡◌, refl, sym, ap, ◌∙◌}
use mathlib.Core.Bool.{true, cond}
use mathlib.Core.Logic.{◌≢◌}
use Prim.Native.Nat.{ℕ, zero, suc, ◌+◌, ◌*◌, ◌≤◌, ◌<◌}
use native.Mathlib.Omega.{arith}
use Rattle.model.specs.Trees.{Tree, is_leaf, on_path}
use Rattle.model.proofs.Trees.Index.{ancestor, height, record_at}
use Rattle.model.proofs.Trees.Accepted.{Accepted, leaf_childless}
use Rattle.model.proofs.Trees.Paths.{ancestor_home, ancestor_real, ancestor_inner, ancestor_root, ancestor_parent_of, path_index, on_path_home}
use Rattle.model.proofs.Trees.Records.{record_own, record_suc}
use Rattle.model.proofs.Lists.{same_or, less_or, first, count}
use Rattle.claims.proofs.Queues.Paths.{laws}
use Rattle.claims.proofs.Queues.Moves.{Stage, holding, low, pending, State, Event, nothing, begins, ends, entered, Move}
use Rattle.claims.proofs.Queues.Changes.{made_first}
use Rattle.claims.proofs.Queues.Invariant.{Inv, one_head}
use Rattle.claims.proofs.tenures.Firsts.{P, R, no_start, made_is_first}

-- what holds while a tenure runs, for the thread that is first in the leaf: its count and pending entry, and the tenures, entries and longest so far
pub record Runs (v pend n e l : ℕ) : Type 0 where
  pub entries : e + pend + l ≤ n * l + v
  pub tenures : n ≤ e + pend
  pub long : v ≤ l

-- a tenure starts, and its first thread enters now or later
pub begins_run : (v pend n e n' e' l : ℕ) → v ≡ 1 → n' ≡ suc n → e' + pend ≡ e + 1 → (e ≤ n * l) × (n ≤ e) → 1 ≤ l → Runs v pend n' e' l
begins_run v pend n e n' e' l zv zn ze both one =
    let a = both.0 in
    let b = both.1 in
    rw (zn, zv) (record { entries = enough; tenures = omega arith; long = one })
  where
    enough : e' + pend + l ≤ suc n * l + 1
    enough = let a = both.0 in omega arith

-- the tenure continues
pub goes_on : (v pend n e v' pend' n' e' l : ℕ) → Runs v pend n e l → v' ≡ v → n' ≡ n → e' + pend' ≡ e + pend → Runs v' pend' n' e' l
goes_on v pend n e v' pend' n' e' l r zv zn ze =
    let a = r.entries in
    let b = r.tenures in
    rw (zn, zv) (record { entries = omega arith; tenures = omega arith; long = r.long })

-- the thread passes the leaf on, with a count one higher
pub hands_over : (v n e n' e' l : ℕ) → Runs v 0 n e l → n' ≡ n → e' ≡ e → suc v ≤ l → Runs (suc v) 1 n' e' l
hands_over v n e n' e' l r zn ze b =
    let a = r.entries in
    let c = r.tenures in
    rw (zn, ze) (record { entries = omega arith; tenures = omega arith; long = b })

-- the tenure has ended
pub run_over : (v n e l : ℕ) → Runs v 0 n e l → (e ≤ n * l) × (n ≤ e)
run_over v n e l r = let a = r.entries in let b = r.tenures in let c = r.long in (omega arith, omega arith)

module _ (T : Tree) (valid : Accepted T) (d : ℕ) (pos : 0 < d) (leaf : is_leaf T d ≡ true) where
  -- A LEAF ON A PATH is the home
  pub leaf_index : (i k : ℕ) → i < T.threads → k ≤ height T i → ancestor T i k ≡ d → k ≡ 0
  leaf_index i zero h l e = refl
  leaf_index i (suc k) h l e =
      absurd (leaf_childless T d (ancestor T i k) leaf (ancestor_inner T valid i h k l) (ancestor_real T valid i h k) (ancestor_parent_of T valid i h k l ∙ e))

  pub leaf_record : (i k : ℕ) → i < T.threads → k ≤ height T i → record_at T i k ≡ R T valid d → (k ≡ 1) × (T.home i ≡ d)
  leaf_record i zero h l e = absurd (omega (arith, record_own T i, valid.few_threads))
  leaf_record i (suc k) h l e =
      let there : ancestor T i k ≡ d = omega (arith, record_suc T i k) in
      let z = leaf_index i k h (omega arith) there in
      (ap suc z, sym (ancestor_home T i) ∙ ap (ancestor T i) (sym z) ∙ there)

  pub home_height : (i : ℕ) → i < T.threads → T.home i ≡ d → 1 ≤ height T i
  home_height i h z =
      less_or 0 (height T i) _ (λ b. b)
      (λ b.
      let none : height T i ≡ 0 = omega arith in
      let top : T.home i ≡ 0 = sym (ancestor_home T i) ∙ ap (ancestor T i) (sym none) ∙ ancestor_root T valid i h in
      absurd (omega arith))

  pub home_parent : (i : ℕ) → i < T.threads → T.home i ≡ d → ancestor T i 1 ≡ P T valid d
  home_parent i h z = sym (ancestor_parent_of T valid i h 0 (home_height i h z)) ∙ ap T.parent (ancestor_home T i ∙ z)

  pub home_record : (i : ℕ) → T.home i ≡ d → record_at T i 1 ≡ R T valid d
  home_record i z = record_suc T i 0 ∙ ap (λ x. 256 + x) (ancestor_home T i ∙ z)

  pub on_home : (i : ℕ) → i < T.threads → on_path T i d ≡ true → T.home i ≡ d
  on_home i h q =
      let o = path_index T valid i h d q in
      sym (ancestor_home T i) ∙ ap (ancestor T i) (sym (leaf_index i o.index h o.within o.there)) ∙ o.there

  pub home_on : (i : ℕ) → i < T.threads → T.home i ≡ d → on_path T i d ≡ true
  home_on i h z = rw z at (on_path_home T valid i h)

  -- a thread's own record is neither another thread's nor a domain's
  pub far : (k i j : ℕ) → k < T.threads → (j ≡ 0 → k ≢ i) → k ≢ record_at T i j
  far k i zero h n q = n refl (q ∙ record_own T i)
  far k i (suc j) h n q = omega (arith, valid.few_threads, record_suc T i j)

  -- the entries of the leaf's threads that an event shows
  unfoldable pub entered_by : Event → ℕ
  entered_by nothing = 0
  entered_by (begins c m) = 0
  entered_by (ends c m) = 0
  entered_by (entered i) = cond (on_path T i d) 1 0

  -- BETWEEN MOVES: while no tenure runs, while one runs, and for a thread that is first in the leaf and stands or is about to stand above it
  pub record Leaf (st : State) (n e l : ℕ) : Type 0 where
    pub idle : first (st.queue (P T valid d)) ≢ suc (R T valid d) → (e ≤ n * l) × (n ≤ e)
    pub runs : (i : ℕ) → i < T.threads → T.home i ≡ d → 1 < low (height T i) (st.stage i) → Runs (st.tally i) (pending (st.stage i)) n e l
    pub new : (i : ℕ) → i < T.threads → T.home i ≡ d → low (height T i) (st.stage i) ≡ 1 → pending (st.stage i) ≡ 1 → st.tally i ≡ 1

  -- a pass at the leaf gives a count of at most the longest
  abbrev pub Passing : State → Event → (longest : ℕ) → Type 0
  Passing st ev l = (m : ℕ) → ev ≡ ends d m → (k : ℕ) → st.stage k ≡ holding → T.home k ≡ d → suc (st.tally k) ≤ l

  pub runner_first : (st : State) → Inv T st → (i : ℕ) → i < T.threads → T.home i ≡ d → 1 < low (height T i) (st.stage i) → first (st.queue (P T valid d)) ≡ suc (R T valid d)
  runner_first st inv i h z b =
      ap (λ x. first (st.queue x)) (sym (home_parent i h z)) ∙ (inv.threads i).heads 1 b ∙ ap suc (home_record i z)

  module _ (st : State) (inv : Inv T st) (n e l : ℕ) (old : Leaf st n e l) where
    -- only one thread is first in the leaf
    pub one_thread : (k i : ℕ) → T.home k ≡ d → T.home i ≡ d → 0 < low (height T k) (st.stage k) → 0 < low (height T i) (st.stage i) → k ≡ i
    one_thread k i zk zi a b = (one_head T (laws T valid) st inv k i 0 0 a b (ancestor_home T k ∙ zk ∙ sym zi ∙ sym (ancestor_home T i))).0

    pub same_tenures :
        {ev : Event} {st' : State} (mv : Move T st ev st') (k : ℕ) → k < T.threads → T.home k ≡ d → 1 < low (height T k) (st.stage k) → n + count (R T valid d) (made_first T mv) ≡ n
    same_tenures mv k h z b = omega (arith, no_start T valid d st inv mv (runner_first st inv k h z b))

    pub not_running : {ev : Event} {st' : State} (mv : Move T st ev st') → 1 ≤ count (R T valid d) (made_first T mv) → (e ≤ n * l) × (n ≤ e)
    not_running mv c = old.idle (λ f. omega (arith, no_start T valid d st inv mv f))

    -- a thread after a move: unchanged or changed
    pub data ThreadAfter (st' : State) (n' e' k : ℕ) : Type 0 where
      kept : st'.stage k ≡ st.stage k → st'.tally k ≡ st.tally k → (1 < low (height T k) (st.stage k) → (n' ≡ n) × (e' ≡ e)) → ThreadAfter st' n' e' k
      changed :
          (x : Stage) → st'.stage k ≡ x → (1 < low (height T k) x → Runs (st'.tally k) (pending x) n' e' l) →
          (low (height T k) x ≡ 1 → pending x ≡ 1 → st'.tally k ≡ 1) → ThreadAfter st' n' e' k

    after_runs : (st' : State) (n' e' k : ℕ) → k < T.threads → T.home k ≡ d → ThreadAfter st' n' e' k → 1 < low (height T k) (st'.stage k) → Runs (st'.tally k) (pending (st'.stage k)) n' e' l
    after_runs st' n' e' k h z (kept q w r) b =
        let b' : 1 < low (height T k) (st.stage k) = rw q at b in
        let both = r b' in
        rw (q, w, both.0, both.1) (old.runs k h z b')
    after_runs st' n' e' k h z (changed x q r w) b = rw q (r (rw q at b))

    after_new : (st' : State) (n' e' k : ℕ) → k < T.threads → T.home k ≡ d → ThreadAfter st' n' e' k → low (height T k) (st'.stage k) ≡ 1 → pending (st'.stage k) ≡ 1 → st'.tally k ≡ 1
    after_new st' n' e' k h z (kept q w r) a b = w ∙ old.new k h z (rw q at a) (rw q at b)
    after_new st' n' e' k h z (changed x q r w) a b = w (rw q at a) (rw q at b)

    pub build :
        (st' : State) (n' e' : ℕ) → ((k : ℕ) → k < T.threads → T.home k ≡ d → ThreadAfter st' n' e' k) →
        (first (st'.queue (P T valid d)) ≢ suc (R T valid d) → (e' ≤ n' * l) × (n' ≤ e')) → Leaf st' n' e' l
    build st' n' e' f i =
        record {
          idle = i;
          runs = λ k h z b. after_runs st' n' e' k h z (f k h z) b;
          new = λ k h z a b. after_new st' n' e' k h z (f k h z) a b;
        }

    -- if no tenure runs after a move, none ran before it, or the move ended it
    pub idle_after :
        {ev : Event} {st' : State} (mv : Move T st ev st') →
        (first (st.queue (P T valid d)) ≡ suc (R T valid d) → first (st'.queue (P T valid d)) ≢ suc (R T valid d) → (e ≤ n * l) × (n ≤ e)) →
        (first (st'.queue (P T valid d)) ≢ suc (R T valid d) → entered_by ev ≡ 0) → first (st'.queue (P T valid d)) ≢ suc (R T valid d) →
        (e + entered_by ev ≤ (n + count (R T valid d) (made_first T mv)) * l) × (n + count (R T valid d) (made_first T mv) ≤ e + entered_by ev)
    idle_after {ev} mv over quiet f =
        let zn : n + count (R T valid d) (made_first T mv) ≡ n =
        less_or 0 (count (R T valid d) (made_first T mv)) _ (λ c. absurd (f (made_is_first T valid d st inv mv c))) (λ c. omega arith) in
        let ze : e + entered_by ev ≡ e = omega (arith, quiet f) in
        rw (zn, ze) (same_or (first (st.queue (P T valid d))) (suc (R T valid d)) _ (λ z. over z f) (λ z. old.idle z))

    -- the move removes the leaf's record from the queue above
    pub over_by :
        (i j : ℕ) → i < T.threads → j ≤ height T i → j < low (height T i) (st.stage i) → pending (st.stage i) ≡ 0 → P T valid d ≡ ancestor T i j →
        first (st.queue (P T valid d)) ≡ suc (R T valid d) → (e ≤ n * l) × (n ≤ e)
    over_by i j h b a p z f =
        let g = (inv.threads i).heads j a in
        let mine : record_at T i j ≡ R T valid d = let y = ap (λ x. first (st.queue x)) z in omega arith in
        let q = leaf_record i j h b mine in
        run_over (st.tally i) n e l (rw p at (old.runs i h q.1 (omega (arith, q.0))))
