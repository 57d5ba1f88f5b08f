-- TENURES: from fresh, what holds for each domain's entries, tenures and longest tenure.
use mathlib.Core.Path.{◌≡◌, refl}
use mathlib.Core.Bool.{true, cond}
use mathlib.Core.List.{List, [], ◌∷◌}
use Prim.Native.Nat.{ℕ, suc, ◌+◌, ◌*◌, ◌≤◌, ◌<◌, max}
use native.Mathlib.Omega.{arith}
use native.Mathlib.Nat.{le_antisymm, zero-add, zero-max, add-zero, add_assoc, le-max_left, le-max_right, max-le, max-zero}
use borrow.Author.Tests.{ne_eqb}
use Rattle.model.specs.declared.State.{State as WordState}
use Rattle.model.specs.Trees.{Tree, is_leaf, under}
use Rattle.model.specs.States.{fresh_state}
use Rattle.model.specs.Steps.{is_entry, Step, step}
use Rattle.model.specs.Runs.{steps, state_after, entries_under}
use Rattle.model.specs.Tenures.{starts, tenure_length, domain_entries, domain_tenures, longest_tenure}
use Rattle.model.specs.Laws.{AllThreads, SixteenBit}
use Rattle.model.proofs.Trees.Index.{height}
use Rattle.model.proofs.Trees.Accepted.{Accepted, accepted}
use Rattle.model.proofs.Lists.{same_or, less_or, first, rest, first_in, first_count, count}
use Rattle.model.proofs.Places.{fresh_idle}
use Rattle.claims.proofs.Queues.Paths.{laws}
use Rattle.claims.proofs.Queues.Moves.{out, low, acts, State}
use Rattle.claims.proofs.Queues.Invariant.{Inv, acts_low}
use Rattle.claims.proofs.Queues.Remaining.{acts_real, pending_one}
use Rattle.claims.proofs.Words.View.{words_in}
use Rattle.claims.proofs.Words.Says.{Says, says_at}
use Rattle.claims.proofs.Claims.Reached.{fresh_queued}
use Rattle.claims.specs.Tenures.Laws.{HasTenures, TenureLaw}
use Rattle.claims.proofs.tenures.Firsts.{P, R}
use Rattle.claims.proofs.tenures.LeafTenures.{leaf_record}
use Rattle.claims.proofs.tenures.Tracking.{Tracked, step_tracked}

max_assoc : (a b c : ℕ) → max (max a b) c ≡ max a (max b c)
max_assoc a b c =
    let left = le-max_left a b in
    let right = le-max_right a b in
    let inner_left = le-max_left b c in
    let inner_right = le-max_right b c in
    let up = le-max_left (max a b) c in
    let last = le-max_right (max a b) c in
    let first = le-max_left a (max b c) in
    let down = le-max_right a (max b c) in
    le_antisymm (max-le (max-le first (omega arith)) (omega arith)) (max-le (omega arith) (max-le (omega arith) last))

module _ (t : Tree) (valid : Accepted t) (bits : SixteenBit t) (d : ℕ) (pos : 0 < d) (real : d < t.domains) where
  -- FRESH: every thread is Idle, so its stage is out, and every queue is empty
  module _ (v : ℕ) where
    abbrev g : State
    g = (fresh_queued t v).queues

    abbrev inv : Inv t g
    inv = (fresh_queued t v).represents.invariant

    out_there : (i : ℕ) → i < t.threads → g.stage i ≡ out
    unfolding words_in Says
    out_there i h = says_at (fresh_idle t v i) ((fresh_queued t v).represents.fits i h)

    low_none : (i : ℕ) → i < t.threads → low (height t i) (g.stage i) ≡ 0
    unfolding low
    low_none i h = rw (out_there i h) refl

    none_first : (c m : ℕ) → first (g.queue c) ≡ suc m → ⊥
    unfolding acts
    none_first c m f =
        let a = inv.acted c m (first_in m (g.queue c) f) in
        let i = a.thread in
        let h = (acts_real t (laws t valid) g inv i a.index a.acting).0 in
        let z : acts (height t i) (g.stage i) ≡ 0 = rw (out_there i h) refl in
        omega (arith, a.acting)

    fresh_tracked : Tracked t valid bits d pos real (fresh_state t v) 0 0 0
    fresh_tracked =
        record {
          queued = fresh_queued t v;
          started = λ f. absurd (none_first _ _ f);
          some = λ b. b;
          none = λ b. b;
          within = omega (arith, valid.threshold_some d pos real);
          words = λ j r w e. absurd (let y = fresh_idle t v j in let z : ◌≡◌ {A = ℕ} 0 1 = cc in omega arith);
          of_leaf = λ q. record {
            idle = λ f. (omega arith, omega arith);
            runs = λ i h z b. absurd (omega (arith, low_none i h));
            new = λ i h z a b. absurd (omega (arith, low_none i h));
          };
        }

  -- ALONG A SCHEDULE
  regrouped :
      (s : WordState) (n e l a b c a' b' c' : ℕ) → Tracked t valid bits d pos real s ((n + a) + a') ((e + b) + b') (max (max l c) c') →
      Tracked t valid bits d pos real s (n + (a + a')) (e + (b + b')) (max l (max c c'))
  regrouped s n e l a b c a' b' c' k = rw (add_assoc n a a', add_assoc e b b', max_assoc l c c') at k

  abbrev entry_of : Step → ℕ
  entry_of x = cond (is_entry x.kind) (cond (under t (256 + d) x.thread) 1 0) 0

  -- steps from a state, and one more before them
  abbrev After : (s : WordState) (n e l : ℕ) → List Step → Type 0
  After s n e l xs = Tracked t valid bits d pos real (state_after s xs) (n + domain_tenures t d xs) (e + entries_under t (256 + d) xs) (max l (longest_tenure t d xs))

  one_before :
      (s : WordState) (n e l : ℕ) (x : Step) (xs : List Step) → After x.state (n + starts t d x) (e + entry_of x) (max l (tenure_length t d x)) xs → After s n e l (x ∷ xs)
  unfolding state_after domain_tenures entries_under longest_tenure
  one_before s n e l x xs k = regrouped (state_after x.state xs) n e l (starts t d x) (entry_of x) (tenure_length t d x) (domain_tenures t d xs) (entries_under t (256 + d) xs) (longest_tenure t d xs) k

  none_more : (s : WordState) (n e l : ℕ) → Tracked t valid bits d pos real s n e l → After s n e l []
  unfolding state_after domain_tenures entries_under longest_tenure
  none_more s n e l k = rw (add-zero n, add-zero e, max-zero l) k

  along : (is : List ℕ) → AllThreads t is → (s : WordState) (n e l : ℕ) → Tracked t valid bits d pos real s n e l → After s n e l (steps t is s)
  unfolding steps AllThreads
  along [] all s n e l k = none_more s n e l k
  along (i ∷ is) all s n e l k =
      one_before s n e l (step t i s) (steps t is (step t i s).state)
      (along is all.1 (step t i s).state (n + starts t d (step t i s)) (e + entry_of (step t i s)) (max l (tenure_length t d (step t i s)))
      (step_tracked t valid bits d pos real s n e l k i all.0))

  -- WHAT THIS IMPLIES for a leaf: while its tenure runs, a thread of the leaf is first above it
  record Runner (g : State) : Type 0 where
    thread : ℕ
    there : thread < t.threads
    at_home : t.home thread ≡ d
    above : 1 < low (height t thread) (g.stage thread)

  runner : (q : is_leaf t d ≡ true) (g : State) → Inv t g → first (g.queue (P t valid d)) ≡ suc (R t valid d) → Runner g
  runner q g inv f =
      let D = P t valid d in
      let M = R t valid d in
      let a = inv.acted D M (first_in M (g.queue D) f) in
      let i = a.thread in
      let h = acts_real t (laws t valid) g inv i a.index a.acting in
      let r = leaf_record t valid d pos q i a.index h.0 h.2 a.mine in
      less_or a.index (low (height t i) (g.stage i)) _
      (λ b. record { thread = i; there = h.0; at_home = r.1; above = omega (arith, r.0) })
      (λ b.
      let top : low (height t i) (g.stage i) ≡ a.index = omega (arith, acts_low (height t i) (g.stage i), a.acting) in
      let stands = (inv.threads i).stands (omega (arith, a.acting)) in
      let in_rest : 1 ≤ count M (rest (g.queue D)) = rw (top, a.mine, a.place) at stands in
      absurd (omega (arith, first_count M (g.queue D) f, inv.once D M)))

  leaf_both : (q : is_leaf t d ≡ true) (s : WordState) (n e l : ℕ) → Tracked t valid bits d pos real s n e l → (e ≤ n * l) × (n ≤ e + 1)
  leaf_both q s n e l k =
      let g = k.queued.queues in
      let inv = k.queued.represents.invariant in
      let leaf = k.of_leaf q in
      same_or (first (g.queue (P t valid d))) (suc (R t valid d)) _
      (λ f.
      let a = runner q g inv f in
      let r = leaf.runs a.thread a.there a.at_home a.above in
      let entries = r.entries in
      let long = r.long in
      (omega arith, omega (arith, r.tenures, pending_one (g.stage a.thread))))
      (λ f. let both = leaf.idle f in (both.0, omega (arith, both.1)))

  has_tenures : (v : ℕ) (is : List ℕ) → AllThreads t is → HasTenures t (steps t is (fresh_state t v)) d
  unfolding domain_entries
  has_tenures v is all =
      let xs = steps t is (fresh_state t v) in
      let k : Tracked t valid bits d pos real (state_after (fresh_state t v) xs) (domain_tenures t d xs) (entries_under t (256 + d) xs) (longest_tenure t d xs) =
      rw (zero-add (domain_tenures t d xs), zero-add (entries_under t (256 + d) xs), zero-max (longest_tenure t d xs)) at (along is all (fresh_state t v) 0 0 0 (fresh_tracked v)) in
      let counted : domain_entries t d xs ≡ entries_under t (256 + d) xs = rw (ne_eqb d 0 (omega arith)) in
      record {
        none_exactly = (
          λ z. less_or 0 (domain_tenures t d xs) _ (λ b. absurd (omega (arith, k.some b))) (λ b. omega arith),
          λ z. less_or 0 (longest_tenure t d xs) _ (λ b. absurd (omega (arith, k.none b))) (λ b. omega arith),
        );
        within = k.within;
        leaf_entries = λ q. rw counted (leaf_both q _ _ _ _ k).0;
        leaf_tenures = λ q. rw counted (leaf_both q _ _ _ _ k).1;
      }

pub tenure_law : TenureLaw
unfolding TenureLaw
tenure_law t v is k d pos real = has_tenures t (accepted t k.tree_accepted) k.sixteen_bit d pos real v is k.threads
