-- The moves of a step keep what holds for a domain's tenures.
use mathlib.Core.Path.{◌≡◌, refl, sym, ap, ◌∙◌}
use mathlib.Core.Bool.{true, cond}
use mathlib.Core.List.{List, [], ◌∷◌}
use Prim.Native.Nat.{ℕ, zero, suc, ◌+◌, ◌*◌, ◌≤◌, ◌<◌}
use native.Mathlib.Omega.{arith}
use native.Mathlib.Nat.{mul-le-mul_left, add-zero}
use Rattle.model.specs.Trees.{Tree, is_leaf, under}
use Rattle.model.specs.Steps.{is_entry, RowResult}
use Rattle.model.proofs.Trees.Accepted.{Accepted}
use Rattle.model.proofs.Lists.{same_or, put_same, put_other, first, count}
use Rattle.model.proofs.Laws.Empty.{under_domain}
use Rattle.claims.proofs.Queues.Paths.{laws}
use Rattle.claims.proofs.Queues.Moves as moves
use Rattle.claims.proofs.Queues.Moves.{climb, holding, low, pending, State, Event, start}
use Rattle.claims.proofs.Queues.Changes.{started_by, Changed, unmoved, moved, begun, event_shown, change_shown, made_first, change_firsts}
use Rattle.claims.proofs.Queues.Invariant.{Inv}
use Rattle.claims.proofs.Queues.Keeps.{keeps}
use Rattle.claims.proofs.Words.Outcome.{row_shown, shown_sum, event_sum, row_sum}
use Rattle.claims.proofs.tenures.Firsts.{P, R, some_started}
use Rattle.claims.proofs.tenures.LeafTenures.{entered_by, Leaf, runner_first}
use Rattle.claims.proofs.tenures.LeafMoves.{leaf_move}

module _ (T : Tree) (valid : Accepted T) (d : ℕ) where
  -- if a tenure runs, one has started
  pub started_along :
      {st st' : State} (c : Changed T st st') → Inv T st → (n : ℕ) → (first (st.queue (P T valid d)) ≡ suc (R T valid d) → 1 ≤ n) →
      first (st'.queue (P T valid d)) ≡ suc (R T valid d) → 1 ≤ n + count (R T valid d) (change_firsts T c)
  unfolding change_firsts
  started_along unmoved inv n b f = omega (arith, b f)
  started_along (moved {st = st} mv) inv n b f = some_started T valid d st inv mv n b f
  started_along (begun {st = st} i h x c) inv n b f = started_along c (keeps T (laws T valid) st inv (start i h x)) n b f

module _ (T : Tree) (valid : Accepted T) (d : ℕ) (pos : 0 < d) (leaf : is_leaf T d ≡ true) where
  -- the entries of the leaf's threads that events show
  abbrev pub entered_in : List Event → ℕ
  entered_in es = shown_sum (entered_by T valid d pos leaf) es

  -- a pass at the leaf that the events show gives a count of at most the longest
  abbrev pub Passes : State → List Event → (longest : ℕ) → Type 0
  Passes st es l = (m : ℕ) → es ≡ moves.ends d m ∷ [] → (k : ℕ) → st.stage k ≡ holding → T.home k ≡ d → suc (st.tally k) ≤ l

  -- a thread that starts does not hold the lock
  start_not : (st : State) (i k : ℕ) → (started_by st i).stage k ≡ holding → st.stage k ≡ holding
  unfolding low
  start_not st i k e =
      same_or k i _
      (λ z. absurd (let y = ap (low 0) (sym (put_same st.stage i (climb 0) k z) ∙ e) in omega arith))
      (λ z. sym (put_other st.stage i (climb 0) k z) ∙ e)

  pub leaf_along :
      {st st' : State} (c : Changed T st st') → Inv T st → (n e l : ℕ) → Leaf T valid d pos leaf st n e l →
      (1 ≤ count (R T valid d) (change_firsts T c) → 1 ≤ l) → Passes st (change_shown T c) l →
      Leaf T valid d pos leaf st' (n + count (R T valid d) (change_firsts T c)) (e + entered_in (change_shown T c)) l
  unfolding shown_sum entered_by event_shown change_shown made_first change_firsts count
  leaf_along (unmoved {st = st}) inv n e l old lengths p = rw (add-zero n, add-zero e) old
  leaf_along (moved {st = st} {e = ev} mv) inv n e l old lengths p = rw (event_sum (entered_by T valid d pos leaf) refl ev) (leaf_move T valid d pos leaf st inv n e l old mv lengths (λ m q. p m (ap event_shown q)))
  leaf_along (begun {st = st} i h x c) inv n e l old lengths p =
      let inv' = keeps T (laws T valid) st inv (start i h x) in
      let old' = leaf_move T valid d pos leaf st inv n e l old (start i h x) (λ y. absurd (omega arith)) (λ m q. absurd (let z : ◌≡◌ {A = ℕ} 0 1 = cc in omega arith)) in
      leaf_along c inv' n e l (rw (add-zero n, add-zero e) at old') lengths (λ m q k y z. p m q k (start_not st i k y) z)

  -- the longest may grow
  pub leaf_wider : (st : State) → Inv T st → (n e l l' : ℕ) → l ≤ l' → (first (st.queue (P T valid d)) ≡ suc (R T valid d) → 1 ≤ n) → Leaf T valid d pos leaf st n e l → Leaf T valid d pos leaf st n e l'
  leaf_wider st inv n e l l' b some old =
      record {
        idle = λ f. let a = old.idle f in let c = mul-le-mul_left {m = l} {n = l'} n b in (omega (arith, a.0), a.1);
        runs = λ i h z q.
            let r = old.runs i h z q in
            let one = some (runner_first T valid d pos leaf st inv i h z q) in
            record { entries = wider (e + pending (st.stage i)) (st.tally i) n one r.entries; tenures = r.tenures; long = omega (arith, r.long) };
        new = old.new;
      }
    where
      wider : (a v n : ℕ) → 1 ≤ n → a + l ≤ n * l + v → a + l' ≤ n * l' + v
      wider a v zero one q = absurd (omega arith)
      wider a v (suc n) one q = let c = mul-le-mul_left {m = l} {n = l'} n b in omega arith

  -- the entries that a row's events show
  pub entered_shown : (i c : ℕ) (x : RowResult) → entered_in (row_shown i c x) ≡ cond (is_entry x.kind) (cond (under T (256 + d) i) 1 0) 0
  unfolding entered_by
  entered_shown i c x = rw (under_domain T d i) (row_sum (entered_by T valid d pos leaf) (λ e m. refl) (λ e m. refl) i c x)
