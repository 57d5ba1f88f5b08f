-- What is left of a tenure, in entries: no step increases it, and an entry decreases it.
use mathlib.Core.Path.{◌≡◌, refl, sym, ap, ◌∙◌}
use Prim.Native.Nat.{ℕ, zero, suc, ◌+◌, ◌≤◌, ◌<◌}
use native.Mathlib.Omega.{arith}
use Rattle.model.specs.Trees.{Tree, allowance}
use Rattle.model.proofs.Trees.Index.{ancestor, height, record_at}
use Rattle.model.proofs.Lists.{same_or, put, put_same, put_other, first, is_same, is_cases}
use Rattle.claims.proofs.Queues.Paths.{Laws}
use Rattle.claims.proofs.Queues.Moves.{Stage, climb, queued, ready, inside, holding, down, low, acts, reach, pending, State, Event, root, lower, Move, start, join_empty, join_root, join_after, enter, leave, hand_on, release, let_go, entered, nothing, begins, ends}
use Rattle.claims.proofs.Queues.Invariant.{low_acts, Thread, Inv, unique}
use Rattle.claims.proofs.Queues.Joined.{restaged}
use Rattle.claims.proofs.Queues.Keeps.{keeps}
use Rattle.claims.proofs.Queues.Order.{hit}
use Rattle.claims.proofs.Queues.Remaining.{left, left_bound, falls}
use Rattle.claims.proofs.Queues.Changes.{started_by, Changed, unmoved, moved, begun, change_shown}
use Rattle.claims.proofs.Words.Outcome.{shown_sum, event_sum}
use Rattle.bounds.proofs.starvation_freedom.Heads.{not_starting}

-- the entries of a thread that a step makes
unfoldable pub hits : (T : Tree) {st st' : State} → Changed T st st' → (thread : ℕ) → ℕ
hits T unmoved n = 0
hits T (moved {e = e} mv) n = hit e n
hits T (begun i h e c) n = hits T c n

-- they are those that the moves show
pub hits_shown : (T : Tree) {st st' : State} (c : Changed T st st') (n : ℕ) → shown_sum (λ e. hit e n) (change_shown T c) ≡ hits T c n
unfolding hits change_shown shown_sum hit
hits_shown T unmoved n = refl
hits_shown T (moved {e = e} mv) n = event_sum (λ e. hit e n) refl e
hits_shown T (begun i h e c) n = hits_shown T c n

-- before an entry it is pending, and after it the thread is inside
entered_move : (T : Tree) {st : State} {i : ℕ} {st' : State} → Move T st (entered i) st' → (pending (st.stage i) ≡ 1) × (st'.stage i ≡ inside)
unfolding pending
entered_move T {st} (join_root i j e r z) = (ap pending e, put_same st.stage i inside i refl)
entered_move T {st} (enter i e) = (ap pending e, put_same st.stage i inside i refl)

pub hits_enters : (T : Tree) {st st' : State} (c : Changed T st st') (a : ℕ) → 1 ≤ hits T c a → (pending (st.stage a) ≡ 1) × (st'.stage a ≡ inside)
unfolding hits hit pending
hits_enters T unmoved a h = absurd (omega arith)
hits_enters T (moved {e = nothing} mv) a h = absurd (omega arith)
hits_enters T (moved {e = begins d m} mv) a h = absurd (omega arith)
hits_enters T (moved {e = ends d m} mv) a h = absurd (omega arith)
hits_enters T (moved {e = entered i} mv) a h = rw (is_cases i a h) at (entered_move T mv)
hits_enters T (begun {st = st} i r e c) a h =
    let x = hits_enters T c a h in
    (same_or a i _ (λ z. ap (λ n. pending (st.stage n)) z ∙ ap pending e) (λ z. ap pending (sym (put_other st.stage i (climb 0) a z)) ∙ x.0), x.1)

-- a thread is first at an index before, and one with the same record is first there after
pub record SameFirst (T : Tree) (st st' : State) (a j b k : ℕ) : Type 0 where
  pub before : j < low (height T a) (st.stage a)
  pub after : k < low (height T b) (st'.stage b)
  pub there : ancestor T b k ≡ ancestor T a j
  pub mine : record_at T b k ≡ record_at T a j

module _ (T : Tree) (tree_laws : Laws T) where
  pub left_falls :
      {st st' : State} (c : Changed T st st') → Inv T st → (a j b k : ℕ) → SameFirst T st st' a j b k →
      left T st'.tally (st'.stage b) b k + hits T c b ≤ left T st.tally (st.stage a) a j
  unfolding hits
  left_falls (unmoved {st = st}) inv a j b k f =
      let u = unique T tree_laws st inv b a k j (omega (arith, f.after, low_acts (height T b) (st.stage b))) (omega (arith, f.before, low_acts (height T a) (st.stage a))) f.mine in
      rw (u.0, u.1) (omega arith)
  left_falls (moved {st = st} mv) inv a j b k f =
      let head : first (st.queue (ancestor T b k)) ≡ suc (record_at T b k) = rw (f.there, f.mine) ((inv.threads a).heads j f.before) in
      let x = falls T tree_laws st inv mv b k f.after head in
      let u = unique T tree_laws st inv x.thread a x.index j (omega (arith, x.was_first, low_acts (height T x.thread) (st.stage x.thread))) (omega (arith, f.before, low_acts (height T a) (st.stage a))) (x.same ∙ f.mine) in
      let y = x.falls in
      rw (u.0, u.1) at y
  left_falls (begun {st = st} {st' = st'} i h e c) inv a j b k f =
      let n = not_starting T tree_laws st i a j e f.before in
      let z = put_other st.stage i (climb 0) a n in
      let g : SameFirst T (started_by st i) st' a j b k = record { before = rw z f.before; after = f.after; there = f.there; mine = f.mine } in
      rw z at (left_falls c (keeps T tree_laws st inv (start i h e)) a j b k g)

  -- THE ENTRY: a thread whose pending entry is made
  module _ (a : ℕ) where
    kept_pending : (f : ℕ → Stage) (i : ℕ) (x : Stage) {C : Type 0} → pending (f a) ≡ 1 → pending (put f i x a) ≡ 0 → (a ≡ i → pending x ≡ 0 → pending (f i) ≡ 1 → C) → C
    kept_pending f i x {C} p q g =
        same_or a i C
        (λ z. g z (ap pending (sym (put_same f i x a z)) ∙ q) (ap (λ n. pending (f n)) (sym z) ∙ p))
        (λ z. absurd (let y : pending (f a) ≡ 0 = ap pending (sym (put_other f i x a z)) ∙ q in omega arith))

    one_entry : {st st' : State} {e : Event} → Move T st e st' → pending (st.stage a) ≡ 1 → pending (st'.stage a) ≡ 0 → hit e a ≡ 1
    unfolding hit pending
    one_entry {st} (start i h e) p q = kept_pending st.stage i (climb 0) p q (λ z u v. absurd (omega arith))
    one_entry {st} (join_empty i j e n o) p q = kept_pending st.stage i (climb (suc j)) p q (λ z u v. absurd (omega arith))
    one_entry {st} (join_root i j e r o) p q = kept_pending st.stage i inside p q (λ z u v. is_same i a (sym z))
    one_entry {st} (join_after i j b e f) p q = kept_pending st.stage i (queued j) p q (λ z u v. absurd (omega arith))
    one_entry {st} (enter i e) p q = kept_pending st.stage i inside p q (λ z u v. is_same i a (sym z))
    one_entry {st} (leave i e) p q = kept_pending st.stage i holding p q (λ z u v. absurd (omega (arith, ap pending e)))
    one_entry {st} (hand_on i j s l xs e h w m ok shape) p q =
        let f = put st.stage i (down j) in
        same_or a s _
        (λ z. absurd (let y : pending ready ≡ 0 = ap pending (sym (put_same f s ready a z)) ∙ q in omega arith))
        (λ z. kept_pending st.stage i (down j) p (ap pending (sym (put_other f s ready a z)) ∙ q) (λ y u v. absurd (omega (arith, ap pending e))))
    one_entry {st} (release i j s l xs e w m shape) p q =
        let f = put st.stage i (down j) in
        same_or a s _
        (λ z. absurd (let y : pending (climb (suc l)) ≡ 0 = ap pending (sym (put_same f s (climb (suc l)) a z)) ∙ q in omega arith))
        (λ z. kept_pending st.stage i (down j) p (ap pending (sym (put_other f s (climb (suc l)) a z)) ∙ q) (λ y u v. absurd (omega (arith, ap pending e))))
    one_entry {st} (let_go i j (root e t) shape) p q = kept_pending st.stage i (down j) p q (λ z u v. absurd (omega (arith, ap pending e)))
    one_entry {st} (let_go i j (lower e) shape) p q = kept_pending st.stage i (down j) p q (λ z u v. absurd (omega (arith, ap pending e)))

    pub entry_hits : {st st' : State} (c : Changed T st st') → pending (st.stage a) ≡ 1 → pending (st'.stage a) ≡ 0 → hits T c a ≡ 1
    unfolding hits pending
    entry_hits unmoved p q = absurd (omega arith)
    entry_hits (moved mv) p q = one_entry mv p q
    entry_hits (begun {st = st} i h e c) p q =
        entry_hits c
        (same_or a i _
        (λ z. ap pending (put_same st.stage i (climb 0) a z))
        (λ z. ap pending (put_other st.stage i (climb 0) a z) ∙ p)) q

  -- AT MOST THE ALLOWANCE, and one less once the entry is made
  left_pending : (t : ℕ → ℕ) (x y : Stage) (i k : ℕ) → left T t x i k + pending y ≡ left T t y i k + pending x
  unfolding left
  left_pending t x y i zero = omega arith
  left_pending t x y i (suc k) = let h = left_pending t x y i k in omega arith

  pub left_some : (st : State) (a j : ℕ) → pending (st.stage a) ≤ left T st.tally (st.stage a) a j
  unfolding left
  left_some st a zero = omega arith
  left_some st a (suc j) = let h = left_some st a j in omega arith

  -- a thread that is Inside or holds the lock is first wherever a ready thread is
  module _ (st : State) (inv : Inv T st) (a : ℕ) where
    as_ready : (x : Stage) → st.stage a ≡ x → reach (height T a) x ≡ suc (height T a) → low (height T a) x ≡ suc (height T a) → acts (height T a) x ≡ suc (height T a) → Inv T (record { queue = st.queue; stage = put st.stage a ready; tally = st.tally })
    unfolding reach low acts
    as_ready x e r l b =
        let th : Thread T st.queue a x = rw e at (inv.threads a) in
        restaged T tree_laws st inv a ready
        (record { real = λ _. th.real (omega arith); range = omega arith; heads = λ n h. th.heads n (omega arith); stands = λ h. absurd (omega arith) })
        (rw e (omega arith))

    left_made : (x : Stage) → st.stage a ≡ x → pending x ≡ 0 → reach (height T a) x ≡ suc (height T a) → low (height T a) x ≡ suc (height T a) → acts (height T a) x ≡ suc (height T a) →
        (j : ℕ) → j ≤ height T a → left T st.tally (st.stage a) a j + 1 ≤ allowance T (record_at T a j)
    unfolding acts pending
    left_made x e p r l b j h =
        let inv' = as_ready x e r l b in
        let y = put_same st.stage a ready a refl in
        let bound = left_bound T tree_laws (record { queue = st.queue; stage = put st.stage a ready; tally = st.tally }) inv' a j (rw y (omega arith)) in
        let bound' : left T st.tally ready a j ≤ allowance T (record_at T a j) = rw y at bound in
        rw e (omega (arith, left_pending st.tally x ready a j))

    pub left_inside : st.stage a ≡ inside → (j : ℕ) → j ≤ height T a → left T st.tally (st.stage a) a j + 1 ≤ allowance T (record_at T a j)
    unfolding reach low acts pending
    left_inside e j h = left_made inside e refl refl refl refl j h

    pub left_holding : st.stage a ≡ holding → (j : ℕ) → j ≤ height T a → left T st.tally (st.stage a) a j + 1 ≤ allowance T (record_at T a j)
    unfolding reach low acts pending
    left_holding e j h = left_made holding e refl refl refl refl j h
