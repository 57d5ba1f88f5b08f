-- Along a run: the invariant, at most one thread inside, and grants in the order of the beginnings.
use mathlib.Core.Path.{◌≡◌, refl, sym, ap, ◌∙◌}
use mathlib.Core.List.{List, [], ◌∷◌, ◌++◌, append-nil, append_assoc, nil≢cons, head-eq_of_cons-eq, tail-eq_of_cons-eq}
use mathlib.Core.Logic.{◌≢◌}
use Prim.Native.Nat.{ℕ, suc, ◌+◌, ◌≤◌, ◌<◌}
use native.Mathlib.Omega.{arith}
use borrow.Author.Tests.{eq-eqb, ne_eqb}
use Rattle.model.proofs.Lists.{same_or, less_or, put, put_same, put_other, first, rest, first_cons, rest_nil, rest_cons, rest_snoc, snoc_last, is, is_same, count, count_cons}
use Rattle.model.specs.Trees.{Tree}
use Rattle.model.proofs.Trees.Index.{ancestor, record_at, height}
use Rattle.claims.proofs.Queues.Paths.{Laws}
use Rattle.claims.proofs.Queues.Moves.{Stage, out, climb, queued, ready, inside, holding, releasing, low, acts, reach, State, empty, Event, nothing, begins, ends, entered, Move, start, join_empty, join_root, join_after, enter, leave, hand_on, release, let_go, Run, done, silent, more, here, begun_by, given_by, begun, given}
use Rattle.claims.proofs.Queues.Invariant.{Inv, inv_empty, one_head}
use Rattle.claims.proofs.Queues.Keeps.{keeps}

-- THE INVARIANT ALONG A RUN
pub kept_along : (T : Tree) → Laws T → {st st' : State} {es : List Event} → Run T st es st' → Inv T st → Inv T st'
kept_along T tree_laws done inv = inv
kept_along T tree_laws (silent {st = st} m r) inv = kept_along T tree_laws r (keeps T tree_laws st inv m)
kept_along T tree_laws (more {st = st} m r) inv = kept_along T tree_laws r (keeps T tree_laws st inv m)

pub reached : (T : Tree) → Laws T → {st : State} {es : List Event} → Run T empty es st → Inv T st
reached T tree_laws r = kept_along T tree_laws r (inv_empty T)

-- AT MOST ONE INSIDE
pub one_inside : (T : Tree) → Laws T → (st : State) → Inv T st → (i j : ℕ) → st.stage i ≡ inside → st.stage j ≡ inside → i ≡ j
unfolding low acts reach
one_inside T tree_laws st inv i j e f =
    let hi : i < T.threads = (inv.threads i).real (rw e (omega arith)) in
    let hj : j < T.threads = (inv.threads j).real (rw f (omega arith)) in
    (one_head T tree_laws st inv i j (height T i) (height T j) (rw e (omega arith)) (rw f (omega arith)) (tree_laws.top i hi ∙ sym (tree_laws.top j hj))).0

-- THE SECOND of a queue: the thread that acts for it stands there
pub standing : (h k : ℕ) (x : Stage) → low h x ≤ k → k < acts h x → x ≡ queued k
unfolding low acts
standing h k out a b = absurd (omega arith)
standing h k (climb j) a b = absurd (omega arith)
standing h k (queued j) a b = ap queued (omega arith)
standing h k ready a b = absurd (omega arith)
standing h k inside a b = absurd (omega arith)
standing h k holding a b = absurd (omega arith)
standing h k (releasing j) a b = absurd (omega arith)

pub record Second (T : Tree) (st : State) (d m : ℕ) : Type 0 where
  pub thread : ℕ
  pub index : ℕ
  pub waits : st.stage thread ≡ queued index
  pub place : ancestor T thread index ≡ d
  pub mine : record_at T thread index ≡ m
  pub real : thread < T.threads
  pub within : index ≤ height T thread

pub second : (T : Tree) (st : State) → Inv T st → (d a m : ℕ) (xs : List ℕ) → st.queue d ≡ a ∷ m ∷ xs → Second T st d m
unfolding reach
second T st inv d a m xs shape =
    let two : count m (st.queue d) ≡ is m a + (1 + count m xs) =
    ap (count m) shape ∙ count_cons m a (m ∷ xs) ∙ ap (λ n. is m a + n) (count_cons m m xs ∙ ap (λ n. n + count m xs) (is_same m m refl)) in
    let c = inv.acted d m (omega arith) in
    less_or c.index (low (height T c.thread) (st.stage c.thread)) _
    (λ h.
    let f : first (st.queue d) ≡ suc m = rw (c.place, c.mine) at ((inv.threads c.thread).heads c.index h) in
    let g : first (st.queue d) ≡ suc a = ap first shape ∙ first_cons a (m ∷ xs) in
    absurd (omega (arith, is_same m a (omega arith), inv.once d m)))
    (λ h.
    let waits = standing (height T c.thread) c.index (st.stage c.thread) h c.acting in
    let range : suc c.index ≤ suc (height T c.thread) = rw waits at (inv.threads c.thread).range in
    record {
      thread = c.thread;
      index = c.index;
      waits = waits;
      place = c.place;
      mine = c.mine;
      real = (inv.threads c.thread).real (rw waits (omega arith));
      within = omega arith;
    })

-- WHAT A MOVE DOES TO ONE QUEUE
unfoldable pub hit : Event → ℕ → ℕ
hit nothing n = 0
hit (begins d m) n = 0
hit (ends d m) n = 0
hit (entered i) n = is i n

pub data Change (d : ℕ) (e : Event) (q q' : List ℕ) : Type 0 where
  stays : q' ≡ q → begun_by d e ≡ [] → given_by d e ≡ [] → Change d e q q'
  opens : (m : ℕ) → q ≡ [] → q' ≡ m ∷ [] → begun_by d e ≡ [] → given_by d e ≡ [] → Change d e q q'
  grows : (m a : ℕ) → first q ≡ suc a → q' ≡ q ++ (m ∷ []) → begun_by d e ≡ m ∷ [] → given_by d e ≡ [] → Change d e q q'
  moves : (a m : ℕ) (xs : List ℕ) → q ≡ a ∷ m ∷ xs → q' ≡ m ∷ xs → begun_by d e ≡ [] → given_by d e ≡ m ∷ [] → ((n : ℕ) → hit e n ≡ 0) → Change d e q q'
  closes : (a : ℕ) → q ≡ a ∷ [] → q' ≡ [] → begun_by d e ≡ [] → given_by d e ≡ [] → Change d e q q'

here_same : (d e m : ℕ) → d ≡ e → here d e m ≡ m ∷ []
unfolding here
here_same d e m z = let q = eq-eqb d e z in rw q

here_other : (d e m : ℕ) → d ≢ e → here d e m ≡ []
unfolding here
here_other d e m z = let q = ne_eqb d e z in rw q

module _ (T : Tree) (st : State) (d : ℕ) where
  -- a hand-over, pass or release
  handed_change :
      (L a m : ℕ) (xs : List ℕ) → st.queue L ≡ a ∷ m ∷ xs → Change d (ends L m) (st.queue d) (put st.queue L (m ∷ xs) d)
  unfolding begun_by given_by hit
  handed_change L a m xs shape =
      same_or d L _
      (λ z. moves a m xs (ap st.queue z ∙ shape) (put_same st.queue L (m ∷ xs) d z) refl (here_same d L m z) (λ n. refl))
      (λ z. stays (put_other st.queue L (m ∷ xs) d z) refl (here_other d L m z))

  pub change : {e : Event} {st' : State} → Move T st e st' → Change d e (st.queue d) (st'.queue d)
  unfolding begun_by given_by
  change (start i h e) = stays refl refl refl
  change (join_empty i j e n z) =
      let L = ancestor T i j in
      let ys = st.queue L ++ (record_at T i j ∷ []) in
      same_or d L _
      (λ w. opens (record_at T i j) (ap st.queue w ∙ z) (put_same st.queue L ys d w ∙ ap (λ q. q ++ (record_at T i j ∷ [])) z) refl refl)
      (λ w. stays (put_other st.queue L ys d w) refl refl)
  change (join_root i j e r z) =
      let L = ancestor T i j in
      let ys = st.queue L ++ (record_at T i j ∷ []) in
      same_or d L _
      (λ w. opens (record_at T i j) (ap st.queue w ∙ z) (put_same st.queue L ys d w ∙ ap (λ q. q ++ (record_at T i j ∷ [])) z) refl refl)
      (λ w. stays (put_other st.queue L ys d w) refl refl)
  change (join_after i j a e f) =
      let L = ancestor T i j in
      let ys = st.queue L ++ (record_at T i j ∷ []) in
      same_or d L _
      (λ w. grows (record_at T i j) a (ap (λ x. first (st.queue x)) w ∙ f) (put_same st.queue L ys d w ∙ ap (λ x. st.queue x ++ (record_at T i j ∷ [])) (sym w))
      (here_same d L (record_at T i j) w) refl)
      (λ w. stays (put_other st.queue L ys d w) (here_other d L (record_at T i j) w) refl)
  change (enter i e) = stays refl refl refl
  change (leave i e) = stays refl refl refl
  change (hand_on i j s l xs e h w m ok shape) = handed_change (ancestor T i j) (record_at T i j) (record_at T s l) xs shape
  change (release i j s l xs e w m shape) = handed_change (ancestor T i j) (record_at T i j) (record_at T s l) xs shape
  change (let_go i j b shape) =
      let L = ancestor T i j in
      same_or d L _
      (λ w. closes (record_at T i j) (ap st.queue w ∙ shape) (put_same st.queue L [] d w) refl refl)
      (λ w. stays (put_other st.queue L [] d w) refl refl)

-- IN ORDER
order_one : (d : ℕ) (e : Event) (q q' : List ℕ) → Change d e q q' → rest q ++ begun_by d e ≡ given_by d e ++ rest q'
order_one d e q q' (stays z b g) = rw (z, b, g) (append-nil (rest q))
order_one d e q q' (opens m y z b g) = rw (y, z, b, g) (append-nil (rest []) ∙ rest_nil ∙ sym (rest_cons m []))
order_one d e q q' (grows m a f z b g) = rw (z, b, g) (sym (rest_snoc q m a f))
order_one d e q q' (moves a m xs y z b g n) = rw (y, z, b, g) (append-nil (rest (a ∷ m ∷ xs)) ∙ rest_cons a (m ∷ xs) ∙ ap (λ ys. m ∷ ys) (sym (rest_cons m xs)))
order_one d e q q' (closes a y z b g) = rw (y, z, b, g) (append-nil (rest (a ∷ [])) ∙ rest_cons a [] ∙ sym rest_nil)

pub order : (T : Tree) (d : ℕ) {st st' : State} {es : List Event} → Run T st es st' → rest (st.queue d) ++ begun d es ≡ given d es ++ rest (st'.queue d)
unfolding begun given begun_by given_by
order T d (done {st = st}) = append-nil (rest (st.queue d))
order T d (silent {st = st} {st₁ = st₁} {es = es} m r) =
    let one = order_one d nothing (st.queue d) (st₁.queue d) (change T st d m) in
    ap (λ q. q ++ begun d es) (sym (append-nil (rest (st.queue d))) ∙ one) ∙ order T d r
order T d (more {st = st} {st₁ = st₁} {st₂ = st₂} {e = e} {es = es} m r) =
    let one = order_one d e (st.queue d) (st₁.queue d) (change T st d m) in
    let all = order T d r in
    sym (append_assoc (rest (st.queue d)) (begun_by d e) (begun d es)) ∙ ap (λ q. q ++ begun d es) one
    ∙ append_assoc (given_by d e) (rest (st₁.queue d)) (begun d es) ∙ ap (λ q. given_by d e ++ q) all
    ∙ sym (append_assoc (given_by d e) (given d es) (rest (st₂.queue d)))

-- from the start: the members that began to stand are those whose standing ended, in the same order, and then those that still stand
pub in_order : (T : Tree) (d : ℕ) {st : State} {es : List Event} → Run T empty es st → begun d es ≡ given d es ++ rest (st.queue d)
unfolding empty rest
in_order T d r = order T d r

-- RUNS, JOINED AND SPLIT at a position in their events
pub join_runs : (T : Tree) {st₁ st₂ st₃ : State} {xs ys : List Event} → Run T st₁ xs st₂ → Run T st₂ ys st₃ → Run T st₁ (xs ++ ys) st₃
join_runs T done s = s
join_runs T (silent m r) s = silent m (join_runs T r s)
join_runs T (more m r) s = more m (join_runs T r s)

pub record Cut (T : Tree) (st : State) (xs ys : List Event) (st' : State) : Type 0 where
  pub middle : State
  pub before : Run T st xs middle
  pub after : Run T middle ys st'

pub cut : (T : Tree) {st st' : State} {es : List Event} → Run T st es st' → (xs ys : List Event) → es ≡ xs ++ ys → Cut T st xs ys st'
cut T (done {st = st}) [] ys e = record { middle = st; before = done; after = let r : Run T st [] st = done in rw e at r }
cut T done (x ∷ xs) ys e = absurd (nil≢cons e)
cut T (silent {st = st} m r) [] ys e = record { middle = st; before = done; after = rw e at (silent m r) }
cut T (silent m r) (x ∷ xs) ys e =
    let c = cut T r (x ∷ xs) ys e in
    record { middle = c.middle; before = silent m c.before; after = c.after }
cut T (more {st = st} m r) [] ys e = record { middle = st; before = done; after = rw e at (more m r) }
cut T (more m r) (x ∷ xs) ys e =
    let c = cut T r xs ys (tail-eq_of_cons-eq e) in
    record { middle = c.middle; before = more (rw (head-eq_of_cons-eq e) at m) c.before; after = c.after }

-- the next event that a run shows, and its move
pub record Shown (T : Tree) (st : State) (e : Event) (es : List Event) (st' : State) : Type 0 where
  pub st₁ : State
  pub st₂ : State
  pub before : Run T st [] st₁
  pub move : Move T st₁ e st₂
  pub after : Run T st₂ es st'

pub next_shown : (T : Tree) {st st' : State} {fs : List Event} → Run T st fs st' → (e : Event) (es : List Event) → fs ≡ e ∷ es → Shown T st e es st'
next_shown T done e es z = absurd (nil≢cons z)
next_shown T (silent m r) e es z =
    let c = next_shown T r e es z in
    record { st₁ = c.st₁; st₂ = c.st₂; before = silent m c.before; move = c.move; after = c.after }
next_shown T (more {st = st} {st₁ = st₁} m r) e es z =
    record { st₁ = st; st₂ = st₁; before = done; move = rw (head-eq_of_cons-eq z) at m; after = rw (tail-eq_of_cons-eq z) at r }

-- a member whose beginning is shown stands
pub begins_stands : (T : Tree) {st : State} (st' : State) {d m : ℕ} → Move T st (begins d m) st' → 1 ≤ count m (rest (st'.queue d))
begins_stands T {st = st} st' (join_after i j a e f) =
    let L = ancestor T i j in
    let m = record_at T i j in
    rw (put_same st.queue L (st.queue L ++ (m ∷ [])) L refl, rest_snoc (st.queue L) m a f) (snoc_last m (rest (st.queue L)))
