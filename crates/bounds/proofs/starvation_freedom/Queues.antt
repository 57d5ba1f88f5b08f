-- The effect of one step on the queues: who leaves, who moves ahead, what is left of a tenure.
use mathlib.Core.Path.{◌≡◌, refl, sym, ap, ◌∙◌}
use mathlib.Core.List.{List, ◌∷◌}
use mathlib.Core.Logic.{◌≢◌}
use Prim.Native.Nat.{ℕ, zero, suc, ◌+◌, ◌≤◌, ◌<◌}
use native.Mathlib.Omega.{arith}
use Rattle.model.specs.Trees.{Tree}
use Rattle.model.proofs.Trees.Index.{ancestor, height, record_at}
use Rattle.model.proofs.Lists.{same_or, put, put_same, put_other, first, rest, first_count, first_cons, first_nil, first_snoc, rest_nil, is, is_same, count, count_nil, count_cons, count_rest}
use Rattle.claims.proofs.Queues.Paths.{Laws}
use Rattle.claims.proofs.Queues.Moves.{Stage, out, climb, queued, ready, inside, holding, releasing, down, low, acts, State, Event, nothing, root, lower, Move, start, join_empty, join_root, join_after, enter, leave, hand_on, release, let_go}
use Rattle.claims.proofs.Queues.Invariant.{low_down, acts_down, Inv, absent}
use Rattle.claims.proofs.Queues.Keeps.{keeps}
use Rattle.claims.proofs.Queues.Order.{Change, stays, opens, grows, moves, closes, change}
use Rattle.claims.proofs.Queues.Remaining.{acts_real}
use Rattle.claims.proofs.Queues.Changes.{Changed, unmoved, moved, begun}

-- the number of a stage, without its index
unfoldable pub tag : Stage → ℕ
tag out = 0
tag (climb j) = 1
tag (queued j) = 2
tag ready = 3
tag inside = 4
tag holding = 5
tag (releasing j) = 6

down_tag : (j : ℕ) → tag (down j) ≢ 5
unfolding tag down
down_tag zero e = omega arith
down_tag (suc j) e = omega arith

module _ (T : Tree) (tree_laws : Laws T) (st : State) (inv : Inv T st) where
  -- A THREAD THAT HAS LET GO of its domain at an index: its record there is in no queue
  pub gone : (a j : ℕ) → a < T.threads → st.stage a ≡ down j → (d : ℕ) → count (record_at T a j) (st.queue d) ≡ 0
  gone a j ha e d =
      absent T tree_laws st inv a j d (ap (acts (height T a)) e ∙ acts_down (height T a) j) (omega (arith, tree_laws.few))
      (λ n b. (inv.threads a).heads n (rw (e, low_down (height T a) j) b))

-- ONE QUEUE in a step
pub queue_change : (T : Tree) (d : ℕ) {st st' : State} → Changed T st st' → (e : Event) × Change d e (st.queue d) (st'.queue d)
unfolding Rattle.claims.proofs.Queues.Moves.begun_by Rattle.claims.proofs.Queues.Moves.given_by
queue_change T d unmoved = (nothing, stays refl refl refl)
queue_change T d (moved {st = st} {e = e} mv) = (e, change T st d mv)
queue_change T d (begun i h e c) = queue_change T d c

-- THE PASS: if a thread that had the lock has let go of a domain below the root, another thread of that domain is ready
pub record Handed (T : Tree) (st' : State) (a k : ℕ) : Type 0 where
  pub thread : ℕ
  pub index : ℕ
  pub within : index ≤ height T thread
  pub is_ready : st'.stage thread ≡ ready
  pub meets : ancestor T thread index ≡ ancestor T a k

module _ (T : Tree) (tree_laws : Laws T) (a k : ℕ) (low_there : k < height T a) where
  -- a change of another thread's stage
  unmoved_there : (f : ℕ → Stage) (i : ℕ) (x : Stage) {C : Type 0} → f a ≡ holding → put f i x a ≡ down k → f i ≢ holding → C
  unfolding tag
  unmoved_there f i x {C} e z n =
      same_or a i C
      (λ y. absurd (n (ap f (sym y) ∙ e)))
      (λ y. absurd (down_tag k (ap tag (sym z ∙ put_other f i x a y ∙ e))))

  -- a stage with another number is not holding
  apart : (x : Stage) → tag x ≢ 5 → x ≢ holding
  unfolding tag
  apart x n e = n (ap tag e)

  down_same : (j : ℕ) → down j ≡ down k → j ≡ k
  down_same j e = sym (low_down (height T a) j) ∙ ap (low (height T a)) e ∙ low_down (height T a) k

  handed_move : {st st' : State} {e : Event} → Inv T st → Move T st e st' → st.stage a ≡ holding → st'.stage a ≡ down k → Handed T st' a k
  unfolding tag acts
  handed_move {st} inv (start i h e) x z = unmoved_there st.stage i (climb 0) x z (λ y. apart out (λ o. omega arith) (sym e ∙ y))
  handed_move {st} inv (join_empty i j e n q) x z = unmoved_there st.stage i (climb (suc j)) x z (λ y. apart (climb j) (λ o. omega arith) (sym e ∙ y))
  handed_move {st} inv (join_root i j e r q) x z = unmoved_there st.stage i inside x z (λ y. apart (climb j) (λ o. omega arith) (sym e ∙ y))
  handed_move {st} inv (join_after i j b e f) x z = unmoved_there st.stage i (queued j) x z (λ y. apart (climb j) (λ o. omega arith) (sym e ∙ y))
  handed_move {st} inv (enter i e) x z = unmoved_there st.stage i inside x z (λ y. apart ready (λ o. omega arith) (sym e ∙ y))
  handed_move {st} inv (leave i e) x z = unmoved_there st.stage i holding x z (λ y. apart inside (λ o. omega arith) (sym e ∙ y))
  handed_move {st} inv (hand_on i j s l xs e h w m ok shape) x z =
      let f = put st.stage i (down j) in
      same_or a s _
      (λ y. absurd (apart (queued l) (λ o. omega arith) (sym w ∙ ap st.stage (sym y) ∙ x)))
      (λ y. same_or a i _
      (λ v.
      let same : down j ≡ down k = sym (put_other f s ready a y ∙ put_same st.stage i (down j) a v) ∙ z in
      record { thread = s; index = l; within = (acts_real T tree_laws st inv s l (rw w (omega arith))).2; is_ready = put_same f s ready s refl; meets = m ∙ ap (λ n. ancestor T n j) (sym v) ∙ ap (ancestor T a) (down_same j same) })
      (λ v. absurd (down_tag k (ap tag (sym z ∙ put_other f s ready a y ∙ put_other st.stage i (down j) a v ∙ x)))))
  handed_move {st} inv (release i j s l xs e w m shape) x z =
      let f = put st.stage i (down j) in
      same_or a s _
      (λ y. absurd (apart (queued l) (λ o. omega arith) (sym w ∙ ap st.stage (sym y) ∙ x)))
      (λ y. unmoved_there st.stage i (down j) x (sym (put_other f s (climb (suc l)) a y) ∙ z) (λ v. apart (releasing j) (λ o. omega arith) (sym e ∙ v)))
  handed_move {st} inv (let_go i j (lower e) shape) x z = unmoved_there st.stage i (down j) x z (λ y. apart (releasing j) (λ o. omega arith) (sym e ∙ y))
  handed_move {st} inv (let_go i j (root e t) shape) x z =
      same_or a i _
      (λ v.
      let same = down_same j (sym (put_same st.stage i (down j) a v) ∙ z) in
      let u : height T a ≡ height T i = ap (height T) v in
      absurd (omega arith))
      (λ v. absurd (down_tag k (ap tag (sym z ∙ put_other st.stage i (down j) a v ∙ x))))

  pub handed : {st st' : State} → Inv T st → Changed T st st' → st.stage a ≡ holding → st'.stage a ≡ down k → Handed T st' a k
  unfolding tag
  handed inv unmoved x z = absurd (down_tag k (ap tag (sym z ∙ x)))
  handed inv (moved mv) x z = handed_move inv mv x z
  handed inv (begun {st = st} i h e c) x z =
      handed (keeps T tree_laws st inv (start i h e)) c (put_other st.stage i (climb 0) a (λ y. apart out (λ o. omega arith) (sym e ∙ ap st.stage (sym y) ∙ x)) ∙ x) z

-- THE FIRST of a queue does not stand in it after one step
pub first_not_after : (d m : ℕ) (e : Event) (q q' : List ℕ) → Change d e q q' → first q ≡ suc m → count m q ≤ 1 → count m q' ≤ 1 → count m (rest q') ≡ 0
first_not_after d m e q q' (stays z b g) f o o' = let f' : first q' ≡ suc m = rw z f in omega (arith, first_count m q' f')
first_not_after d m e q q' (opens r y z b g) f o o' = absurd (omega (arith, ap first y, first_nil))
first_not_after d m e q q' (grows r a x z b g) f o o' = let f' : first q' ≡ suc m = rw z (first_snoc q r m f) in omega (arith, first_count m q' f')
first_not_after d m e q q' (moves a r xs y z b g n) f o o' =
    let w : m ≡ a = omega (arith, ap first y, first_cons a (r ∷ xs)) in
    let c : count m q ≡ is m a + count m (r ∷ xs) = ap (count m) y ∙ count_cons m a (r ∷ xs) in
    let u : count m q' ≡ count m (r ∷ xs) = ap (count m) z in
    omega (arith, is_same m a w, count_rest m q')
first_not_after d m e q q' (closes a y z b g) f o o' = rw (z, rest_nil) (count_nil m)
