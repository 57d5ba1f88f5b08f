-- A thread that stands, and the members ahead of it, across one step.
use mathlib.Core.Path.{◌≡◌, refl, sym, ap, ◌∙◌}
use mathlib.Core.Bool.{true}
use mathlib.Core.List.{List, [], ◌∷◌, ◌++◌, append_assoc, nil≢cons, head-eq_of_cons-eq, tail-eq_of_cons-eq}
use mathlib.Core.Logic.{◌≢◌, inl, inr}
use Prim.Native.Nat.{ℕ, suc, ◌+◌, ◌≤◌, ◌<◌}
use native.Mathlib.Omega.{arith}
use lib.ListN.{length, length-append}
use Rattle.model.specs.Trees.{Tree, is_member}
use Rattle.model.specs.Laws.{SixteenBit}
use Rattle.model.proofs.Lists.{first, first_cons, is, is_same, count, count_append, count_cons, first_nil}
use Rattle.model.proofs.Trees.Index.{ancestor, height, record_at}
use Rattle.model.proofs.Trees.Accepted.{Accepted}
use Rattle.model.proofs.Trees.Records.{member_at, member_small}
use Rattle.claims.proofs.Queues.Paths.{Laws, laws}
use Rattle.claims.proofs.Queues.Moves.{climb, queued, low, acts, reach, State, Event}
use Rattle.claims.proofs.Queues.Invariant.{low_acts, Thread, Inv}
use Rattle.claims.proofs.Queues.Order.{Change, stays, opens, grows, moves, closes}
use Rattle.claims.proofs.Queues.Remaining.{acts_real}
use Rattle.bounds.proofs.starvation_freedom.Situations as situations
use Rattle.bounds.proofs.starvation_freedom.Situations.{Situation, queues, next_change}
use Rattle.bounds.proofs.starvation_freedom.Queues.{tag, queue_change}
use Rattle.bounds.proofs.starvation_freedom.Positions.{queue_short}
use Rattle.bounds.specs.StarvationFreedom.Bounds.{members, passes, others_passes}
use Rattle.bounds.proofs.starvation_freedom.Weights.{weight, weight_others}
use Rattle.bounds.proofs.starvation_freedom.Linked.{AllLinked, linked_stays}
use Rattle.bounds.proofs.starvation_freedom.Stages.{steps_on, from_queued}
use Rattle.bounds.proofs.starvation_freedom.Line.{Line}

-- a queue with a member in it, after one change that keeps its first
pub shape_kept :
    (d m r : ℕ) (e : Event) (xs later : List ℕ) (q q' : List ℕ) → Change d e q q' → q ≡ r ∷ (xs ++ (m ∷ later)) → first q' ≡ suc r → ((a : ℕ) → count a q ≤ 1) →
    (ys : List ℕ) × (q' ≡ r ∷ (xs ++ (m ∷ ys)))
shape_kept d m r e xs later q q' (stays z b g) s f o = (later, z ∙ s)
shape_kept d m r e xs later q q' (opens x y z b g) s f o = absurd (nil≢cons (sym y ∙ s))
shape_kept d m r e xs later q q' (grows x a h z b g) s f o =
    (later ++ (x ∷ []), z ∙ ap (λ u. u ++ (x ∷ [])) s ∙ ap (λ u. r ∷ u) (append_assoc xs (m ∷ later) (x ∷ [])))
shape_kept d m r e xs later q q' (moves a k ys y z b g n) s f o =
    let same_head : a ≡ r = head-eq_of_cons-eq (sym y ∙ s) in
    let new_head : k ≡ r = let w = first_cons k ys in let v = ap first z in omega arith in
    let c : count r q ≡ is r a + (is r k + count r ys) = ap (count r) y ∙ count_cons r a (k ∷ ys) ∙ ap (λ n. is r a + n) (count_cons r k ys) in
    absurd (omega (arith, o r, is_same r a (sym same_head), is_same r k (sym new_head)))
shape_kept d m r e xs later q q' (closes a y z b g) s f o = absurd (let w = ap first z in omega (arith, first_nil))

module _ (t : Tree) (valid : Accepted t) (bits : SixteenBit t) where
  tree_laws : Laws t
  tree_laws = laws t valid

  -- IN ONE SITUATION
  module _ (c : Situation t) where
    abbrev g : State
    g = queues c

    abbrev inv : Inv t g
    inv = c.queued.represents.invariant

    -- the index at which a thread is first, or acts, is on its path
    pub low_real : (b k : ℕ) → k < low (height t b) (g.stage b) → (b < t.threads) × (k ≤ height t b)
    low_real b k h = let x = acts_real t tree_laws g inv b k (omega (arith, low_acts (height t b) (g.stage b))) in (x.0, x.2)

    pub stands_real : (i j : ℕ) → g.stage i ≡ queued j → (i < t.threads) × (j ≤ height t i)
    unfolding acts
    stands_real i j e = let x = acts_real t tree_laws g inv i j (rw e (omega arith)) in (x.0, x.2)

    pub climbs_real : (i j : ℕ) → g.stage i ≡ climb j → (i < t.threads) × (j ≤ height t i)
    unfolding reach
    climbs_real i j e = let th : Thread t g.queue i (climb j) = rw e at (inv.threads i) in (th.real (omega arith), omega (arith, th.range))

    module _ (i j r b k : ℕ) (xs : List ℕ) (L : Line t valid bits c i j r b k xs) where
      abbrev d : ℕ
      d = ancestor t i j

      abbrev mine : ℕ
      mine = record_at t i j

      counted : (a : ℕ) → count a (g.queue d) ≡ count a (r ∷ xs) + count a (mine ∷ L.later)
      counted a = ap (count a) L.shape ∙ count_append a (r ∷ xs) (mine ∷ L.later)

      pub before_once : (a : ℕ) → 1 ≤ count a (r ∷ xs) → (1 ≤ count a (g.queue d)) × (a ≢ mine)
      before_once a h = (omega (arith, counted a), λ e. omega (arith, counted a, inv.once d a, count_cons a mine L.later, is_same a mine e))

      pub head_apart : r ≢ mine
      head_apart = (before_once r (omega (arith, count_cons r r xs, is_same r r refl))).1

      -- the queue has members of the domain only, and at most as many as the domain
      member_there : (a : ℕ) → 1 ≤ count a (g.queue d) → is_member t d a ≡ true
      member_there a h =
          let x = inv.acted d a h in
          let y = acts_real t tree_laws g inv x.thread x.index x.acting in
          rw (x.place, x.mine) at (member_at t valid x.thread y.0 x.index y.2)

      pub weight_before : weight (passes t) (r ∷ xs) ≤ others_passes t d mine
      weight_before =
          weight_others t d mine (r ∷ xs)
          (λ a h. let x = before_once a h in let m = member_there a x.0 in (member_small t valid d a m, m, x.1))
          (λ a. omega (arith, counted a, inv.once d a))

      pub short_before : 2 + length xs ≤ members t d
      short_before =
          let l : length (g.queue d) ≡ suc (length (xs ++ (mine ∷ L.later))) = ap length L.shape in
          omega (arith, length-append xs (mine ∷ L.later), queue_short t valid g inv d)

  -- ACROSS ONE STEP
  module _ (c : Situation t) (x : ℕ) (hx : x < t.threads) where
    abbrev c' : Situation t
    c' = situations.next t valid bits c x hx

    -- a thread that stands and does not become first keeps standing
    pub still_stands : (i j : ℕ) → (queues c).stage i ≡ queued j → first ((queues c').queue (ancestor t i j)) ≢ suc (record_at t i j) → (queues c').stage i ≡ queued j
    unfolding tag low
    still_stands i j e n =
        let real = stands_real c i j e in
        let l = steps_on t (next_change t valid bits c x hx) i (λ z. let o = ap tag (sym z ∙ e) in omega arith) in
        let inv' = c'.queued.represents.invariant in
        elim (from_queued j ((queues c').stage i) (rw e at l)) [
          | inl y ↦ y
          | inr (inl y) ↦ absurd (n ((inv'.threads i).heads j (rw y (omega (arith, real.1)))))
          | inr (inr y) ↦ absurd (n ((inv'.threads i).heads j (rw y (omega arith))))
        ]

    module _ (i j r b k : ℕ) (xs : List ℕ) (L : Line t valid bits c i j r b k xs) where
      -- the first stays first, and b' acts for it
      pub line_kept :
          (b' k' : ℕ) → k' < low (height t b') ((queues c').stage b') → ancestor t b' k' ≡ ancestor t b k → record_at t b' k' ≡ record_at t b k → Line t valid bits c' i j r b' k' xs
      line_kept b' k' h a m =
          let d = ancestor t i j in
          let inv = c.queued.represents.invariant in
          let head : first ((queues c').queue d) ≡ suc r = rw (a ∙ L.there, m ∙ L.mine) at ((c'.queued.represents.invariant.threads b').heads k' h) in
          let ch = queue_change t d (next_change t valid bits c x hx) in
          let sh = shape_kept d (record_at t i j) r ch.0 xs L.later ((queues c).queue d) ((queues c').queue d) ch.1 L.shape head (inv.once d) in
          record {
            stage = still_stands i j L.stage (λ z. head_apart c i j r b k xs L (omega arith));
            later = sh.0;
            shape = sh.1;
            linked = λ nt. linked_stays t valid bits c x hx d (r ∷ xs) (λ a h. (before_once c i j r b k xs L a h).0) (L.linked nt);
            first_there = h;
            there = a ∙ L.there;
            mine = m ∙ L.mine;
          }

    -- the next member becomes first, and s acts for it
    pub line_next :
        (i j r b k y : ℕ) (ys : List ℕ) → Line t valid bits c i j r b k (y ∷ ys) → (s l : ℕ) (zs : List ℕ) → (queues c).queue (ancestor t i j) ≡ r ∷ record_at t s l ∷ zs →
        (queues c').queue (ancestor t i j) ≡ record_at t s l ∷ zs → ancestor t s l ≡ ancestor t i j → l < low (height t s) ((queues c').stage s) → Line t valid bits c' i j y s l ys
    unfolding AllLinked
    line_next i j r b k y ys L s l zs q q' there h =
        let d = ancestor t i j in
        let m = record_at t i j in
        let both = tail-eq_of_cons-eq (sym L.shape ∙ q) in
        let same_head : y ≡ record_at t s l = head-eq_of_cons-eq both in
        let same_rest : ys ++ (m ∷ L.later) ≡ zs = tail-eq_of_cons-eq both in
        let shape : (queues c').queue d ≡ y ∷ (ys ++ (m ∷ L.later)) = q' ∙ ap (λ u. u ∷ zs) (sym same_head) ∙ ap (λ u. y ∷ u) (sym same_rest) in
        let in_line = before_once c i j r b k (y ∷ ys) L in
        let apart : y ≢ m = (in_line y (omega (arith, count_cons y r (y ∷ ys), count_cons y y ys, is_same y y refl))).1 in
        record {
          stage = still_stands i j L.stage (λ z. let w = ap first shape in let v = first_cons y (ys ++ (m ∷ L.later)) in apart (omega arith));
          later = L.later;
          shape = shape;
          linked = λ nt. linked_stays t valid bits c x hx d (y ∷ ys) (λ a u. (in_line a (omega (arith, count_cons a r (y ∷ ys)))).0) (L.linked nt).1;
          first_there = h;
          there = there;
          mine = sym same_head;
        }
