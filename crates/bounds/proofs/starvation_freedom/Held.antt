-- The first of a queue has the lock, and others are after it, each linked to the one before: the effect of one step.
use mathlib.Core.Path.{◌≡◌, refl, sym, ap, ◌∙◌}
use mathlib.Core.List.{List, [], ◌∷◌, ◌++◌, nil≢cons, head-eq_of_cons-eq, tail-eq_of_cons-eq}
use mathlib.Core.Logic.{◌≢◌, ◌⊎◌, inl, inr}
use Prim.Native.Nat.{ℕ, suc, ◌+◌, ◌≤◌, ◌<◌}
use native.Mathlib.Omega.{arith}
use Rattle.model.specs.declared.Place.TheVariants.{Inside}
use Rattle.model.specs.Trees.{Tree}
use Rattle.model.specs.States.{next, place}
use Rattle.model.specs.Laws.{SixteenBit}
use Rattle.model.proofs.Lists.{same_or, first, first_cons, is, is_same, count, count_cons}
use Rattle.model.proofs.Trees.Index.{ancestor, height, record_at}
use Rattle.model.proofs.Trees.Accepted.{Accepted}
use Rattle.model.proofs.Trees.Paths.{ancestor_inner, ancestor_not_root}
use Rattle.model.proofs.Trees.Tickets.{ticket_lower}
use Rattle.claims.proofs.Queues.Paths.{Laws, laws}
use Rattle.claims.proofs.Queues.Moves.{climb, queued, ready, releasing, low, acts, reach, State}
use Rattle.claims.proofs.Queues.Invariant.{Thread, Inv, unique}
use Rattle.bounds.proofs.starvation_freedom.Situations as situations
use Rattle.bounds.proofs.starvation_freedom.Situations.{Situation, queues, Changed, next_change, place_other}
use Rattle.bounds.proofs.starvation_freedom.Queues.{tag}
use Rattle.bounds.proofs.starvation_freedom.Heads.{After, kept, passed, released, closed, after_step}
use Rattle.bounds.proofs.starvation_freedom.Stages.{steps_on, lock_lasts}
use Rattle.bounds.proofs.starvation_freedom.Over.{Over, not_over, releasing_over, over_turn}
use Rattle.bounds.proofs.starvation_freedom.Linked.{AllLinked}
use Rattle.bounds.proofs.starvation_freedom.Says.{Says, says}
use Rattle.bounds.proofs.starvation_freedom.Waiting.{Woken, Stood, stands_on, is_ready, is_woken, is_inside, stands_step}
use Rattle.bounds.proofs.starvation_freedom.Line.{Line}
use Rattle.bounds.proofs.starvation_freedom.Lines.{low_real, stands_real, line_kept, line_next}

pub nil_append : (xs ys : List ℕ) (m : ℕ) → [] ≡ xs ++ (m ∷ ys) → ⊥
nil_append [] ys m e = nil≢cons e
nil_append (x ∷ xs) ys m e = nil≢cons e

-- the first has the lock: its count is at most v, and v is at least the threshold once its Check is over
pub record Held (t : Tree) (valid : Accepted t) (bits : SixteenBit t) (c : Situation t) (i j r b k v : ℕ) (xs : List ℕ) : Type 0 where
  pub line : Line t valid bits c i j r b k xs
  pub has_lock : 3 ≤ tag ((queues c).stage b)
  pub count_within : (queues c).tally r ≤ v
  pub at_threshold : ancestor t i j ≢ 0 → Over (ancestor t i j) (place c.words b) → t.threshold (ancestor t i j) ≤ v

-- the first has left, the count was at least the threshold, and the next has only the domain
pub data Given (t : Tree) (valid : Accepted t) (bits : SixteenBit t) (c : Situation t) (i j v : ℕ) : List ℕ → Type 0 where
  own_domain : (h : i < t.threads) → t.threshold (ancestor t i j) ≤ v → 0 < ancestor t i j → Woken t valid bits i h j c → Given t valid bits c i j v []
  domain :
      (m s l : ℕ) {ms : List ℕ} (h : s < t.threads) → t.threshold (ancestor t i j) ≤ v → 0 < ancestor t i j → Line t valid bits c i j m s l ms → Woken t valid bits s h l c →
      Given t valid bits c i j v (m ∷ ms)

-- or the next has the lock, and the count is one higher
pub data Turned (t : Tree) (valid : Accepted t) (bits : SixteenBit t) (c : Situation t) (i j v : ℕ) : List ℕ → Type 0 where
  own_lock : (queues c).stage i ≡ ready → Turned t valid bits c i j v []
  lock : (m s l : ℕ) {ms : List ℕ} → Held t valid bits c i j m s l (suc v) ms → (queues c).stage s ≡ ready → Turned t valid bits c i j v (m ∷ ms)
  given : {ms : List ℕ} → Given t valid bits c i j v ms → Turned t valid bits c i j v ms

pub data HeldOn (t : Tree) (valid : Accepted t) (bits : SixteenBit t) (c : Situation t) (i j r v : ℕ) (xs : List ℕ) : Type 0 where
  still : (b k : ℕ) → Held t valid bits c i j r b k v xs → HeldOn t valid bits c i j r v xs
  turned : Turned t valid bits c i j v xs → HeldOn t valid bits c i j r v xs

module _ (t : Tree) (valid : Accepted t) (bits : SixteenBit t) (c : Situation t) (x : ℕ) (hx : x < t.threads) where
  tree_laws : Laws t
  tree_laws = laws t valid

  abbrev c' : Situation t
  c' = situations.next t valid bits c x hx

  abbrev g : State
  g = queues c

  abbrev g' : State
  g' = queues c'

  abbrev inv : Inv t g
  inv = c.queued.represents.invariant

  abbrev inv' : Inv t g'
  inv' = c'.queued.represents.invariant

  abbrev ch : Changed t g g'
  ch = next_change t valid bits c x hx

  -- two different members cannot both be first
  pub two_first : (d a y : ℕ) (zs : List ℕ) → g.queue d ≡ a ∷ y ∷ zs → g'.queue d ≡ y ∷ zs → first (g'.queue d) ≡ suc a → ⊥
  two_first d a y zs q q' f =
      let same_one : y ≡ a = let u = ap first q' in let v = first_cons y zs in omega arith in
      let n : count a (g.queue d) ≡ is a a + (is a y + count a zs) = ap (count a) q ∙ count_cons a a (y ∷ zs) ∙ ap (λ m. is a a + m) (count_cons a y zs) in
      omega (arith, inv.once d a, is_same a a refl, is_same a y (sym same_one))

  -- if b stays first, its count does not change
  module _ (i j r b k : ℕ) (xs : List ℕ) (L : Line t valid bits c i j r b k xs) where
    -- a member is after it
    pub not_closed : g.queue (ancestor t b k) ≡ record_at t b k ∷ [] → ⊥
    not_closed q =
        let shape : g.queue (ancestor t b k) ≡ r ∷ (xs ++ (record_at t i j ∷ L.later)) = rw L.there L.shape in
        nil_append xs L.later (record_at t i j) (tail-eq_of_cons-eq (sym q ∙ shape))

    pub same_tally : k < low (height t b) (g'.stage b) → g'.tally r ≡ g.tally r
    same_tally h = by (after_step t tree_laws inv ch b k L.first_there)
      where
        by : After t g g' b k → g'.tally r ≡ g.tally r
        by (kept b' k' l a m y z) = rw L.mine at y
        by (passed s l zs o q q' w a y v) = absurd (two_first (ancestor t b k) (record_at t b k) (record_at t s l) zs q q' ((inv'.threads b).heads k h))
        by (released s l zs o q q' w a y v) = absurd (two_first (ancestor t b k) (record_at t b k) (record_at t s l) zs q q' ((inv'.threads b).heads k h))
        by (closed q) = absurd (not_closed q)

  module _ (i j r b k v : ℕ) (xs : List ℕ) (H : Held t valid bits c i j r b k v xs) where
    abbrev L : Line t valid bits c i j r b k xs
    L = H.line

    abbrev e : ℕ
    e = ancestor t i j

    -- if b stays first and its Check is over, v is at least the threshold
    over_kept : k < low (height t b) (g'.stage b) → e ≢ 0 → Over e (place c'.words b) → t.threshold e ≤ v
    unfolding AllLinked
    over_kept h z =
        let real = low_real t valid bits c b k L.first_there in
        let inner : k < height t b = ancestor_not_root t valid b real.0 k real.1 (let w = L.there in omega arith) in
        let named : next c.words (record_at t b k) ≢ 0 = rw L.mine (L.linked (ticket_lower t e z)).0 in
        same_or x b (Over e (place c'.words b) → t.threshold e ≤ v)
        (λ y.
        let own : (h' : x < t.threads) → k < low (height t b) ((queues (situations.next t valid bits c x h')).stage b) → Over (ancestor t b k) (place (situations.next t valid bits c x h').words b) → t.threshold (ancestor t b k) ≤ v =
        rw y (λ h' l o. over_turn t valid bits b h' c k v inner named (rw L.mine H.count_within) H.has_lock l (rw L.there (H.at_threshold z)) (place c.words b) refl o) in
        λ o. rw L.there at (own hx h (rw L.there o)))
        (λ y o. H.at_threshold z (rw (place_other t valid bits c x hx b (λ w. y (sym w))) at o))

    pub held_itself : k < low (height t b) (g'.stage b) → g'.tally r ≡ g.tally r → Held t valid bits c' i j r b k v xs
    unfolding tag
    held_itself h y =
        let lock : 3 ≤ tag (g'.stage b) = lock_lasts (height t b) k (steps_on t ch b (λ o. let p = ap tag o in let q = H.has_lock in omega arith)) H.has_lock h in
        record { line = line_kept t valid bits c x hx i j r b k xs L b k h refl refl; has_lock = lock; count_within = omega (arith, H.count_within); at_threshold = λ q. over_kept h q }

    kept_held : (b' k' : ℕ) → k' < low (height t b') (g'.stage b') → ancestor t b' k' ≡ ancestor t b k → record_at t b' k' ≡ record_at t b k →
        g'.tally (record_at t b k) ≡ g.tally (record_at t b k) → ((b' ≡ b) × (k' ≡ k)) ⊎ (g'.stage b' ≡ ready) → Held t valid bits c' i j r b' k' v xs
    unfolding tag
    kept_held b' k' h a m y sel =
        let y' : g'.tally r ≡ g.tally r = rw L.mine at y in
        elim sel [
          | inl (z, w) ↦ rw (z, w) (held_itself (rw (z, w) at h) y')
          | inr z ↦
              let real' = low_real t valid bits c' b' k' h in
              record {
                line = line_kept t valid bits c x hx i j r b k xs L b' k' h a m;
                has_lock = rw z (omega arith);
                count_within = omega (arith, H.count_within);
                at_threshold = λ q o. absurd (not_over t valid bits b' real'.0 c' e (place c'.words b') refl (rw z (omega arith)) o);
              }
        ]

  -- THE NEXT MEMBER becomes first
  module _ (i j r b k v : ℕ) where
    abbrev mine : ℕ
    mine = record_at t i j

    abbrev top : ℕ
    top = ancestor t i j

    -- the next member is i itself
    next_own : (later zs : List ℕ) (s l : ℕ) → g.stage i ≡ queued j → g.queue top ≡ r ∷ (mine ∷ later) → g.queue top ≡ r ∷ record_at t s l ∷ zs → g.stage s ≡ queued l → (i ≡ s) × (j ≡ l)
    unfolding acts
    next_own later zs s l e q q' w =
        let same_record : mine ≡ record_at t s l = head-eq_of_cons-eq (tail-eq_of_cons-eq (sym q ∙ q')) in
        unique t tree_laws g inv i s j l (rw e (omega arith)) (rw w (omega arith)) same_record

    passed_turned :
        (xs : List ℕ) → Held t valid bits c i j r b k v xs → (s l : ℕ) (zs : List ℕ) → g.queue top ≡ r ∷ record_at t s l ∷ zs →
        g'.queue top ≡ record_at t s l ∷ zs → g.stage s ≡ queued l → ancestor t s l ≡ top → g'.stage s ≡ ready → g'.tally (record_at t s l) ≡ suc (g.tally r) → Turned t valid bits c' i j v xs
    unfolding tag low
    passed_turned [] H s l zs q q' w a y z = let own = next_own H.line.later zs s l H.line.stage H.line.shape q w in own_lock (ap g'.stage own.0 ∙ y)
    passed_turned (m ∷ ms) H s l zs q q' w a y z =
        let real = stands_real t valid bits c s l w in
        let L' = line_next t valid bits c x hx i j r b k m ms H.line s l zs q q' a (rw y (omega (arith, real.1))) in
        lock m s l (record {
          line = L';
          has_lock = rw y (omega arith);
          count_within = let u : g'.tally m ≡ suc (g.tally r) = rw L'.mine at z in omega (arith, H.count_within);
          at_threshold = λ q o. absurd (not_over t valid bits s real.0 c' top (place c'.words s) refl (rw y (omega arith)) o);
        }) y

    -- the next member has only the domain: the count was at the threshold
    pub released_given :
        (xs : List ℕ) → Held t valid bits c i j r b k v xs → g.stage b ≡ releasing k → (s l : ℕ) (zs : List ℕ) → g.queue top ≡ r ∷ record_at t s l ∷ zs →
        g'.queue top ≡ record_at t s l ∷ zs → g.stage s ≡ queued l → ancestor t s l ≡ top → g'.stage s ≡ climb (suc l) → Given t valid bits c' i j v xs
    unfolding Says tag low reach
    released_given xs H o s l zs q q' w a y = by xs H
      where
        first_b : (b < t.threads) × (k ≤ height t b)
        first_b = let L = H.line in low_real t valid bits c b k L.first_there

        below : k < height t b
        below = let th : Thread t g.queue b (releasing k) = rw o at (inv.threads b) in omega (arith, th.range)

        inner : 0 < top
        inner = let L = H.line in rw L.there at (ancestor_inner t valid b first_b.0 k below)

        full : t.threshold top ≤ v
        full =
            let L = H.line in
            H.at_threshold (λ z. omega (arith, inner)) (rw L.there at (releasing_over t valid bits b first_b.0 c k below o))

        hs : s < t.threads
        hs = (stands_real t valid bits c s l w).0

        -- the next was granted the domain
        wakes : Stood t valid bits s hs l c' → Woken t valid bits s hs l c'
        wakes (stands_on z) = absurd (let n = ap tag (sym y ∙ z) in omega arith)
        wakes (is_ready z) = absurd (let n = ap tag (sym y ∙ z) in omega arith)
        wakes (is_woken z) = z
        wakes (is_inside z) = absurd (let n = ap tag (sym y ∙ says t valid c' s hs Inside z) in omega arith)

        woken : Woken t valid bits s hs l c'
        woken = wakes (stands_step t valid bits s hs l (stands_real t valid bits c s l w).1 c w x hx)

        by : (xs : List ℕ) → Held t valid bits c i j r b k v xs → Given t valid bits c' i j v xs
        by [] H =
            let own = next_own H.line.later zs s l H.line.stage H.line.shape q w in
            let hi : i < t.threads = rw own.0 hs in
            own_domain hi full inner (record { below = rw (own.0, own.1) woken.below; there = rw (own.0, own.1) woken.there; stage = rw (own.0, own.1) woken.stage })
        by (m ∷ ms) H = domain m s l hs full inner (line_next t valid bits c x hx i j r b k m ms H.line s l zs q q' a (rw y (omega arith))) woken

  -- ONE STEP
  pub held_step : (i j r b k v : ℕ) (xs : List ℕ) → Held t valid bits c i j r b k v xs → HeldOn t valid bits c' i j r v xs
  held_step i j r b k v xs H = by (after_step t tree_laws inv ch b k H.line.first_there)
    where
      by : After t g g' b k → HeldOn t valid bits c' i j r v xs
      by (kept b' k' h a m y sel) = still b' k' (kept_held i j r b k v xs H b' k' h a m y sel)
      by (passed s l zs o q q' w a y z) =
          let L = H.line in
          turned (passed_turned i j r b k v xs H s l zs (rw (L.there, L.mine) at q) (rw L.there at q') w (a ∙ L.there) y (rw L.mine at z))
      by (released s l zs o q q' w a y z) =
          let L = H.line in
          turned (given (released_given i j r b k v xs H o s l zs (rw (L.there, L.mine) at q) (rw L.there at q') w (a ∙ L.there) y))
      by (closed q) = absurd (not_closed i j r b k xs H.line q)
