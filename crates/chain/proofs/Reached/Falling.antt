-- Along a chain a number decreases: by domain, and within one queue by the distance from the first. So no chain returns to a thread.
use mathlib.Core.Path.{◌≡◌, refl, sym, ap, ◌∙◌}
use mathlib.Core.Bool.{Bool, true, false, ◌||◌, not, cond, false≢true}
use mathlib.Core.Logic.{inl, inr}
use Prim.Native.Nat.{ℕ, suc, ◌+◌, ◌*◌, ◌≤◌, ◌<◌}
use native.Mathlib.Omega.{arith}
use lib.Dec.{eqb, ltb, leb}
use borrow.Author.Tests.{eqb-true, leb-true, le-ltb}
use Rattle.model.specs.declared.Place.{Place}
use Rattle.model.specs.declared.Place.TheVariants.{Idle, Prep, Swap, Link, Wait, Inside, Check, Help, Cas, Linger, Grant, Draw, Watch, Raise, Invalid}
use Rattle.model.specs.declared.State.{State as WordState}
use Rattle.model.specs.Trees.{Tree, on_path, own_record}
use Rattle.model.specs.States.{acquire_parent, wait_word, locked, next, status, place}
use Rattle.model.specs.Steps.{row}
use Rattle.model.specs.Acts.{sends_inside, acts_at, acts}
use Rattle.model.specs.WellFormed.{good_place}
use Rattle.model.specs.Laws.{SixteenBit}
use Rattle.model.proofs.Tests.{and_both, or_cases}
use Rattle.model.proofs.Trees.Index.{ancestor, height, record_at}
use Rattle.model.proofs.Trees.Accepted.{Accepted}
use Rattle.model.proofs.Trees.Records.{root_record}
use Rattle.model.proofs.Lists.{same_or, count}
use Rattle.claims.proofs.Queues.Moves.{State}
use Rattle.claims.proofs.Queues.Invariant.{Inv}
use Rattle.claims.proofs.Words.Tickets.{list_short}
use Rattle.claims.proofs.Words.Outcome.{member_small}
use Rattle.claims.proofs.Claims.Reached.{Queued}
use Rattle.chain.specs.Chain.{stays, acts_ahead, ticket_before, acts_holding, looked_to}
use Rattle.model.proofs.Laws.Kinds.{may_stay}
use Rattle.chain.proofs.Stays.{waits_in, stays_at, wait_stays, moves_on}
use Rattle.chain.proofs.Reached.Orders.{position, position_small, position_next}
use Rattle.chain.proofs.Reached.Actors.{Waits, waits, lingers, watches, stay_waits, stands_before}
use Rattle.chain.proofs.Reached.Ahead.{link_place, watch_before}

-- a status that stays does not send a thread Inside
stays_not_sent : (l v : ℕ) → waits_in l v ≡ true → sends_inside l v ≡ false
unfolding sends_inside
stays_not_sent l v e = by (eqb l 0) refl
  where
    by : (b : Bool) → eqb l 0 ≡ b → cond (eqb l 0) (not (eqb v locked)) (ltb v acquire_parent) ≡ false
    by true z = let y : eqb v locked ≡ true = rw z at e in rw (z, y) refl
    by false z = let y : eqb v wait_word ≡ true = rw z at e in rw z (le-ltb v acquire_parent (let u = eqb-true v wait_word y in omega arith))

module _ (t : Tree) (valid : Accepted t) (bits : SixteenBit t) (s : WordState) (q : Queued t s) where
  abbrev g : State
  g = q.queues

  abbrev inv : Inv t g
  inv = q.represents.invariant

  -- the number of a thread that waits, by its place
  unfoldable pub rank_at : (thread : ℕ) → Place → ℕ
  rank_at i Idle = 0
  rank_at i (Prep l) = 0
  rank_at i (Swap l) = 0
  rank_at i (Link l p) = 0
  rank_at i (Wait l) = 1 + 400 * l + position (own_record t i l) (g.queue l)
  rank_at i Inside = 0
  rank_at i (Check l) = 0
  rank_at i (Help l) = 0
  rank_at i (Cas l) = 0
  rank_at i (Linger l) = 1 + 400 * l
  rank_at i (Grant l r w) = 0
  rank_at i Draw = 0
  rank_at i Watch = 1 + position (own_record t i 0) (g.queue 0)
  rank_at i Raise = 0
  rank_at i Invalid = 0

  -- 0 if the thread's next step is not a stay
  unfoldable pub rank : (thread : ℕ) → ℕ
  rank i = cond (stays t s i) (rank_at i (place s i)) 0

  rank_none : (i : ℕ) → stays t s i ≡ false → rank i ≡ 0
  unfolding rank
  rank_none i e = rw e refl

  few_there : (d r : ℕ) → position r (g.queue d) ≤ 320
  few_there d r = omega (arith, position_small r (g.queue d), list_short 320 (g.queue d) (member_small t valid g inv d) (inv.once d))

  once : (d a : ℕ) → count a (g.queue d) ≤ 1
  once d a = inv.once d a

  -- a thread that stays and acts at a domain d has at most the number of its record there
  module _ (b : ℕ) (hb : b < t.threads) (still : stays t s b ≡ true) (d : ℕ) where
    abbrev bound : ℕ
    bound = 1 + 400 * d + position (own_record t b d) (g.queue d)

    wait_bound : (l : ℕ) → place s b ≡ Wait l → leb l d || sends_inside l (status s (own_record t b l)) ≡ true → 1 + 400 * l + position (own_record t b l) (g.queue l) ≤ bound
    unfolding row
    wait_bound l y acting =
        let v = status s (own_record t b l) in
        let waiting : waits_in l v ≡ true = sym (wait_stays t s b l) ∙ sym (stays_at t s b (Wait l) y) ∙ still in
        let below : l ≤ d = elim (or_cases (leb l d) (sends_inside l v) acting) [
          | inl e ↦ leb-true l d e
          | inr e ↦ absurd (false≢true (sym (stays_not_sent l v waiting) ∙ e))
        ] in
        same_or l d _
        (λ z. let u : position (own_record t b l) (g.queue l) ≡ position (own_record t b d) (g.queue d) = ap (λ x. position (own_record t b x) (g.queue x)) z in omega arith)
        (λ z. omega (arith, few_there l (own_record t b l)))

    watch_bound : 1 + position (own_record t b 0) (g.queue 0) ≤ bound
    watch_bound =
        same_or 0 d _
        (λ z. let u : position (own_record t b 0) (g.queue 0) ≡ position (own_record t b d) (g.queue d) = ap (λ x. position (own_record t b x) (g.queue x)) z in omega arith)
        (λ z. omega (arith, few_there 0 (own_record t b 0)))

    bounded : (p : Place) → place s b ≡ p → Waits t valid bits s q b p → acts_at t s b p d ≡ true → rank_at b p ≤ bound
    unfolding acts_at rank_at
    bounded _ y (waits k p l e nt f n v) acting = wait_bound (ancestor t b k) y acting
    bounded _ y (lingers k l c n z) acting = let u = leb-true (ancestor t b k) d acting in omega arith
    bounded _ y (watches e r) acting = watch_bound

  rank_bound : (b d : ℕ) → b < t.threads → acts t s b d ≡ true → rank b ≤ 1 + 400 * d + position (own_record t b d) (g.queue d)
  unfolding rank acts
  rank_bound b d hb e = by (stays t s b) refl
    where
      by : (c : Bool) → stays t s b ≡ c → cond (stays t s b) (rank_at b (place s b)) 0 ≤ 1 + 400 * d + position (own_record t b d) (g.queue d)
      by true z = rw z (bounded b hb z d (place s b) refl (stay_waits t valid bits s q b hb z) (and_both (on_path t b d) (acts_at t s b (place s b) d) e).1)
      by false z = rw z (omega arith)

  -- ALONG A LINK the number decreases
  module _ (a b : ℕ) (ha : a < t.threads) (hb : b < t.threads) (still : stays t s a ≡ true) where
    link_falls : (p : Place) → good_place t a p ≡ true → Waits t valid bits s q a p → looked_to t s a p b ≡ true → rank b < rank_at a p
    unfolding looked_to acts_ahead acts_holding rank_at good_place may_stay
    link_falls _ o (waits k p l e nt f n v) looked =
        let d = ancestor t a k in
        let both = and_both (acts t s b d) (eqb (next s (own_record t b d)) (own_record t a d + 1)) looked in
        let named : next s (own_record t b d) ≡ suc (own_record t a d) = eqb-true _ _ both.1 ∙ (let z : own_record t a d + 1 ≡ suc (own_record t a d) = omega arith in z) in
        let before = stands_before t valid bits s q d (own_record t a d) b nt hb both.0 named in
        omega (arith, rank_bound b d hb both.0, position_next (g.queue d) (own_record t b d) (own_record t a d) before (once d))
    link_falls _ o (lingers k l c n z) looked =
        let x = link_place (place s b) (own_record t a (ancestor t a k)) looked in
        let moves = stays_at t s b _ x.1 ∙ moves_on t s b (Link x.0 (own_record t a (ancestor t a k))) refl in
        omega (arith, rank_none b moves)
    link_falls _ o (watches e r) looked =
        let both = and_both (acts t s b 0) (eqb (status s (own_record t b 0)) (ticket_before (status s (own_record t a 0)))) looked in
        let before = watch_before t valid bits s q a ha e r b hb both.0 (eqb-true _ _ both.1) in
        let own = root_record t valid a ha in
        let z : position (own_record t a 0) (g.queue 0) ≡ position (record_at t a (height t a)) (g.queue 0) = ap (λ x. position x (g.queue 0)) own in
        omega (arith, rank_bound b 0 hb both.0, position_next (g.queue 0) (own_record t b 0) (record_at t a (height t a)) before (once 0))

    pub falls : looked_to t s a (place s a) b ≡ true → rank b < rank a
    unfolding rank
    falls looked = let x = link_falls (place s a) ((q.facts.places a).used ha) (stay_waits t valid bits s q a ha still) looked in rw still x
