-- In a state reached from fresh, a thread whose next step is a stay waits for exactly one thread.
use mathlib.Core.Path.{◌≡◌, refl, sym, ap, ◌∙◌}
use mathlib.Core.Bool.{true, false, false≢true}
use mathlib.Core.List.{List, [], ◌∷◌}
use mathlib.Core.Logic.{◌≢◌}
use Prim.Native.Nat.{ℕ, suc, ◌+◌, ◌≤◌, ◌<◌}
use native.Mathlib.Omega.{arith}
use lib.Dec.{eqb}
use lib.ListN.{length}
use borrow.Author.Tests.{eqb-true, eq-eqb}
use Rattle.model.specs.declared.Place.{Place}
use Rattle.model.specs.declared.Place.TheVariants.{Idle, Prep, Swap, Link, Wait, Inside, Check, Help, Cas, Linger, Grant, Draw, Watch, Raise, Invalid}
use Rattle.model.specs.declared.State.{State as WordState}
use Rattle.model.specs.Trees.{Tree, is_ticket, own_record}
use Rattle.model.specs.States.{next, status, place, wrap}
use Rattle.model.specs.Acts.{acts}
use Rattle.model.specs.WellFormed.{good_place}
use Rattle.model.specs.Laws.{SixteenBit}
use Rattle.model.proofs.Tests.{and_both, filter_one, false_by}
use Rattle.model.proofs.Trees.Index.{ancestor, height, record_at}
use Rattle.model.proofs.Trees.Accepted.{Accepted}
use Rattle.model.proofs.Trees.Tickets.{ticket_yes, queue_facts}
use Rattle.model.proofs.Trees.Paths.{ancestor_root}
use Rattle.model.proofs.Trees.Records.{own_record_at, root_record}
use Rattle.model.proofs.Lists.{rest, count, first_rest, first_cons}
use Rattle.model.proofs.Laws.Form.{wrap_fits}
use Rattle.claims.proofs.Queues.Paths.{laws}
use Rattle.claims.proofs.Queues.Moves.{queued, low, reach, State}
use Rattle.claims.proofs.Queues.Moves as moves
use Rattle.claims.proofs.Queues.Invariant.{Inv, one_queue}
use Rattle.claims.proofs.Queues.Order.{Second, second}
use Rattle.claims.proofs.Words.Links.{after, after_in, after_here, before_second}
use Rattle.claims.proofs.Words.View.{Words, words_in}
use Rattle.claims.proofs.Words.Represents.{Tickets}
use Rattle.claims.proofs.Words.Says.{Says, says_at, Ungranted, linking, waiting, watching, ungranted}
use Rattle.claims.proofs.Words.Tickets.{list_short, tickets_held}
use Rattle.claims.proofs.Words.Outcome.{member_small}
use Rattle.claims.proofs.Claims.Reached.{Queued}
use Rattle.claims.proofs.Claims.Moving.{two_there}
use Rattle.chain.specs.Chain.{stays, acts_ahead, links, ticket_before, acts_holding, looked_to, looks_to}
use Rattle.chain.proofs.Reached.Orders.{Once, after_same, just_before, ticket_next, ticket_same}
use Rattle.chain.proofs.Reached.Actors.{Waits, waits, lingers, watches, stay_waits, same_thread, acting_there, actor, queued_there, stands_before}

-- a place that is Link with a record
pub link_place : (p : Place) (r : ℕ) → links p r ≡ true → (l : ℕ) × (p ≡ Link l r)
link_place (Link l p) r e = (l, ap (Link l) (eqb-true p r e))
link_place Idle r e = absurd (false≢true e)
link_place (Prep l) r e = absurd (false≢true e)
link_place (Swap l) r e = absurd (false≢true e)
link_place (Wait l) r e = absurd (false≢true e)
link_place Inside r e = absurd (false≢true e)
link_place (Check l) r e = absurd (false≢true e)
link_place (Help l) r e = absurd (false≢true e)
link_place (Cas l) r e = absurd (false≢true e)
link_place (Linger l) r e = absurd (false≢true e)
link_place (Grant l p w) r e = absurd (false≢true e)
link_place Draw r e = absurd (false≢true e)
link_place Watch r e = absurd (false≢true e)
link_place Raise r e = absurd (false≢true e)
link_place Invalid r e = absurd (false≢true e)

module _ (t : Tree) (valid : Accepted t) (bits : SixteenBit t) (s : WordState) (q : Queued t s) where
  abbrev pub g : State
  g = q.queues

  abbrev pub w : Words
  w = words_in s

  abbrev pub inv : Inv t g
  inv = q.represents.invariant

  -- a thread in Link with a record is after that record
  pub record Linking (j r : ℕ) : Type 0 where
    pub index : ℕ
    pub acting : index < moves.acts (height t j) (g.stage j)
    pub follows : after (g.queue (ancestor t j index)) r ≡ suc (record_at t j index)
    pub quiet : next s r ≡ 0

  pub linking_there : (j l r : ℕ) → j < t.threads → place s j ≡ Link l r → Linking j r
  unfolding words_in moves.acts Says
  linking_there j l r h e =
      let y : Says t w g j (Link l r) (g.stage j) = says_at e (q.represents.fits j h) in
      record { index = y.0; acting = omega (arith, ap (moves.acts (height t j)) y.2); follows = y.3; quiet = y.4 }

  once : (d : ℕ) → Once (g.queue d)
  once d a = inv.once d a

  -- THE ONE THREAD THAT A THREAD WAITS FOR
  pub record Looked (i j : ℕ) : Type 0 where
    pub real : j < t.threads
    pub looked : looked_to t s i (place s i) j ≡ true
    pub only_one : (k : ℕ) → k < t.threads → looked_to t s i (place s i) k ≡ true → k ≡ j

  abbrev One : (i : ℕ) → Place → Type 0
  One i p = (j : ℕ) × (j < t.threads) × (looked_to t s i p j ≡ true) × ((k : ℕ) → k < t.threads → looked_to t s i p k ≡ true → k ≡ j)

  module _ (i : ℕ) (h : i < t.threads) where
    -- in Wait: the thread that acts for the record just before
    wait_one : (k p : ℕ) → k ≤ height t i → is_ticket t (ancestor t i k) ≡ false → after (g.queue (ancestor t i k)) p ≡ suc (record_at t i k) → next s p ≡ suc (record_at t i k) →
        One i (Wait (ancestor t i k))
    unfolding looked_to acts_ahead
    wait_one k p l nt a n =
        let d = ancestor t i k in
        let own = own_record_at t valid i h k l in
        let b = actor t valid bits s q d p (after_in (g.queue d) p (record_at t i k) a) in
        let named : next s (own_record t b.thread d) ≡ own_record t i d + 1 = ap (λ r. next s r) b.own ∙ n ∙ (let z : suc (record_at t i k) ≡ own_record t i d + 1 = omega arith in z) in (
          b.thread,
          b.real,
          rw (b.acting, eq-eqb _ _ named) refl,
          λ j hj f.
              let both = and_both (acts t s j d) (eqb (next s (own_record t j d)) (own_record t i d + 1)) f in
              let nx : next s (own_record t j d) ≡ suc (record_at t i k) = eqb-true _ _ both.1 ∙ (let z : own_record t i d + 1 ≡ suc (record_at t i k) = omega arith in z) in
              let before = stands_before t valid bits s q d (record_at t i k) j nt hj both.0 nx in
              let same = after_same (g.queue d) (own_record t j d) p (record_at t i k) before a (once d) in
              let x = acting_there t valid bits s q d j hj both.0 in
              same_thread t valid bits s q j b.thread x.index b.index x.within b.within (x.mine ∙ same ∙ sym b.mine),
        )

    -- in Linger: the thread of the member after it, which is in Link
    module _ (k : ℕ) (nt : is_ticket t (ancestor t i k) ≡ false) (first_there : k < low (height t i) (g.stage i)) (n : w.tails (ancestor t i k) ≢ suc (record_at t i k))
        (l : k ≤ height t i) (quiet : next s (record_at t i k) ≡ 0) where
      abbrev d : ℕ
      d = ancestor t i k

      abbrev R : ℕ
      R = record_at t i k

      two : (m : ℕ) × (ys : List ℕ) × (g.queue d ≡ R ∷ m ∷ ys)
      unfolding words_in
      two =
          two_there R (g.queue d) (rest (g.queue d)) (first_rest R (g.queue d) ((inv.threads i).heads k first_there)) (λ f. n ((q.represents.linked d nt).last ∙ f))

      after_one : (m : ℕ) (ys : List ℕ) → g.queue d ≡ R ∷ m ∷ ys → (b : Second t g d m) → b.thread < t.threads → Ungranted t w g b.thread b.index (place s b.thread) → One i (Linger d)
      unfolding looked_to words_in moves.acts
      after_one m ys shape b real (linking p e nd a z) =
          let a' : after (R ∷ m ∷ ys) p ≡ suc m = rw (b.place, b.mine, shape) at a in
          let same : p ≡ R = before_second p R m ys a' (rw shape at (inv.once d m)) in
          let own = own_record_at t valid i h k l in (
            b.thread,
            real,
            rw (e, own, eq-eqb p R same) refl,
            λ j hj f.
                let f' : links (place s j) R ≡ true = ap (links (place s j)) (sym own) ∙ f in
                let x = link_place (place s j) R f' in
                let y = linking_there j x.0 R hj x.1 in
                let after_j : after (g.queue (ancestor t j y.index)) R ≡ suc (record_at t j y.index) = y.follows in
                let after_R : after (g.queue d) R ≡ suc m = rw shape (after_here R R (m ∷ ys) refl ∙ first_cons m ys) in
                let there = one_queue t (laws t valid) g inv (ancestor t j y.index) d R (after_in _ R _ after_j) (after_in _ R _ after_R) in
                let after_d : after (g.queue d) R ≡ suc (record_at t j y.index) = rw there at after_j in
                let record_same : record_at t j y.index ≡ record_at t b.thread b.index = (let u : record_at t j y.index ≡ m = omega arith in u) ∙ sym b.mine in
                let b_acts : b.index < moves.acts (height t b.thread) (g.stage b.thread) = rw b.waits (omega arith) in
                same_thread t valid bits s q j b.thread y.index b.index y.acting b_acts record_same,
          )
      after_one m ys shape b real (waiting p e c a z) =
          let a' : after (R ∷ m ∷ ys) p ≡ suc m = rw (b.place, b.mine, shape) at a in
          let same : p ≡ R = before_second p R m ys a' (rw shape at (inv.once d m)) in
          absurd (let z' : next s R ≡ suc (record_at t b.thread b.index) = rw same at z in omega arith)
      after_one m ys shape b real (watching e z y c) =
          absurd (false≢true (sym nt ∙ ticket_yes t d y (sym b.place ∙ ap (ancestor t b.thread) z ∙ ancestor_root t valid b.thread real)))

      linger_one : One i (Linger d)
      unfolding words_in reach
      linger_one =
          let b = second t g inv d R two.0 two.1 two.2 in
          let real : b.thread < t.threads = (inv.threads b.thread).real (rw b.waits (omega arith)) in
          after_one two.0 two.1 two.2 b real (ungranted b.index b.waits (q.represents.fits b.thread real))

    -- in Watch: the thread that acts for the member with the ticket just before
    module _ (stands : g.stage i ≡ queued (height t i)) (root : t.ticket_root ≡ true) where
      abbrev pub mine : ℕ
      mine = record_at t i (height t i)

      pub after_first : 1 ≤ count mine (rest (g.queue 0))
      unfolding low moves.acts
      after_first =
          let st = (inv.threads i).stands (rw stands (omega arith)) in
          rw (stands, ancestor_root t valid i h) at st

      pub held : Tickets (λ r. status s r) s.grant s.ticket (g.queue 0)
      unfolding words_in
      held = (q.represents.numbered root).held

      pub grant_small : s.grant < 65536
      unfolding words_in
      grant_small = (q.represents.numbered root).small

      pub short : length (g.queue 0) ≤ 320
      short = list_short 320 (g.queue 0) (member_small t valid g inv 0) (inv.once 0)

      -- the member just before, and its ticket
      predecessor : (p : ℕ) × (after (g.queue 0) p ≡ suc mine)
      predecessor = just_before (g.queue 0) mine after_first (once 0)

      predecessor_there : 1 ≤ count predecessor.0 (g.queue 0)
      predecessor_there = after_in (g.queue 0) predecessor.0 mine predecessor.1

      ticket_there : ticket_before (status s (own_record t i 0)) ≡ status s predecessor.0
      ticket_there =
          let p = predecessor.0 in
          let x = tickets_held (λ r. status s r) s.grant s.ticket p (g.queue 0) grant_small held predecessor_there in
          let small : status s p < 65536 = rw x.ticket (wrap_fits (s.grant + x.distance)) in
          let one : status s mine ≡ wrap (status s p + 1) = ticket_next (λ r. status s r) s.grant s.ticket p mine (g.queue 0) held predecessor.1 in
          let before : ticket_before (status s mine) ≡ status s p = rw one (omega arith) in
          ap (λ r. ticket_before (status s r)) (root_record t valid i h) ∙ before

      same_member : (j : ℕ) → j < t.threads → acts t s j 0 ≡ true → status s (own_record t j 0) ≡ ticket_before (status s (own_record t i 0)) → own_record t j 0 ≡ predecessor.0
      same_member j hj e f =
          let y = acting_there t valid bits s q 0 j hj e in
          ticket_same (λ r. status s r) s.grant s.ticket (own_record t j 0) predecessor.0 (g.queue 0) grant_small short held (queued_there t valid bits s q 0 j y) predecessor_there (f ∙ ticket_there)

      pub watch_before : (j : ℕ) → j < t.threads → acts t s j 0 ≡ true → status s (own_record t j 0) ≡ ticket_before (status s (own_record t i 0)) → after (g.queue 0) (own_record t j 0) ≡ suc mine
      watch_before j hj e f = ap (after (g.queue 0)) (same_member j hj e f) ∙ predecessor.1

      watch_one : One i Watch
      unfolding looked_to acts_holding
      watch_one =
          let b = actor t valid bits s q 0 predecessor.0 predecessor_there in
          let there : status s (own_record t b.thread 0) ≡ ticket_before (status s (own_record t i 0)) = ap (λ r. status s r) b.own ∙ sym ticket_there in (
            b.thread,
            b.real,
            rw (b.acting, eq-eqb _ _ there) refl,
            λ j hj f.
                let both = and_both (acts t s j 0) (eqb (status s (own_record t j 0)) (ticket_before (status s (own_record t i 0)))) f in
                let y = acting_there t valid bits s q 0 j hj both.0 in
                let same = same_member j hj both.0 (eqb-true _ _ both.1) in
                same_thread t valid bits s q j b.thread y.index b.index y.within b.within (y.mine ∙ same ∙ sym b.mine),
          )

    one_by : (p : Place) → good_place t i p ≡ true → Waits t valid bits s q i p → One i p
    unfolding good_place
    one_by _ o (waits k p l e nt a n v) = wait_one k p l nt a n
    one_by _ o (lingers k l b n z) = linger_one k (queue_facts t i (ancestor t i k) o).1 b n l z
    one_by _ o (watches e r) = watch_one e r

    pub looked_one : stays t s i ≡ true → (j : ℕ) × Looked i j
    looked_one still =
        let x = one_by (place s i) ((q.facts.places i).used h) (stay_waits t valid bits s q i h still) in
        (x.0, record { real = x.1; looked = x.2; only_one = x.3 })

    pub looks_one : (j : ℕ) → stays t s i ≡ true → Looked i j → looks_to t s i ≡ j ∷ []
    unfolding looks_to
    looks_one j still x =
        rw still (filter_one t.threads (looked_to t s i (place s i)) j x.real x.looked
        (λ k b n. false_by (looked_to t s i (place s i) k) (λ e. n (x.only_one k b e))))
