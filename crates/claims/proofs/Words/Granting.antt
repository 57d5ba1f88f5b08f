-- Grant: the member that is granted; a grant with a count, at the root, and with ACQUIRE_PARENT.
use mathlib.Core.Path.{◌≡◌, refl, sym, ap, ◌∙◌}
use mathlib.Core.Bool.{false, true, false≢true}
use mathlib.Core.List.{List, ◌∷◌}
use mathlib.Core.Logic.{◌≢◌}
use Prim.Native.Nat.{ℕ, suc, ◌+◌, ◌-◌, ◌≤◌, ◌<◌}
use native.Mathlib.Omega.{arith}
use Rattle.model.specs.declared.Place.TheVariants.{Wait}
use Rattle.model.specs.Trees.{Tree, is_ticket}
use Rattle.model.specs.States.{acquire_parent, unlocked}
use Rattle.model.proofs.Trees.Index.{ancestor, height, record_at}
use Rattle.model.proofs.Trees.Accepted.{Accepted}
use Rattle.model.proofs.Trees.Paths.{ancestor_inner, ancestor_root}
use Rattle.model.proofs.Lists.{same_or, less_or, put_same, put_other, first, rest, first_rest, is_same, count, count_cons}
use Rattle.model.proofs.Trees.Records.{record_small}
use Rattle.model.proofs.Trees.Tickets.{ticket_yes, queue_lower}
use Rattle.claims.proofs.Queues.Paths.{laws}
use Rattle.claims.proofs.Queues.Moves.{Stage, climb, queued, ready, holding, releasing, low, acts, State, ends, Move}
use Rattle.claims.proofs.Queues.Meeting.{follow_record_at, same_height}
use Rattle.claims.proofs.Queues.Keeps.{keeps}
use Rattle.claims.proofs.Queues.Handovers.{hands_on, releases}
use Rattle.claims.proofs.Queues.Invariant.{Inv, one_queue}
use Rattle.claims.proofs.Queues.Order.{Second, second}
use Rattle.claims.proofs.Words.View.{Words, status_to, place_to}
use Rattle.claims.proofs.Words.Represents.{Counted, Fits, at_woken, at_ready, Represents, Linked, Numbered}
use Rattle.claims.proofs.Words.Frame.{Others, numbered_kept}
use Rattle.claims.proofs.Words.Releasing.{done_at, firm}
use Rattle.claims.proofs.Words.Handing.{successor_other, handed_state, tally_far, own_far, hand}
use Rattle.claims.proofs.Words.Links.{final, after, final_second, after_here, after_past, before_second}
use Rattle.claims.proofs.Words.Says.{Ungranted, linking, waiting, watching, ungranted}

-- the queues after a move that grants, and that the words represent them
pub record Granted (t : Tree) (g : State) (w' : Words) (d m : ℕ) : Type 0 where
  pub state : State
  pub move : Move t g (ends d m) state
  pub small : m < 320
  pub represents : Represents t w' state

-- a member that is granted: it is second in the queue, named by the next, and in Wait
module _ (t : Tree) (valid : Accepted t) (w : Words) (g : State) (i : ℕ) (h : i < t.threads) (o : Others t w g i) (k : ℕ) (l : k ≤ height t i)
    (first_there : k < low (height t i) (g.stage i)) (nt : is_ticket t (ancestor t i k) ≡ false) (r : ℕ) (own : w.nexts (record_at t i k) ≡ suc r) where
  abbrev inv : Inv t g
  inv = o.invariant

  abbrev L : ℕ
  L = ancestor t i k

  abbrev R : ℕ
  R = record_at t i k

  head : first (g.queue L) ≡ suc R
  head = (inv.threads i).heads k first_there

  head_of_rest : first (rest (g.queue L)) ≡ suc r
  head_of_rest =
      let shape = first_rest R (g.queue L) head in
      let a : w.nexts R ≡ after (g.queue L) R = (o.linked L nt).chain R (omega (arith, ap (count R) shape, count_cons R R (rest (g.queue L)), is_same R R refl)) (λ z. omega arith) in
      let b : after (g.queue L) R ≡ first (rest (g.queue L)) = ap (λ q. after q R) shape ∙ after_here R R (rest (g.queue L)) refl in
      sym b ∙ sym a ∙ own

  abbrev rest_two : List ℕ
  rest_two = rest (rest (g.queue L))

  shape_two : g.queue L ≡ R ∷ r ∷ rest_two
  shape_two = first_rest R (g.queue L) head ∙ ap (λ q. R ∷ q) (first_rest r (rest (g.queue L)) head_of_rest)

  successor : Second t g L r
  successor = second t g inv L R r rest_two shape_two

  abbrev S : ℕ
  S = successor.thread

  abbrev N : ℕ
  N = successor.index

  small : r < 320
  small = rw successor.mine at (record_small t valid S successor.real N successor.within)

  -- the successor is in Wait: if it were in Link, its predecessor would have no next yet
  successor_waits : S ≢ i → (w.places S ≡ Wait (ancestor t S N)) × Counted t w g S N
  successor_waits n = by (ungranted N successor.waits (o.others S successor.real n))
    where
      by : Ungranted t w g S N (w.places S) → (w.places S ≡ Wait (ancestor t S N)) × Counted t w g S N
      by (linking q p d a z) =
          let a' : after (R ∷ r ∷ rest_two) q ≡ suc r = rw (successor.place, successor.mine, shape_two) at a in
          let one : count r (R ∷ r ∷ rest_two) ≤ 1 = rw shape_two at (inv.once L r) in
          let e = before_second q R r rest_two a' one in
          absurd (let z' : w.nexts R ≡ 0 = rw e at z in omega arith)
      by (waiting q e c a z) = (e, c)
      by (watching e z y c) =
          let root : ancestor t S N ≡ 0 = ap (ancestor t S) z ∙ ancestor_root t valid S successor.real in
          absurd (false≢true (sym nt ∙ ticket_yes t L y (sym successor.place ∙ root)))

  module _ (v c : ℕ) (x : Stage) (n : g.stage i ≢ queued N) where
    abbrev granted_words : Words
    granted_words = place_to i (done_at t i k) (status_to r v w)

    abbrev granted_state : State
    granted_state = handed_state t valid w g i h o k l first_there r rest_two shape_two successor c x n

    popped_linked : (d : ℕ) → is_ticket t d ≡ false → Linked granted_words (granted_state.queue d) d
    popped_linked d nd =
        same_or d L _
        (λ z. rw (z, put_same g.queue L (r ∷ rest_two) L refl)
        (record {
          last = (o.linked L nt).last ∙ ap final shape_two ∙ final_second R r rest_two;
          chain = λ a m q.
              let one : count R (R ∷ r ∷ rest_two) ≤ 1 = rw shape_two at (inv.once L R) in
              let away : a ≢ R = λ y.
              let m' : 1 ≤ count R (r ∷ rest_two) = rw y at m in
              omega (arith, count_cons R R (r ∷ rest_two), is_same R R refl) in
              let m'' : 1 ≤ count a (g.queue L) = rw shape_two (omega (arith, count_cons a R (r ∷ rest_two))) in
              (o.linked L nt).chain a m'' q ∙ ap (λ y. after y a) shape_two ∙ after_past a R (r ∷ rest_two) away;
        }))
        (λ z. rw (put_other g.queue L (r ∷ rest_two) d z) (record { last = (o.linked d nd).last; chain = (o.linked d nd).chain }))

    status_far : (q : ℕ) → q ≢ r → granted_words.statuses q ≡ w.statuses q
    status_far q e = put_other w.statuses r v q e

    -- a ticket lock is another domain, with other members
    popped_numbered : t.ticket_root ≡ true → Numbered granted_words (granted_state.queue 0)
    popped_numbered =
        numbered_kept t valid w g i h o granted_words granted_state refl refl (λ z. put_other g.queue L (r ∷ rest_two) 0 (λ y. queue_lower t L nt z (sym y)))
        (λ z a m. status_far a (λ y.
        let m' : 1 ≤ count r (g.queue 0) = rw y at m in
        let there : 1 ≤ count r (g.queue L) = rw shape_two (omega (arith, count_cons r R (r ∷ rest_two), count_cons r r rest_two, is_same r r refl)) in
        queue_lower t L nt z (sym (one_queue t (laws t valid) g inv 0 L r m' there))))

    grant :
        Inv t granted_state → Counted t w g i k →
        (Counted t granted_words granted_state S N → Fits t granted_words granted_state S (Wait (ancestor t S N)) x) → Represents t granted_words granted_state
    grant inv' ci fit =
        let y = successor_waits (successor_other t valid w g i h o k l first_there r rest_two shape_two successor n) in
        hand t valid w g i h o k l first_there r rest_two shape_two successor c x n granted_words (put_same w.places i (done_at t i k) i refl)
        (λ j e. put_other w.places i (done_at t i k) j e) status_far (λ q. refl) (λ d. refl) inv' popped_linked popped_numbered ci y.1 (λ f. rw y.0 (fit f))

  -- a thread that grants does not stand
  not_queued : (x : Stage) → g.stage i ≡ x → low (height t i) x ≡ acts (height t i) x → g.stage i ≢ queued N
  not_queued x e z q = firm (height t i) N x (sym e ∙ q) z

  -- THE LOCK ITSELF, with a count or at the root
  module _ (e : g.stage i ≡ holding) (counted : Counted t w g i (height t i)) (v : ℕ)
      (ok : ancestor t i k ≢ 0 → g.tally (record_at t i k) < t.threshold (ancestor t i k))
      (word : k < height t i → v ≡ suc (g.tally (record_at t i k))) (word_root : k ≡ height t i → v ≡ unlocked) where
    abbrev c : ℕ
    c = suc (g.tally (record_at t i k))

    nq : g.stage i ≢ queued N
    unfolding low acts
    nq = not_queued holding e refl

    abbrev w' : Words
    w' = place_to i (done_at t i k) (status_to r v w)

    abbrev g' : State
    g' = granted_state v c ready nq

    low_i : low (height t i) (g.stage i) ≡ suc (height t i)
    unfolding low
    low_i = rw e refl

    -- above the index where the successor stood, its records are those of the thread that grants
    above_counted : (m : ℕ) → N < m → m < height t S → w'.statuses (record_at t S m) ≡ g'.tally (record_at t S m)
    above_counted m b q =
        let hs = successor.real in
        let ns = successor.within in
        let heights = same_height t (laws t valid) S N i k hs h ns l successor.place in
        let d = m - suc N in
        let zm : m ≡ N + suc d = omega arith in
        let same : record_at t S m ≡ record_at t i (k + suc d) = ap (record_at t S) zm ∙ follow_record_at t S N i k successor.place d in
        let far = own_far t valid w g i h o k l first_there r rest_two shape_two successor c ready nq (k + suc d) (omega (arith, low_i)) in
        rw same (status_far v c ready nq (record_at t i (k + suc d)) far
        ∙ counted (k + suc d) (omega arith) (omega arith)
        ∙ sym (tally_far t valid w g i h o k l first_there r rest_two shape_two successor c ready nq (record_at t i (k + suc d)) far))

    status_new : w'.statuses (record_at t S N) ≡ v
    status_new = put_same w.statuses r v (record_at t S N) successor.mine

    tally_new : g'.tally (record_at t S N) ≡ c
    tally_new = put_same g.tally r c (record_at t S N) successor.mine

    heights : height t S + k ≡ height t i + N
    heights =
        same_height t (laws t valid) S N i k successor.real h successor.within l successor.place

    successor_ready : Counted t w' g' S N → Fits t w' g' S (Wait (ancestor t S N)) ready
    successor_ready below =
        at_ready N successor.within
        (λ m b q. less_or m N _ (λ z. below m z q)
        (λ z. same_or m N _
        (λ y. rw y (status_new ∙ word (omega (arith, heights)) ∙ sym tally_new))
        (λ y. above_counted m (omega arith) q)))
        (λ z. status_new ∙ word_root (omega (arith, heights)))
        (λ b.
        let inner = ancestor_inner t valid i h k (omega (arith, heights)) in
        let counted_one = (o.invariant.counts (ancestor t i k) (record_at t i k) (λ z. omega arith) ((o.invariant.threads i).heads k first_there)).0 in
        omega (arith, tally_new))

    pub hand_lock : Granted t g w' (ancestor t i k) r
    hand_lock =
        let mv = hands_on t g i k S N r rest_two successor.waits successor.place successor.mine
        shape_two e l ok in
        record {
          state = g';
          move = mv;
          small = small;
          represents = grant v c ready nq (keeps t (laws t valid) g o.invariant mv)
              (λ m b q. counted m (omega arith) q) successor_ready;
        }

  -- ONLY THE DOMAIN: the successor must still acquire the parent
  module _ (e : g.stage i ≡ releasing k) (b : k < height t i) (counted : Counted t w g i k) where
    nq_lower : g.stage i ≢ queued N
    unfolding low acts
    nq_lower = not_queued (releasing k) e refl

    abbrev w'' : Words
    w'' = place_to i (done_at t i k) (status_to r acquire_parent w)

    abbrev g'' : State
    g'' = granted_state acquire_parent 1 (climb (suc N)) nq_lower

    pub hand_domain : Granted t g w'' (ancestor t i k) r
    hand_domain =
        let hs = successor.real in
        let ns = successor.within in
        let hts = same_height t (laws t valid) S N i k hs h ns l successor.place in
        let mv = releases t g i k S N r rest_two successor.waits successor.place successor.mine
        shape_two e in
        record {
          state = g'';
          move = mv;
          small = small;
          represents = grant acquire_parent 1 (climb (suc N)) nq_lower (keeps t (laws t valid) g o.invariant mv) counted
              (λ below. at_woken N (omega arith) below (put_same w.statuses r acquire_parent (record_at t S N) successor.mine)
              (put_same g.tally r 1 (record_at t S N) successor.mine));
        }
