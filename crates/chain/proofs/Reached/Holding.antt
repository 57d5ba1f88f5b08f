-- A thread stays as long as the thread ahead of it does not step: a step of any other thread does not change the link.
use mathlib.Core.Path.{◌≡◌, refl, sym, ap, ◌∙◌}
use mathlib.Core.Bool.{true, false, ◌||◌, false≢true}
use mathlib.Core.Logic.{◌≢◌}
use Prim.Native.Nat.{ℕ, suc, ◌+◌, ◌≤◌, ◌<◌}
use native.Mathlib.Omega.{arith}
use lib.Dec.{eqb, leb}
use borrow.Author.Tests.{eqb-true, ne_eqb, le-leb, not-true}
use Rattle.model.specs.declared.Place.{Place}
use Rattle.model.specs.declared.Place.TheVariants.{Idle, Prep, Swap, Link, Wait, Inside, Check, Help, Cas, Linger, Grant, Draw, Watch, Raise, Invalid}
use Rattle.model.specs.declared.State.{State as WordState}
use Rattle.model.specs.Trees.{Tree, is_ticket, on_path, own_record, is_member}
use Rattle.model.specs.Places.{words_of, place_domain}
use Rattle.model.specs.States.{next, status, place, wrap}
use Rattle.model.specs.Steps.{row}
use Rattle.model.specs.Acts.{sends_inside, acts_at, acts}
use Rattle.model.specs.WellFormed.{queue_on_path, good_place}
use Rattle.model.specs.Laws.{SixteenBit}
use Rattle.model.proofs.Tests.{and_both}
use Rattle.model.proofs.Places.{row_place}
use Rattle.model.proofs.Trees.Index.{ancestor, height, record_at}
use Rattle.model.proofs.Trees.Accepted.{Accepted}
use Rattle.model.proofs.Trees.Tickets.{ticket_yes, queue_facts}
use Rattle.model.proofs.Trees.Paths.{ancestor_root, ancestor_strict}
use Rattle.model.proofs.Trees.Records.{own_record_at, root_record}
use Rattle.model.proofs.Lists.{same_or, less_or, first, count, first_count, first_in, count_rest, count_later}
use Rattle.claims.proofs.Queues.Paths.{laws}
use Rattle.claims.proofs.Queues.Moves.{queued, low, State}
use Rattle.claims.proofs.Queues.Moves as moves
use Rattle.claims.proofs.Queues.Invariant.{Inv, acts_low, low_acts, one_queue}
use Rattle.claims.proofs.Words.Links.{after, after_counted, after_in}
use Rattle.claims.proofs.Words.View.{Words, words_in}
use Rattle.claims.proofs.Words.Says.{pass, release, Says, says_at}
use Rattle.claims.proofs.Words.Tickets.{tickets_rest}
use Rattle.claims.proofs.Words.Releasing.{letting_go_acts}
use Rattle.claims.proofs.Words.Frame.{others_of, other_record}
use Rattle.claims.proofs.Claims.Reached.{Queued}
use Rattle.claims.proofs.Claims.QueueLaw.{Acting, in_queue}
use Rattle.chain.specs.Chain.{stays, acts_ahead, links, ticket_before, acts_holding, looked_to}
use Rattle.chain.proofs.Stays.{waits_in, stays_at, wait_stays, linger_stays, watch_stays}
use Rattle.chain.proofs.Reached.Orders.{after_same}
use Rattle.chain.proofs.Reached.Rows.{raise_grant, place_kept, status_kept, next_kept, grant_kept}
use Rattle.chain.proofs.Reached.Actors.{Placed, placed, Waits, waits, lingers, watches, stay_waits, same_thread, acting_there, queued_there, stands_before}
use Rattle.chain.proofs.Reached.Ahead.{link_place, Linking, linking_there, after_first, held, grant_small, short}

-- a place is Raise, or not
raise_or : (p : Place) (C : Type 0) → (p ≡ Raise → C) → (p ≢ Raise → C) → C
raise_or p C f n = same_or (words_of p).row 13 C (λ z. f (row_place p 13 z)) (λ z. n (λ e. z (ap (λ u. (words_of u).row) e)))

module _ (t : Tree) (valid : Accepted t) (bits : SixteenBit t) (s : WordState) (q : Queued t s) where
  abbrev g : State
  g = q.queues

  abbrev w : Words
  w = words_in s

  abbrev inv : Inv t g
  inv = q.represents.invariant

  -- a thread in Grant acts for the record just before the member that it grants
  record Granting (c l r : ℕ) : Type 0 where
    index : ℕ
    there : ancestor t c index ≡ l
    acting : index < moves.acts (height t c) (g.stage c)
    names : next s (record_at t c index) ≡ suc r

  granting_at : (c l r v : ℕ) → c < t.threads → place s c ≡ Grant l r v → Granting c l r
  unfolding words_in moves.acts Says
  granting_at c l r v hc e =
      let y : Says t w g c (Grant l r v) (g.stage c) = says_at e (q.represents.fits c hc) in
      record {
        index = y.0;
        there = sym y.1.0;
        acting = elim y.2 [
          | pass o x f ↦ omega (arith, ap (moves.acts (height t c)) x)
          | release x f ↦ omega (arith, ap (moves.acts (height t c)) x, letting_go_acts (height t c) y.0)
        ];
        names = y.3;
      }

  -- so that member is not the first of its queue
  pub record Granted (c r : ℕ) : Type 0 where
    pub index : ℕ
    pub acting : index < moves.acts (height t c) (g.stage c)
    pub queue_there : is_ticket t (ancestor t c index) ≡ false
    pub follows : after (g.queue (ancestor t c index)) (record_at t c index) ≡ suc r

  module _ (c : ℕ) (hc : c < t.threads) where
    granted : (l r v : ℕ) → place s c ≡ Grant l r v → Granted c r
    unfolding words_in good_place
    granted l r v e =
        let x = granting_at c l r v hc e in
        let good : good_place t c (Grant l r v) ≡ true = rw e at ((q.facts.places c).used hc) in
        let nt : is_ticket t (ancestor t c x.index) ≡ false = rw x.there (queue_facts t c l (and_both (queue_on_path t c l) (is_member t l r) good).0).1 in
        record {
          index = x.index;
          acting = x.acting;
          queue_there = nt;
          follows = sym ((q.represents.linked (ancestor t c x.index) nt).chain (record_at t c x.index) (in_queue t valid bits s q c x.index x.acting) (λ z. let y = x.names in omega arith)) ∙ x.names;
        }

    -- the words of other threads' records
    abbrev pub after_step : WordState
    after_step = (row t c (place s c) s).state

    pub far : (j m : ℕ) → j < t.threads → j ≢ c → m ≤ low (height t j) (g.stage j) → record_at t j m ≢ own_record t c (place_domain (t.home c) (place s c))
    unfolding words_in
    far j m hj n b e =
        let p = placed t valid w g c hc (q.represents.fits c hc) in
        let own : own_record t c (place_domain (t.home c) (place s c)) ≡ record_at t c p.index = ap (own_record t c) p.there ∙ own_record_at t valid c hc p.index p.within in
        other_record t valid w g c hc (others_of q.represents c) j p.index m hj n p.low_there b (e ∙ own)

    pub status_same : (j m : ℕ) → j < t.threads → j ≢ c → m ≤ low (height t j) (g.stage j) → (Granted c (record_at t j m) → ⊥) → status after_step (record_at t j m) ≡ status s (record_at t j m)
    status_same j m hj n b never = status_kept t s c (record_at t j m) (place s c) (far j m hj n b) (λ l v e. never (granted l (record_at t j m) v e))

    next_same : (j m : ℕ) → j < t.threads → j ≢ c → m ≤ low (height t j) (g.stage j) → (Linking t valid bits s q c (record_at t j m) → ⊥) → next after_step (record_at t j m) ≡ next s (record_at t j m)
    next_same j m hj n b never = next_kept t s c (record_at t j m) (place s c) (far j m hj n b) (λ l e. never (linking_there t valid bits s q c l (record_at t j m) hc e))

    -- no thread grants a member that is first
    pub not_first : (j m : ℕ) → m < low (height t j) (g.stage j) → Granted c (record_at t j m) → ⊥
    not_first j m b x =
        let r = record_at t j m in
        let f = (inv.threads j).heads m b in
        let d = ancestor t c x.index in
        let rest_count = after_counted (g.queue d) (record_at t c x.index) r x.follows in
        let same = one_queue t (laws t valid) g inv (ancestor t j m) d r (first_in r (g.queue (ancestor t j m)) f) (omega (arith, count_rest r (g.queue d))) in
        let f' : first (g.queue d) ≡ suc r = rw same at f in
        omega (arith, first_count r (g.queue d) f', inv.once d r)

    -- a thread that acts at a domain keeps acting there
    module _ (b d : ℕ) (hb : b < t.threads) (n : b ≢ c) (acting : acts t s b d ≡ true) where
      same_place : place after_step b ≡ place s b
      same_place = place_kept t s c b n (place s c)

      abbrev x : Acting t valid bits s q d (own_record t b d) b
      x = acting_there t valid bits s q d b hb acting

      still_acts : (p : Place) → Placed t g b p (g.stage b) → acts_at t s b p d ≡ true → acts_at t after_step b p d ≡ true
      unfolding acts_at
      still_acts (Wait l) y e =
          less_or y.index x.index _
          (λ h.
          let low_there : y.index < low (height t b) (g.stage b) = omega (arith, x.within, acts_low (height t b) (g.stage b)) in
          let own : own_record t b l ≡ record_at t b y.index = ap (own_record t b) y.there ∙ own_record_at t valid b hb y.index y.within in
          let same : status after_step (own_record t b l) ≡ status s (own_record t b l) = rw own (status_same b y.index hb n y.low_there (not_first b y.index low_there)) in
          ap (λ v. leb l d || sends_inside l v) same ∙ e)
          (λ h.
          let below : ancestor t b y.index ≤ ancestor t b x.index = same_or x.index y.index _
          (λ z. rw z (omega arith)) (λ z. let f = ancestor_strict t valid b hb x.index y.index (omega arith) y.within in omega arith) in
          let here : l ≤ d = let u = y.there in let v = x.there in omega arith in
          rw (le-leb l d here) refl)
      still_acts Idle y e = e
      still_acts (Prep l) y e = e
      still_acts (Swap l) y e = e
      still_acts (Link l p) y e = e
      still_acts Inside y e = e
      still_acts (Check l) y e = e
      still_acts (Help l) y e = e
      still_acts (Cas l) y e = e
      still_acts (Linger l) y e = e
      still_acts (Grant l r v) y e = e
      still_acts Draw y e = e
      still_acts Watch y e = e
      still_acts Raise y e = e
      still_acts Invalid y e = e

      acts_kept : acts t after_step b d ≡ true
      unfolding acts words_in
      acts_kept =
          let both = and_both (on_path t b d) (acts_at t s b (place s b) d) acting in
          rw (same_place, both.0) (still_acts (place s b) (placed t valid w g b hb (q.represents.fits b hb)) both.1)

    -- THE LINK IS KEPT: thread a waits for thread b, and thread c steps
    module _ (a b : ℕ) (ha : a < t.threads) (hb : b < t.threads) (ca : a ≢ c) (cb : b ≢ c) where
      abbrev Kept : Place → Type 0
      Kept p = looked_to t s a p b ≡ true → stays t s a ≡ true → (stays t after_step a ≡ true) × (looked_to t after_step a p b ≡ true)

      place_a : place after_step a ≡ place s a
      place_a = place_kept t s c a ca (place s c)

      -- the index of a thread that acts at a domain
      acting_low : (d : ℕ) (x : Acting t valid bits s q d (own_record t b d) b) → x.index ≤ low (height t b) (g.stage b)
      acting_low d x = omega (arith, x.within, acts_low (height t b) (g.stage b))

      wait_kept : (k p : ℕ) → k ≤ height t a → g.stage a ≡ queued k → is_ticket t (ancestor t a k) ≡ false → after (g.queue (ancestor t a k)) p ≡ suc (record_at t a k) →
          place s a ≡ Wait (ancestor t a k) → Kept (Wait (ancestor t a k))
      unfolding looked_to acts_ahead low row
      wait_kept k p l e nt follows y looked still =
          let d = ancestor t a k in
          let I = record_at t a k in
          let own = own_record_at t valid a ha k l in
          let both = and_both (acts t s b d) (eqb (next s (own_record t b d)) (own_record t a d + 1)) looked in
          let named : next s (own_record t b d) ≡ own_record t a d + 1 = eqb-true _ _ both.1 in
          let x = acting_there t valid bits s q d b hb both.0 in
          let before = stands_before t valid bits s q d I b nt hb both.0 (named ∙ (let z : own_record t a d + 1 ≡ suc I = omega arith in z)) in
          let not_granted : Granted c I → ⊥ = λ gr.
          let e₁ = ancestor t c gr.index in
          let rest_count = after_counted (g.queue e₁) (record_at t c gr.index) I gr.follows in
          let own_count = after_counted (g.queue d) p I follows in
          let same = one_queue t (laws t valid) g inv e₁ d I (omega (arith, count_rest I (g.queue e₁))) (omega (arith, count_rest I (g.queue d))) in
          let after_c : after (g.queue d) (record_at t c gr.index) ≡ suc I = rw same at gr.follows in
          let record_same = after_same (g.queue d) (record_at t c gr.index) (own_record t b d) I after_c before (λ u. inv.once d u) in
          cb (sym (same_thread t valid bits s q c b gr.index x.index gr.acting x.within (record_same ∙ sym x.mine))) in
          let status_is : status after_step (own_record t a d) ≡ status s (own_record t a d) = rw own (status_same a k ha ca (rw e (omega arith)) not_granted) in
          let next_is : next after_step (own_record t b d) ≡ next s (own_record t b d) = rw (← x.mine) (next_same b x.index hb cb (acting_low d x) (λ li. let z = li.quiet in let v : next s (record_at t b x.index) ≡ own_record t a d + 1 = rw x.mine named in omega arith)) in (
            stays_at t after_step a (Wait d) (place_a ∙ y) ∙ wait_stays t after_step a d ∙ ap (waits_in d) status_is ∙ sym (wait_stays t s a d) ∙ sym (stays_at t s a (Wait d) y) ∙ still,
            rw (acts_kept b d hb cb both.0, next_is) both.1,
          )

      linger_kept : (k : ℕ) → k ≤ height t a → k < low (height t a) (g.stage a) → place s a ≡ Linger (ancestor t a k) → Kept (Linger (ancestor t a k))
      unfolding looked_to row
      linger_kept k l first_there y looked still =
          let d = ancestor t a k in
          let R = record_at t a k in
          let own = own_record_at t valid a ha k l in
          let looked' : links (place s b) R ≡ true = ap (links (place s b)) (sym own) ∙ looked in
          let lb = link_place (place s b) R looked' in
          let xb = linking_there t valid bits s q b lb.0 R hb lb.1 in
          let not_linked : Linking t valid bits s q c R → ⊥ = λ xc.
          let same = one_queue t (laws t valid) g inv (ancestor t c xc.index) (ancestor t b xb.index) R (after_in _ R _ xc.follows) (after_in _ R _ xb.follows) in
          let bc : after (g.queue (ancestor t b xb.index)) R ≡ suc (record_at t c xc.index) = rw same at xc.follows in
          let bb = xb.follows in
          cb (sym (same_thread t valid bits s q c b xc.index xb.index xc.acting xb.acting (omega arith))) in
          let next_is : next after_step (own_record t a d) ≡ next s (own_record t a d) = rw own (next_same a k ha ca (omega arith) not_linked) in (
            stays_at t after_step a (Linger d) (place_a ∙ y) ∙ linger_stays t after_step a d ∙ ap (λ v. eqb v 0) next_is ∙ sym (linger_stays t s a d) ∙ sym (stays_at t s a (Linger d) y) ∙ still,
            rw (place_kept t s c b cb (place s c)) looked,
          )

      module _ (stands : g.stage a ≡ queued (height t a)) (root : t.ticket_root ≡ true) (y : place s a ≡ Watch) (looked : looked_to t s a Watch b ≡ true) where
        abbrev v : ℕ
        v = status s (own_record t a 0)

        both : (acts t s b 0 ≡ true) × (eqb (status s (own_record t b 0)) (ticket_before v) ≡ true)
        unfolding looked_to acts_holding
        both = and_both (acts t s b 0) (eqb (status s (own_record t b 0)) (ticket_before v)) looked

        abbrev ahead : Acting t valid bits s q 0 (own_record t b 0) b
        ahead = acting_there t valid bits s q 0 b hb both.0

        -- no thread grants a member of a ticket lock
        not_granted_root : (r : ℕ) → 1 ≤ count r (g.queue 0) → Granted c r → ⊥
        not_granted_root r m gr =
            let d = ancestor t c gr.index in
            let rest_count = after_counted (g.queue d) (record_at t c gr.index) r gr.follows in
            let same = one_queue t (laws t valid) g inv d 0 r (omega (arith, count_rest r (g.queue d))) m in
            false≢true (sym gr.queue_there ∙ ticket_yes t d root same)

        own_status : status after_step (own_record t a 0) ≡ v
        unfolding low
        own_status =
            let m = record_at t a (height t a) in
            let in_rest = after_first t valid bits s q a ha stands root in
            rw (root_record t valid a ha) (status_same a (height t a) ha ca (rw stands (omega arith)) (not_granted_root m (omega (arith, count_rest m (g.queue 0)))))

        ahead_status : status after_step (own_record t b 0) ≡ status s (own_record t b 0)
        ahead_status =
            rw (← ahead.mine) (status_same b ahead.index hb cb (acting_low 0 ahead) (not_granted_root (record_at t b ahead.index) (rw ahead.mine (queued_there t valid bits s q 0 b ahead))))

        -- a thread that raises the grant to this ticket has the ticket just before
        raised_other : place s c ≡ Raise → v ≢ wrap (s.grant + 1)
        unfolding words_in Says low
        raised_other e z =
            let holds : g.stage c ≡ moves.holding = says_at e (q.represents.fits c hc) in
            let low_there : height t c < low (height t c) (g.stage c) = rw holds (omega arith) in
            let C = record_at t c (height t c) in
            let B = own_record t b 0 in
            let head : first (g.queue 0) ≡ suc C = rw (ancestor_root t valid c hc) at ((inv.threads c).heads (height t c) low_there) in
            let small = grant_small t valid bits s q a ha stands root in
            let before : ticket_before v ≡ s.grant = rw z (omega arith) in
            let same_ticket : status s B ≡ s.grant = eqb-true _ _ both.1 ∙ before in
            same_or (first (g.queue 0)) (suc B) ⊥
            (λ f. cb (sym (same_thread t valid bits s q c b (height t c) ahead.index (omega (arith, low_acts (height t c) (g.stage c))) ahead.within
            ((let u : C ≡ B = omega arith in u) ∙ sym ahead.mine))))
            (λ f. tickets_rest (λ r. status s r) s.grant s.ticket B (g.queue 0) small (short t valid bits s q a ha stands root) (held t valid bits s q a ha stands root)
            (count_later B (g.queue 0) f (queued_there t valid bits s q 0 b ahead)) same_ticket)

        raised_grant : place s c ≡ Raise → after_step.grant ≡ wrap (s.grant + 1)
        raised_grant e = ap (λ p. (row t c p s).state.grant) e ∙ raise_grant t s c

        watch_kept : stays t s a ≡ true → (stays t after_step a ≡ true) × (looked_to t after_step a Watch b ≡ true)
        unfolding looked_to acts_holding row
        watch_kept still =
            let now_stays : eqb v after_step.grant ≡ false = raise_or (place s c) (eqb v after_step.grant ≡ false)
            (λ e. rw (raised_grant e) (ne_eqb v (wrap (s.grant + 1)) (raised_other e)))
            (λ e. rw (grant_kept t s c (place s c) e) (let z = sym (stays_at t s a Watch y ∙ watch_stays t s a) ∙ still in not-true (eqb v s.grant) z)) in (
              stays_at t after_step a Watch (place_a ∙ y) ∙ watch_stays t after_step a ∙ rw (own_status, now_stays) refl,
              rw (acts_kept b 0 hb cb both.0, ahead_status, own_status) both.1,
            )

      kept_by : (p : Place) → place s a ≡ p → Waits t valid bits s q a p → Kept p
      kept_by _ y (waits k p l e nt f n v) = wait_kept k p l e nt f y
      kept_by _ y (lingers k l b n z) = linger_kept k l b y
      kept_by _ y (watches e r) = λ looked. watch_kept e r y looked

      pub link_kept : stays t s a ≡ true → looked_to t s a (place s a) b ≡ true → (stays t after_step a ≡ true) × (looked_to t after_step a (place after_step a) b ≡ true)
      link_kept still looked =
          let x = kept_by (place s a) refl (stay_waits t valid bits s q a ha still) looked still in
          (x.0, ap (λ p. looked_to t after_step a p b) place_a ∙ x.1)
