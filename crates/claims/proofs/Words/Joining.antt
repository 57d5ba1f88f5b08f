-- The rows with which a thread joins a queue: Prep, Swap, Link, and Wait with ACQUIRE_PARENT.
use mathlib.Core.Path.{◌≡◌, refl, sym, ap, ◌∙◌}
use mathlib.Core.Bool.{true, false}
use mathlib.Core.List.{List, [], ◌∷◌, ◌++◌}
use mathlib.Core.Logic.{◌≢◌}
use Prim.Native.Nat.{ℕ, suc, ◌+◌, ◌-◌, ◌≤◌, ◌<◌}
use native.Mathlib.Omega.{arith}
use Rattle.model.specs.declared.Place.{Place}
use Rattle.model.specs.declared.Place.TheVariants.{Prep, Swap, Link, Wait, Inside, Draw}
use Rattle.model.specs.Trees.{Tree, is_ticket}
use Rattle.model.specs.States.{cohort_start, unlocked, none}
use Rattle.model.specs.Steps.{acquire_place}
use Rattle.model.proofs.Tests.{by_test}
use Rattle.model.proofs.Trees.Index.{ancestor, height, record_at}
use Rattle.model.proofs.Trees.Accepted.{Accepted}
use Rattle.model.proofs.Trees.Tickets.{ticket_facts, queue_lower}
use Rattle.model.proofs.Trees.Paths.{ancestor_inner, ancestor_zero}
use Rattle.model.proofs.Lists.{same_or, put, put_same, put_other, first, first_in, is_other, count, count_snoc}
use Rattle.claims.proofs.Queues.Paths.{laws}
use Rattle.claims.proofs.Queues.Moves.{climb, queued, inside, low, acts, State, join_empty, join_root, join_after}
use Rattle.claims.proofs.Queues.Invariant.{Inv, unique, one_queue, fresh}
use Rattle.claims.proofs.Queues.Keeps.{keeps}
use Rattle.claims.proofs.Words.Links.{final, after, final_append, final_none, final_in, first_some, after_in, after_last, after_snoc, after_snoc_last}
use Rattle.claims.proofs.Words.View.{Words, tail_to, next_to, status_to, place_to}
use Rattle.claims.proofs.Words.Represents.{waiting_word, Linked, Numbered, Counted, Fits, at_prep, at_swap, at_link, at_wait, at_inside, at_draw, Represents, Apart}
use Rattle.claims.proofs.Words.Frame.{Others, counted_below, counted_through, apart, numbered_kept, assembled}

-- the place after a domain below the root is acquired: Prep or Draw at the index above
pub acquired_fits :
    (t : Tree) → Accepted t → (w : Words) (g : State) (i : ℕ) → i < t.threads → (k : ℕ) → k ≤ height t i → Counted t w g i k →
    Fits t w g i (acquire_place t (ancestor t i k)) (climb k)
acquired_fits t valid w g i h k l c =
    by_test (λ p. Fits t w g i p (climb k)) (is_ticket t (ancestor t i k)) Draw (Prep (ancestor t i k))
    (λ e. let f = ticket_facts t (ancestor t i k) e in at_draw k (ancestor_zero t valid i h k l f.1) f.0 c)
    (λ e. at_prep k l c)

module _ (t : Tree) (valid : Accepted t) (w : Words) (g : State) (i : ℕ) (h : i < t.threads) (o : Others t w g i) (k : ℕ) (l : k ≤ height t i) where
  abbrev inv : Inv t g
  inv = o.invariant

  abbrev L : ℕ
  L = ancestor t i k

  abbrev R : ℕ
  R = record_at t i k

  changed : (f : ℕ → ℕ) (v r : ℕ) → r ≢ R → put f R v r ≡ f r
  changed f v r n = put_other f R v r n

  climb_low : g.stage i ≡ climb k → k ≤ low (height t i) (g.stage i)
  unfolding low
  climb_low e = rw e (omega arith)

  -- a record that is about to join is in no queue
  pub away : g.stage i ≡ climb k → (d a : ℕ) → 1 ≤ count a (g.queue d) → a ≢ R
  away e d a m z = let f = fresh t (laws t valid) g inv i k d e in let m' : 1 ≤ count R (g.queue d) = rw z at m in omega arith

  -- PREP
  abbrev pub prepared : Words
  prepared = place_to i (Swap L) (next_to R none (status_to R (waiting_word L) w))

  pub prepare : g.stage i ≡ climb k → Counted t w g i k → Represents t prepared g
  prepare e c =
      assembled t valid w g i h o prepared g (Swap L) (climb k) inv
      (λ d nd. record {
        last = (o.linked d nd).last;
        chain = λ a m n.
            let z = changed w.nexts none a (away e d a m) in
            z ∙ (o.linked d nd).chain a m (λ q. n (z ∙ q));
      })
      (numbered_kept t valid w g i h o prepared g refl refl (λ _. refl) (λ _ a m. changed w.statuses (waiting_word L) a (away e 0 a m)))
      (put_same w.places i (Swap L) i refl) e
      (at_swap k l (counted_below t valid w g i h o prepared g k l (changed w.statuses (waiting_word L)) (λ r n. refl) c)
      (put_same w.nexts R none R refl) (put_same w.statuses R (waiting_word L) R refl))
      (λ j hj n. apart t valid w g i h o prepared g k (climb_low e) j hj n (put_other w.places i (Swap L) j n) refl
      (changed w.statuses (waiting_word L)) (λ r q. refl) (changed w.nexts none)
      (λ m p q nd a. (a, changed w.nexts none p (away e (ancestor t j m) p (after_in (g.queue (ancestor t j m)) p (record_at t j m) a)))) (λ d r q z. z))

  -- SWAP: the record joins at the end of the queue
  abbrev pub grown : ℕ → List ℕ
  grown = put g.queue L (g.queue L ++ (R ∷ []))

  abbrev pub swapped : Words
  swapped = tail_to L (R + 1) w

  -- no other record becomes the last
  swapped_last : (d r : ℕ) → r ≢ R → w.tails d ≢ suc r → swapped.tails d ≢ suc r
  swapped_last d r n z e =
      same_or d L _
      (λ y. n (let q = put_same w.tails L (R + 1) d y in omega arith))
      (λ y. z (sym (put_other w.tails L (R + 1) d y) ∙ e))

  module _ (w' : Words) (g' : State) (nexts : w'.nexts ≡ w.nexts) (queues : g'.queue ≡ grown) where
    next_same : (r : ℕ) → w'.nexts r ≡ w.nexts r
    next_same r = ap (λ (f : ℕ → ℕ). f r) nexts

    pub join_apart :
        g.stage i ≡ climb k → (j : ℕ) → j < t.threads → j ≢ i → w'.places j ≡ w.places j → g'.stage j ≡ g.stage j →
        ((r : ℕ) → r ≢ R → w'.statuses r ≡ w.statuses r) → ((r : ℕ) → r ≢ R → g'.tally r ≡ g.tally r) →
        ((d r : ℕ) → r ≢ R → w.tails d ≢ suc r → w'.tails d ≢ suc r) → Apart t w g w' g' j
    join_apart e j hj n pl sg st ta tl =
        apart t valid w g i h o w' g' k (climb_low e) j hj n pl sg st ta (λ r q. next_same r)
        (λ m p q nd a. (
          rw queues (same_or (ancestor t j m) L _
              (λ y.
              let a' : after (g.queue L) p ≡ suc (record_at t j m) = rw y at a in
              rw (y, put_same g.queue L (g.queue L ++ (R ∷ [])) L refl) (after_snoc (g.queue L) p (record_at t j m) R a'))
              (λ y. rw (put_other g.queue L (g.queue L ++ (R ∷ [])) (ancestor t j m) y) a)),
          next_same p,
        )) tl

    -- if the domain has a queue, a ticket lock is another domain
    pub join_numbered :
        is_ticket t L ≡ false → g.stage i ≡ climb k → w'.ticket ≡ w.ticket → w'.grant ≡ w.grant → ((r : ℕ) → r ≢ R → w'.statuses r ≡ w.statuses r) →
        t.ticket_root ≡ true → Numbered w' (g'.queue 0)
    join_numbered nt e ti gr st =
        numbered_kept t valid w g i h o w' g' ti gr
        (λ z. rw queues (put_other g.queue L (g.queue L ++ (R ∷ [])) 0 (λ y. queue_lower t L nt z (sym y)))) (λ _ a m. st a (away e 0 a m))

    module _ (nt : is_ticket t L ≡ false) (tails : w'.tails ≡ swapped.tails) (own : w.nexts R ≡ 0) where
      tail_same : (d : ℕ) → w'.tails d ≡ put w.tails L (R + 1) d
      tail_same d = ap (λ (f : ℕ → ℕ). f d) tails

      grown_linked : (d : ℕ) → is_ticket t d ≡ false → Linked w' (grown d) d
      grown_linked d nd =
          same_or d L _
          (λ z. rw (z, put_same g.queue L (g.queue L ++ (R ∷ [])) L refl)
          (record {
            last = tail_same L ∙ put_same w.tails L (R + 1) L refl ∙ (let y : R + 1 ≡ suc R = omega arith in y) ∙ sym (final_append (g.queue L) R);
            chain = λ a m n.
                same_or a R _ (λ y. absurd (n (next_same a ∙ ap w.nexts y ∙ own)))
                (λ y.
                let was : 1 ≤ count a (g.queue L) = omega (arith, count_snoc a R (g.queue L), is_other a R y) in
                let u = (o.linked L nt).chain a was (λ q. n (next_same a ∙ q)) in
                let some : after (g.queue L) a ≢ 0 = λ q. n (next_same a ∙ u ∙ q) in
                let b : suc (after (g.queue L) a - 1) ≡ after (g.queue L) a = omega (arith, some) in
                next_same a ∙ u ∙ sym b ∙ sym (after_snoc (g.queue L) a (after (g.queue L) a - 1) R (sym b)));
          }))
          (λ z. rw (put_other g.queue L (g.queue L ++ (R ∷ [])) d z)
          (record {
            last = tail_same d ∙ put_other w.tails L (R + 1) d z ∙ (o.linked d nd).last;
            chain = λ a m n. next_same a ∙ (o.linked d nd).chain a m (λ q. n (next_same a ∙ q));
          }))

      pub join_linked : (d : ℕ) → is_ticket t d ≡ false → Linked w' (g'.queue d) d
      join_linked d nd = rw queues (grown_linked d nd)

  -- the queues with the record at the end: the thread is inside, or stands there
  abbrev pub took_root_state : State
  took_root_state = record { queue = grown; stage = put g.stage i inside; tally = g.tally }

  abbrev pub stood_state : State
  stood_state = record { queue = grown; stage = put g.stage i (queued k); tally = g.tally }

  module _ (nt : is_ticket t L ≡ false) where
    pub empty_there : w.tails L ≡ 0 → g.queue L ≡ []
    empty_there tl = final_none (g.queue L) (sym (o.linked L nt).last ∙ tl)

    -- the queue was empty, at the root
    abbrev pub took_root : Words
    took_root = place_to i Inside (status_to R unlocked swapped)

    pub take_root : g.stage i ≡ climb k → L ≡ 0 → k ≡ height t i → w.tails L ≡ 0 → w.nexts R ≡ 0 → Counted t w g i k → Represents t took_root took_root_state
    take_root e z y tl nx c =
        let empty = empty_there tl in
        let st = changed w.statuses unlocked in
        assembled t valid w g i h o took_root took_root_state Inside inside (keeps t (laws t valid) g inv (join_root i k e z empty))
        (join_linked took_root took_root_state refl refl nt refl nx) (join_numbered took_root took_root_state refl refl nt e refl refl st)
        (put_same w.places i Inside i refl) (put_same g.stage i inside i refl)
        (at_inside (λ m b q. counted_below t valid w g i h o took_root took_root_state k l st (λ r n. refl) c m (omega arith) q))
        (λ j hj n. join_apart took_root took_root_state refl refl e j hj n (put_other w.places i Inside j n) (put_other g.stage i inside j n) st
        (λ r q. refl) swapped_last)

    -- the queue was empty, elsewhere
    abbrev pub took : (p : Place) → Words
    took p = place_to i p (status_to R cohort_start swapped)

    abbrev pub took_state : State
    took_state = record { queue = grown; stage = put g.stage i (climb (suc k)); tally = put g.tally R 1 }

    pub take : g.stage i ≡ climb k → L ≢ 0 → k < height t i → w.tails L ≡ 0 → w.nexts R ≡ 0 → Counted t w g i k →
        Represents t (took (acquire_place t (ancestor t i (suc k)))) took_state
    take e z b tl nx c =
        let p = acquire_place t (ancestor t i (suc k)) in
        let empty = empty_there tl in
        let st = changed w.statuses cohort_start in
        let ta = changed g.tally 1 in
        assembled t valid w g i h o (took p) took_state p (climb (suc k)) (keeps t (laws t valid) g inv (join_empty i k e z empty))
        (join_linked (took p) took_state refl refl nt refl nx) (join_numbered (took p) took_state refl refl nt e refl refl st)
        (put_same w.places i p i refl) (put_same g.stage i (climb (suc k)) i refl)
        (acquired_fits t valid (took p) took_state i h (suc k) b (counted_through t valid w g i h o (took p) took_state k (counted_below t valid w g i h o (took p) took_state k l st ta c)
        (put_same w.statuses R cohort_start R refl ∙ sym (put_same g.tally R 1 R refl))))
        (λ j hj n. join_apart (took p) took_state refl refl e j hj n (put_other w.places i p j n) (put_other g.stage i (climb (suc k)) j n) st ta swapped_last)

    -- another record was the last
    abbrev pub stood : Words
    stood = place_to i (Link L (w.tails L - 1)) swapped

    pub stand_first : w.tails L ≢ 0 → (a : ℕ) × (first (g.queue L) ≡ suc a)
    stand_first tl = first_some (g.queue L) (λ q. tl ((o.linked L nt).last ∙ q))

    pub stand : g.stage i ≡ climb k → w.tails L ≢ 0 → w.nexts R ≡ 0 → w.statuses R ≡ waiting_word L → Counted t w g i k → Represents t stood stood_state
    stand e tl nx sw c =
        let p = w.tails L - 1 in
        let f = stand_first tl in
        let last : final (g.queue L) ≡ suc p = sym (o.linked L nt).last ∙ (let y : w.tails L ≡ suc p = omega (arith, tl) in y) in
        let quiet : w.nexts p ≡ 0 =
        same_or (w.nexts p) 0 _ (λ z. z)
        (λ z. absurd (z ((o.linked L nt).chain p (final_in p (g.queue L) last) z ∙ after_last p (g.queue L) last (inv.once L p)))) in
        assembled t valid w g i h o stood stood_state (Link L p) (queued k) (keeps t (laws t valid) g inv (join_after i k f.0 e f.1))
        (join_linked stood stood_state refl refl nt refl nx) (join_numbered stood stood_state refl refl nt e refl refl (λ r n. refl))
        (put_same w.places i (Link L p) i refl) (put_same g.stage i (queued k) i refl)
        (at_link k p l (counted_below t valid w g i h o stood stood_state k l (λ r n. refl) (λ r n. refl) c) nt
        (rw (put_same g.queue L (g.queue L ++ (R ∷ [])) L refl) (after_snoc_last p R (g.queue L) last (inv.once L p))) quiet sw)
        (λ j hj n. join_apart stood stood_state refl refl e j hj n (put_other w.places i (Link L p) j n) (put_other g.stage i (queued k) j n)
        (λ r q. refl) (λ r q. refl) swapped_last)

    -- LINK
    abbrev pub linked_up : (before : ℕ) → Words
    linked_up p = place_to i (Wait L) (next_to p (R + 1) w)

    pub link : (p : ℕ) → g.stage i ≡ queued k → after (g.queue L) p ≡ suc R → w.nexts p ≡ 0 → w.statuses R ≡ waiting_word L → Counted t w g i k →
        Represents t (linked_up p) g
    unfolding low acts
    link p e a z sw c =
        let here = after_in (g.queue L) p R a in
        let nx : (r : ℕ) → r ≢ p → put w.nexts p (R + 1) r ≡ w.nexts r = λ r n. put_other w.nexts p (R + 1) r n in
        let acting : k < acts (height t i) (g.stage i) = rw e (omega arith) in
        assembled t valid w g i h o (linked_up p) g (Wait L) (queued k) inv
        (λ d nd. record {
          last = (o.linked d nd).last;
          chain = λ b m n. same_or b p _
              (λ y.
              let m' : 1 ≤ count p (g.queue d) = rw y at m in
              let there = one_queue t (laws t valid) g inv d L p m' here in
              rw (y, there) (put_same w.nexts p (R + 1) p refl ∙ (let q : R + 1 ≡ suc R = omega arith in q) ∙ sym a))
              (λ y. nx b y ∙ (o.linked d nd).chain b m (λ q. n (nx b y ∙ q)));
        })
        (numbered_kept t valid w g i h o (linked_up p) g refl refl (λ _. refl) (λ _ b m. refl))
        (put_same w.places i (Wait L) i refl) e
        (at_wait k p l c nt a (put_same w.nexts p (R + 1) p refl ∙ (let q : R + 1 ≡ suc R = omega arith in q)) sw)
        (λ j hj n. record {
          same_place = put_other w.places i (Wait L) j n;
          same_stage = refl;
          same_status = λ m b. refl;
          same_tally = λ m b. refl;
          next_set = λ m r b q.
              nx (record_at t j m) (λ y. let q' : w.nexts p ≡ suc r = rw y at q in omega arith) ∙ q;
          next_none = λ m q y.
              nx (record_at t j m) (λ x.
              let f = fresh t (laws t valid) g inv j m L q in
              let f' : count p (g.queue L) ≡ 0 = rw x at f in omega arith) ∙ y;
          same_link = λ m q s nd b. (
            b,
            nx q (λ x.
                let b' : after (g.queue (ancestor t j m)) p ≡ suc (record_at t j m) = rw x at b in
                let same = one_queue t (laws t valid) g inv (ancestor t j m) L p (after_in (g.queue (ancestor t j m)) p (record_at t j m) b') here in
                let b'' : after (g.queue L) p ≡ suc (record_at t j m) = rw same at b' in
                let acts_j : m < acts (height t j) (g.stage j) = rw s (omega arith) in
                n (unique t (laws t valid) g inv j i m k acts_j acting (omega arith)).0),
          );
          not_last = λ m b z. z;
        })

  -- WAIT with ACQUIRE_PARENT: its count starts, and the parent is next
  abbrev pub climbed : (p : Place) → Words
  climbed p = place_to i p (status_to R cohort_start w)

  pub climb_on : g.stage i ≡ climb (suc k) → k < height t i → g.tally R ≡ 1 → Counted t w g i k → Represents t (climbed (acquire_place t (ancestor t i (suc k)))) g
  unfolding low
  climb_on e b ta c =
      let p = acquire_place t (ancestor t i (suc k)) in
      let st = changed w.statuses cohort_start in
      let lower : (a : ℕ) → 1 ≤ count a (g.queue 0) → a ≢ R =
      λ a m z.
      let m' : 1 ≤ count R (g.queue 0) = rw z at m in
      let here = first_in R (g.queue L) ((inv.threads i).heads k (rw e (omega arith))) in
      let same = one_queue t (laws t valid) g inv 0 L R m' here in
      omega (arith, ancestor_inner t valid i h k b) in
      assembled t valid w g i h o (climbed p) g p (climb (suc k)) inv (λ d nd. record { last = (o.linked d nd).last; chain = (o.linked d nd).chain })
      (numbered_kept t valid w g i h o (climbed p) g refl refl (λ _. refl) (λ _ a m. st a (lower a m)))
      (put_same w.places i p i refl) e
      (acquired_fits t valid (climbed p) g i h (suc k) b (counted_through t valid w g i h o (climbed p) g k (counted_below t valid w g i h o (climbed p) g k l st (λ r n. refl) c)
      (put_same w.statuses R cohort_start R refl ∙ sym ta)))
      (λ j hj n. apart t valid w g i h o (climbed p) g k (rw e (omega arith)) j hj n (put_other w.places i p j n) refl st (λ r q. refl) (λ r q. refl)
      (λ m q s nd b. (b, refl)) (λ d r q z. z))
