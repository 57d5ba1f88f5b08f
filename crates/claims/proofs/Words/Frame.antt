-- One thread's step: what does not change for the others, and how the new state is built.
use mathlib.Core.Path.{◌≡◌, refl, sym, ap, ◌∙◌}
use mathlib.Core.Bool.{true, false}
use mathlib.Core.List.{List, [], ◌∷◌}
use mathlib.Core.Logic.{◌≢◌}
use Prim.Native.Nat.{ℕ, suc, ◌+◌, ◌≤◌, ◌<◌}
use native.Mathlib.Omega.{arith}
use Rattle.model.specs.declared.Place.{Place}
use Rattle.model.specs.Trees.{Tree, is_ticket}
use Rattle.model.specs.States.{wrap}
use Rattle.model.proofs.Trees.Index.{ancestor, height, record_at}
use Rattle.model.proofs.Trees.Accepted.{Accepted}
use Rattle.model.proofs.Trees.Records.{record_injective}
use Rattle.model.proofs.Lists.{same_or, put_same, put_other, is_same, count, count_cons}
use Rattle.claims.proofs.Queues.Moves.{Stage, queued, low, State}
use Rattle.claims.proofs.Queues.Invariant.{Inv, Below, same_user}
use Rattle.claims.proofs.Words.Links.{after}
use Rattle.claims.proofs.Words.View.{Words, place_to}
use Rattle.claims.proofs.Words.Represents.{Linked, Tickets, Numbered, Counted, Fits, Represents, Apart, left_alone}

-- everything that a state represents, except what thread i's place implies
pub record Others (t : Tree) (w : Words) (g : State) (i : ℕ) : Type 0 where
  pub invariant : Inv t g
  pub linked : (d : ℕ) → is_ticket t d ≡ false → Linked w (g.queue d) d
  pub numbered : t.ticket_root ≡ true → Numbered w (g.queue 0)
  pub others : (j : ℕ) → j < t.threads → j ≢ i → Fits t w g j (w.places j) (g.stage j)

pub others_of : {t : Tree} {w : Words} {g : State} → Represents t w g → (i : ℕ) → Others t w g i
others_of r i = record { invariant = r.invariant; linked = r.linked; numbered = r.numbered; others = λ j h n. r.fits j h }

-- tickets do not change if the members' statuses do not
pub tickets_kept :
    (f f' : ℕ → ℕ) (v b : ℕ) (q : List ℕ) → ((a : ℕ) → 1 ≤ count a q → f' a ≡ f a) → Tickets f v b q → Tickets f' v b q
unfolding Tickets
tickets_kept f f' v b [] s h = h
tickets_kept f f' v b (m ∷ ms) s h = (
  s m (omega (arith, count_cons m m ms, is_same m m refl)) ∙ h.0,
  tickets_kept f f' (wrap (v + 1)) b ms (λ a c. s a (omega (arith, count_cons a m ms))) h.1,
)

module _ (t : Tree) (valid : Accepted t) (w : Words) (g : State) (i : ℕ) (h : i < t.threads) (o : Others t w g i) where
  -- up to the index where a thread is first, its records are no other thread's
  pub below_low : (j k : ℕ) → k ≤ low (height t j) (g.stage j) → Below t g.queue j k
  below_low j k b n l = (o.invariant.threads j).heads n (omega arith)

  pub other_record :
      (j k l : ℕ) → j < t.threads → j ≢ i → k ≤ low (height t i) (g.stage i) → l ≤ low (height t j) (g.stage j) → record_at t j l ≢ record_at t i k
  other_record j k l hj n a b e =
      let f = valid.few_threads in
      n (same_user t g.queue j i (omega arith) (omega arith) l k (below_low j l b) (below_low i k a) e).0

  pub lower_record : (k m : ℕ) → k ≤ height t i → m < k → record_at t i m ≢ record_at t i k
  lower_record k m a b e = let z = record_injective t valid i h m k (omega arith) a e in omega arith

  -- counts below an index, if statuses and counts change only at the record there
  pub counted_below :
      (w' : Words) (g' : State) (k : ℕ) → k ≤ height t i → ((r : ℕ) → r ≢ record_at t i k → w'.statuses r ≡ w.statuses r) →
      ((r : ℕ) → r ≢ record_at t i k → g'.tally r ≡ g.tally r) → Counted t w g i k → Counted t w' g' i k
  counted_below w' g' k a st ta c m b l =
      let n = lower_record k m a b in
      st (record_at t i m) n ∙ c m b l ∙ sym (ta (record_at t i m) n)

  -- and up to it, if the new status is the new count
  pub counted_through :
      (w' : Words) (g' : State) (k : ℕ) → Counted t w' g' i k → w'.statuses (record_at t i k) ≡ g'.tally (record_at t i k) → Counted t w' g' i (suc k)
  counted_through w' g' k c e m b l =
      same_or m k _ (λ z. rw z e) (λ z. c m (omega arith) l)

  -- a step that changes words only at its own record there does not affect the others
  pub apart :
      (w' : Words) (g' : State) (k : ℕ) → k ≤ low (height t i) (g.stage i) → (j : ℕ) → j < t.threads → j ≢ i → w'.places j ≡ w.places j →
      g'.stage j ≡ g.stage j → ((r : ℕ) → r ≢ record_at t i k → w'.statuses r ≡ w.statuses r) →
      ((r : ℕ) → r ≢ record_at t i k → g'.tally r ≡ g.tally r) → ((r : ℕ) → r ≢ record_at t i k → w'.nexts r ≡ w.nexts r) →
      ((n p : ℕ) → g.stage j ≡ queued n → is_ticket t (ancestor t j n) ≡ false → after (g.queue (ancestor t j n)) p ≡ suc (record_at t j n) →
      (after (g'.queue (ancestor t j n)) p ≡ suc (record_at t j n)) × (w'.nexts p ≡ w.nexts p)) →
      ((d r : ℕ) → r ≢ record_at t i k → w.tails d ≢ suc r → w'.tails d ≢ suc r) → Apart t w g w' g' j
  unfolding low
  apart w' g' k a j hj n pl sg st ta nx lk tl =
      let far : (l : ℕ) → l ≤ low (height t j) (g.stage j) → record_at t j l ≢ record_at t i k = λ l b. other_record j k l hj n a b in
      record {
        same_place = pl;
        same_stage = sg;
        same_status = λ l b. st (record_at t j l) (far l b);
        same_tally = λ l b. ta (record_at t j l) (far l (omega arith));
        next_set = λ l r b e. nx (record_at t j l) (far l (omega arith)) ∙ e;
        next_none = λ l e z. let b : l ≤ low (height t j) (g.stage j) = rw e (omega arith) in nx (record_at t j l) (far l b) ∙ z;
        same_link = lk;
        not_last = λ l b. tl (ancestor t j l) (record_at t j l) (far l (omega arith));
      }

  -- a ticket lock keeps its tickets if its queue and the statuses of its members do not change
  pub numbered_kept :
      (w' : Words) (g' : State) → w'.ticket ≡ w.ticket → w'.grant ≡ w.grant → (t.ticket_root ≡ true → g'.queue 0 ≡ g.queue 0) →
      (t.ticket_root ≡ true → (a : ℕ) → 1 ≤ count a (g.queue 0) → w'.statuses a ≡ w.statuses a) → t.ticket_root ≡ true → Numbered w' (g'.queue 0)
  numbered_kept w' g' ti gr qu st e =
      let old = o.numbered e in
      rw (qu e) (record { small = rw gr old.small; held = rw (ti, gr) (tickets_kept w.statuses w'.statuses w.grant w.ticket (g.queue 0) (st e) old.held) })

  -- a new state, assembled from its parts
  pub assembled :
      (w' : Words) (g' : State) (p : Place) (x : Stage) → Inv t g' → ((d : ℕ) → is_ticket t d ≡ false → Linked w' (g'.queue d) d) → (t.ticket_root ≡ true → Numbered w' (g'.queue 0)) → w'.places i ≡ p → g'.stage i ≡ x →
      Fits t w' g' i p x → ((j : ℕ) → j < t.threads → j ≢ i → Apart t w g w' g' j) → Represents t w' g'
  assembled w' g' p x inv' ln nu ep ex f ap' =
      record {
        invariant = inv';
        linked = ln;
        numbered = nu;
        fits = λ j hj. same_or j i _ (λ z. rw z (rw (ep, ex) f)) (λ z. left_alone (ap' j hj z) (o.others j hj z));
      }

  -- only the thread's place and stage are new
  pub replaced :
      (g' : State) (p : Place) (x : Stage) → Inv t g' → g'.queue ≡ g.queue → g'.tally ≡ g.tally → g'.stage i ≡ x →
      ((j : ℕ) → j ≢ i → g'.stage j ≡ g.stage j) → Fits t (place_to i p w) g' i p x → Represents t (place_to i p w) g'
  replaced g' p x inv' qu ta sx sg f =
      assembled (place_to i p w) g' p x inv' (λ d nd. rw qu (record { last = (o.linked d nd).last; chain = (o.linked d nd).chain }))
      (numbered_kept (place_to i p w) g' refl refl (λ _. rw qu) (λ _ a m. refl))
      (put_same w.places i p i refl) sx f
      (λ j hj n. apart (place_to i p w) g' 0 (omega arith) j hj n (put_other w.places i p j n) (sg j n) (λ r e. refl) (λ r e. ap (λ (f : ℕ → ℕ). f r) ta)
      (λ r e. refl) (λ m q e nd a. (rw qu a, refl)) (λ d r e z. z))
