-- A thread that was granted the lock stays so until its own step, and that step enters.
use mathlib.Core.Path.{◌≡◌, sym, ap, ◌∙◌}
use mathlib.Core.Logic.{◌≢◌, ◌⊎◌, inl, inr}
use Prim.Native.Nat.{ℕ, suc, ◌≤◌, ◌<◌}
use native.Mathlib.Omega.{arith}
use borrow.Author.Tests.{eq-eqb, ne_eqb}
use Rattle.model.specs.declared.Place.TheVariants.{Inside, Watch}
use Rattle.model.specs.Trees.{Tree}
use Rattle.model.specs.States.{wait_word, locked, place, status}
use Rattle.model.specs.Laws.{SixteenBit}
use Rattle.model.proofs.Lists.{same_or, first}
use Rattle.model.proofs.Trees.Index.{ancestor, height, record_at}
use Rattle.model.proofs.Trees.Accepted.{Accepted}
use Rattle.model.proofs.Trees.Paths.{ancestor_root, ancestor_inner}
use Rattle.claims.proofs.Queues.Moves.{queued, ready, low, acts}
use Rattle.claims.proofs.Queues.Invariant.{Inv}
use Rattle.claims.proofs.Words.Drawing.{is_shown}
use Rattle.claims.proofs.Words.Frame.{others_of}
use Rattle.claims.proofs.Words.View.{words_in}
use Rattle.claims.proofs.Words.Says.{ReadyPlace, in_wait, in_watch, ready_place}
use Rattle.chain.proofs.Reached.Holding.{status_same, not_first}
use Rattle.bounds.proofs.starvation_freedom.Situations.{Situation, queues, next, next_words, next_change, place_other}
use Rattle.bounds.proofs.starvation_freedom.Turns.{ready_turn, shown_turn}
use Rattle.bounds.proofs.starvation_freedom.Says.{Says, says, Waiting, stands, woken, granted, wait_stage}
use Rattle.bounds.proofs.starvation_freedom.Queues.{queue_change, first_not_after}

module _ (t : Tree) (valid : Accepted t) (bits : SixteenBit t) (a : ℕ) (ha : a < t.threads) where
  module _ (c : Situation t) (e : (queues c).stage a ≡ ready) where
    abbrev inv : Inv t (queues c)
    inv = c.queued.represents.invariant

    there : ReadyPlace t (words_in c.words) (queues c) a (place c.words a)
    unfolding words_in
    there = ready_place e (c.queued.represents.fits a ha)

    heads : (k : ℕ) → k ≤ height t a → first ((queues c).queue (ancestor t a k)) ≡ suc (record_at t a k)
    unfolding low
    heads k l = (inv.threads a).heads k (rw e (omega arith))

    -- a count is a 16-bit number
    count_small : (k : ℕ) → k < height t a → (queues c).tally (record_at t a k) ≤ 65535
    count_small k b =
        let f = (inv.counts (ancestor t a k) (record_at t a k) (λ z. omega (arith, ancestor_inner t valid a ha k b)) (heads k (omega arith))).1 in
        omega (arith, bits (ancestor t a k))

    -- its step enters
    enters_from : ReadyPlace t (words_in c.words) (queues c) a (place c.words a) → (h : a < t.threads) → place (next t valid bits c a h).words a ≡ Inside
    unfolding words_in
    enters_from (in_wait k l p v n) h = ready_turn t valid bits c a h k l p v (λ b. omega (arith, n b, count_small k b))
    enters_from (in_watch p root) h =
        shown_turn t valid bits c a h p (is_shown t valid c.words c.queued.room (queues c) a ha (others_of c.queued.represents a) root e)

    pub ready_enters : (h : a < t.threads) → place (next t valid bits c a h).words a ≡ Inside
    ready_enters h = enters_from there h

    -- another thread's step leaves it ready
    module _ (x : ℕ) (hx : x < t.threads) (n : x ≢ a) where
      abbrev d : Situation t
      d = next t valid bits c x hx

      same_place : place d.words a ≡ place c.words a
      same_place = place_other t valid bits c x hx a (λ z. n (sym z))

      same_status : (k : ℕ) → k ≤ height t a → status d.words (record_at t a k) ≡ status c.words (record_at t a k)
      unfolding low
      same_status k l =
          let b : k < low (height t a) ((queues c).stage a) = rw e (omega arith) in
          ap (λ s. status s (record_at t a k)) (next_words t valid bits c x hx)
          ∙ status_same t valid bits c.words c.queued x hx a k ha (λ z. n (sym z)) (omega arith) (not_first t valid bits c.words c.queued x hx a k b)

      waits_on : (k : ℕ) → k ≤ height t a → (k ≡ height t a → status c.words (record_at t a k) ≡ 0) → (k < height t a → status c.words (record_at t a k) ≤ 65535) →
          Waiting t (words_in d.words) (queues d) a k ((queues d).stage a) → (queues d).stage a ≡ ready
      unfolding words_in
      waits_on k l top low_there (granted y v m) = y
      waits_on k l top low_there (woken b y v) = absurd (let s = same_status k l in let o = low_there b in omega arith)
      waits_on k l top low_there (stands y v) =
          let s = same_status k l in
          same_or k (height t a) _
          (λ z.
          let zero : ancestor t a k ≡ 0 = ap (ancestor t a) z ∙ ancestor_root t valid a ha in
          let v' : status d.words (record_at t a k) ≡ locked = rw (eq-eqb (ancestor t a k) 0 zero) at v in
          absurd (let o = top z in omega arith))
          (λ z.
          let b : k < height t a = omega arith in
          let v' : status d.words (record_at t a k) ≡ wait_word = rw (ne_eqb (ancestor t a k) 0 (omega (arith, ancestor_inner t valid a ha k b))) at v in
          absurd (let o = low_there b in omega arith))

      watches_on : ((queues d).stage a ≡ queued (height t a)) ⊎ ((queues d).stage a ≡ ready) → (queues d).stage a ≡ ready
      unfolding low acts
      watches_on (inr y) = y
      watches_on (inl y) =
          let k = height t a in
          let m = record_at t a k in
          let D = ancestor t a k in
          let inv' = d.queued.represents.invariant in
          let ch = queue_change t D (next_change t valid bits c x hx) in
          let o = first_not_after D m ch.0 ((queues c).queue D) ((queues d).queue D) ch.1 (heads k (omega arith)) (inv.once D m) (inv'.once D m) in
          let s = (inv'.threads a).stands (rw y (omega arith)) in
          let s' : _ = rw y at s in
          absurd (omega arith)

      lasts_from : ReadyPlace t (words_in c.words) (queues c) a (place c.words a) → (queues d).stage a ≡ ready
      unfolding words_in Says
      lasts_from (in_wait k l p v m) = waits_on k l v (λ b. omega (arith, m b, count_small k b)) (wait_stage t valid d a ha k l (same_place ∙ p))
      lasts_from (in_watch p root) = watches_on (says t valid d a ha Watch (same_place ∙ p)).0

      pub ready_lasts : (queues d).stage a ≡ ready
      ready_lasts = lasts_from there
