-- A thread that stands ungranted keeps standing or is granted; a thread that was granted only its domain goes on with its next step.
use mathlib.Core.Path.{◌≡◌, sym, ap, ◌∙◌}
use mathlib.Core.Logic.{◌≢◌, inl, inr}
use Prim.Native.Nat.{ℕ, suc, ◌≤◌, ◌<◌}
use native.Mathlib.Omega.{arith}
use borrow.Author.Tests.{ne_eqb}
use Rattle.model.specs.declared.Place.TheVariants.{Link, Wait, Inside, Watch}
use Rattle.model.specs.Trees.{Tree}
use Rattle.model.specs.States.{acquire_parent, wait_word, place, status}
use Rattle.model.specs.Laws.{SixteenBit}
use Rattle.model.proofs.Lists.{same_or}
use Rattle.model.proofs.Trees.Index.{ancestor, height, record_at}
use Rattle.model.proofs.Trees.Accepted.{Accepted}
use Rattle.model.proofs.Trees.Paths.{ancestor_inner}
use Rattle.claims.proofs.Queues.Moves.{climb, queued, ready, low}
use Rattle.claims.proofs.Words.Says.{Ungranted, linking, waiting, watching, ungranted}
use Rattle.claims.proofs.Words.View.{words_in}
use Rattle.chain.proofs.Reached.Holding.{status_same, not_first}
use Rattle.bounds.proofs.starvation_freedom.Situations.{Situation, queues, next, next_words, place_other}
use Rattle.bounds.proofs.starvation_freedom.Within.{Within, one_round}
use Rattle.bounds.proofs.starvation_freedom.Turns.{Acquires, woken_turn, wait_turn, link_turn, watch_turn}
use Rattle.bounds.proofs.starvation_freedom.Says.{Says, says, Waiting, stands, woken, granted, wait_stage, link_stage}
use Rattle.bounds.proofs.starvation_freedom.Queues.{tag}

module _ (t : Tree) (valid : Accepted t) (bits : SixteenBit t) (a : ℕ) (ha : a < t.threads) where
  -- GRANTED ONLY THE DOMAIN at an index: the parent is next
  pub record Woken (k : ℕ) (c : Situation t) : Type 0 where
    pub below : k < height t a
    pub there : place c.words a ≡ Wait (ancestor t a k)
    pub stage : (queues c).stage a ≡ climb (suc k)

  module _ (k : ℕ) where
    status_is : (c : Situation t) → Woken k c → Waiting t (words_in c.words) (queues c) a k ((queues c).stage a) → status c.words (record_at t a k) ≡ acquire_parent
    unfolding words_in tag
    status_is c w (woken b y v) = v
    status_is c w (stands y v) = absurd (let o = ap tag (sym w.stage ∙ y) in omega arith)
    status_is c w (granted y v m) = absurd (let o = ap tag (sym w.stage ∙ y) in omega arith)

    woken_status : (c : Situation t) → Woken k c → status c.words (record_at t a k) ≡ acquire_parent
    woken_status c w = status_is c w (wait_stage t valid c a ha k (let b = w.below in omega arith) w.there)

    -- another thread's step leaves it so
    module _ (c : Situation t) (w : Woken k c) (x : ℕ) (hx : x < t.threads) (n : x ≢ a) where
      abbrev d : Situation t
      d = next t valid bits c x hx

      same_place : place d.words a ≡ Wait (ancestor t a k)
      same_place = place_other t valid bits c x hx a (λ z. n (sym z)) ∙ w.there

      kept_status : status d.words (record_at t a k) ≡ acquire_parent
      unfolding low
      kept_status =
          let b : k < low (height t a) ((queues c).stage a) = rw w.stage (omega arith) in
          ap (λ s. status s (record_at t a k)) (next_words t valid bits c x hx)
          ∙ status_same t valid bits c.words c.queued x hx a k ha (λ z. n (sym z)) (omega arith) (not_first t valid bits c.words c.queued x hx a k b) ∙ woken_status c w

      stays_woken : Waiting t (words_in d.words) (queues d) a k ((queues d).stage a) → Woken k d
      unfolding words_in low
      stays_woken (woken b y v) = record { below = b; there = same_place; stage = y }
      stays_woken (stands y v) =
          let v' : status d.words (record_at t a k) ≡ wait_word = rw (ne_eqb (ancestor t a k) 0 (omega (arith, ancestor_inner t valid a ha k w.below))) at v in
          absurd (let o = kept_status in omega arith)
      stays_woken (granted y v m) =
          let inv = d.queued.represents.invariant in
          let b = w.below in
          let f = (inv.counts (ancestor t a k) (record_at t a k) (λ z. omega (arith, ancestor_inner t valid a ha k b)) ((inv.threads a).heads k (rw y (omega arith)))).1 in
          absurd (let o = kept_status in let same = (m b).0 in omega (arith, bits (ancestor t a k)))

      woken_lasts : Woken k d
      woken_lasts = stays_woken (wait_stage t valid d a ha k (let b = w.below in omega arith) same_place)

    pub woken_round : {c : Situation t} → Woken k c → Within t valid bits 1 (λ d. Acquires t a (suc k) (place d.words a)) c
    woken_round w =
        one_round t valid bits a ha (Woken k) (λ d. Acquires t a (suc k) (place d.words a))
        (λ c x h n v. inl (woken_lasts c v x h n)) (λ c h v. woken_turn t valid bits c a h k v.below v.there (woken_status c v)) w

  -- UNGRANTED at an index: after a step it still stands there, was granted the lock or the domain, or is Inside
  pub data Stood (m : ℕ) (c : Situation t) : Type 0 where
    stands_on : (queues c).stage a ≡ queued m → Stood m c
    is_ready : (queues c).stage a ≡ ready → Stood m c
    is_woken : Woken m c → Stood m c
    is_inside : place c.words a ≡ Inside → Stood m c

  module _ (m : ℕ) (l : m ≤ height t a) where
    in_wait : (d : Situation t) → place d.words a ≡ Wait (ancestor t a m) → Waiting t (words_in d.words) (queues d) a m ((queues d).stage a) → Stood m d
    in_wait d p (stands y v) = stands_on y
    in_wait d p (woken b y v) = is_woken (record { below = b; there = p; stage = y })
    in_wait d p (granted y v n) = is_ready y

    pub waits : (d : Situation t) → place d.words a ≡ Wait (ancestor t a m) → Stood m d
    waits d p = in_wait d p (wait_stage t valid d a ha m l p)

    pub links : (d : Situation t) (q : ℕ) → place d.words a ≡ Link (ancestor t a m) q → Stood m d
    links d q p = stands_on (link_stage t valid d a ha m q l p)

    pub watches : (d : Situation t) → m ≡ height t a → place d.words a ≡ Watch → Stood m d
    unfolding Says
    watches d z p = elim (says t valid d a ha Watch p).0 [ inl y ↦ stands_on (y ∙ ap queued (sym z)) | inr y ↦ is_ready y ]

    module _ (c : Situation t) (e : (queues c).stage a ≡ queued m) where
      where_it_stands : Ungranted t (words_in c.words) (queues c) a m (place c.words a)
      unfolding words_in
      where_it_stands = ungranted m e (c.queued.represents.fits a ha)

      others_step : (x : ℕ) (h : x < t.threads) → a ≢ x → Ungranted t (words_in c.words) (queues c) a m (place c.words a) → Stood m (next t valid bits c x h)
      others_step x h n (linking q p u f v) = links (next t valid bits c x h) q (place_other t valid bits c x h a n ∙ p)
      others_step x h n (waiting q p u f v) = waits (next t valid bits c x h) (place_other t valid bits c x h a n ∙ p)
      others_step x h n (watching p z r u) = watches (next t valid bits c x h) z (place_other t valid bits c x h a n ∙ p)

      -- in Wait, ungranted, the thread's own step is a stay
      own_wait : (h : a < t.threads) → place c.words a ≡ Wait (ancestor t a m) → Waiting t (words_in c.words) (queues c) a m ((queues c).stage a) → Stood m (next t valid bits c a h)
      unfolding words_in tag
      own_wait h p (stands y v) = waits (next t valid bits c a h) (wait_turn t valid bits c a h m l p v)
      own_wait h p (woken b y v) = absurd (let o = ap tag (sym e ∙ y) in omega arith)
      own_wait h p (granted y v n) = absurd (let o = ap tag (sym e ∙ y) in omega arith)

      own_step : (h : a < t.threads) → Ungranted t (words_in c.words) (queues c) a m (place c.words a) → Stood m (next t valid bits c a h)
      own_step h (linking q p u f v) = waits (next t valid bits c a h) (link_turn t valid bits c a h (ancestor t a m) q p)
      own_step h (waiting q p u f v) = own_wait h p (wait_stage t valid c a ha m l p)
      own_step h (watching p z r u) =
          elim (watch_turn t valid bits c a h p) [ inl y ↦ is_inside y | inr y ↦ watches (next t valid bits c a h) z y ]

      pub stands_step : (x : ℕ) (h : x < t.threads) → Stood m (next t valid bits c x h)
      stands_step x h =
          same_or x a _
          (λ z. let own : (h : x < t.threads) → Stood m (next t valid bits c x h) = rw z (λ h'. own_step h' where_it_stands) in own h)
          (λ z. others_step x h (λ y. z (sym y)) where_it_stands)
