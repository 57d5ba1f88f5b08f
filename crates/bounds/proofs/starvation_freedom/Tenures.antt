-- While a member is first in a domain and has the domain's lock: how many rounds until it leaves the domain's queue.
use mathlib.Core.Path.{◌≡◌, refl, sym, ap, ◌∙◌}
use mathlib.Core.Logic.{◌≢◌, inl, inr}
use Prim.Native.Nat.{ℕ, zero, suc, ◌+◌, ◌*◌, ◌-◌, ◌≤◌, ◌<◌}
use native.Mathlib.Omega.{arith}
use Rattle.model.specs.declared.Place.TheVariants.{Inside}
use Rattle.model.specs.Trees.{Tree, level, depth}
use Rattle.model.specs.States.{place}
use Rattle.model.specs.Laws.{SixteenBit}
use Rattle.model.proofs.Lists.{same_or, less_or, first, first_in, count}
use Rattle.model.proofs.Trees.Index.{ancestor, height, record_at}
use Rattle.model.proofs.Trees.Accepted.{Accepted}
use Rattle.model.proofs.Trees.Paths.{ancestor_depth}
use Rattle.claims.proofs.Queues.Paths.{Laws, laws}
use Rattle.claims.proofs.Queues.Meeting.{follow, follow_record_at, same_height}
use Rattle.claims.proofs.Queues.Moves.{ready, inside, low, reach, pending}
use Rattle.bounds.specs.StarvationFreedom.Bounds.{entry_rounds}
use Rattle.bounds.proofs.starvation_freedom.Situations.{Situation, queues, next, next_change, place_other}
use Rattle.bounds.proofs.starvation_freedom.Within.{Within, then, longer, at_once, within_map, one_round}
use Rattle.bounds.proofs.starvation_freedom.Turns.{Releases, inside_turn, grant_turn}
use Rattle.bounds.proofs.starvation_freedom.Says.{Says, says, done_stage}
use Rattle.bounds.proofs.starvation_freedom.Releasing.{LetsGo, helps, Done, all_go, Holds, Passing, passing_holds, releases_holds, releases_rounds}
use Rattle.bounds.proofs.starvation_freedom.Queues.{gone, handed}
use Rattle.bounds.proofs.starvation_freedom.Bounds.{checks_few}
use Rattle.bounds.proofs.starvation_freedom.Left.{entry_hits}
use Rattle.bounds.proofs.starvation_freedom.Effective.{left_there, left_less, left_pending_some}
use Rattle.bounds.proofs.starvation_freedom.Ready.{ready_enters, ready_lasts}

module _ (t : Tree) (valid : Accepted t) (bits : SixteenBit t) where
  tree_laws : Laws t
  tree_laws = laws t valid

  inside_stage : (c : Situation t) (a : ℕ) → a < t.threads → place c.words a ≡ Inside → (queues c).stage a ≡ inside
  unfolding Says
  inside_stage c a ha e = says t valid c a ha Inside e

  -- the record r is not the first in d
  abbrev pub Gone : (d r : ℕ) → Situation t → Type 0
  Gone d r c = first ((queues c).queue d) ≢ suc r

  -- a thread that acts for the record r in the domain d
  pub record Actor (d r a j : ℕ) : Type 0 where
    pub real : a < t.threads
    pub within : j ≤ height t a
    pub there : ancestor t a j ≡ d
    pub mine : record_at t a j ≡ r

  -- what is left at an index is at most n
  abbrev pub Left : (a j n : ℕ) → Situation t → Type 0
  Left a j n c = left_there t valid (queues c) a j ≤ n

  -- rounds for the release of all domains from the root down to d
  abbrev pub out_rounds : (d : ℕ) → ℕ
  out_rounds d = 5 * level t d

  module _ (d r a j : ℕ) (A : Actor d r a j) where
    abbrev ha : a < t.threads
    ha = A.real

    done_gone : (c : Situation t) → Done t valid bits a ha j c → Gone d r c
    done_gone c e f =
        let g = gone t tree_laws (queues c) c.queued.represents.invariant a j ha (done_stage t valid c a ha j A.within e) d in
        let none : count r ((queues c).queue d) ≡ 0 = rw A.mine at g in
        omega (arith, first_in r ((queues c).queue d) f)

    level_there : level t d + j ≡ suc (height t a)
    unfolding level
    level_there =
        let z : depth t d + j ≡ height t a = rw A.there at (ancestor_depth t valid a ha j A.within) in
        omega arith

    pub lets_gone : (k : ℕ) → k ≤ height t a → j ≤ k → {c : Situation t} → LetsGo t a k (place c.words a) → Within t valid bits (out_rounds d) (Gone d r) c
    lets_gone k l b g =
        longer t valid bits (5 * (k - j) + 5) (out_rounds d) (let z = level_there in omega arith)
        (within_map t valid bits (5 * (k - j) + 5) done_gone (all_go t valid bits a ha k j l b g))

    -- what is left does not grow if the thread is first there before and after a step
    left_keeps : (n : ℕ) (c : Situation t) (x : ℕ) (h : x < t.threads) → j < low (height t a) ((queues c).stage a) → j < low (height t a) ((queues (next t valid bits c x h)).stage a) →
        Left a j n c → Left a j n (next t valid bits c x h)
    left_keeps n c x h b b' l =
        let y = left_less t valid (next_change t valid bits c x h) c.queued.represents.invariant c.effectively a j a j (record { before = b; after = b'; there = refl; mine = refl }) in
        omega arith

    holding_first : (c : Situation t) → Holds t valid bits a ha c → j < low (height t a) ((queues c).stage a)
    unfolding low
    holding_first c e = rw e (omega (arith, A.within))

    inside_first : (c : Situation t) → place c.words a ≡ Inside → j < low (height t a) ((queues c).stage a)
    unfolding low
    inside_first c e = rw (inside_stage c a ha e) (omega (arith, A.within))

    ready_first : (c : Situation t) → (queues c).stage a ≡ ready → j < low (height t a) ((queues c).stage a)
    unfolding low
    ready_first c e = rw e (omega (arith, A.within))

    holds_keeps : (n : ℕ) (c : Situation t) (x : ℕ) (h : x < t.threads) → Holds t valid bits a ha c → Holds t valid bits a ha (next t valid bits c x h) → Left a j n c → Left a j n (next t valid bits c x h)
    holds_keeps n c x h e e' l = left_keeps n c x h (holding_first c e) (holding_first (next t valid bits c x h) e') l

    -- A PASS: the record leaves the queue, the thread continues releasing, or another thread under the record is ready with no more left
    pub data Passed (n : ℕ) (c : Situation t) : Type 0 where
      left_queue : Gone d r c → Passed n c
      let_go_above : (k : ℕ) → k ≤ height t a → j ≤ k → LetsGo t a k (place c.words a) → Passed n c
      to_other : (b k : ℕ) → Actor d r b k → (queues c).stage b ≡ ready → Left b k n c → Passed n c

    passes_on : (n : ℕ) (c : Situation t) (h : a < t.threads) → Passing t valid bits a ha c → Left a j n c → Passed n (next t valid bits c a h)
    unfolding low reach
    passes_on n c h p l =
        let k = p.index in
        let c' = next t valid bits c a h in
        let inv = c.queued.represents.invariant in
        let inv' = c'.queued.represents.invariant in
        let done : Done t valid bits a ha k c' = grant_turn t valid bits c a h k p.to p.word (let b = p.below in omega arith) p.there in
        let held = passing_holds t valid bits a ha c p in
        less_or k j (Passed n c')
        (λ b.
        let e = j - suc k in
        let w = handed t tree_laws a k p.below inv (next_change t valid bits c a h) held (done_stage t valid c' a ha k (let u = p.below in omega arith) done) in
        let s = w.thread in
        let m = w.index + suc e in
        let j_is : k + suc e ≡ j = omega arith in
        let real : s < t.threads = (inv'.threads s).real (rw w.is_ready (omega arith)) in
        let same : ancestor t s m ≡ ancestor t a j = follow t s w.index a k w.meets (suc e) ∙ ap (ancestor t a) j_is in
        let mine : record_at t s m ≡ record_at t a j = follow_record_at t s w.index a k w.meets e ∙ ap (record_at t a) j_is in
        let tall = same_height t tree_laws s w.index a k real ha w.within (let u = p.below in omega arith) w.meets in
        let inside_path : m ≤ height t s = let u = A.within in omega arith in
        let after : m < low (height t s) ((queues c').stage s) = rw w.is_ready (omega arith) in
        let y = left_less t valid (next_change t valid bits c a h) inv c.effectively a j s m (record { before = holding_first c held; after = after; there = same; mine = mine }) in
        to_other s m (record { real = real; within = inside_path; there = same ∙ A.there; mine = mine ∙ A.mine }) w.is_ready (omega arith))
        (λ b. same_or k j (Passed n c')
        (λ z. left_queue (done_gone c' (rw z at done)))
        (λ z. later k (omega arith) p.below done))
      where
        later : (k : ℕ) → j < k → k < height t a → Done t valid bits a ha k (next t valid bits c a h) → Passed n (next t valid bits c a h)
        later zero b u done = absurd (omega arith)
        later (suc k) b u done = let_go_above k (omega arith) (omega arith) (helps done)

    pass_round : (n : ℕ) {c : Situation t} → Passing t valid bits a ha c → Left a j n c → Within t valid bits 1 (Passed n) c
    pass_round n p l =
        one_round t valid bits a ha (λ c. Passing t valid bits a ha c × Left a j n c) (Passed n)
        (λ c x h m (q, i).
        let c' = next t valid bits c x h in
        let q' : Passing t valid bits a ha c' = record { index = q.index; below = q.below; to = q.to; word = q.word; small = q.small; there = place_other t valid bits c x h a (λ z. m (sym z)) ∙ q.there } in
        inl (q', holds_keeps n c x h (passing_holds t valid bits a ha c q) (passing_holds t valid bits a ha c' q') i))
        (λ c h (q, i). passes_on n c h q i) (p, l)

  -- THE AIM OF A TENURE: what holds once the record is gone, and within how many rounds after its thread releases it or a domain above
  pub record Aim (d r : ℕ) : Type 1 where
    pub rounds : ℕ
    pub met : Situation t → Type 0
    pub at_gone : (c : Situation t) → Gone d r c → met c
    pub at_release : (a j : ℕ) → Actor d r a j → (k : ℕ) → k ≤ height t a → j ≤ k → {c : Situation t} → LetsGo t a k (place c.words a) → Within t valid bits rounds met c

  -- the aim that it is gone
  unfoldable pub until_gone : (d r : ℕ) → Aim d r
  until_gone d r = record { rounds = out_rounds d; met = Gone d r; at_gone = λ c g. g; at_release = lets_gone d r }

  -- the record is gone, or its release has begun
  pub data Ended (d r : ℕ) (c : Situation t) : Type 0 where
    is_gone : Gone d r c → Ended d r c
    lets_go : (a j : ℕ) → Actor d r a j → (k : ℕ) → k ≤ height t a → j ≤ k → LetsGo t a k (place c.words a) → Ended d r c

  unfoldable pub until_ended : (d r : ℕ) → Aim d r
  until_ended d r = record { rounds = 0; met = Ended d r; at_gone = λ c g. is_gone g; at_release = λ a j A k l b g. at_once t valid bits 0 (lets_go a j A k l b g) }

  -- THE WHOLE TENURE, by the entries that are left: a number of rounds for each, and then those of the aim
  module _ (d r : ℕ) (q : Aim d r) where
    abbrev pub tenure_rest : (n : ℕ) → ℕ
    tenure_rest n = entry_rounds t * n + q.rounds

    abbrev ReadyGone : ℕ → Type 0
    ReadyGone n = (a j : ℕ) → Actor d r a j → (c : Situation t) → (queues c).stage a ≡ ready → Left a j n c → Within t valid bits (tenure_rest n) q.met c

    module _ (n : ℕ) (before : ReadyGone n) (a j : ℕ) (A : Actor d r a j) where
      abbrev rounds : ℕ
      rounds = tenure_rest n

      -- the rounds for one entry
      abbrev one : ℕ
      one = entry_rounds t

      passed_gone : (c : Situation t) → Passed d r a j A n c → Within t valid bits rounds q.met c
      passed_gone c (left_queue g) = at_once t valid bits rounds (q.at_gone c g)
      passed_gone c (let_go_above k l b g) = longer t valid bits q.rounds rounds (omega arith) (q.at_release a j A k l b g)
      passed_gone c (to_other b k B e l) = before b k B c e l

      pub pass_gone : (c : Situation t) → Passing t valid bits a A.real c → Left a j n c → Within t valid bits (1 + rounds) q.met c
      pass_gone c p l = then t valid bits 1 rounds (pass_round d r a j A n p l) passed_gone

      pub releases_gone : (c : Situation t) (k : ℕ) → k ≤ height t a → Releases t a k (place c.words a) → Left a j n c → Within t valid bits (one - 2 + rounds) q.met c
      releases_gone c k l g i =
          longer t valid bits (height t a - k + (1 + rounds)) (one - 2 + rounds) (omega (arith, checks_few t valid a A.real))
          (then t valid bits (height t a - k) (1 + rounds)
          (releases_rounds t valid bits a A.real (Left a j n) (holds_keeps d r a j A n) k l g i)
          (λ c' (i', w). elim w [
            | inl o ↦ longer t valid bits q.rounds (1 + rounds) (omega arith) (q.at_release a j A (height t a) (omega arith) A.within o)
            | inr p ↦ pass_gone c' p i'
          ]))

      -- INSIDE
      pub inside_gone : (c : Situation t) → place c.words a ≡ Inside → Left a j n c → Within t valid bits (one - 1 + rounds) q.met c
      inside_gone c e i =
          let z : 1 + (one - 2 + rounds) ≡ one - 1 + rounds = omega (arith, checks_few t valid a A.real) in
          rw (← z) (then t valid bits 1 (one - 2 + rounds)
          (one_round t valid bits a A.real (λ x. (place x.words a ≡ Inside) × Left a j n x) (λ x. Releases t a 0 (place x.words a) × Left a j n x)
          (λ x y h m (p, l).
          let p' = place_other t valid bits x y h a (λ z. m (sym z)) ∙ p in
          inl (p', left_keeps d r a j A n x y h (inside_first d r a j A x p) (inside_first d r a j A (next t valid bits x y h) p') l))
          (λ x h (p, l).
          let x' = next t valid bits x a h in
          let p' = inside_turn t valid bits x a h p in
          (p', left_keeps d r a j A n x a h (inside_first d r a j A x p) (holding_first d r a j A x' (releases_holds t valid bits a A.real x' 0 (omega arith) p')) l))
          (e, i))
          (λ x (p, l). releases_gone x 0 (omega arith) p l))

      -- READY
      ready_gone_next : (c : Situation t) → (queues c).stage a ≡ ready → Left a j (suc n) c → Within t valid bits (tenure_rest (suc n)) q.met c
      unfolding pending low
      ready_gone_next c e i =
          let z : 1 + (one - 1 + rounds) ≡ tenure_rest (suc n) = omega (arith, checks_few t valid a A.real) in
          rw (← z) (then t valid bits 1 (one - 1 + rounds)
          (one_round t valid bits a A.real (λ x. ((queues x).stage a ≡ ready) × Left a j (suc n) x) (λ x. (place x.words a ≡ Inside) × Left a j n x)
          (λ x y h m (p, l).
          let p' = ready_lasts t valid bits a A.real x p y h m in
          inl (p', left_keeps d r a j A (suc n) x y h (ready_first d r a j A x p) (ready_first d r a j A (next t valid bits x y h) p') l))
          (λ x h (p, l).
          let x' = next t valid bits x a h in
          let p' = ready_enters t valid bits a A.real x p h in
          let ch = next_change t valid bits x a h in
          let made = entry_hits t tree_laws a ch (ap pending p) (ap pending (inside_stage x' a A.real p')) in
          let y = left_less t valid ch x.queued.represents.invariant x.effectively a j a j (record { before = ready_first d r a j A x p; after = inside_first d r a j A x' p'; there = refl; mine = refl }) in
          (p', omega arith))
          (e, i))
          (λ x (p, l). inside_gone x p l))

    pub ready_gone : (n : ℕ) → ReadyGone n
    unfolding pending
    ready_gone zero a j A c e i = absurd (omega (arith, left_pending_some t valid (queues c) a j, ap pending e))
    ready_gone (suc n) a j A c e i = ready_gone_next n (ready_gone n) a j A c e i
