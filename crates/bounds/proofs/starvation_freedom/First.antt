-- How long a member is first in a domain, if acquisitions closer to the root are bounded.
use mathlib.Core.Path.{◌≡◌, refl, ap, ◌∙◌}
use mathlib.Core.Logic.{inl, inr}
use Prim.Native.Nat.{ℕ, suc, ◌+◌, ◌-◌, ◌≤◌, ◌<◌}
use native.Mathlib.Omega.{arith}
use Rattle.model.specs.declared.Place.{Place}
use Rattle.model.specs.declared.Place.TheVariants.{Idle, Prep, Swap, Link, Wait, Inside, Check, Help, Cas, Linger, Grant, Draw, Watch, Raise, Invalid}
use Rattle.model.specs.Trees.{Tree}
use Rattle.model.specs.States.{place}
use Rattle.model.specs.Laws.{SixteenBit}
use Rattle.model.proofs.Lists.{less_or}
use Rattle.model.proofs.Trees.Index.{ancestor, height, record_at}
use Rattle.model.proofs.Trees.Accepted.{Accepted}
use Rattle.claims.proofs.Queues.Moves.{Stage, climb, queued, ready, holding, low, acts, out, inside, releasing}
use Rattle.claims.proofs.Queues.Paths.{laws}
use Rattle.claims.proofs.Queues.Remaining.{acts_real}
use Rattle.claims.proofs.Words.View.{words_in}
use Rattle.claims.proofs.Words.Represents.{letting_go, letting_go_low}
use Rattle.claims.proofs.Words.Says.{ClimbsAt, preparing, swapping, going_on, drawing}
use Rattle.claims.proofs.Queues.Invariant.{Inv}
use Rattle.bounds.specs.StarvationFreedom.Bounds.{passes, entry_rounds, acquire_rounds}
use Rattle.bounds.proofs.starvation_freedom.Situations.{Situation, queues}
use Rattle.bounds.proofs.starvation_freedom.Within.{Within, then, longer, one_round}
use Rattle.bounds.proofs.starvation_freedom.Turns.{Acquires, by_prep, by_draw, by_check}
use Rattle.bounds.proofs.starvation_freedom.Says.{Says, says, Waiting, Granting, pass, release, Staged, staged}
use Rattle.bounds.proofs.starvation_freedom.Says as words
use Rattle.bounds.proofs.starvation_freedom.Releasing.{LetsGo, helps, tries, lingers, grants, raises}
use Rattle.bounds.proofs.starvation_freedom.Queues.{tag}
use Rattle.bounds.proofs.starvation_freedom.Effective.{left_within, left_less_inside, left_less_holding}
use Rattle.bounds.proofs.starvation_freedom.Tenures.{Gone, Actor, Left, Aim, until_gone, tenure_rest, pass_gone, releases_gone, inside_gone, ready_gone}
use Rattle.bounds.proofs.starvation_freedom.Bounds.{one_less, checks_few, above_rounds, first_rounds, above_enough}
use Rattle.bounds.proofs.starvation_freedom.Ready.{ready_enters, ready_lasts}
use Rattle.bounds.proofs.starvation_freedom.Waiting.{Woken}

module _ (t : Tree) (valid : Accepted t) (bits : SixteenBit t) where
  abbrev pub Enters : (a : ℕ) → Situation t → Type 0
  Enters a c = place c.words a ≡ Inside

  -- a thread acquires the domain at an index of its path, or was granted only the one below
  pub data Climbing (a m : ℕ) (ha : a < t.threads) (c : Situation t) : Type 0 where
    prepares : Acquires t a m (place c.words a) → Climbing a m ha c
    swaps : place c.words a ≡ Swap (ancestor t a m) → Climbing a m ha c
    stands : (queues c).stage a ≡ queued m → Climbing a m ha c
    goes_on : (k : ℕ) → m ≡ suc k → Woken t valid bits a ha k c → Climbing a m ha c

  -- a thread that is ready enters with its next step
  pub ready_inside : (a : ℕ) → a < t.threads → (c : Situation t) → (queues c).stage a ≡ ready → Within t valid bits 1 (Enters a) c
  ready_inside a ha c e =
      one_round t valid bits a ha (λ x. (queues x).stage a ≡ ready) (Enters a)
      (λ x y h n u. inl (ready_lasts t valid bits a ha x u y h n)) (λ x h u. ready_enters t valid bits a ha x u h) e

  -- an acquisition from a domain at this distance from the root
  abbrev pub Acquired : (distance : ℕ) → Type 0
  Acquired f =
      (a m : ℕ) (ha : a < t.threads) → m + f ≡ height t a → (c : Situation t) → Climbing a m ha c → Within t valid bits (acquire_rounds t (ancestor t a m) (record_at t a m)) (Enters a) c

  -- THE FIRST of a domain, for any aim of its tenure
  module _ (d r a j : ℕ) (A : Actor t valid bits d r a j) where
    abbrev ha : a < t.threads
    ha = A.real

    abbrev most : ℕ
    most = passes t r

    -- the rounds for one entry
    abbrev one : ℕ
    one = entry_rounds t

    member_most : passes t (record_at t a j) ≤ most
    member_most = let z = ap (passes t) A.mine in omega arith

    abbrev pub FirstAt : Situation t → Type 0
    FirstAt c = j < low (height t a) ((queues c).stage a)

    -- what being first at index j implies for its stage
    first_by : (c : Situation t) (x : Stage) → FirstAt c → (queues c).stage a ≡ x → j < low (height t a) x
    first_by c x b e = rw e at b

    letting_by : (c : Situation t) (k : ℕ) → FirstAt c → (queues c).stage a ≡ letting_go (height t a) k → j ≤ k
    letting_by c k b e = let y = first_by c (letting_go (height t a) k) b e in omega (arith, letting_go_low (height t a) k)

    -- ACQUIRING: it acquires a domain nearer to the root
    pub record Climbs (c : Situation t) : Type 0 where
      pub index : ℕ
      pub above : j < index
      pub within : index ≤ height t a
      pub climbing : Climbing a index ha c

    pub climbs : (c : Situation t) → FirstAt c → tag ((queues c).stage a) ≤ 2 → Climbs c
    unfolding low acts tag Staged
    climbs c b w = by ((queues c).stage a) refl w
      where
        inv : Inv t (queues c)
        inv = c.queued.represents.invariant

        up : (m : ℕ) → (queues c).stage a ≡ climb m → ClimbsAt t (words_in c.words) a m (place c.words a) → Climbs c
        up m z (preparing l e) = record { index = m; above = first_by c (climb m) b z; within = l; climbing = prepares (by_prep e) }
        up m z (swapping l e) = record { index = m; above = first_by c (climb m) b z; within = l; climbing = swaps e }
        up m z (going_on k q l e) =
            record { index = m; above = first_by c (climb m) b z; within = omega arith; climbing = goes_on k q (record { below = l; there = e; stage = z ∙ ap climb q }) }
        up m z (drawing q r e) = record { index = m; above = first_by c (climb m) b z; within = omega arith; climbing = prepares (by_draw e q r) }

        by : (x : Stage) → (queues c).stage a ≡ x → tag x ≤ 2 → Climbs c
        by out z h = absurd (let y = first_by c out b z in omega arith)
        by (climb m) z h = up m z (staged t valid c a ha (climb m) z)
        by (queued m) z h =
            record { index = m; above = first_by c (queued m) b z; within = (acts_real t (laws t valid) (queues c) inv a m (rw z (omega arith))).2; climbing = stands z }
        by ready z h = absurd (omega arith)
        by inside z h = absurd (omega arith)
        by holding z h = absurd (omega arith)
        by (releasing m) z h = absurd (omega arith)

    -- WITH THE LOCK
    module _ (q : Aim t valid bits d r) where
      abbrev pub held_rounds : ℕ
      held_rounds = tenure_rest t valid bits d r q most

      -- the rounds with one entry less left
      abbrev pub less_rounds : ℕ
      less_rounds = tenure_rest t valid bits d r q (most - 1)

      -- once it is Inside, the round of its Wait is over
      pub inside_leaves : (c : Situation t) → Enters a c → Within t valid bits (one - 1 + less_rounds) q.met c
      unfolding Says
      inside_leaves c e =
          let l = left_less_inside t valid (queues c) c.effectively a j A.within (says t valid c a ha Inside e) in
          let b = member_most in
          inside_gone t valid bits d r q (most - 1) (ready_gone t valid bits d r q (most - 1)) a j A c e (omega arith)

      pub inside_less : 1 ≤ most → 1 + (one - 1 + less_rounds) ≡ held_rounds
      inside_less h = let z = one_less one most h in let few = checks_few t valid a ha in omega arith

      holding_left : (c : Situation t) → (queues c).stage a ≡ holding → (1 ≤ most) × Left t valid bits a j (most - 1) c
      holding_left c e =
          let l = left_less_holding t valid (queues c) c.effectively a j A.within e in
          let b = member_most in
          (omega arith, omega arith)

      ready_leaves : (c : Situation t) → (queues c).stage a ≡ ready → Within t valid bits held_rounds q.met c
      unfolding acts
      ready_leaves c e =
          let l = left_within t valid (queues c) c.effectively a j (rw e (omega (arith, A.within))) in
          let b = member_most in
          ready_gone t valid bits d r q most a j A c e (omega arith)

      letting_leaves : (c : Situation t) (k : ℕ) → k ≤ height t a → j ≤ k → LetsGo t a k (place c.words a) → Within t valid bits held_rounds q.met c
      letting_leaves c k l b g = longer t valid bits q.rounds held_rounds (omega arith) (q.at_release a j A k l b g)

      wait_leaves : (c : Situation t) (k : ℕ) → 3 ≤ tag ((queues c).stage a) → Waiting t (words_in c.words) (queues c) a k ((queues c).stage a) → Within t valid bits held_rounds q.met c
      unfolding tag
      wait_leaves c k w (words.stands y v) = absurd (let o = ap tag y in omega arith)
      wait_leaves c k w (words.woken u y v) = absurd (let o = ap tag y in omega arith)
      wait_leaves c k w (words.granted y v n) = ready_leaves c y

      grant_leaves : (c : Situation t) (k m v : ℕ) → FirstAt c → place c.words a ≡ Grant (ancestor t a k) m v → k ≤ height t a →
          Granting t (queues c) a k v ((queues c).stage a) → Within t valid bits held_rounds q.met c
      grant_leaves c k m v b p l (release x z) = letting_leaves c k l (letting_by c k b x) (grants m (p ∙ ap (Grant (ancestor t a k) m) z))
      grant_leaves c k m v b p l (pass u x (_, z)) =
          let y = holding_left c x in
          let some = y.0 in
          longer t valid bits (1 + less_rounds) held_rounds (let z = one_less one most some in let few = checks_few t valid a ha in omega arith)
          (pass_gone t valid bits d r q (most - 1) (ready_gone t valid bits d r q (most - 1)) a j A c
          (record { index = k; below = u; to = m; word = v; small = omega (arith, bits (ancestor t a k)); there = p }) y.1)

      held_by : (c : Situation t) (p : Place) → place c.words a ≡ p → FirstAt c → 3 ≤ tag ((queues c).stage a) → Within t valid bits held_rounds q.met c
      unfolding Says tag
      held_by c Idle e b w = absurd (let o = ap tag (says t valid c a ha Idle e) in omega arith)
      held_by c (Prep l) e b w = absurd (let o = ap tag (says t valid c a ha (Prep l) e).2 in omega arith)
      held_by c (Swap l) e b w = absurd (let o = ap tag (says t valid c a ha (Swap l) e).2 in omega arith)
      held_by c (Link l m) e b w = absurd (let o = ap tag (says t valid c a ha (Link l m) e).2 in omega arith)
      held_by c (Wait l) e b w = let y = says t valid c a ha (Wait l) e in wait_leaves c y.0 w y.2
      held_by c Inside e b w =
          let l = left_less_inside t valid (queues c) c.effectively a j A.within (says t valid c a ha Inside e) in
          let m = member_most in
          longer t valid bits (one - 1 + less_rounds) held_rounds (let z = inside_less (omega arith) in omega arith) (inside_leaves c e)
      held_by c (Check l) e b w =
          let y = says t valid c a ha (Check l) e in
          let z = holding_left c y.3 in
          let some = z.0 in
          longer t valid bits (one - 2 + less_rounds) held_rounds (let x = one_less one most some in omega arith)
          (releases_gone t valid bits d r q (most - 1) (ready_gone t valid bits d r q (most - 1)) a j A c y.0 y.1.1 (by_check (e ∙ ap Check y.1.0) y.2) z.1)
      held_by c (Help l) e b w = let y = says t valid c a ha (Help l) e in letting_leaves c y.0 y.1.1 (letting_by c y.0 b y.2) (helps (e ∙ ap Help y.1.0))
      held_by c (Cas l) e b w = let y = says t valid c a ha (Cas l) e in letting_leaves c y.0 y.1.1 (letting_by c y.0 b y.2) (tries (e ∙ ap Cas y.1.0))
      held_by c (Linger l) e b w = let y = says t valid c a ha (Linger l) e in letting_leaves c y.0 y.1.1 (letting_by c y.0 b y.2) (lingers (e ∙ ap Linger y.1.0))
      held_by c (Grant l m v) e b w = let y = says t valid c a ha (Grant l m v) e in grant_leaves c y.0 m v b (e ∙ ap (λ x. Grant x m v) y.1.0) y.1.1 y.2
      held_by c Draw e b w = absurd (let o = ap tag (says t valid c a ha Draw e).0 in omega arith)
      held_by c Watch e b w =
          elim (says t valid c a ha Watch e).0 [
            | inl x ↦ absurd (let o = ap tag x in omega arith)
            | inr x ↦ ready_leaves c x
          ]
      held_by c Raise e b w = letting_leaves c (height t a) (omega arith) A.within (raises e refl)
      held_by c Invalid e b w = absurd (says t valid c a ha Invalid e)

      pub held_leaves : (c : Situation t) → FirstAt c → 3 ≤ tag ((queues c).stage a) → Within t valid bits held_rounds q.met c
      held_leaves c b w = held_by c _ refl b w

    -- FROM THE ROOT DOWN
    module _ (f : ℕ) (nearer_root : (g : ℕ) → g < f → Acquired g) (far : j + f ≡ height t a) where
      -- it acquires the domains nearer to the root, and is Inside
      pub climbing_inside : (c : Situation t) → Climbs c → Within t valid bits (above_rounds t d) (Enters a) c
      climbing_inside c x =
          let m = x.index in
          let b = x.above in
          let l = x.within in
          let above : acquire_rounds t (ancestor t a m) (record_at t a m) ≤ above_rounds t d = rw A.there at (above_enough t valid a ha j m b l) in
          longer t valid bits (acquire_rounds t (ancestor t a m) (record_at t a m)) (above_rounds t d) above (nearer_root (height t a - m) (omega arith) a m ha (omega arith) c x.climbing)

      -- and then it leaves its queue
      abbrev gone_rounds : ℕ
      gone_rounds = held_rounds (until_gone t valid bits d r)

      first_is : first_rounds t d r ≡ above_rounds t d + gone_rounds
      unfolding first_rounds until_gone
      first_is = omega arith

      held : {c : Situation t} → Within t valid bits gone_rounds (Gone t valid bits d r) c → Within t valid bits (first_rounds t d r) (Gone t valid bits d r) c
      held w = longer t valid bits gone_rounds (first_rounds t d r) (let z = first_is in omega arith) w

      pub first_leaves : (c : Situation t) → FirstAt c → Within t valid bits (first_rounds t d r) (Gone t valid bits d r) c
      unfolding until_gone Says tag low
      first_leaves c b =
          less_or (tag ((queues c).stage a)) 3 _
          (λ w. rw first_is (then t valid bits (above_rounds t d) gone_rounds (climbing_inside c (climbs c b (omega arith)))
          (λ c' e. held_leaves (until_gone t valid bits d r) c' (rw (says t valid c' a ha Inside e) (omega (arith, A.within))) (rw (says t valid c' a ha Inside e) (omega arith)))))
          (λ w. held (held_leaves (until_gone t valid bits d r) c b (omega arith)))
