-- How long a thread stands in a linked queue below the root: the lock is passed from member to member until the count is the threshold, and then the domains above are released and acquired again.
use mathlib.Core.Path.{◌≡◌, refl, sym, ap, ◌∙◌}
use mathlib.Core.List.{List, [], ◌∷◌, ◌++◌}
use mathlib.Core.Logic.{◌⊎◌, inl, inr}
use Prim.Native.Nat.{ℕ, zero, suc, ◌+◌, ◌*◌, ◌-◌, ◌/◌, ◌≤◌, ◌<◌}
use native.Mathlib.Omega.{arith}
use lib.ListN.{length}
use borrow.Author.Tests.{ne_eqb}
use Rattle.model.specs.declared.Place.{Place}
use Rattle.model.specs.declared.Place.TheVariants.{Inside}
use Rattle.model.specs.Trees.{Tree}
use Rattle.model.specs.States.{place}
use Rattle.model.specs.Laws.{SixteenBit}
use Rattle.model.proofs.Lists.{same_or, less_or, first, first_in, first_cons, count}
use Rattle.model.proofs.Trees.Index.{ancestor, height, record_at}
use Rattle.model.proofs.Trees.Accepted.{Accepted}
use Rattle.model.proofs.Trees.Paths.{ancestor_real, ancestor_not_root}
use Rattle.claims.proofs.Queues.Paths.{Laws, laws}
use Rattle.claims.proofs.Queues.Meeting.{same_height}
use Rattle.claims.proofs.Queues.Moves.{releasing, low}
use Rattle.claims.proofs.Queues.Invariant.{low_acts, unique}
use Rattle.claims.proofs.Words.Represents.{letting_go, letting_go_low, letting_go_lower}
use Rattle.claims.proofs.Words.Releasing.{done_at}
use Rattle.bounds.specs.StarvationFreedom.Bounds.{passes, entry_rounds}
use Rattle.bounds.proofs.starvation_freedom.Situations.{Situation, queues, next, next_change, place_other}
use Rattle.bounds.proofs.starvation_freedom.Queues.{tag, gone}
use Rattle.bounds.proofs.starvation_freedom.Within.{Within, then, longer, meanwhile}
use Rattle.bounds.proofs.starvation_freedom.Effective.{left_there, left_within, left_pending_some}
use Rattle.bounds.proofs.starvation_freedom.Says.{Says, says, done_stage}
use Rattle.bounds.proofs.starvation_freedom.Heads.{After, kept, passed, released, closed, after_step}
use Rattle.bounds.proofs.starvation_freedom.Stages.{steps_on, way_lasts, way_pending}
use Rattle.bounds.proofs.starvation_freedom.Over.{Over, not_over}
use Rattle.bounds.proofs.starvation_freedom.Releasing.{LetsGo, helps, tries, lingers, grants, raises, Done, go_turn, lets_stage}
use Rattle.bounds.proofs.starvation_freedom.Tenures.{Actor, Ended, is_gone, lets_go, until_ended, out_rounds, lets_gone}
use Rattle.bounds.proofs.starvation_freedom.Weights.{weight}
use Rattle.bounds.proofs.starvation_freedom.Arithmetic.{tenure_over}
use Rattle.bounds.proofs.starvation_freedom.Line.{Line}
use Rattle.bounds.proofs.starvation_freedom.Lines.{low_real, line_kept}
use Rattle.bounds.proofs.starvation_freedom.Held.{Held, Given, own_domain, domain, Turned, own_lock, lock, given, still, turned, not_closed, same_tally, held_itself, released_given, held_step}
use Rattle.bounds.proofs.starvation_freedom.Bounds.{above_rounds, above_next, checks_few, mul_add, mul-one}
use Rattle.bounds.proofs.starvation_freedom.First.{Enters, goes_on, Acquired, Climbs, climbing_inside, less_rounds, inside_leaves, inside_less, held_leaves, ready_inside}

zero_or : (n : ℕ) → (n ≡ 0) ⊎ (0 < n)
zero_or zero = inl refl
zero_or (suc n) = inr (omega arith)

-- if a thread lets go of a domain or of one above it, the Check is over
pub lets_over : (t : Tree) (d b k : ℕ) (p : Place) → 0 < d → (ancestor t b k ≡ 0) ⊎ (0 < ancestor t b k) → LetsGo t b k p → Over d p
unfolding Over
lets_over t d b k p h z (helps e) = rw e tt
lets_over t d b k p h z (tries e) = rw e tt
lets_over t d b k p h z (lingers e) = rw e tt
lets_over t d b k p h z (raises e y) = rw e tt
lets_over t d b k p h (inl z) (grants r e) = rw e (inl (omega arith))
lets_over t d b k p h (inr z) (grants r e) = let n = ne_eqb (ancestor t b k) 0 (omega arith) in rw (e, n) (inr (omega arith))

module _ (t : Tree) (valid : Accepted t) (bits : SixteenBit t) (a m : ℕ) (inner : 0 < ancestor t a m) where
  tree_laws : Laws t
  tree_laws = laws t valid

  abbrev d : ℕ
  d = ancestor t a m

  -- THE RELEASE: the first lets go of its domain or of one above it
  module _ (r v : ℕ) (xs : List ℕ) where
    pub record Letting (c : Situation t) : Type 0 where
      pub thread : ℕ
      pub index : ℕ
      pub upper : ℕ
      pub held : Held t valid bits c a m r thread index v xs
      pub above : index ≤ upper
      pub within : upper ≤ height t thread
      pub real : thread < t.threads
      pub lets : LetsGo t thread upper (place c.words thread)

    module _ (c : Situation t) (x : ℕ) (hx : x < t.threads) (G : Letting c) where
      abbrev c' : Situation t
      c' = next t valid bits c x hx

      abbrev b : ℕ
      b = G.thread

      abbrev k : ℕ
      k = G.index

      -- it continues, and is still first
      goes_on_there : (u : ℕ) → k ≤ u → u ≤ height t b → LetsGo t b u (place c'.words b) → Letting c'
      goes_on_there u o w g =
          let s = lets_stage t valid bits b G.real u w c' g in
          let h : k < low (height t b) ((queues c').stage b) = rw s (omega (arith, letting_go_low (height t b) u)) in
          let H = held_itself t valid bits c x hx a m r b k v xs G.held h (same_tally t valid bits c x hx a m r b k xs G.held.line h) in
          record { thread = b; index = k; upper = u; held = H; above = o; within = w; real = G.real; lets = g }

      -- it has let go of the domain: the next has it
      gives : G.upper ≡ k → Done t valid bits b G.real k c' → Given t valid bits c' a m v xs
      unfolding tag
      gives z e =
          let L = G.held.line in
          let low_there = low_real t valid bits c b k L.first_there in
          let below : k < height t b = ancestor_not_root t valid b G.real k low_there.1 (let q = L.there in omega arith) in
          let s : (queues c).stage b ≡ releasing k = lets_stage t valid bits b G.real G.upper G.within c G.lets ∙ ap (letting_go (height t b)) z ∙ letting_go_lower (height t b) k below in
          let out_of : count (record_at t b k) ((queues c').queue (ancestor t b k)) ≡ 0 =
          gone t tree_laws (queues c') c'.queued.represents.invariant b k G.real (done_stage t valid c' b G.real k low_there.1 e) (ancestor t b k) in
          by s out_of (after_step t tree_laws c.queued.represents.invariant (next_change t valid bits c x hx) b k L.first_there)
        where
          by : (queues c).stage b ≡ releasing k → count (record_at t b k) ((queues c').queue (ancestor t b k)) ≡ 0 → After t (queues c) (queues c') b k → Given t valid bits c' a m v xs
          by s o (kept b' k' h p q y w) =
              absurd (let f = first_in (record_at t b' k') ((queues c').queue (ancestor t b' k')) ((c'.queued.represents.invariant.threads b').heads k' h) in
              let f' : 1 ≤ count (record_at t b k) ((queues c').queue (ancestor t b k)) = rw (p, q) at f in omega arith)
          by s o (passed s' l zs e q q' w p y z) = absurd (let n = ap tag (sym s ∙ e) in omega arith)
          by s o (released s' l zs e q q' w p y z) =
              let L = G.held.line in
              released_given t valid bits c x hx a m r b k v xs G.held e s' l zs (rw (L.there, L.mine) at q) (rw L.there at q') w (p ∙ L.there) y
          by s o (closed q) = absurd (not_closed t valid bits c x hx a m r b k xs G.held.line q)

      letting_own : (u : ℕ) → G.upper ≡ u → Done t valid bits b G.real u c' → Letting c' ⊎ Given t valid bits c' a m v xs
      letting_own zero z e = let o = G.above in let k_is : k ≡ 0 = omega arith in inr (gives (z ∙ sym k_is) (e ∙ ap (done_at t b) (sym k_is)))
      letting_own (suc u) z e =
          let o = G.above in
          let w = G.within in
          same_or k (suc u) _
          (λ y. inr (gives (z ∙ sym y) (e ∙ ap (done_at t b) (sym y))))
          (λ y. inl (goes_on_there u (omega arith) (omega arith) (helps e)))

      pub letting_step : Letting c' ⊎ Given t valid bits c' a m v xs
      letting_step =
          same_or x b _
          (λ z.
          let own : (h : x < t.threads) → LetsGo t b G.upper (place (next t valid bits c x h).words b) ⊎ Done t valid bits b G.real G.upper (next t valid bits c x h) =
          rw z (λ h. go_turn t valid bits b G.real G.upper G.within c h G.lets) in
          elim (own hx) [
            | inl g ↦ inl (goes_on_there G.upper G.above G.within g)
            | inr e ↦ letting_own G.upper refl e
          ])
          (λ z. inl (goes_on_there G.upper G.above G.within (rw (place_other t valid bits c x hx b (λ y. z (sym y))) G.lets)))

  -- IN TURN: thread a is after other members, each linked, and the domains above are acquired within this number of rounds
  module _ (ha : a < t.threads) (within : m ≤ height t a) (f : ℕ) (nearer_root : (g : ℕ) → g < f → Acquired t valid bits g) (far : m + f ≡ height t a) where
    abbrev pub above : ℕ
    above = above_rounds t d

    abbrev pub out : ℕ
    out = out_rounds t valid bits d

    -- the rounds in which the domains above are released and acquired again
    abbrev pub cycle : ℕ
    cycle = out + above

    abbrev pub entries : List ℕ → ℕ
    entries xs = entry_rounds t * weight (passes t) xs

    -- the cycles before a's entry, if the count is v and xs are between
    abbrev pub cycles : (count : ℕ) → List ℕ → ℕ
    cycles v xs = ((v + length xs) / t.threshold d) * cycle

    some : 1 ≤ t.threshold d
    some = valid.threshold_some d inner (ancestor_real t valid a ha m)

    -- the claim if the first has the lock and its tenure has e rounds left
    abbrev pub HeldClaim : List ℕ → Type 0
    HeldClaim xs =
        (c : Situation t) (r b k v e u : ℕ) → Held t valid bits c a m r b k v xs → Within t valid bits e (Ended t valid bits d r) c → 1 ≤ u → cycles v xs ≤ u →
        Within t valid bits (e + (entries xs + u)) (Enters t valid bits a) c

    -- the claim if the first has only the domain
    abbrev pub ClimbClaim : List ℕ → Type 0
    ClimbClaim xs =
        (c : Situation t) (r b k : ℕ) (hb : b < t.threads) (A : Actor t valid bits d r b k) → Line t valid bits c a m r b k xs → tag ((queues c).stage b) ≤ 2 → Climbs t valid bits d r b k A c →
        Within t valid bits (above + (entries (r ∷ xs) + cycles 1 xs)) (Enters t valid bits a) c

    unfoldable Rest : List ℕ → Type 0
    Rest [] = Unit {0}
    Rest (y ∷ ys) = HeldClaim ys × ClimbClaim ys

    -- the next has only the domain
    given_inside : (xs : List ℕ) → Rest xs → (v u : ℕ) → cycles v xs ≤ u → (c : Situation t) → Given t valid bits c a m v xs → Within t valid bits (entries xs + (u - out)) (Enters t valid bits a) c
    unfolding Rest weight tag
    given_inside [] rest v u o c (own_domain h full pos w) =
        let x = tenure_over (t.threshold d) v 0 cycle some full in
        longer t valid bits above (entries [] + (u - out)) (omega arith)
        (rw (above_next t valid a ha m w.below) (nearer_root (height t a - suc m) (let b = w.below in omega arith) a (suc m) ha (let b = w.below in omega arith) c (goes_on m refl (record { below = w.below; there = w.there; stage = w.stage }))))
    given_inside (_ ∷ ys) rest v u o c (domain y s l h full pos L w) =
        let b = w.below in
        let A : Actor t valid bits d y s l = record { real = h; within = omega arith; there = L.there; mine = L.mine } in
        let x = tenure_over (t.threshold d) v (1 + length ys) cycle some full in
        let sum : v + suc (length ys) ≡ v + (1 + length ys) = omega arith in
        let same : cycles v (y ∷ ys) ≡ ((v + (1 + length ys)) / t.threshold d) * cycle = ap (λ n. (n / t.threshold d) * cycle) sum in
        longer t valid bits (above + (entries (y ∷ ys) + cycles 1 ys)) (entries (y ∷ ys) + (u - out)) (omega arith)
        (rest.1 c y s l h A L (rw w.stage (omega arith)) (record { index = suc l; above = omega arith; within = b; climbing = goes_on l refl w }))

    -- the next has the lock, or only the domain
    turned_inside : (xs : List ℕ) → Rest xs → (v u : ℕ) → 1 ≤ u → cycles v xs ≤ u → (c : Situation t) → Turned t valid bits c a m v xs → Within t valid bits (entries xs + u) (Enters t valid bits a) c
    unfolding Rest weight until_ended low tag
    turned_inside [] rest v u some_left o c (own_lock y) = longer t valid bits 1 (entries [] + u) (omega arith) (ready_inside t valid bits a ha c y)
    turned_inside (_ ∷ ys) rest v u some_left o c (lock y s l H z) =
        let L = H.line in
        let real = low_real t valid bits c s l L.first_there in
        let A : Actor t valid bits d y s l = record { real = real.0; within = real.1; there = L.there; mine = L.mine } in
        let e = entry_rounds t * passes t y + 0 in
        let ends = held_leaves t valid bits d y s l A (until_ended t valid bits d y) c L.first_there H.has_lock in
        let sum : suc v + length ys ≡ v + suc (length ys) = omega arith in
        let same : cycles (suc v) ys ≡ cycles v (y ∷ ys) = ap (λ n. (n / t.threshold d) * cycle) sum in
        let split = mul_add (entry_rounds t) (passes t y) (weight (passes t) ys) in
        longer t valid bits (e + (entries ys + u)) (entries (y ∷ ys) + u) (omega arith) (rest.0 c y s l (suc v) e u H ends some_left (omega arith))
    turned_inside [] rest v u some_left o c (given g) = longer t valid bits (entries [] + (u - out)) (entries [] + u) (omega arith) (given_inside [] rest v u o c g)
    turned_inside (y ∷ ys) rest v u some_left o c (given g) = longer t valid bits (entries (y ∷ ys) + (u - out)) (entries (y ∷ ys) + u) (omega arith) (given_inside (y ∷ ys) rest v u o c g)

    -- THE FIRST HAS THE LOCK
    module _ (xs : List ℕ) (rest : Rest xs) where
      abbrev Holding : (r v : ℕ) → Situation t → Type 0
      Holding r v c = (b : ℕ) × (k : ℕ) × Held t valid bits c a m r b k v xs

      holding_lasts : (r v : ℕ) (c : Situation t) (x : ℕ) (h : x < t.threads) → Holding r v c → Holding r v (next t valid bits c x h) ⊎ Turned t valid bits (next t valid bits c x h) a m v xs
      holding_lasts r v c x h (b, k, H) =
          elim (held_step t valid bits c x h a m r b k v xs H) [
            | still b' k' H' ↦ inl (b', k', H')
            | turned y ↦ inr y
          ]

      first_there : (r b k v : ℕ) (c : Situation t) → Held t valid bits c a m r b k v xs → first ((queues c).queue d) ≡ suc r
      first_there r b k v c H = let L = H.line in ap first L.shape ∙ first_cons r (xs ++ (record_at t a m ∷ L.later))

      -- the domains above are released, down to this one
      letting_inside : (r v u : ℕ) → cycles v xs ≤ u → (c : Situation t) → Letting r v xs c → Within t valid bits (entries xs + u) (Enters t valid bits a) c
      letting_inside r v u o c G =
          let H = G.held in
          let L = H.line in
          let b = G.thread in
          let k = G.index in
          let up = G.above in
          let real = low_real t valid bits c b k L.first_there in
          let A : Actor t valid bits d r b k = record { real = G.real; within = real.1; there = L.there; mine = L.mine } in
          let over = lets_over t d b G.upper (place c.words b) inner (zero_or (ancestor t b G.upper)) G.lets in
          let full = H.at_threshold (λ z. omega arith) over in
          let x = tenure_over (t.threshold d) v (length xs) cycle some full in
          longer t valid bits (out + (entries xs + (u - out))) (entries xs + u) (omega arith)
          (then t valid bits out (entries xs + (u - out))
          (meanwhile t valid bits (Letting r v xs) (λ c'. Given t valid bits c' a m v xs) (letting_step r v xs) out (lets_gone t valid bits d r b k A G.upper G.within up G.lets) G)
          (λ c' q. elim q [
            | inl (g, G') ↦ absurd (g (first_there r G'.thread G'.index v c' G'.held))
            | inr y ↦ given_inside xs rest v u o c' y
          ]))

      -- its tenure has ended
      ended_inside : (r v u : ℕ) → cycles v xs ≤ u → (c : Situation t) → Ended t valid bits d r c → Holding r v c → Within t valid bits (entries xs + u) (Enters t valid bits a) c
      ended_inside r v u o c (is_gone g) (b, k, H) = absurd (g (first_there r b k v c H))
      ended_inside r v u o c (lets_go b' j A w l up g) (b, k, H) =
          let L = H.line in
          let inv = c.queued.represents.invariant in
          let stage = lets_stage t valid bits b' A.real w l c g in
          let low_there : j < low (height t b') ((queues c).stage b') = rw stage (omega (arith, letting_go_low (height t b') w)) in
          let first_b = L.first_there in
          let same = unique t tree_laws (queues c) inv b' b j k (omega (arith, low_acts (height t b') ((queues c).stage b'))) (omega (arith, low_acts (height t b) ((queues c).stage b))) (A.mine ∙ sym L.mine) in
          let j_is = same.1 in
          letting_inside r v u o c
          (record { thread = b; index = k; upper = w; held = H; above = omega arith; within = rw (← same.0) l; real = rw (← same.0) A.real; lets = rw (← same.0) g })

      held_claim : HeldClaim xs
      held_claim c r b k v e u H ends some_left o =
          then t valid bits e (entries xs + u)
          (meanwhile t valid bits (Holding r v) (λ c'. Turned t valid bits c' a m v xs) (holding_lasts r v) e ends (b, k, H))
          (λ c' q. elim q [
            | inl (y, h) ↦ ended_inside r v u o c' y h
            | inr y ↦ turned_inside xs rest v u some_left o c' y
          ])

      -- THE FIRST IS ACQUIRING
      module _ (r b k : ℕ) (hb : b < t.threads) (A : Actor t valid bits d r b k) where
        -- until it has the lock
        data Way (c : Situation t) : Type 0 where
          up : Line t valid bits c a m r b k xs → tag ((queues c).stage b) ≤ 2 → Way c
          there : Holding r 1 c → Way c

        up_lasts : (c : Situation t) (x : ℕ) (h : x < t.threads) → Line t valid bits c a m r b k xs → tag ((queues c).stage b) ≤ 2 → Way (next t valid bits c x h)
        unfolding tag low
        up_lasts c x h L w =
            let c' = next t valid bits c x h in
            let first_b = L.first_there in
            let moves = steps_on t (next_change t valid bits c x h) b (λ z. let y : low (height t b) ((queues c).stage b) ≡ 0 = ap (low (height t b)) z in omega arith) in
            let lasts = way_lasts (height t b) k A.within moves w first_b in
            let L' = line_kept t valid bits c x h a m r b k xs L b k lasts.0 refl refl in
            let one : (queues c).tally r ≡ 1 = rw L.mine at (c.ones b k w first_b) in
            let count_there = same_tally t valid bits c x h a m r b k xs L lasts.0 in
            let few = lasts.1 in
            less_or (tag ((queues c').stage b)) 3 _
            (λ y. up L' (omega arith))
            (λ y. there (
              b,
              k,
              record {
                line = L';
                has_lock = omega arith;
                count_within = omega arith;
                at_threshold = λ n o. absurd (not_over t valid bits b hb c' d (place c'.words b) refl (omega arith) o);
              },
            ))

        way_on : (c : Situation t) (x : ℕ) (h : x < t.threads) → Way c → Way (next t valid bits c x h) ⊎ Turned t valid bits (next t valid bits c x h) a m 1 xs
        way_on c x h (up L w) = inl (up_lasts c x h L w)
        way_on c x h (there y) = elim (holding_lasts r 1 c x h y) [ inl z ↦ inl (there z) | inr z ↦ inr z ]

        -- it is Inside
        entered_inside : (c : Situation t) → Enters t valid bits b c → Way c → 1 ≤ passes t r → Within t valid bits (entries (r ∷ xs) + cycles 1 xs) (Enters t valid bits a) c
        unfolding Says tag weight until_ended
        entered_inside c e (up L w) p = absurd (let o = ap tag (says t valid c b hb Inside e) in omega arith)
        entered_inside c e (there (b', k', H)) p =
            let q = until_ended t valid bits d r in
            let left = entry_rounds t - 1 + less_rounds t valid bits d r b k A q in
            let u = cycles 1 xs + 1 in
            let split = mul_add (entry_rounds t) (passes t r) (weight (passes t) xs) in
            let less = inside_less t valid bits d r b k A q p in
            longer t valid bits (left + (entries xs + u)) (entries (r ∷ xs) + cycles 1 xs) (omega arith)
            (held_claim c r b' k' 1 left u H (inside_leaves t valid bits d r b k A q c e) (omega arith) (omega arith))

        some_passes : (c : Situation t) → Line t valid bits c a m r b k xs → tag ((queues c).stage b) ≤ 2 → 1 ≤ passes t r
        some_passes c L w =
            let first_b = L.first_there in
            let high = left_within t valid (queues c) c.effectively b k (omega (arith, low_acts (height t b) ((queues c).stage b))) in
            let high' : left_there t valid (queues c) b k ≤ passes t r = rw L.mine at high in
            omega (arith, left_pending_some t valid (queues c) b k, way_pending ((queues c).stage b) (omega arith))

        climb_inside : (c : Situation t) → Line t valid bits c a m r b k xs → tag ((queues c).stage b) ≤ 2 → Climbs t valid bits d r b k A c →
            Within t valid bits (above + (entries (r ∷ xs) + cycles 1 xs)) (Enters t valid bits a) c
        unfolding weight
        climb_inside c L w climbs =
            let p = some_passes c L w in
            let tall = same_height t tree_laws b k a m hb ha A.within within L.there in
            let split = mul_add (entry_rounds t) (passes t r) (weight (passes t) xs) in
            let least = mul-one (entry_rounds t) (passes t r) (let few = checks_few t valid a ha in omega arith) p in
            then t valid bits above (entries (r ∷ xs) + cycles 1 xs)
            (meanwhile t valid bits Way (λ c'. Turned t valid bits c' a m 1 xs) way_on above (climbing_inside t valid bits d r b k A f nearer_root (omega arith) c climbs) (up L w))
            (λ c' q. elim q [
              | inl (e, y) ↦ entered_inside c' e y p
              | inr y ↦ longer t valid bits (entries xs + (cycles 1 xs + 1)) (entries (r ∷ xs) + cycles 1 xs) (omega arith) (turned_inside xs rest 1 (cycles 1 xs + 1) (omega arith) (omega arith) c' y)
            ])

      climb_claim : ClimbClaim xs
      climb_claim c r b k hb A L w climbs = climb_inside r b k hb A c L w climbs

    -- ALL CLAIMS, by the number of members between
    served : (xs : List ℕ) → Rest xs
    unfolding Rest
    served [] = tt
    served (y ∷ ys) = (held_claim ys (served ys), climb_claim ys (served ys))

    pub held_served : (xs : List ℕ) → HeldClaim xs
    held_served xs = held_claim xs (served xs)

    pub climb_served : (xs : List ℕ) → ClimbClaim xs
    climb_served xs = climb_claim xs (served xs)
