-- From Idle to Inside, from the root down: how long a thread stands after others, and so how long an acquisition takes.
use mathlib.Core.Path.{◌≡◌, refl, ap, ◌∙◌}
use mathlib.Core.Bool.{true, false≢true}
use mathlib.Core.List.{List, ◌∷◌}
use mathlib.Core.Logic.{◌⊎◌, inl, inr}
use Prim.Native.Nat.{ℕ, zero, suc, ◌+◌, ◌*◌, ◌-◌, ◌/◌, ◌≤◌, ◌<◌}
use native.Mathlib.Omega.{arith}
use lib.ListN.{length}
use Rattle.model.specs.declared.Place.{Place}
use Rattle.model.specs.declared.Place.TheVariants.{Idle, Prep, Swap, Link, Wait, Inside, Check, Help, Cas, Linger, Grant, Draw, Watch, Raise, Invalid}
use Rattle.model.specs.Trees.{Tree, level}
use Rattle.model.specs.States.{place}
use Rattle.model.specs.Laws.{SixteenBit}
use Rattle.model.proofs.Lists.{less_or, first, count_rest}
use Rattle.model.proofs.Trees.Index.{ancestor, height, record_at}
use Rattle.model.proofs.Trees.Accepted.{Accepted}
use Rattle.model.proofs.Trees.Paths.{ancestor_real, ancestor_home}
use Rattle.model.proofs.Trees.Records.{member_at}
use Rattle.claims.proofs.Queues.Paths.{Laws, laws}
use Rattle.claims.proofs.Queues.Meeting.{same_height}
use Rattle.claims.proofs.Queues.Moves.{queued, ready}
use Rattle.claims.proofs.Queues.Unblocked.{holder}
use Rattle.chain.proofs.Reached.Orders.{position}
use Rattle.bounds.specs.StarvationFreedom.Bounds.{members, passes, others_passes, entry_rounds, tenure_length, tenures_for, link_rounds, standing_rounds, acquire_rounds, acquire_bound}
use Rattle.bounds.specs.StarvationFreedom.Laws.{is_acquiring}
use Rattle.bounds.proofs.starvation_freedom.Situations.{Situation, queues, next, next_change}
use Rattle.bounds.proofs.starvation_freedom.Within.{Within, then, longer, at_once, meanwhile}
use Rattle.bounds.proofs.starvation_freedom.Turns.{Acquires, by_prep, by_draw, FromSwap, entered, alone, to_link, FromIdle, to_swap, drawn_inside, drawn_watch, prep_turn, draw_turn, swap_turn, idle_turn}
use Rattle.bounds.proofs.starvation_freedom.Says.{Says, says}
use Rattle.bounds.proofs.starvation_freedom.Releasing.{place_round}
use Rattle.bounds.proofs.starvation_freedom.Queues.{tag, queue_change}
use Rattle.bounds.proofs.starvation_freedom.Tenures.{Actor, until_ended}
use Rattle.bounds.proofs.starvation_freedom.Positions.{queue_short, some_member, position_within, after_first}
use Rattle.bounds.proofs.starvation_freedom.Quotients as quotients
use Rattle.bounds.proofs.starvation_freedom.Quotients.{length_of, tenures_singly, a_link, tenures_enough, tenures_over, standing_enough, standing_above}
use Rattle.bounds.proofs.starvation_freedom.Line.{Line, Lined}
use Rattle.bounds.proofs.starvation_freedom.Lines.{low_real, weight_before, short_before}
use Rattle.bounds.proofs.starvation_freedom.Weights.{weight}
use Rattle.bounds.proofs.starvation_freedom.Arithmetic.{one_tenure}
use Rattle.bounds.proofs.starvation_freedom.Held.{Held}
use Rattle.bounds.proofs.starvation_freedom.Linking.{LinkedUp, all_up, has_lock, has_domain, has_entered, link_round, standing}
use Rattle.bounds.proofs.starvation_freedom.Served.{held_served, climb_served}
use Rattle.bounds.proofs.starvation_freedom.Ahead.{ahead, ahead_first, nearer, ahead_others}
use Rattle.bounds.proofs.starvation_freedom.Bounds.{mul_add, above_rounds, first_rounds, acquire_at, above_some, fewer, above_next}
use Rattle.bounds.proofs.starvation_freedom.Waiting.{Woken, woken_round, Stood, stands_on, is_ready, is_woken, is_inside, waits, links, watches, stands_step}
use Rattle.bounds.proofs.starvation_freedom.First.{Enters, Climbing, prepares, swaps, stands, goes_on, Acquired, climbs, held_leaves, first_leaves, ready_inside}

module _ (t : Tree) (valid : Accepted t) (bits : SixteenBit t) where
  tree_laws : Laws t
  tree_laws = laws t valid

  module _ (f : ℕ) (nearer_root : (g : ℕ) → g < f → Acquired t valid bits g) where
    -- A THREAD THAT STANDS in a domain at this distance from the root
    module _ (a m : ℕ) (ha : a < t.threads) (far : m + f ≡ height t a) where
      abbrev d : ℕ
      d = ancestor t a m

      abbrev mine : ℕ
      mine = record_at t a m

      -- its standing has ended
      data Freed (c : Situation t) : Type 0 where
        by_lock : (queues c).stage a ≡ ready → Freed c
        by_domain : Woken t valid bits a ha m c → Freed c
        by_entry : Enters t valid bits a c → Freed c

      -- how many members are ahead of it in the queue, and their passes
      abbrev place_of : Situation t → ℕ
      place_of c = position mine ((queues c).queue d)

      abbrev passes_of : Situation t → ℕ
      passes_of c = ahead (passes t) mine ((queues c).queue d)

      -- while r is first, a's distance does not grow; afterwards a is nearer, and the passes ahead are fewer by those of r
      abbrev StandsAfter : (r n w : ℕ) → Situation t → Type 0
      StandsAfter r n w c =
          ((queues c).stage a ≡ queued m)
          × (((first ((queues c).queue d) ≡ suc r) × (place_of c ≤ suc n) × (passes_of c ≤ passes t r + w)) ⊎ ((place_of c ≤ n) × (passes_of c ≤ w)))

      after_lasts : (r n w : ℕ) (c : Situation t) (x : ℕ) (h : x < t.threads) → StandsAfter r n w c → StandsAfter r n w (next t valid bits c x h) ⊎ Freed (next t valid bits c x h)
      after_lasts r n w c x h (e, q) =
          let c' = next t valid bits c x h in
          let once = c.queued.represents.invariant.once d mine in
          let ch = queue_change t d (next_change t valid bits c x h) in
          let b = after_first mine ((queues c).queue d) (standing t valid bits a m ha (omega arith) c e) once in
          let near = nearer (passes t) d mine b.0 ch.0 ((queues c).queue d) ((queues c').queue d) ch.1 (standing t valid bits a m ha (omega arith) c e) once b.1 in
          elim (stands_step t valid bits a ha m (omega arith) c e x h) [
            | stands_on e' ↦ inl (
              e',
              elim q [
                | inl (o, p, y) ↦ elim near [
                  | inl (v, u, z) ↦ inl (v ∙ o, omega arith, omega arith)
                  | inr (u, z) ↦ let same = ap (passes t) (let k = b.1 in let s : b.0 ≡ r = omega arith in s) in inr (omega arith, omega arith)
                ]
                | inr (p, y) ↦ elim near [ inl (v, u, z) ↦ inr (omega arith, omega arith) | inr (u, z) ↦ inr (omega arith, omega arith) ]
              ],
            )
            | is_ready y ↦ inr (by_lock y)
            | is_woken y ↦ inr (by_domain y)
            | is_inside y ↦ inr (by_entry y)
          ]

      -- the rounds for this many members ahead of it, with this many passes
      abbrev before_rounds : (n w : ℕ) → ℕ
      before_rounds n w = n * (above_rounds t d + 5 * level t d) + entry_rounds t * w

      tenure_and_rest : (r n w : ℕ) → first_rounds t d r + before_rounds n w ≡ before_rounds (suc n) (passes t r + w)
      unfolding first_rounds
      tenure_and_rest r n w = let x = mul_add (entry_rounds t) (passes t r) w in omega arith

      -- each member ahead is first for the rounds of its tenure
      stands_rounds : (n w : ℕ) (c : Situation t) → (queues c).stage a ≡ queued m → place_of c ≤ n → passes_of c ≤ w → Within t valid bits (before_rounds n w) Freed c
      stands_rounds zero w c e p y =
          absurd (let b = after_first mine ((queues c).queue d) (standing t valid bits a m ha (omega arith) c e) (c.queued.represents.invariant.once d mine) in let o = b.2 in omega arith)
      stands_rounds (suc n) w c e p y =
          let inv = c.queued.represents.invariant in
          let b = after_first mine ((queues c).queue d) (standing t valid bits a m ha (omega arith) c e) (inv.once d mine) in
          let r = b.0 in
          let enough = ahead_first (passes t) mine r ((queues c).queue d) (standing t valid bits a m ha (omega arith) c e) (inv.once d mine) b.1 in
          let w' = w - passes t r in
          let o = holder t tree_laws (queues c) inv d r b.1 in
          let A : Actor t valid bits d r o.thread o.index = record { real = o.real; within = o.within; there = o.there; mine = o.mine } in
          let tall = same_height t tree_laws o.thread o.index a m o.real ha o.within (omega arith) o.there in
          let leaves = first_leaves t valid bits d r o.thread o.index A f nearer_root (omega arith) c o.first_at in
          let whole : passes t r + w' ≡ w = omega arith in
          let z : first_rounds t d r + before_rounds n w' ≡ before_rounds (suc n) w = tenure_and_rest r n w' ∙ ap (before_rounds (suc n)) whole in
          rw (← z) (then t valid bits (first_rounds t d r) (before_rounds n w')
          (meanwhile t valid bits (StandsAfter r n w') Freed (after_lasts r n w') (first_rounds t d r) leaves (e, inl (b.1, p, omega arith)))
          (λ c' q. elim q [
            | inl (gone, (e', near)) ↦ elim near [ inl (u, v, y') ↦ absurd (gone u) | inr (v, y') ↦ stands_rounds n w' c' e' v y' ]
            | inr v ↦ at_once t valid bits (before_rounds n w') v
          ]))

      -- AFTER ITS STANDING
      next_inside : (c : Situation t) → m < height t a → Climbing t valid bits a (suc m) ha c → Within t valid bits (above_rounds t d) (Enters t valid bits a) c
      next_inside c b x =
          rw (above_next t valid a ha m b) (nearer_root (height t a - suc m) (omega arith) a (suc m) ha (omega arith) c x)

      some_above : 1 ≤ above_rounds t d
      some_above = above_some t valid d (ancestor_real t valid a ha m)

      freed_inside : (c : Situation t) → Freed c → Within t valid bits (above_rounds t d) (Enters t valid bits a) c
      freed_inside c (by_lock y) = longer t valid bits 1 (above_rounds t d) some_above (ready_inside t valid bits a ha c y)
      freed_inside c (by_domain y) = next_inside c y.below (goes_on m refl y)
      freed_inside c (by_entry y) = at_once t valid bits (above_rounds t d) y

      -- the rounds after Swap
      abbrev rest_rounds : ℕ
      rest_rounds = standing_rounds t d mine (above_rounds t d)

      in_tree : d < t.domains
      in_tree = ancestor_real t valid a ha m

      some : 1 ≤ members t d
      some = some_member t valid d mine (member_at t valid a ha m (omega arith))

      above_there : above_rounds t d ≤ rest_rounds
      above_there = standing_above t valid d in_tree mine (above_rounds t d) some

      -- if nothing is passed on, each member ahead acquires the domains above
      singly_inside : tenure_length t d ≡ 1 → (c : Situation t) → (queues c).stage a ≡ queued m → Within t valid bits rest_rounds (Enters t valid bits a) c
      unfolding standing_rounds
      singly_inside z c e =
          let inv = c.queued.represents.invariant in
          let s = standing t valid bits a m ha (omega arith) c e in
          let p = position_within mine ((queues c).queue d) (omega (arith, count_rest mine ((queues c).queue d))) in
          let w = others_passes t d mine in
          let n = members t d - 1 in
          let acquired = tenures_singly t valid d in_tree z (members t d) in
          let released = tenures_singly t valid d in_tree z (members t d - 1) in
          let least = standing_enough t valid d in_tree mine (above_rounds t d) (members t d) n w (omega arith) (omega arith) (omega arith) in
          let same = one_more n (members t d) (above_rounds t d) (5 * level t d) (omega (arith, some)) in
          longer t valid bits (before_rounds n w + above_rounds t d) rest_rounds (omega arith)
          (then t valid bits (before_rounds n w) (above_rounds t d)
          (stands_rounds n w c e (omega (arith, queue_short t valid (queues c) inv d)) (ahead_others t valid (queues c) inv d mine)) freed_inside)
        where
          one_more : (n k a l : ℕ) → k ≡ suc n → k * a + n * l ≡ n * (a + l) + a
          one_more n k a l e = rw e (omega arith)

      -- else every member ahead is linked after one round, and then the lock is passed on
      module _ (long : 1 < tenure_length t d) (inner : 0 < d) (threshold_is : tenure_length t d ≡ t.threshold d) where
        one_link_more : link_rounds t d ≡ 1
        one_link_more = a_link t valid d in_tree long

        above_less : above_rounds t d ≤ rest_rounds - 1
        above_less =
            let one = tenures_enough t valid d in_tree 0 (members t d) some in
            let x = standing_enough t valid d in_tree mine (above_rounds t d) 1 0 0 (omega arith) (omega arith) (omega arith) in
            omega (arith, one_link_more)

        abbrev thr : ℕ
        thr = t.threshold d

        -- the rounds are enough for this many acquisitions, releases and passes
        fits : (p q w : ℕ) → p ≤ tenures_for t d (members t d) → q ≤ tenures_for t d (members t d - 1) → w ≤ others_passes t d mine →
            p * above_rounds t d + q * (5 * level t d) + entry_rounds t * w ≤ rest_rounds - 1
        fits p q w x y z = let u = standing_enough t valid d in_tree mine (above_rounds t d) p q w x y z in omega (arith, one_link_more)

        module _ (c : Situation t) (l : Lined t valid bits c (λ _. Unit {0}) a m) where
          abbrev r : ℕ
          r = l.head

          abbrev xs : List ℕ
          xs = l.between

          L : Line t valid bits c a m l.head l.thread l.index l.between
          L = l.line

          A : Actor t valid bits d l.head l.thread l.index
          A = record { real = l.real; within = (low_real t valid bits c l.thread l.index L.first_there).1; there = L.there; mine = L.mine }

          few : weight (passes t) (r ∷ xs) ≤ others_passes t d mine
          few = weight_before t valid bits c a m r l.thread l.index xs L

          short : 2 + length xs ≤ members t d
          short = short_before t valid bits c a m r l.thread l.index xs L

          -- the first is acquiring
          climb_lined : tag ((queues c).stage l.thread) ≤ 2 → Within t valid bits (rest_rounds - 1) (Enters t valid bits a) c
          climb_lined w =
              let q = (1 + length xs) / thr in
              let more : suc q ≤ tenures_for t d (members t d) = rw threshold_is at (tenures_enough t valid d in_tree (1 + length xs) (members t d) (omega (arith, short))) in
              let less : q ≤ tenures_for t d (members t d - 1) = rw threshold_is at (tenures_over t valid d in_tree (1 + length xs) (members t d - 1) (omega (arith, short))) in
              let enough = fits (suc q) q (weight (passes t) (r ∷ xs)) more less few in
              let split = mul_add q (5 * level t d) (above_rounds t d) in
              longer t valid bits (above_rounds t d + (entry_rounds t * weight (passes t) (r ∷ xs) + q * (5 * level t d + above_rounds t d))) (rest_rounds - 1) (omega arith)
              (climb_served t valid bits a m inner ha (omega arith) f nearer_root far xs c r l.thread l.index l.real A L w (climbs t valid bits d r l.thread l.index A c L.first_there w))

          -- the first has the lock
          held_lined : 3 ≤ tag ((queues c).stage l.thread) → Within t valid bits (rest_rounds - 1) (Enters t valid bits a) c
          unfolding until_ended weight
          held_lined w =
              let inv = c.queued.represents.invariant in
              let q = length xs / thr in
              let u = ((thr + length xs) / thr) * (5 * level t d + above_rounds t d) in
              let e = entry_rounds t * passes t r + 0 in
              let count_there : (queues c).tally r ≤ thr = (inv.counts d r (λ z. omega arith) (rw (L.there, L.mine) at ((inv.threads l.thread).heads l.index L.first_there))).1 in
              let H : Held t valid bits c a m r l.thread l.index thr xs = record { line = L; has_lock = w; count_within = count_there; at_threshold = λ n o. omega arith } in
              let one : (thr + length xs) / thr ≡ suc q = one_tenure thr (length xs) (omega arith) in
              let whole : u ≡ suc q * (5 * level t d + above_rounds t d) = ap (λ n. n * (5 * level t d + above_rounds t d)) one in
              let more : suc q ≤ tenures_for t d (members t d) = rw threshold_is at (tenures_enough t valid d in_tree (length xs) (members t d) (omega (arith, short))) in
              let less : suc q ≤ tenures_for t d (members t d - 1) = rw threshold_is at (tenures_enough t valid d in_tree (length xs) (members t d - 1) (omega (arith, short))) in
              let enough = fits (suc q) (suc q) (weight (passes t) (r ∷ xs)) more less few in
              let split = mul_add (suc q) (5 * level t d) (above_rounds t d) in
              let apart = mul_add (entry_rounds t) (passes t r) (weight (passes t) xs) in
              longer t valid bits (e + (entry_rounds t * weight (passes t) xs + u)) (rest_rounds - 1) (omega arith)
              (held_served t valid bits a m inner ha (omega arith) f nearer_root far xs c r l.thread l.index thr e u H
              (held_leaves t valid bits d r l.thread l.index A (until_ended t valid bits d r) c L.first_there w) (omega (arith, some_above)) (omega arith))

          lined_inside : Within t valid bits (rest_rounds - 1) (Enters t valid bits a) c
          lined_inside = less_or (tag ((queues c).stage l.thread)) 3 _ (λ w. climb_lined (omega arith)) (λ w. held_lined (omega arith))

        linked_inside : (c : Situation t) → LinkedUp t valid bits a m ha (omega arith) inner c → Within t valid bits (rest_rounds - 1) (Enters t valid bits a) c
        linked_inside c (all_up l) = lined_inside c l
        linked_inside c (has_lock y) = longer t valid bits (above_rounds t d) (rest_rounds - 1) above_less (freed_inside c (by_lock y))
        linked_inside c (has_domain y) = longer t valid bits (above_rounds t d) (rest_rounds - 1) above_less (freed_inside c (by_domain y))
        linked_inside c (has_entered y) = at_once t valid bits (rest_rounds - 1) y

        longer_inside : (c : Situation t) → (queues c).stage a ≡ queued m → Within t valid bits rest_rounds (Enters t valid bits a) c
        longer_inside c e =
            longer t valid bits (1 + (rest_rounds - 1)) rest_rounds (omega (arith, above_there, some_above))
            (then t valid bits 1 (rest_rounds - 1) (link_round t valid bits a m ha (omega arith) inner c e) linked_inside)

      stands_inside : (c : Situation t) → (queues c).stage a ≡ queued m → Within t valid bits rest_rounds (Enters t valid bits a) c
      stands_inside c e =
          elim (length_of t valid d in_tree) [
            | quotients.singly z ↦ singly_inside z c e
            | quotients.longer l p k z ↦ longer_inside l p z c e
          ]

      stood_inside : (c : Situation t) → Stood t valid bits a ha m c → Within t valid bits rest_rounds (Enters t valid bits a) c
      stood_inside c (stands_on e) = stands_inside c e
      stood_inside c (is_ready e) = longer t valid bits (above_rounds t d) rest_rounds above_there (freed_inside c (by_lock e))
      stood_inside c (is_woken w) = longer t valid bits (above_rounds t d) rest_rounds above_there (freed_inside c (by_domain w))
      stood_inside c (is_inside e) = at_once t valid bits rest_rounds e

      -- SWAP, PREP AND DRAW
      swapped_inside : (c : Situation t) → FromSwap t a m (place c.words a) → Within t valid bits rest_rounds (Enters t valid bits a) c
      swapped_inside c (entered e) = at_once t valid bits rest_rounds e
      swapped_inside c (alone b x) = longer t valid bits (above_rounds t d) rest_rounds above_there (next_inside c b (prepares x))
      swapped_inside c (to_link q e) = stood_inside c (links t valid bits a ha m (omega arith) c q e)

      pub swap_inside : (c : Situation t) → place c.words a ≡ Swap d → Within t valid bits (1 + rest_rounds) (Enters t valid bits a) c
      swap_inside c e =
          then t valid bits 1 rest_rounds (place_round t valid bits a ha (Swap d) (λ x. FromSwap t a m (place x.words a)) (λ x h y. swap_turn t valid bits x a h m (omega arith) y) e) swapped_inside

      pub watch_inside : (c : Situation t) → m ≡ height t a → place c.words a ≡ Watch → Within t valid bits rest_rounds (Enters t valid bits a) c
      watch_inside c z e = stood_inside c (watches t valid bits a ha m (omega arith) c z e)

      prepares_inside : (c : Situation t) → Acquires t a m (place c.words a) → Within t valid bits (2 + rest_rounds) (Enters t valid bits a) c
      prepares_inside c (by_prep e) =
          let z : 1 + (1 + rest_rounds) ≡ 2 + rest_rounds = omega arith in
          rw (← z) (then t valid bits 1 (1 + rest_rounds) (place_round t valid bits a ha (Prep d) (λ x. place x.words a ≡ Swap d) (λ x h y. prep_turn t valid bits x a h d y) e) swap_inside)
      prepares_inside c (by_draw e z r) =
          longer t valid bits (1 + rest_rounds) (2 + rest_rounds) (omega arith)
          (then t valid bits 1 rest_rounds (place_round t valid bits a ha Draw (λ x. Enters t valid bits a x ⊎ (place x.words a ≡ Watch)) (λ x h y. draw_turn t valid bits x a h y) e)
          (λ x q. elim q [ inl y ↦ at_once t valid bits rest_rounds y | inr y ↦ watch_inside x z y ]))

      pub acquire_is : acquire_rounds t d mine ≡ 3 + rest_rounds
      acquire_is = let z = acquire_at t valid d mine (ancestor_real t valid a ha m) in omega arith

    climbing_inside : Acquired t valid bits f
    climbing_inside a m ha far c (prepares x) =
        longer t valid bits (2 + rest_rounds a m ha far) (acquire_rounds t (ancestor t a m) (record_at t a m)) (let z = acquire_is a m ha far in omega arith) (prepares_inside a m ha far c x)
    climbing_inside a m ha far c (swaps x) =
        longer t valid bits (1 + rest_rounds a m ha far) (acquire_rounds t (ancestor t a m) (record_at t a m)) (let z = acquire_is a m ha far in omega arith) (swap_inside a m ha far c x)
    climbing_inside a m ha far c (stands x) =
        longer t valid bits (rest_rounds a m ha far) (acquire_rounds t (ancestor t a m) (record_at t a m)) (let z = acquire_is a m ha far in omega arith) (stands_inside a m ha far c x)
    climbing_inside a m ha far c (goes_on k y w) =
        longer t valid bits (1 + (2 + rest_rounds a m ha far)) (acquire_rounds t (ancestor t a m) (record_at t a m)) (let z = acquire_is a m ha far in omega arith)
        (then t valid bits 1 (2 + rest_rounds a m ha far) (woken_round t valid bits a ha k w)
        (λ x q. prepares_inside a m ha far x (let q' : Acquires t a m (place x.words a) = rw (← y) at q in q')))

  -- from the root down
  pub acquired : (f g : ℕ) → g < f → Acquired t valid bits g
  acquired zero g b = absurd (omega arith)
  acquired (suc f) g b =
      less_or g f (Acquired t valid bits g)
      (λ h. acquired f g h)
      (λ h. let z : g ≡ f = omega arith in rw z (climbing_inside f (acquired f)))

  -- FROM EVERY PLACE of an acquisition, in the rounds for the home
  module _ (a : ℕ) (ha : a < t.threads) where
    abbrev home_rounds : ℕ
    home_rounds = acquire_rounds t (ancestor t a 0) (record_at t a 0)

    from_climbing : (c : Situation t) (m : ℕ) → m ≤ height t a → Climbing t valid bits a m ha c → Within t valid bits home_rounds (Enters t valid bits a) c
    from_climbing c m l x =
        let z : 0 + m ≡ m = omega arith in
        let less : acquire_rounds t (ancestor t a m) (record_at t a m) ≤ home_rounds = rw z at (fewer t valid a ha m 0 (omega arith)) in
        longer t valid bits (acquire_rounds t (ancestor t a m) (record_at t a m)) home_rounds less (acquired (suc (height t a - m)) (height t a - m) (omega arith) a m ha (omega arith) c x)

    -- the distance of the home from the root
    abbrev tall : ℕ
    tall = height t a

    enough : 3 + rest_rounds tall (acquired tall) a 0 ha (omega arith) ≤ home_rounds
    enough = let z = acquire_is tall (acquired tall) a 0 ha (omega arith) in omega arith

    abbrev home_rest : ℕ
    home_rest = rest_rounds tall (acquired tall) a 0 ha (omega arith)

    from_ready : (c : Situation t) → (queues c).stage a ≡ ready → Within t valid bits home_rounds (Enters t valid bits a) c
    from_ready c e = longer t valid bits 1 home_rounds (let z = enough in omega arith) (ready_inside t valid bits a ha c e)

    idle_from : (c : Situation t) → FromIdle t a (place c.words a) → Within t valid bits (1 + home_rest) (Enters t valid bits a) c
    idle_from c (to_swap e) = swap_inside tall (acquired tall) a 0 ha (omega arith) c e
    idle_from c (drawn_inside e) = at_once t valid bits (1 + home_rest) e
    idle_from c (drawn_watch e z) = longer t valid bits home_rest (1 + home_rest) (omega arith) (watch_inside tall (acquired tall) a 0 ha (omega arith) c z e)

    from_idle : (c : Situation t) → place c.words a ≡ Idle → Within t valid bits home_rounds (Enters t valid bits a) c
    from_idle c e =
        longer t valid bits (1 + (1 + home_rest)) home_rounds (let z = enough in omega arith)
        (then t valid bits 1 (1 + home_rest) (place_round t valid bits a ha Idle (λ x. FromIdle t a (place x.words a)) (λ x h y. idle_turn t valid bits x a h y) e) idle_from)

    from_wait : (c : Situation t) (k : ℕ) → k ≤ height t a → Stood t valid bits a ha k c → Within t valid bits home_rounds (Enters t valid bits a) c
    from_wait c k l (stands_on y) = from_climbing c k l (stands y)
    from_wait c k l (is_ready y) = from_ready c y
    from_wait c k l (is_woken w) = from_climbing c (suc k) w.below (goes_on k refl w)
    from_wait c k l (is_inside y) = at_once t valid bits home_rounds y

    inside_by : (c : Situation t) (p : Place) → place c.words a ≡ p → is_acquiring p ≡ true → Within t valid bits home_rounds (Enters t valid bits a) c
    unfolding is_acquiring Says
    inside_by c Idle e r = from_idle c e
    inside_by c (Prep l) e r = let y = says t valid c a ha (Prep l) e in from_climbing c y.0 y.1.1 (prepares (by_prep (e ∙ ap Prep y.1.0)))
    inside_by c (Swap l) e r = let y = says t valid c a ha (Swap l) e in from_climbing c y.0 y.1.1 (swaps (e ∙ ap Swap y.1.0))
    inside_by c (Link l q) e r = let y = says t valid c a ha (Link l q) e in from_climbing c y.0 y.1.1 (stands y.2)
    inside_by c (Wait l) e r =
        let y = says t valid c a ha (Wait l) e in
        let p : place c.words a ≡ Wait (ancestor t a y.0) = e ∙ ap Wait y.1.0 in
        from_wait c y.0 y.1.1 (waits t valid bits a ha y.0 y.1.1 c p)
    inside_by c Draw e r = from_climbing c tall (omega arith) (prepares (by_draw e refl (says t valid c a ha Draw e).1))
    inside_by c Watch e r = elim (says t valid c a ha Watch e).0 [ inl x ↦ from_climbing c tall (omega arith) (stands x) | inr x ↦ from_ready c x ]
    inside_by c Inside e r = absurd (false≢true r)
    inside_by c (Check l) e r = absurd (false≢true r)
    inside_by c (Help l) e r = absurd (false≢true r)
    inside_by c (Cas l) e r = absurd (false≢true r)
    inside_by c (Linger l) e r = absurd (false≢true r)
    inside_by c (Grant l m v) e r = absurd (false≢true r)
    inside_by c Raise e r = absurd (false≢true r)
    inside_by c Invalid e r = absurd (false≢true r)

    -- B rounds are enough
    pub inside_within : (c : Situation t) → is_acquiring (place c.words a) ≡ true → Within t valid bits (acquire_bound t a) (Enters t valid bits a) c
    unfolding acquire_bound record_at
    inside_within c r = rw (← ancestor_home t a) (inside_by c _ refl r)
