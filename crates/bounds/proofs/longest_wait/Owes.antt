-- How many entries in line are still possible for a thread, at most: by the members ahead of it in its queue, by the first there, and by what is still possible for the first in turn.
use mathlib.Core.Path.{◌≡◌, refl, ap, ◌∙◌}
use mathlib.Core.List.{List, ◌∷◌}
use mathlib.Core.Logic.{inl, inr}
use Prim.Native.Nat.{ℕ, ◌+◌, ◌*◌, ◌/◌, ◌≤◌, ◌<◌}
use native.Mathlib.Omega.{arith}
use lib.ListN.{length}
use Rattle.model.specs.Trees.{Tree}
use Rattle.model.specs.Laws.{SixteenBit}
use Rattle.model.proofs.Lists.{same_or}
use Rattle.model.proofs.Trees.Index.{ancestor, height, record_at}
use Rattle.model.proofs.Trees.Accepted.{Accepted}
use Rattle.model.proofs.Trees.Paths.{ancestor_real, ancestor_inner}
use Rattle.claims.proofs.Queues.Moves.{climb, queued, ready, State}
use Rattle.claims.proofs.Queues.Invariant.{low_acts, Inv}
use Rattle.bounds.proofs.starvation_freedom.Situations as situations
use Rattle.bounds.proofs.starvation_freedom.Situations.{Situation, queues, next_change}
use Rattle.bounds.proofs.starvation_freedom.Queues.{tag}
use Rattle.bounds.specs.LongestWait.Bounds.{effective, passes, others_passes, tenures_for_all, member_wait}
use Rattle.bounds.proofs.starvation_freedom.Arithmetic.{one_tenure}
use Rattle.bounds.proofs.starvation_freedom.Weights.{weight}
use Rattle.bounds.proofs.starvation_freedom.Effective.{effective_keeps, left_there, left_within}
use Rattle.bounds.proofs.longest_wait.Waits.{above_wait, above_root, wait_at, tenures_enough, above_enough}
use Rattle.bounds.proofs.starvation_freedom.Stages.{Ones, ones_step, on_way}
use Rattle.bounds.proofs.starvation_freedom.Line.{Line}
use Rattle.bounds.proofs.starvation_freedom.Held.{Held}
use Rattle.bounds.proofs.starvation_freedom.Lines.{low_real, stands_real, climbs_real, weight_before, short_before}

module _ (t : Tree) (valid : Accepted t) (bits : SixteenBit t) where
  -- what also holds along a run: counts are at most the effective thresholds, and 1 while a thread is acquiring
  pub record Sound (c : Situation t) : Type 0 where
    pub within : Inv (effective t) (queues c)
    pub ones : Ones t (queues c)

  pub sound_next : (c : Situation t) (x : ℕ) (h : x < t.threads) → Sound c → Sound (situations.next t valid bits c x h)
  sound_next c x h s =
      let inv = c.queued.represents.invariant in
      let ch = next_change t valid bits c x h in
      record { within = effective_keeps t valid inv ch s.within; ones = ones_step t valid inv ch s.ones }

  -- W of a thread's record at an index
  abbrev pub W : (thread index : ℕ) → ℕ
  W i j = member_wait t (ancestor t i j) (record_at t i j)

  -- the tenures that the count of the first and the members ahead need, times W of the domain above
  abbrev pub tenures_left : (domain count before : ℕ) → ℕ
  tenures_left d v n = ((v + n) / t.threshold d) * above_wait t d

  module _ (c : Situation t) where
    abbrev g : State
    g = queues c

    abbrev pub rest_there : (b k : ℕ) → ℕ
    rest_there b k = left_there t valid g b k

    abbrev pub held_left : (i j b k v : ℕ) (xs : List ℕ) → ℕ
    held_left i j b k v xs = weight (passes t) xs + rest_there b k + tenures_left (ancestor t i j) v (length xs)

    pub data Owes : (thread left : ℕ) → Type 0 where
      free : (i n : ℕ) → g.stage i ≡ ready → Owes i n
      climbs : (i j n : ℕ) → g.stage i ≡ climb j → W i j ≤ n → Owes i n
      stands : (i j n : ℕ) → g.stage i ≡ queued j → W i j ≤ n → Owes i n
      held : (i j r b k v n : ℕ) (xs : List ℕ) → Held t valid bits c i j r b k v xs → held_left i j b k v xs ≤ n → Owes i n
      waits : (i j r b k u n : ℕ) (xs : List ℕ) → Line t valid bits c i j r b k xs → tag (g.stage b) ≤ 2 → Owes b u → held_left i j b k 1 xs + u ≤ n → Owes i n

    module _ (sound : Sound c) (i j r b k : ℕ) (xs : List ℕ) (L : Line t valid bits c i j r b k xs) where
      abbrev d : ℕ
      d = ancestor t i j

      inv : Inv t g
      inv = c.queued.represents.invariant

      -- the passes of the members ahead are at most those of all other members
      unfolding_weight : weight (passes t) (r ∷ xs) ≡ passes t r + weight (passes t) xs
      unfolding weight
      unfolding_weight = refl

      before_enough : weight (passes t) xs + rest_there b k ≤ others_passes t d (record_at t i j)
      before_enough =
          let h = L.first_there in
          let x = left_within t valid g sound.within b k (omega (arith, low_acts (height t b) (g.stage b))) in
          let x' : rest_there b k ≤ passes t r = rw L.mine at x in
          omega (arith, weight_before t valid bits c i j r b k xs L, unfolding_weight)

      pub wait_there : W i j ≡ others_passes t d (record_at t i j) + tenures_for_all t d * above_wait t d
      wait_there = let real = stands_real t valid bits c i j L.stage in wait_at t valid d (record_at t i j) (ancestor_real t valid i real.0 j)

      -- THE FIRST HAS THE LOCK: at most W is left
      pub held_enough : 3 ≤ tag (g.stage b) → (v : ℕ) × Held t valid bits c i j r b k v xs × (held_left i j b k v xs ≤ W i j)
      held_enough lock =
          let real = stands_real t valid bits c i j L.stage in
          same_or d 0 _
          (λ z.
          let none : above_wait t d ≡ 0 = above_root t d z in
          let v = g.tally r in (
            v,
            record { line = L; has_lock = lock; count_within = omega arith; at_threshold = λ n. absurd (n z) },
            (let y : tenures_left d v (length xs) ≡ 0 = rw none (omega arith) in omega (arith, before_enough, wait_there)),
          ))
          (λ z.
          let some = valid.threshold_some d (omega arith) (ancestor_real t valid i real.0 j) in
          let counts : g.tally r ≤ t.threshold d = (inv.counts d r z (rw (L.there, L.mine) at ((inv.threads b).heads k L.first_there))).1 in
          let v = t.threshold d in
          let y : tenures_left d v (length xs) ≡ above_wait t d + (length xs / t.threshold d) * above_wait t d =
          ap (λ m. m * above_wait t d) (one_tenure (t.threshold d) (length xs) some) ∙ omega arith in (
            v,
            record { line = L; has_lock = lock; count_within = counts; at_threshold = λ n o. omega arith },
            omega (arith, before_enough, wait_there, tenures_enough t valid d (length xs) (omega arith) (ancestor_real t valid i real.0 j) (omega (arith, short_before t valid bits c i j r b k xs L))),
          ))

      -- THE FIRST IS ACQUIRING: with what is left for it, at most W is left
      pub waits_enough : tag (g.stage b) ≤ 2 → (u : ℕ) × Owes b u × (held_left i j b k 1 xs + u ≤ W i j)
      waits_enough way =
          let way_there = on_way (height t b) k (g.stage b) way L.first_there in
          let m = way_there.0 in
          let mine_real = low_real t valid bits c b k L.first_there in
          let higher : m ≤ height t b = elim way_there.2 [ inl e ↦ (climbs_real t valid bits c b m e).1 | inr e ↦ (stands_real t valid bits c b m e).1 ] in
          let above : W b m ≤ above_wait t d = rw L.there at (above_enough t valid b mine_real.0 k m way_there.1 higher) in
          let inner : 0 < d = rw L.there at (ancestor_inner t valid b mine_real.0 k (omega (arith, way_there.1))) in
          let real = stands_real t valid bits c i j L.stage in
          let enough = tenures_enough t valid d (1 + length xs) inner (ancestor_real t valid i real.0 j) (omega (arith, short_before t valid bits c i j r b k xs L)) in (
            W b m,
            elim way_there.2 [ inl e ↦ climbs b m (W b m) e (omega arith) | inr e ↦ stands b m (W b m) e (omega arith) ],
            omega (arith, before_enough, wait_there),
          )
