-- One step does not increase the entries still possible in line, and an entry in line decreases them: if the first in the queue has the lock.
use mathlib.Core.Path.{◌≡◌, refl, sym, ap, ◌∙◌}
use mathlib.Core.List.{List, [], ◌∷◌}
use Prim.Native.Nat.{ℕ, suc, ◌+◌, ◌*◌, ◌/◌, ◌≤◌, ◌<◌}
use native.Mathlib.Omega.{arith}
use lib.ListN.{length}
use Rattle.model.specs.Trees.{Tree}
use Rattle.model.specs.States.{place}
use Rattle.model.specs.Laws.{SixteenBit}
use Rattle.model.proofs.Trees.Index.{ancestor, height}
use Rattle.model.proofs.Trees.Accepted.{Accepted}
use Rattle.model.proofs.Trees.Paths.{ancestor_real}
use Rattle.claims.proofs.Queues.Paths.{Laws, laws}
use Rattle.claims.proofs.Queues.Moves.{inside, low, pending, State}
use Rattle.claims.proofs.Queues.Invariant.{low_acts, Inv}
use Rattle.bounds.proofs.starvation_freedom.Situations as situations
use Rattle.bounds.proofs.starvation_freedom.Situations.{Situation, queues, next_change, Changed}
use Rattle.bounds.proofs.starvation_freedom.Queues.{tag}
use Rattle.bounds.proofs.starvation_freedom.Left.{hits, entry_hits}
use Rattle.bounds.specs.LongestWait.Bounds.{passes}
use Rattle.bounds.proofs.starvation_freedom.Arithmetic.{tenure_over}
use Rattle.bounds.proofs.starvation_freedom.Weights.{weight}
use Rattle.bounds.proofs.starvation_freedom.Effective.{left_there, left_within, left_less}
use Rattle.bounds.proofs.longest_wait.Waits.{above_wait, above_next}
use Rattle.bounds.proofs.starvation_freedom.Over.{not_over}
use Rattle.bounds.proofs.longest_wait.Ends.{Enters, entry_inside, enters_pending}
use Rattle.bounds.proofs.starvation_freedom.Line.{Line}
use Rattle.bounds.proofs.starvation_freedom.Lines.{low_real, stands_real, line_kept}
use Rattle.bounds.proofs.starvation_freedom.Waiting.{Woken}
use Rattle.bounds.proofs.starvation_freedom.Held.{Held, Given, own_domain, domain, Turned, own_lock, lock, given, HeldOn, still, turned, same_tally, held_step}
use Rattle.bounds.proofs.longest_wait.Owes.{Sound, sound_next, W, tenures_left, held_left, Owes, free, climbs, held, waits}

-- what is left after a step, with the entries in line that it made
pub record Owed (t : Tree) (valid : Accepted t) (bits : SixteenBit t) (c : Situation t) (i n f : ℕ) : Type 0 where
  pub left : ℕ
  pub owes : Owes t valid bits c i left
  pub less : left + f ≤ n

module _ (t : Tree) (valid : Accepted t) (bits : SixteenBit t) (c : Situation t) (sound : Sound t valid bits c) (x : ℕ) (hx : x < t.threads) where
  tree_laws : Laws t
  tree_laws = laws t valid

  abbrev pub c' : Situation t
  c' = situations.next t valid bits c x hx

  abbrev g : State
  g = queues c

  abbrev g' : State
  g' = queues c'

  abbrev inv : Inv t g
  inv = c.queued.represents.invariant

  abbrev ch : Changed t g g'
  ch = next_change t valid bits c x hx

  module _ (i j r b k : ℕ) (xs : List ℕ) (L : Line t valid bits c i j r b k xs) where
    -- the same line, if b stays first
    pub itself_kept : k < low (height t b) (g'.stage b) → Line t valid bits c' i j r b k xs
    itself_kept h = line_kept t valid bits c x hx i j r b k xs L b k h refl refl

    -- what is left under the first, minus its own entry
    pub rest_less : k < low (height t b) (g'.stage b) → left_there t valid g' b k + hits t ch b ≤ left_there t valid g b k
    rest_less h = left_less t valid ch inv sound.within b k b k (record { before = L.first_there; after = h; there = refl; mine = refl })

  -- NO ENTRY IN LINE, and the next member becomes first
  module _ (i j r b k v n : ℕ) where
    abbrev top : ℕ
    top = ancestor t i j

    -- at most its passes are left under the next member
    rest_new : (m s l : ℕ) (ms : List ℕ) → Line t valid bits c' i j m s l ms → left_there t valid g' s l ≤ passes t m
    rest_new m s l ms L' =
        let h = L'.first_there in
        rw L'.mine at (left_within t valid g' (sound_next t valid bits c x hx sound).within s l (omega (arith, low_acts (height t s) (g'.stage s))))

    some : (xs : List ℕ) → Held t valid bits c i j r b k v xs → 0 < top → 1 ≤ t.threshold top
    some xs H inner = let L = H.line in let real = stands_real t valid bits c i j L.stage in valid.threshold_some top inner (ancestor_real t valid i real.0 j)

    above_there : (s l : ℕ) (h : s < t.threads) → Woken t valid bits s h l c' → ancestor t s l ≡ top → W t valid bits s (suc l) ≡ above_wait t top
    above_there s l h w a = let z = above_next t valid s h l w.below in let u : above_wait t (ancestor t s l) ≡ above_wait t top = ap (above_wait t) a in omega arith

    given_result : (xs : List ℕ) → Held t valid bits c i j r b k v xs → held_left t valid bits c i j b k v xs ≤ n → Given t valid bits c' i j v xs → Owed t valid bits c' i n 0
    unfolding weight tag
    given_result [] H bound (own_domain h full inner w) =
        let full_tenure = tenure_over (t.threshold top) v 0 (above_wait t top) (some [] H inner) full in
        record { left = n; owes = climbs i (suc j) n w.stage (omega (arith, above_there i j h w refl)); less = omega arith }
    given_result (_ ∷ ms) H bound (domain m s l h full inner L' w) =
        let new = rest_new m s l ms L' in
        let full_tenure = tenure_over (t.threshold top) v (1 + length ms) (above_wait t top) (some (m ∷ ms) H inner) full in
        let same_sum : v + suc (length ms) ≡ v + (1 + length ms) = omega arith in
        let same_tenures : tenures_left t valid bits top v (suc (length ms)) ≡ ((v + (1 + length ms)) / t.threshold top) * above_wait t top = ap (λ u. (u / t.threshold top) * above_wait t top) same_sum in
        let total = held_left t valid bits c' i j s l 1 ms + above_wait t top in
        record {
          left = total;
          owes = waits i j m s l (above_wait t top) total ms L' (rw w.stage (omega arith)) (climbs s (suc l) (above_wait t top) w.stage (omega (arith, above_there s l h w L'.there))) (omega arith);
          less = omega arith;
        }

    turned_result : (xs : List ℕ) → Held t valid bits c i j r b k v xs → held_left t valid bits c i j b k v xs ≤ n → Turned t valid bits c' i j v xs → Owed t valid bits c' i n 0
    unfolding weight
    turned_result [] H bound (own_lock y) = record { left = n; owes = free i n y; less = omega arith }
    turned_result (_ ∷ ms) H bound (lock m s l H' y) =
        let new = rest_new m s l ms H'.line in
        let same_sum : v + suc (length ms) ≡ suc v + length ms = omega arith in
        let same_tenures : tenures_left t valid bits top v (suc (length ms)) ≡ tenures_left t valid bits top (suc v) (length ms) = ap (λ u. (u / t.threshold top) * above_wait t top) same_sum in
        record { left = held_left t valid bits c' i j s l (suc v) ms; owes = held i j m s l (suc v) (held_left t valid bits c' i j s l (suc v) ms) ms H' (omega arith); less = omega arith }
    turned_result [] H bound (given y) = given_result [] H bound y
    turned_result (m ∷ ms) H bound (given y) = given_result (m ∷ ms) H bound y

  -- THE FIRST HAS THE LOCK
  module _ (i j r b k v n : ℕ) (xs : List ℕ) (H : Held t valid bits c i j r b k v xs) (bound : held_left t valid bits c i j b k v xs ≤ n) where
    -- no entry in line
    pub held_falls : Owed t valid bits c' i n 0
    held_falls = by (held_step t valid bits c x hx i j r b k v xs H)
      where
        by : HeldOn t valid bits c' i j r v xs → Owed t valid bits c' i n 0
        by (still b' k' H') =
            let L = H.line in
            let L' = H'.line in
            let less = left_less t valid ch inv sound.within b k b' k' (record { before = L.first_there; after = L'.first_there; there = L'.there ∙ sym L.there; mine = L'.mine ∙ sym L.mine }) in
            record { left = held_left t valid bits c' i j b' k' v xs; owes = held i j r b' k' v (held_left t valid bits c' i j b' k' v xs) xs H' (omega arith); less = omega arith }
        by (turned y) = turned_result i j r b k v n xs H bound y

    -- the first enters
    pub held_enters : x ≡ b → Enters t valid bits c x → Owed t valid bits c' i n 1
    unfolding tag low pending
    held_enters z f =
        let L = H.line in
        let real = low_real t valid bits c b k L.first_there in
        let now : g'.stage b ≡ inside = ap g'.stage (sym z) ∙ entry_inside t valid bits c x hx f in
        let h : k < low (height t b) (g'.stage b) = rw now (omega (arith, real.1)) in
        let made : hits t ch b ≡ 1 = entry_hits t tree_laws b ch (rw z at (enters_pending t valid bits c x hx f)) (ap pending now) in
        let less = rest_less i j r b k xs L h in
        let H' : Held t valid bits c' i j r b k v xs = record {
          line = itself_kept i j r b k xs L h;
          has_lock = rw now (omega arith);
          count_within = omega (arith, H.count_within, same_tally t valid bits c x hx i j r b k xs L h);
          at_threshold = λ q o. absurd (not_over t valid bits b real.0 c' (ancestor t i j) (place c'.words b) refl (rw now (omega arith)) o);
        } in
        record { left = held_left t valid bits c' i j b k v xs; owes = held i j r b k v (held_left t valid bits c' i j b k v xs) xs H' (omega arith); less = omega arith }
