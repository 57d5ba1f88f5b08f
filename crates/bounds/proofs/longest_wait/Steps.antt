-- One step does not increase the entries still possible in line, and an entry in line decreases them: in every case, level by level.
use mathlib.Core.Path.{◌≡◌, refl, sym, ap, ◌∙◌}
use mathlib.Core.List.{List, head-eq_of_cons-eq}
use mathlib.Core.Logic.{◌≢◌, inl, inr}
use Prim.Native.Nat.{ℕ, zero, suc, ◌+◌, ◌≤◌, ◌<◌}
use native.Mathlib.Omega.{arith}
use Rattle.model.specs.Trees.{Tree}
use Rattle.model.specs.States.{place}
use Rattle.model.specs.Laws.{SixteenBit}
use Rattle.model.proofs.Lists.{same_or, less_or}
use Rattle.model.proofs.Trees.Index.{ancestor, height}
use Rattle.model.proofs.Trees.Accepted.{Accepted}
use Rattle.claims.proofs.Queues.Paths.{Laws, laws}
use Rattle.claims.proofs.Queues.Meeting.{same_height}
use Rattle.claims.proofs.Queues.Moves.{climb, queued, ready, inside, low, pending, State}
use Rattle.claims.proofs.Queues.Invariant.{low_acts, Inv, unique}
use Rattle.bounds.proofs.starvation_freedom.Situations as situations
use Rattle.bounds.proofs.starvation_freedom.Situations.{Situation, queues, next_change, Changed}
use Rattle.bounds.proofs.starvation_freedom.Queues.{tag}
use Rattle.bounds.proofs.starvation_freedom.Left.{hits, entry_hits}
use Rattle.bounds.proofs.longest_wait.Waits.{wait_less}
use Rattle.bounds.proofs.starvation_freedom.Stages.{steps_on, from_queued, from_climb, from_ready, way_lasts, way_pending, inside_stage}
use Rattle.bounds.proofs.starvation_freedom.Over.{not_over}
use Rattle.bounds.proofs.longest_wait.Ends.{Enters, entry_inside, Ends, own_end, LineEnds, line_ends}
use Rattle.bounds.proofs.starvation_freedom.Line.{Line}
use Rattle.bounds.proofs.starvation_freedom.Held.{Held, same_tally}
use Rattle.bounds.proofs.starvation_freedom.Lines.{low_real, stands_real, climbs_real}
use Rattle.bounds.proofs.longest_wait.Owes.{Sound, W, held_left, Owes, free, climbs, stands, held, waits, held_enough, waits_enough}
use Rattle.bounds.proofs.longest_wait.Falls.{Owed, itself_kept, rest_less, held_falls, held_enters}

module _ (t : Tree) (valid : Accepted t) (bits : SixteenBit t) (c : Situation t) (sound : Sound t valid bits c) (x : ℕ) (hx : x < t.threads) where
  tree_laws : Laws t
  tree_laws = laws t valid

  abbrev pub c' : Situation t
  c' = situations.next t valid bits c x hx

  abbrev g : State
  g = queues c

  abbrev g' : State
  g' = queues c'

  abbrev inv : Inv t g
  inv = c.queued.represents.invariant

  abbrev ch : Changed t g g'
  ch = next_change t valid bits c x hx

  -- how many entries in line for thread i the step of x makes
  pub data Counts (i : ℕ) : (number : ℕ) → Type 0 where
    none : Counts i 0
    one : Enters t valid bits c x → Ends t valid bits c i x → x ≢ i → Counts i 1

  counts_few : {i f : ℕ} → Counts i f → f ≤ 1
  counts_few none = omega arith
  counts_few (one e n a) = omega arith

  -- a thread's chain goes through its line
  same_line : (i j r b k : ℕ) (xs : List ℕ) → Line t valid bits c i j r b k xs → i < t.threads → Enters t valid bits c x → Ends t valid bits c i x → Ends t valid bits c b x
  same_line i j r b k xs L h f n =
      let y = line_ends t valid bits c i j x h f L.stage n in
      let M = y.line in
      let same_head : r ≡ y.head = head-eq_of_cons-eq (sym L.shape ∙ M.shape) in
      let lo = L.first_there in
      let hi = M.first_there in
      let u = unique t tree_laws g inv b y.thread k y.index (omega (arith, low_acts (height t b) (g.stage b))) (omega (arith, low_acts (height t y.thread) (g.stage y.thread))) (L.mine ∙ same_head ∙ sym M.mine) in
      rw (← u.0) at y.end

  -- THE FIRST HAS THE LOCK
  held_step : (i j r b k v n f : ℕ) (xs : List ℕ) → Held t valid bits c i j r b k v xs → held_left t valid bits c i j b k v xs ≤ n → i < t.threads → Counts i f → Owed t valid bits c' i n f
  held_step i j r b k v n f xs H bound h none = held_falls t valid bits c sound x hx i j r b k v n xs H bound
  held_step i j r b k v n f xs H bound h (one e y a) =
      let L = H.line in
      let real = low_real t valid bits c b k L.first_there in
      let own = own_end t valid bits c b x real.0 e (λ z. let p = H.has_lock in omega arith) (same_line i j r b k xs L h e y) in
      held_enters t valid bits c sound x hx i j r b k v n xs H bound own e

  -- THE FIRST IS ACQUIRING, and what is still possible for it decreases
  module _ (i j r b k u n f : ℕ) (xs : List ℕ) (L : Line t valid bits c i j r b k xs) (way : tag (g.stage b) ≤ 2) (bound : held_left t valid bits c i j b k 1 xs + u ≤ n) (few : f ≤ 1)
      (rec : g'.stage b ≢ inside → Owed t valid bits c' b u f) where
    real : (b < t.threads) × (k ≤ height t b)
    real = low_real t valid bits c b k L.first_there

    on : (k < low (height t b) (g'.stage b)) × (tag (g'.stage b) ≤ 4)
    unfolding tag low
    on = way_lasts (height t b) k real.1 (steps_on t ch b (λ z. let p = L.first_there in let q : low (height t b) (g.stage b) ≡ 0 = rw z refl in omega arith)) way L.first_there

    count : g'.tally r ≡ 1
    count = same_tally t valid bits c x hx i j r b k xs L on.0 ∙ rw L.mine at (sound.ones b k way L.first_there)

    -- it has the lock now
    now_held : 3 ≤ tag (g'.stage b) → held_left t valid bits c' i j b k 1 xs + f ≤ n → Owed t valid bits c' i n f
    now_held lock l =
        let H' : Held t valid bits c' i j r b k 1 xs = record {
          line = itself_kept t valid bits c sound x hx i j r b k xs L on.0;
          has_lock = lock;
          count_within = omega (arith, count);
          at_threshold = λ q o. absurd (not_over t valid bits b real.0 c' (ancestor t i j) (place c'.words b) refl on.1 o);
        } in
        record { left = held_left t valid bits c' i j b k 1 xs; owes = held i j r b k 1 (held_left t valid bits c' i j b k 1 xs) xs H' (omega arith); less = l }

    waits_step : Owed t valid bits c' i n f
    unfolding pending tag
    waits_step =
        let less = rest_less t valid bits c sound x hx i j r b k xs L on.0 in
        same_or (tag (g'.stage b)) 4 _
        (λ z.
        let inside_now = inside_stage (g'.stage b) z in
        let made : hits t ch b ≡ 1 = entry_hits t tree_laws b ch (way_pending (g.stage b) (omega arith)) (ap pending inside_now) in
        now_held (omega arith) (omega arith))
        (λ z.
        let y = rec (λ e. z (ap tag e ∙ inside_tag)) in
        let w = y.less in
        less_or (tag (g'.stage b)) 3 _
        (λ l.
        let total = held_left t valid bits c' i j b k 1 xs + y.left in
        record { left = total; owes = waits i j r b k y.left total xs (itself_kept t valid bits c sound x hx i j r b k xs L on.0) (omega arith) y.owes (omega arith); less = omega arith })
        (λ l. now_held l (omega arith)))
      where
        inside_tag : tag inside ≡ 4
        inside_tag = refl

  -- A THREAD THAT STANDS fewer than m levels from the root; m decreases towards the root
  abbrev Deep : (m i : ℕ) → Type 0
  Deep m i = (j : ℕ) → g.stage i ≡ queued j → height t i < j + m

  -- if the first in i's queue stands, it is nearer to the root
  higher : (m i j r b k : ℕ) (xs : List ℕ) → Line t valid bits c i j r b k xs → Deep (suc m) i → Deep m b
  unfolding low
  higher m i j r b k xs L deep q e =
      let real = stands_real t valid bits c i j L.stage in
      let first_b = low_real t valid bits c b k L.first_there in
      let tall = same_height t tree_laws b k i j first_b.0 real.0 first_b.1 real.1 L.there in
      let l : k < q = let z = L.first_there in rw e at z in
      omega (arith, deep j L.stage)

  abbrev Step : (m : ℕ) → Type 0
  Step m = (i n f : ℕ) → i < t.threads → Deep m i → Owes t valid bits c i n → Counts i f → g'.stage i ≢ inside → Owed t valid bits c' i n f

  -- the step makes as many entries in line for the first of the queue
  counts_first : (i j r b k f : ℕ) (xs : List ℕ) → Line t valid bits c i j r b k xs → i < t.threads → Counts i f → g'.stage b ≢ inside → Counts b f
  counts_first i j r b k f xs L h none a = none
  counts_first i j r b k f xs L h (one e y n) a = one e (same_line i j r b k xs L h e y) (λ z. a (ap g'.stage (sym z) ∙ entry_inside t valid bits c x hx e))

  free_step : (i n f : ℕ) → i < t.threads → g.stage i ≡ ready → Counts i f → g'.stage i ≢ inside → Owed t valid bits c' i n f
  unfolding tag
  free_step i n f h e none a =
      let l = steps_on t ch i (λ z. let o = ap tag (sym z ∙ e) in omega arith) in
      elim (from_ready (g'.stage i) (rw e at l)) [
        | inl y ↦ record { left = n; owes = free i n y; less = omega arith }
        | inr y ↦ absurd (a y)
      ]
  free_step i n f h e (one y z w) a = absurd (w (own_end t valid bits c i x h y (λ q. let o = ap tag e in omega arith) z))

  climbs_step : (i j n f : ℕ) → i < t.threads → g.stage i ≡ climb j → W t valid bits i j ≤ n → Counts i f → g'.stage i ≢ inside → Owed t valid bits c' i n f
  unfolding tag
  climbs_step i j n f h e bound none a =
      let l = steps_on t ch i (λ z. let o = ap tag (sym z ∙ e) in omega arith) in
      elim (from_climb j (g'.stage i) (rw e at l)) [
        | inl y ↦ record { left = n; owes = climbs i j n y bound; less = omega arith }
        | inr (inl y) ↦ record { left = n; owes = climbs i (suc j) n y (omega (arith, wait_less t valid i h j (climbs_real t valid bits c' i (suc j) y).1)); less = omega arith }
        | inr (inr (inl y)) ↦ record { left = n; owes = stands i j n y bound; less = omega arith }
        | inr (inr (inr y)) ↦ absurd (a y)
      ]
  climbs_step i j n f h e bound (one y z w) a = absurd (w (own_end t valid bits c i x h y (λ q. let o = ap tag e in omega arith) z))

  -- a thread that stands, with the bound W: an entry in line gives its line, in which at most W is left
  module _ (m : ℕ) (rec : Step m) where
    line_step : (i j n : ℕ) → i < t.threads → Deep (suc m) i → W t valid bits i j ≤ n → Enters t valid bits c x → x ≢ i → Ends t valid bits c i x → LineEnds t valid bits c i j x → Owed t valid bits c' i n 1
    line_step i j n h deep bound f a end y =
        let b = y.thread in
        let k = y.index in
        let r = y.head in
        let xs = y.between in
        let L = y.line in
        less_or (tag (g.stage b)) 3 _
        (λ l.
        let w = waits_enough t valid bits c sound i j r b k xs L (omega arith) in
        waits_step i j r b k w.0 n 1 xs L (omega arith) (let z = w.2 in omega arith) (omega arith)
        (λ q. rec b w.0 1 y.real (higher m i j r b k xs L deep) w.1 (counts_first i j r b k 1 xs L h (one f end a) q) q))
        (λ l.
        let w = held_enough t valid bits c sound i j r b k xs L l in
        held_step i j r b k w.0 n 1 xs w.1 (let z = w.2 in omega arith) h (one f end a))

    stands_step : (i j n f : ℕ) → i < t.threads → Deep (suc m) i → g.stage i ≡ queued j → W t valid bits i j ≤ n → Counts i f → g'.stage i ≢ inside → Owed t valid bits c' i n f
    unfolding tag
    stands_step i j n f h deep e bound none a =
        let l = steps_on t ch i (λ z. let o = ap tag (sym z ∙ e) in omega arith) in
        elim (from_queued j (g'.stage i) (rw e at l)) [
          | inl y ↦ record { left = n; owes = stands i j n y bound; less = omega arith }
          | inr (inl y) ↦ record { left = n; owes = free i n y; less = omega arith }
          | inr (inr y) ↦ record { left = n; owes = climbs i (suc j) n y (omega (arith, wait_less t valid i h j (climbs_real t valid bits c' i (suc j) y).1)); less = omega arith }
        ]
    stands_step i j n f h deep e bound (one y z w) a = line_step i j n h deep bound y w z (line_ends t valid bits c i j x h y e z)

    any_step : Step (suc m)
    any_step i n f h deep (free _ _ e) q a = free_step i n f h e q a
    any_step i n f h deep (climbs _ j _ e bound) q a = climbs_step i j n f h e bound q a
    any_step i n f h deep (stands _ j _ e bound) q a = stands_step i j n f h deep e bound q a
    any_step i n f h deep (held _ j r b k v _ xs H bound) q a = held_step i j r b k v n f xs H bound h q
    any_step i n f h deep (waits _ j r b k u _ xs L way owes bound) q a =
        waits_step i j r b k u n f xs L way bound (counts_few q)
        (λ z. rec b u f (low_real t valid bits c b k L.first_there).0 (higher m i j r b k xs L deep) owes (counts_first i j r b k f xs L h q z) z)

  -- nobody stands above the root
  none_higher : Step 0
  none_higher i n f h deep (free _ _ e) q a = free_step i n f h e q a
  none_higher i n f h deep (climbs _ j _ e bound) q a = climbs_step i j n f h e bound q a
  none_higher i n f h deep (stands _ j _ e bound) q a = absurd (let r = stands_real t valid bits c i j e in let d = deep j e in omega (arith, r.1))
  none_higher i n f h deep (held _ j r b k v _ xs H bound) q a = held_step i j r b k v n f xs H bound h q
  none_higher i n f h deep (waits _ j r b k u _ xs L way owes bound) q a = absurd (let r = stands_real t valid bits c i j L.stage in let d = deep j L.stage in omega (arith, r.1))

  all_steps : (m : ℕ) → Step m
  all_steps zero = none_higher
  all_steps (suc m) = any_step m (all_steps m)

  -- ONE STEP: what is left decreases by the entries in line
  pub owes_step : (i n f : ℕ) → i < t.threads → Owes t valid bits c i n → Counts i f → g'.stage i ≢ inside → Owed t valid bits c' i n f
  owes_step i n f h o q a = all_steps (suc (height t i)) i n f h (λ j e. omega arith) o q a
