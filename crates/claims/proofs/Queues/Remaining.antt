-- How many entries a thread's record has left while it is first, and that no move increases this number.
use mathlib.Core.Path.{◌≡◌, refl, sym, ap, ◌∙◌}
use mathlib.Core.List.{List, [], ◌∷◌}
use mathlib.Core.Logic.{◌≢◌}
use Prim.Native.Nat.{ℕ, zero, suc, ◌+◌, ◌*◌, ◌-◌, ◌≤◌, ◌<◌}
use native.Mathlib.Omega.{arith}
use native.Mathlib.Nat.{add-suc, mul-le-mul_right}
use Rattle.model.proofs.Lists.{same_or, less_or, put, put_same, put_other, first, first_nil, first_cons, first_in, is_same, is_other, count}
use Rattle.model.specs.Trees.{Tree, allowance}
use Rattle.model.proofs.Trees.Index.{ancestor, record_at, height, member_allowance}
use Rattle.claims.proofs.Queues.Paths.{Laws}
use Rattle.claims.proofs.Queues.Moves.{Stage, out, climb, queued, ready, inside, holding, releasing, down, low, acts, reach, pending, State, Event, nothing, begins, ends, entered, Move, start, join_empty, join_root, join_after, enter, leave, hand_on, release, let_go}
use Rattle.claims.proofs.Queues.Invariant.{low_acts, acts_low, acts_reach, low_down, Thread, Inv, unique, fresh}
use Rattle.claims.proofs.Queues.Meeting.{follow, follow_record_at, same_height}
use Rattle.claims.proofs.Queues.Keeps.{last_low, standing_not}
use Rattle.claims.proofs.Queues.Order.{hit}

-- (t - v) tenures of at most M each, and one of x
room : (t v M x : ℕ) → 1 ≤ v → v ≤ t → x ≤ M → (t - v) * M + x ≤ t * M
room t v M x a b c =
    let w = t - v in
    let h = mul-le-mul_right {m = suc w} {n = t} M (omega arith) in
    more_room w h
  where
    more_room : (w : ℕ) → suc w * M ≤ t * M → w * M + x ≤ t * M
    more_room w h = omega arith

-- one tenure less, and a full one for the next
next_room : (t v M x y : ℕ) → v < t → x ≤ M → (t - suc v) * M + x ≤ (t - v) * M + y
next_room t v M x y a c =
    let w = t - suc v in
    let z : t - v ≡ suc w = omega arith in
    rw z (wide w)
  where
    wide : (w : ℕ) → w * M + x ≤ suc w * M + y
    wide w = omega arith

-- WHAT IS LEFT: how many entries thread i, which is first at the indices up to k, and those after it can still make under its record at k
unfoldable pub left : Tree → (tally : ℕ → ℕ) (x : Stage) (i k : ℕ) → ℕ
left T t x i zero = pending x
left T t x i (suc k) = (T.threshold (ancestor T i k) - t (record_at T i k)) * member_allowance T (ancestor T i k) + left T t x i k

pub pending_one : (x : Stage) → pending x ≤ 1
unfolding pending
pending_one out = omega arith
pending_one (climb j) = omega arith
pending_one (queued j) = omega arith
pending_one ready = omega arith
pending_one inside = omega arith
pending_one holding = omega arith
pending_one (releasing j) = omega arith

pub pending_down : (j : ℕ) → 0 < j → pending (down j) ≡ 0
unfolding pending down
pending_down zero h = absurd (omega arith)
pending_down (suc j) h = refl

-- it decreases when the pending entry is made and the tallies below do not change
left_same :
    (T : Tree) (t t' : ℕ → ℕ) (x x' : Stage) (i n k : ℕ) → pending x' + n ≤ pending x → ((l : ℕ) → l < k → t' (record_at T i l) ≡ t (record_at T i l)) →
    left T t' x' i k + n ≤ left T t x i k
unfolding left
left_same T t t' x x' i n zero h g = h
left_same T t t' x x' i n (suc k) h g =
    let r = left_same T t t' x x' i n k h (λ l b. g l (omega arith)) in
    let z = g k (omega arith) in
    rw z (omega arith)

module _ (T : Tree) (tree_laws : Laws T) (st : State) (inv : Inv T st) where
  -- a thread that acts somewhere
  pub acts_real : (i k : ℕ) → k < acts (height T i) (st.stage i) → (i < T.threads) × (i < 256) × (k ≤ height T i)
  acts_real i k h =
      let t = inv.threads i in
      let b = acts_reach (height T i) (st.stage i) in
      let r = t.real (omega arith) in
      (r, omega (arith, tree_laws.few), omega (arith, t.range))

  pub left_bound : (i k : ℕ) → k < acts (height T i) (st.stage i) → left T st.tally (st.stage i) i k ≤ allowance T (record_at T i k)
  unfolding left record_at
  left_bound i zero h = omega (arith, tree_laws.of_thread i (acts_real i 0 h).0, pending_one (st.stage i))
  left_bound i (suc k) h =
      let f = acts_real i (suc k) h in
      let ih = left_bound i k (omega arith) in
      let a = acts_low (height T i) (st.stage i) in
      let c = inv.counts (ancestor T i k) (record_at T i k) (tree_laws.inner i k f.0 (omega (arith, f.2))) ((inv.threads i).heads k (omega arith)) in
      let m = tree_laws.at_most i k f.0 (omega (arith, f.2)) in
      let r = room (T.threshold (ancestor T i k)) (st.tally (record_at T i k)) (member_allowance T (ancestor T i k)) (left T st.tally (st.stage i) i k) c.0 c.1 (omega arith) in
      omega (arith, tree_laws.of_domain i k f.0 (omega (arith, f.2)))

-- ONE MOVE: if a queue keeps its first record, the thread that now acts for it has no more entries left than the one before, minus the entry of this move
pub record Before (T : Tree) (st : State) (i k n : ℕ) : Type 0 where
  pub thread : ℕ
  pub index : ℕ
  pub was_first : index < low (height T thread) (st.stage thread)
  pub same : record_at T thread index ≡ record_at T i k
  pub falls : n ≤ left T st.tally (st.stage thread) thread index

module _ (T : Tree) (tree_laws : Laws T) (st : State) (inv : Inv T st) where
  -- the same thread
  itself :
      (t' : ℕ → ℕ) (x' : Stage) (i k n : ℕ) → k < low (height T i) (st.stage i) → pending x' + n ≤ pending (st.stage i) →
      ((l : ℕ) → l < k → t' (record_at T i l) ≡ st.tally (record_at T i l)) → Before T st i k (left T t' x' i k + n)
  itself t' x' i k n h p g =
      record { thread = i; index = k; was_first = h; same = refl; falls = left_same T st.tally t' (st.stage i) x' i n k p g }

  -- the record of a thread that is about to join or stands is not first, so a tally written there is no tally of a first record
  pub joining_far : (i j : ℕ) → st.stage i ≡ climb j → (n l : ℕ) → l < low (height T n) (st.stage n) → record_at T n l ≢ record_at T i j
  joining_far i j e n l h z =
      let o : count (record_at T n l) (st.queue (ancestor T n l)) ≡ 0 = rw z (fresh T tree_laws st inv i j (ancestor T n l) e) in
      omega (arith, first_in (record_at T n l) (st.queue (ancestor T n l)) ((inv.threads n).heads l h))

  pub standing_far : (s l : ℕ) → st.stage s ≡ queued l → (n k : ℕ) → k < low (height T n) (st.stage n) → record_at T n k ≢ record_at T s l
  unfolding low acts
  standing_far s l e n k h z =
      let a : l < acts (height T s) (st.stage s) = rw e (omega arith) in
      let u = unique T tree_laws st inv n s k l (omega (arith, low_acts (height T n) (st.stage n))) a z in
      let b : low (height T n) (st.stage n) ≡ l = ap (λ m. low (height T m) (st.stage m)) u.0 ∙ rw e refl in
      let c = u.1 in
      omega arith

  -- what the move leaves for a thread n that is first at index k after it
  abbrev pub Falls : Event → (stage' : ℕ → Stage) (tally' : ℕ → ℕ) → Type 0
  Falls e f t =
      (n k : ℕ) → k < low (height T n) (f n) → first (st.queue (ancestor T n k)) ≡ suc (record_at T n k) → Before T st n k (left T t (f n) n k + hit e n)

  -- one thread changes its stage
  falls_one :
      (e : Event) (i : ℕ) (x : Stage) (t' : ℕ → ℕ) → ((n l : ℕ) → l < low (height T n) (st.stage n) → t' (record_at T n l) ≡ st.tally (record_at T n l)) →
      ((n : ℕ) → n ≢ i → hit e n ≡ 0) →
      ((k : ℕ) → k < low (height T i) x → first (st.queue (ancestor T i k)) ≡ suc (record_at T i k) → (k < low (height T i) (st.stage i)) × (pending x + hit e i ≤ pending (st.stage i))) →
      (n k : ℕ) → k < low (height T n) (put st.stage i x n) → first (st.queue (ancestor T n k)) ≡ suc (record_at T n k) →
      Before T st n k (left T t' (put st.stage i x n) n k + hit e n)
  falls_one e i x t' tallies quiet own n k h f =
      same_or n i _
      (λ z.
      let y : put st.stage i x n ≡ x = put_same st.stage i x n z in
      let h' : k < low (height T i) x = rw (y, z) at h in
      let f' : first (st.queue (ancestor T i k)) ≡ suc (record_at T i k) = rw z at f in
      let o = own k h' f' in
      rw y (rw z (itself t' x i k (hit e i) o.0 o.1 (λ l b. tallies i l (omega (arith, o.0))))))
      (λ z.
      let y = put_other st.stage i x n z in
      let h' : k < low (height T n) (st.stage n) = rw y at h in
      rw y (itself t' (st.stage n) n k (hit e n) h' (omega (arith, quiet n z)) (λ l b. tallies n l (omega arith))))

  falls_start : (i : ℕ) → st.stage i ≡ out → Falls nothing (put st.stage i (climb 0)) st.tally
  unfolding hit low
  falls_start i e = falls_one nothing i (climb 0) st.tally (λ n l b. refl) (λ n z. refl) (λ k h f. absurd (omega arith))

  falls_enter : (i : ℕ) → st.stage i ≡ ready → Falls (entered i) (put st.stage i inside) st.tally
  unfolding hit low pending
  falls_enter i e =
      falls_one (entered i) i inside st.tally (λ n l b. refl) (λ n z. is_other i n (λ y. z (sym y))) (λ k h f. rw e (h, omega (arith, is_same i i refl)))

  falls_leave : (i : ℕ) → st.stage i ≡ inside → Falls nothing (put st.stage i holding) st.tally
  unfolding hit low pending
  falls_leave i e = falls_one nothing i holding st.tally (λ n l b. refl) (λ n z. refl) (λ k h f. rw e (h, omega arith))

  -- a record that was first was in a queue that was not empty
  not_empty : (i j k : ℕ) → st.queue (ancestor T i j) ≡ [] → first (st.queue (ancestor T i k)) ≡ suc (record_at T i k) → k ≢ j
  not_empty i j k z f w = let g : first (st.queue (ancestor T i k)) ≡ 0 = rw w (rw z first_nil) in omega arith

  falls_join_empty :
      (i j : ℕ) → st.stage i ≡ climb j → st.queue (ancestor T i j) ≡ [] → Falls nothing (put st.stage i (climb (suc j))) (put st.tally (record_at T i j) 1)
  unfolding hit low pending
  falls_join_empty i j e z =
      falls_one nothing i (climb (suc j)) (put st.tally (record_at T i j) 1)
      (λ n l b. put_other st.tally (record_at T i j) 1 (record_at T n l) (joining_far i j e n l b))
      (λ n y. refl)
      (λ k h f. let w = not_empty i j k z f in rw e (omega arith, omega arith))

  falls_join_root :
      (i j : ℕ) → st.stage i ≡ climb j → ancestor T i j ≡ 0 → st.queue (ancestor T i j) ≡ [] → Falls (entered i) (put st.stage i inside) st.tally
  unfolding hit low reach pending
  falls_join_root i j e r z =
      let t : Thread T st.queue i (climb j) = rw e at (inv.threads i) in
      let real = t.real (omega arith) in
      let top : height T i ≤ j = less_or j (height T i) _ (λ w. absurd (tree_laws.inner i j real w r)) (λ w. w) in
      falls_one (entered i) i inside st.tally (λ n l b. refl) (λ n y. is_other i n (λ q. y (sym q)))
      (λ k h f. let w = not_empty i j k z f in rw e (omega (arith, t.range), omega (arith, is_same i i refl)))

  falls_join_after :
      (i j : ℕ) → st.stage i ≡ climb j → Falls (begins (ancestor T i j) (record_at T i j)) (put st.stage i (queued j)) st.tally
  unfolding hit low pending
  falls_join_after i j e =
      falls_one (begins (ancestor T i j) (record_at T i j)) i (queued j) st.tally (λ n l b. refl) (λ n y. refl) (λ k h f. rw e (h, omega arith))

  falls_let_go :
      (i j : ℕ) → j < low (height T i) (st.stage i) → Falls nothing (put st.stage i (down j)) st.tally
  unfolding hit
  falls_let_go i j a =
      falls_one nothing i (down j) st.tally (λ n l b. refl) (λ n y. refl)
      (λ k h f. let w = low_down (height T i) j in (omega arith, omega (arith, pending_down j (omega arith))))

  -- A HAND-OVER
  module _ (i j s l : ℕ) (xs : List ℕ) (shape : st.queue (ancestor T i j) ≡ record_at T i j ∷ record_at T s l ∷ xs) (holds : j < low (height T i) (st.stage i))
      (waits : st.stage s ≡ queued l) (meet : ancestor T s l ≡ ancestor T i j) (apart : s ≢ i) where
    -- the successor's record was not first
    successor_new : first (st.queue (ancestor T s l)) ≢ suc (record_at T s l)
    successor_new f =
        let g : first (st.queue (ancestor T i j)) ≡ suc (record_at T i j) = rw shape (first_cons (record_at T i j) (record_at T s l ∷ xs)) in
        let m = ap (λ d. first (st.queue d)) meet in
        standing_far s l waits i j holds (omega arith)

    kept_tally : (w n k : ℕ) → k < low (height T n) (st.stage n) → put st.tally (record_at T s l) w (record_at T n k) ≡ st.tally (record_at T n k)
    kept_tally w n k h = put_other st.tally (record_at T s l) w (record_at T n k) (standing_far s l waits n k h)

    -- the successor, at the indices below the one where it stood
    successor_below :
        (x : Stage) (w k : ℕ) → pending x ≤ 1 → k < l → Before T st s k (left T (put st.tally (record_at T s l) w) x s k + 0)
    unfolding low pending
    successor_below x w k p h =
        itself (put st.tally (record_at T s l) w) x s k 0 (rw waits h) (rw waits (omega arith))
        (λ n b. kept_tally w s n (rw waits (omega arith)))

    falls_handed :
        (x : Stage) (w : ℕ) → ((k : ℕ) → k < low (height T s) x → first (st.queue (ancestor T s k)) ≡ suc (record_at T s k) → Before T st s k (left T (put st.tally (record_at T s l) w) x s k + 0)) →
        Falls (ends (ancestor T i j) (record_at T s l)) (put (put st.stage i (down j)) s x) (put st.tally (record_at T s l) w)
    unfolding hit
    falls_handed x w own n k h f =
        let f₁ = put st.stage i (down j) in
        let t' = put st.tally (record_at T s l) w in
        same_or n s _
        (λ z.
        let y : put f₁ s x n ≡ x = put_same f₁ s x n z in
        let h' : k < low (height T s) x = rw (y, z) at h in
        let f' : first (st.queue (ancestor T s k)) ≡ suc (record_at T s k) = rw z at f in
        rw y (rw z (own k h' f')))
        (λ z. same_or n i _
        (λ v.
        let y : put f₁ s x n ≡ down j = put_other f₁ s x n z ∙ put_same st.stage i (down j) n v in
        let h' : k < low (height T i) (down j) = rw (y, v) at h in
        let a = low_down (height T i) j in
        rw y (rw v (itself t' (down j) i k 0 (omega arith) (omega (arith, pending_down j (omega arith))) (λ m b. kept_tally w i m (omega arith)))))
        (λ v.
        let y : put f₁ s x n ≡ st.stage n = put_other f₁ s x n z ∙ put_other st.stage i (down j) n v in
        let h' : k < low (height T n) (st.stage n) = rw y at h in
        rw y (itself t' (st.stage n) n k 0 h' (omega arith) (λ m b. kept_tally w n m (omega arith)))))

    falls_release :
        Falls (ends (ancestor T i j) (record_at T s l)) (put (put st.stage i (down j)) s (climb (suc l))) (put st.tally (record_at T s l) 1)
    unfolding low pending
    falls_release =
        falls_handed (climb (suc l)) 1
        (λ k h f. less_or k l _
        (λ b. successor_below (climb (suc l)) 1 k (omega arith) b)
        (λ b. let z : k ≡ l = omega arith in absurd (successor_new (rw z at f))))

    successor_real : (s < T.threads) × (s < 256) × (l ≤ height T s)
    unfolding acts
    successor_real = acts_real T tree_laws st inv s l (rw waits (omega arith))

    heights : st.stage i ≡ holding → j ≤ height T i → height T s + j ≡ height T i + l
    unfolding acts
    heights e h = same_height T tree_laws s l i j successor_real.0 (acts_real T tree_laws st inv i j (rw e (omega arith))).0 successor_real.2 h meet

    -- what the successor has left at the index where it stood is at most one tenure
    successor_left : l < height T s → left T (put st.tally (record_at T s l) (suc (st.tally (record_at T i j)))) ready s l ≤ member_allowance T (ancestor T s l)
    unfolding acts low pending
    successor_left b =
        let w = suc (st.tally (record_at T i j)) in
        let x = left_same T st.tally (put st.tally (record_at T s l) w) (st.stage s) ready s 0 l (rw waits (omega arith)) (λ n g. kept_tally w s n (rw waits g)) in
        let y = left_bound T tree_laws st inv s l (rw waits (omega arith)) in
        let z = tree_laws.at_most s l successor_real.0 b in
        omega arith

    -- above that index the successor takes the place of i, with one tenure less
    successor_above :
        st.stage i ≡ holding → j ≤ height T i → (ancestor T i j ≢ 0 → st.tally (record_at T i j) < T.threshold (ancestor T i j)) → (d : ℕ) → l + suc d ≤ height T s →
        left T (put st.tally (record_at T s l) (suc (st.tally (record_at T i j)))) ready s (l + suc d) ≤ left T st.tally (st.stage i) i (j + suc d)
    unfolding left acts low
    successor_above e h ok zero b =
        let v = st.tally (record_at T i j) in
        let t' = put st.tally (record_at T s l) (suc v) in
        let x : left T t' ready s l ≤ member_allowance T (ancestor T i j) = rw meet at (successor_left (omega arith)) in
        let ok' : v < T.threshold (ancestor T i j) = ok (λ z. tree_laws.inner s l successor_real.0 (omega arith) (meet ∙ z)) in
        let sl : l + 1 ≡ suc l = omega arith in
        let sj : j + 1 ≡ suc j = omega arith in
        rw (sl, sj) (rw (put_same st.tally (record_at T s l) (suc v) (record_at T s l) refl, meet)
        (next_room (T.threshold (ancestor T i j)) v (member_allowance T (ancestor T i j)) (left T t' ready s l) (left T st.tally (st.stage i) i j) ok' x))
    successor_above e h ok (suc d) b =
        let v = st.tally (record_at T i j) in
        let ih = successor_above e h ok d (omega arith) in
        let low_i : j + suc d < low (height T i) (st.stage i) = rw e (omega (arith, heights e h)) in
        rw (add-suc l (suc d), add-suc j (suc d))
        (rw (follow T s l i j meet (suc d), follow_record_at T s l i j meet d, kept_tally (suc v) i (j + suc d) low_i) (omega arith))

    falls_above :
        st.stage i ≡ holding → j ≤ height T i → (ancestor T i j ≢ 0 → st.tally (record_at T i j) < T.threshold (ancestor T i j)) → (k d : ℕ) → k ≡ l + suc d → k ≤ height T s →
        Before T st s k (left T (put st.tally (record_at T s l) (suc (st.tally (record_at T i j)))) ready s k + 0)
    unfolding low
    falls_above e h ok k d z b =
        rw z (record {
          thread = i;
          index = j + suc d;
          was_first = rw e (omega (arith, heights e h));
          same = sym (follow_record_at T s l i j meet d);
          falls = omega (arith, successor_above e h ok d (omega arith));
        })

    falls_hand_on :
        st.stage i ≡ holding → j ≤ height T i → (ancestor T i j ≢ 0 → st.tally (record_at T i j) < T.threshold (ancestor T i j)) →
        Falls (ends (ancestor T i j) (record_at T s l)) (put (put st.stage i (down j)) s ready) (put st.tally (record_at T s l) (suc (st.tally (record_at T i j))))
    unfolding low pending
    falls_hand_on e h ok =
        falls_handed ready (suc (st.tally (record_at T i j)))
        (λ k g f. less_or k l _
        (λ b. successor_below ready (suc (st.tally (record_at T i j))) k (omega arith) b)
        (λ b. same_or k l _
        (λ z. absurd (successor_new (rw z at f)))
        (λ z. falls_above e h ok k (k - suc l) (omega arith) (omega arith))))

  pub falls : {e : Event} {st' : State} → Move T st e st' → Falls e st'.stage st'.tally
  unfolding low acts
  falls (start i h e) = falls_start i e
  falls (join_empty i j e n z) = falls_join_empty i j e z
  falls (join_root i j e r z) = falls_join_root i j e r z
  falls (join_after i j a e f) = falls_join_after i j e
  falls (enter i e) = falls_enter i e
  falls (leave i e) = falls_leave i e
  falls (hand_on i j s l xs e h w m ok shape) =
      falls_hand_on i j s l xs shape (rw e (omega arith)) w m (standing_not T tree_laws st inv i s l holding w e refl) e h ok
  falls (release i j s l xs e w m shape) =
      falls_release i j s l xs shape (rw e (omega arith)) w m (standing_not T tree_laws st inv i s l (releasing j) w e refl)
  falls (let_go i j b shape) = falls_let_go i j (omega (arith, last_low T tree_laws st inv i j b))
