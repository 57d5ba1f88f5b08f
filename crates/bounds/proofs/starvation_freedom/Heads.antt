-- The effect of one step on the first in a domain: it stays first, with the lock or still acquiring, or the next member becomes first, with the lock or with the domain only.
use mathlib.Core.Path.{◌≡◌, refl, sym, ap, ◌∙◌}
use mathlib.Core.List.{List, [], ◌∷◌}
use mathlib.Core.Logic.{◌≢◌, ◌⊎◌, inl, inr}
use Prim.Native.Nat.{ℕ, suc, ◌+◌, ◌-◌, ◌≤◌, ◌<◌}
use native.Mathlib.Omega.{arith}
use Rattle.model.specs.Trees.{Tree}
use Rattle.model.proofs.Trees.Index.{ancestor, height, record_at}
use Rattle.model.proofs.Lists.{same_or, less_or, put, put_same, put_other}
use Rattle.claims.proofs.Queues.Paths.{Laws}
use Rattle.claims.proofs.Queues.Meeting.{follow, follow_record_at, same_height}
use Rattle.claims.proofs.Queues.Moves.{Stage, out, climb, queued, ready, inside, holding, releasing, down, low, acts, reach, State, Event, Move, start, join_empty, join_root, join_after, enter, leave, hand_on, release, let_go}
use Rattle.claims.proofs.Queues.Invariant.{low_down, Thread, Inv}
use Rattle.claims.proofs.Queues.Keeps.{last_low, standing_not, keeps}
use Rattle.claims.proofs.Queues.Remaining.{acts_real, joining_far, standing_far}
use Rattle.claims.proofs.Queues.Changes.{started_by, Changed, unmoved, moved, begun}
use Rattle.bounds.proofs.starvation_freedom.Queues.{tag}

-- after a step; before it, thread b is first at index k
pub data After (T : Tree) (st st' : State) (b k : ℕ) : Type 0 where
  -- its record stays first, and the thread itself or one that got the lock from it acts for it
  kept :
      (b' k' : ℕ) → k' < low (height T b') (st'.stage b') → ancestor T b' k' ≡ ancestor T b k → record_at T b' k' ≡ record_at T b k →
      st'.tally (record_at T b k) ≡ st.tally (record_at T b k) → ((b' ≡ b) × (k' ≡ k)) ⊎ (st'.stage b' ≡ ready) → After T st st' b k
  -- the next member is first, and has the lock
  passed :
      (s l : ℕ) (xs : List ℕ) → st.stage b ≡ holding → st.queue (ancestor T b k) ≡ record_at T b k ∷ record_at T s l ∷ xs →
      st'.queue (ancestor T b k) ≡ record_at T s l ∷ xs → st.stage s ≡ queued l → ancestor T s l ≡ ancestor T b k → st'.stage s ≡ ready → st'.tally (record_at T s l) ≡ suc (st.tally (record_at T b k)) → After T st st' b k
  -- the next member is first, has only the domain, and acquires its parent
  released :
      (s l : ℕ) (xs : List ℕ) → st.stage b ≡ releasing k → st.queue (ancestor T b k) ≡ record_at T b k ∷ record_at T s l ∷ xs →
      st'.queue (ancestor T b k) ≡ record_at T s l ∷ xs → st.stage s ≡ queued l → ancestor T s l ≡ ancestor T b k → st'.stage s ≡ climb (suc l) →
      st'.tally (record_at T s l) ≡ 1 → After T st st' b k
  -- nobody stood after it
  closed : st.queue (ancestor T b k) ≡ record_at T b k ∷ [] → After T st st' b k

module _ (T : Tree) (tree_laws : Laws T) where
  module _ (st : State) (inv : Inv T st) where
    module _ (b k : ℕ) (first_there : k < low (height T b) (st.stage b)) where
      -- b itself stays first
      itself : (st' : State) → k < low (height T b) (st'.stage b) → st'.tally (record_at T b k) ≡ st.tally (record_at T b k) → After T st st' b k
      itself st' h y = kept b k h refl refl y (inl (refl, refl))

      -- the stage of one thread changes
      one_stage : (i : ℕ) (x : Stage) → ((b ≡ i) → k < low (height T b) x) → k < low (height T b) (put st.stage i x b)
      one_stage i x h =
          same_or b i _
          (λ z. rw (put_same st.stage i x b z) (h z))
          (λ z. rw (put_other st.stage i x b z) first_there)

      -- the stages of two, i and s
      two_stages : (i s : ℕ) (x y : Stage) → (b ≡ i → b ≢ s → k < low (height T b) x) → (b ≡ s → k < low (height T b) y) → k < low (height T b) (put (put st.stage i x) s y b)
      two_stages i s x y h g =
          same_or b s _
          (λ z. rw (put_same (put st.stage i x) s y b z) (g z))
          (λ z. rw (put_other (put st.stage i x) s y b z) (one_stage i x (λ v. h v z)))

      low_is : (i : ℕ) (x : Stage) → b ≡ i → st.stage i ≡ x → low (height T b) (st.stage b) ≡ low (height T i) x
      low_is i x z e = ap (λ n. low (height T n) (st.stage n)) z ∙ ap (low (height T i)) e

      same_low : (i : ℕ) (x : Stage) → b ≡ i → low (height T b) x ≡ low (height T i) x
      same_low i x z = ap (λ n. low (height T n) x) z

      -- a hand-over of the domain at index j from i to s
      module _ (i j s l : ℕ) (xs : List ℕ) (v : ℕ) (y : Stage) (waits : st.stage s ≡ queued l) (meet : ancestor T s l ≡ ancestor T i j)
          (shape : st.queue (ancestor T i j) ≡ record_at T i j ∷ record_at T s l ∷ xs) (apart : s ≢ i) (above : l < low (height T s) y) where
        abbrev after : State
        after = record {
          queue = put st.queue (ancestor T i j) (record_at T s l ∷ xs);
          stage = put (put st.stage i (down j)) s y;
          tally = put st.tally (record_at T s l) v;
        }

        kept_tally : after.tally (record_at T b k) ≡ st.tally (record_at T b k)
        kept_tally = put_other st.tally (record_at T s l) v (record_at T b k) (standing_far T tree_laws st inv s l waits b k first_there)

        -- b is another thread than the one that hands over, or k is below j
        lower_there : ((b ≡ i) → k < j) → After T st after b k
        unfolding low
        lower_there h =
            itself after
            (two_stages i s (down j) y
            (λ z n. let x = h z in omega (arith, low_down (height T b) j))
            (λ z. let x = low_is s (queued l) z waits in omega (arith, same_low s y z)))
            kept_tally

      -- a thread that is granted the lock at a lower domain acts in the domains above in place of the one before
      handed_above :
          (i j s l : ℕ) (xs : List ℕ) → st.stage i ≡ holding → j ≤ height T i → (w : st.stage s ≡ queued l) (m : ancestor T s l ≡ ancestor T i j)
          (shape : st.queue (ancestor T i j) ≡ record_at T i j ∷ record_at T s l ∷ xs) (apart : s ≢ i) (up : l < low (height T s) ready) → b ≡ i → (e : ℕ) → k ≡ j + suc e →
          After T st (after i j s l xs (suc (st.tally (record_at T i j))) ready w m shape apart up) b k
      unfolding low acts
      handed_above i j s l xs y h w m shape apart up z e f =
          let v = suc (st.tally (record_at T i j)) in
          let real = acts_real T tree_laws st inv s l (rw w (omega arith)) in
          let hi = acts_real T tree_laws st inv i j (rw y (omega arith)) in
          let tall = same_height T tree_laws s l i j real.0 hi.0 real.2 h m in
          let x = low_is i holding z y in
          kept s (l + suc e) (rw (put_same (put st.stage i (down j)) s ready s refl) (omega arith))
          (follow T s l i j m (suc e) ∙ rw (z, f) refl) (follow_record_at T s l i j m e ∙ rw (z, f) refl)
          (kept_tally i j s l xs v ready w m shape apart up) (inr (put_same (put st.stage i (down j)) s ready s refl))

      after_move : {e : Event} {st' : State} → Move T st e st' → After T st st' b k
      unfolding low acts reach
      after_move (start i h e) = itself _ (one_stage i (climb 0) (λ z. let x = low_is i out z e in omega arith)) refl
      after_move (join_empty i j e n q) =
          itself _ (one_stage i (climb (suc j)) (λ z. let x = low_is i (climb j) z e in omega arith))
          (put_other st.tally (record_at T i j) 1 (record_at T b k) (joining_far T tree_laws st inv i j e b k first_there))
      after_move (join_root i j e r q) =
          let th : Thread T st.queue i (climb j) = rw e at (inv.threads i) in
          itself _ (one_stage i inside (λ z. let x = low_is i (climb j) z e in omega (arith, th.range, ap (height T) z))) refl
      after_move (join_after i j a e f) = itself _ (one_stage i (queued j) (λ z. let x = low_is i (climb j) z e in omega arith)) refl
      after_move (enter i e) = itself _ (one_stage i inside (λ z. let x = low_is i ready z e in omega (arith, ap (height T) z))) refl
      after_move (leave i e) = itself _ (one_stage i holding (λ z. let x = low_is i inside z e in omega (arith, ap (height T) z))) refl
      after_move (hand_on i j s l xs e h w m ok shape) =
          let v = suc (st.tally (record_at T i j)) in
          let apart = standing_not T tree_laws st inv i s l holding w e refl in
          let real = acts_real T tree_laws st inv s l (rw w (omega arith)) in
          let up : l < low (height T s) ready = omega (arith, real.2) in
          let low_there = lower_there i j s l xs v ready w m shape apart up in
          same_or b i _
          (λ z. less_or k j _
          (λ y. low_there (λ q. y))
          (λ y. same_or k j _
          (λ u. rw (z, u) (passed s l xs e shape (put_same st.queue (ancestor T i j) (record_at T s l ∷ xs) (ancestor T i j) refl) w m (put_same (put st.stage i (down j)) s ready s refl) (put_same st.tally (record_at T s l) v (record_at T s l) refl)))
          (λ u. handed_above i j s l xs e h w m shape apart up z (k - suc j) (omega arith))))
          (λ z. low_there (λ q. absurd (z q)))
      after_move (release i j s l xs e w m shape) =
          let apart = standing_not T tree_laws st inv i s l (releasing j) w e refl in
          let low_there = lower_there i j s l xs 1 (climb (suc l)) w m shape apart (omega arith) in
          same_or b i _
          (λ z. less_or k j _
          (λ y. low_there (λ q. y))
          (λ y.
          let x = low_is i (releasing j) z e in
          let u : k ≡ j = omega arith in
          rw (z, u) (released s l xs e shape (put_same st.queue (ancestor T i j) (record_at T s l ∷ xs) (ancestor T i j) refl) w m (put_same (put st.stage i (down j)) s (climb (suc l)) s refl) (put_same st.tally (record_at T s l) 1 (record_at T s l) refl))))
          (λ z. low_there (λ q. absurd (z q)))
      after_move (let_go i j last shape) =
          same_or b i _
          (λ z. less_or k j _
          (λ y. itself _ (one_stage i (down j) (λ q. omega (arith, low_down (height T b) j))) refl)
          (λ y.
          let x : low (height T b) (st.stage b) ≡ suc j = ap (λ n. low (height T n) (st.stage n)) z ∙ last_low T tree_laws st inv i j last in
          let u : k ≡ j = omega arith in
          rw (z, u) (closed shape)))
          (λ z. itself _ (one_stage i (down j) (λ q. absurd (z q))) refl)

    pub after_one : {e : Event} {st' : State} → Move T st e st' → (b k : ℕ) → k < low (height T b) (st.stage b) → After T st st' b k
    after_one mv b k h = after_move b k h mv

  -- a thread that is first is not about to start
  pub not_starting : (st : State) (i b k : ℕ) → st.stage i ≡ out → k < low (height T b) (st.stage b) → b ≢ i
  unfolding low
  not_starting st i b k e h z = let y : low (height T b) (st.stage b) ≡ 0 = ap (λ n. low (height T b) (st.stage n)) z ∙ ap (low (height T b)) e in omega arith

  -- a thread that stands after another thread's start stood before it
  waited : (st : State) (i s l : ℕ) → put st.stage i (climb 0) s ≡ queued l → st.stage s ≡ queued l
  unfolding tag
  waited st i s l w =
      same_or s i _
      (λ z. absurd (let o = ap tag (sym (put_same st.stage i (climb 0) s z) ∙ w) in omega arith))
      (λ z. sym (put_other st.stage i (climb 0) s z) ∙ w)

  begun_after : (st st' : State) (i b k : ℕ) → st.stage i ≡ out → b ≢ i → After T (started_by st i) st' b k → After T st st' b k
  begun_after st st' i b k e n (kept b' k' h a r y z) = kept b' k' h a r y z
  begun_after st st' i b k e n (passed s l xs x q q' w a y v) = passed s l xs (sym (put_other st.stage i (climb 0) b n) ∙ x) q q' (waited st i s l w) a y v
  begun_after st st' i b k e n (released s l xs x q q' w a y v) = released s l xs (sym (put_other st.stage i (climb 0) b n) ∙ x) q q' (waited st i s l w) a y v
  begun_after st st' i b k e n (closed q) = closed q

  pub after_step : {st st' : State} → Inv T st → Changed T st st' → (b k : ℕ) → k < low (height T b) (st.stage b) → After T st st' b k
  after_step inv (unmoved {st = st}) b k h = kept b k h refl refl refl (inl (refl, refl))
  after_step inv (moved {st = st} mv) b k h = after_one st inv mv b k h
  after_step inv (begun {st = st} {st' = st'} i r e c) b k h =
      let n = not_starting st i b k e h in
      begun_after st st' i b k e n (after_step (keeps T tree_laws st inv (start i r e)) c b k (rw (put_other st.stage i (climb 0) b n) h))
