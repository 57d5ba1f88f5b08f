-- What is counted for a thread, step by step: how the code keeps it.
use mathlib.Core.Path.{◌≡◌, refl, sym, ap, ◌∙◌}
use mathlib.Core.Bool.{Bool, true, false, cond}
use mathlib.Core.List.{List, [], ◌∷◌, ◌++◌, append-nil}
use mathlib.Core.Logic.{◌≢◌, inl, inr}
use Prim.Native.Nat.{ℕ, zero, suc, ◌+◌, ◌-◌, ◌≤◌, max}
use native.Mathlib.Omega.{arith}
use native.Mathlib.Nat.{add-zero}
use lib.ListN.{length, length-append}
use borrow.Author.Tests.{eq-eqb, ne_eqb}
use Rattle.model.specs.Trees.{Tree}
use Rattle.model.specs.Steps.{is_entry, Step}
use Rattle.model.specs.Runs.{how_many}
use Rattle.model.proofs.Laws.Runs.{how_many_join}
use Rattle.schedules.specs.Rows.{total}
use Rattle.waits.specs.Attempts.{begins_from, begins, enters, begun, counted, under_way_after, finished, finished_by, waits_from, under_way_from}
use Rattle.waits.specs.Rows.{largest}
use Rattle.waits.proofs.Sums.{total_join, largest_join}
use Rattle.waits.proofs.Joining.{under_way_join, waits_join}
use Rattle.runs_call.specs.WithWaits.Tallies.{first, mark_with, mark_of, number_of, finishes, wait_of, Marked, Tallied}

-- MARKS: the mark of a number before the steps, and the number of a mark after them
pub marked_first : (a : ℕ) → a ≤ first → Marked first a (mark_of a)
unfolding mark_of
marked_first zero h = inl (refl, refl)
marked_first (suc a) h = rw (ne_eqb (suc a) 0 (omega arith)) (inr (omega arith, (omega arith, omega arith)))

pub number_reported : (n a m : ℕ) → Marked n a m → number_of n m ≡ a
unfolding number_of
number_reported n a m (inl z) = rw (eq-eqb m 0 z.1) (sym z.0)
number_reported n a m (inr z) = rw (ne_eqb m 0 (omega (arith, z.1.1))) (omega (arith, z.1.0))

module _ (t : Tree) (i under_way : ℕ) where
  -- one more step
  module _ (xs : List Step) (x : Step) where
    abbrev pub now : ℕ
    now = under_way_from t i under_way xs

    abbrev pub n : ℕ
    n = first + how_many is_entry xs

    way_next : under_way_from t i under_way (xs ++ (x ∷ [])) ≡ under_way_after t i x now
    unfolding under_way_from
    way_next = under_way_join t i under_way xs (x ∷ [])

    waits_next : waits_from t i under_way (xs ++ (x ∷ [])) ≡ waits_from t i under_way xs ++ finished_by t i x now
    unfolding waits_from
    waits_next = waits_join t i under_way xs (x ∷ []) ∙ ap (λ (r : List ℕ). waits_from t i under_way xs ++ r) (append-nil (finished_by t i x now))

    entries_next : how_many is_entry (xs ++ (x ∷ [])) ≡ how_many is_entry xs + cond (is_entry x.kind) 1 0
    unfolding how_many
    entries_next = how_many_join is_entry xs (x ∷ []) ∙ ap (λ v. how_many is_entry xs + v) (add-zero (cond (is_entry x.kind) 1 0))

    pub counted_next : first + how_many is_entry (xs ++ (x ∷ [])) ≡ n + cond (is_entry x.kind) 1 0
    counted_next = ap (λ v. first + v) entries_next ∙ (let z : first + (how_many is_entry xs + cond (is_entry x.kind) 1 0) ≡ n + cond (is_entry x.kind) 1 0 = omega arith in z)

    -- if no attempt is finished
    keeps :
        (m m' a w l : ℕ) → Tallied t under_way xs i m a w l → waits_from t i under_way (xs ++ (x ∷ [])) ≡ waits_from t i under_way xs →
        Marked (n + cond (is_entry x.kind) 1 0) (under_way_from t i under_way (xs ++ (x ∷ []))) m' → Tallied t under_way (xs ++ (x ∷ [])) i m' a w l
    keeps m m' a w l T same M =
        record {
          attempts_are = T.attempts_are ∙ sym (ap length same);
          total_is = T.total_is ∙ sym (ap total same);
          largest_is = T.largest_is ∙ sym (ap largest same);
          marked = rw counted_next M;
        }

    waits_kept : finished_by t i x now ≡ [] → waits_from t i under_way (xs ++ (x ∷ [])) ≡ waits_from t i under_way xs
    waits_kept e = waits_next ∙ ap (λ (r : List ℕ). waits_from t i under_way xs ++ r) e ∙ append-nil (waits_from t i under_way xs)

    -- a step of another thread: nothing is finished, and its entry is counted
    pub other_turn : (m a w l : ℕ) → x.thread ≢ i → Tallied t under_way xs i m a w l → Tallied t under_way (xs ++ (x ∷ [])) i m a w l
    unfolding finished_by under_way_after enters begun begins counted
    other_turn m a w l other T =
        keeps m m a w l T (waits_kept (rw (ne_eqb x.thread i other))) (rw moved (by (is_entry x.kind) refl now T.marked))
      where
        moved : under_way_from t i under_way (xs ++ (x ∷ [])) ≡ counted x now
        moved = way_next ∙ rw (ne_eqb x.thread i other)

        by : (e : Bool) → is_entry x.kind ≡ e → (p : ℕ) → Marked n p m → Marked (n + cond e 1 0) (counted x p) m
        by e f zero (inl z) = inl (refl, z.1)
        by e f zero (inr z) = absurd (omega (arith, z.0))
        by e f (suc k) (inl z) = absurd (omega (arith, z.0))
        by true f (suc k) (inr z) = rw f (inr (omega arith, (omega (arith, z.1.0), z.1.1)))
        by false f (suc k) (inr z) = rw f (inr (omega arith, (omega (arith, z.1.0), z.1.1)))

    -- a step of the thread itself, by whether it begins an attempt and whether it enters
    module _ (mine : x.thread ≡ i) (m a w l : ℕ) (T : Tallied t under_way xs i m a w l) where
      own_finishes : (b e : Bool) → begins_from t i x.place ≡ b → is_entry x.kind ≡ e → finished_by t i x now ≡ cond e (finished (cond b 1 now)) []
      unfolding finished_by enters begun begins
      own_finishes b e f g = rw (eq-eqb x.thread i mine, f, g)

      own_way : (b e : Bool) → begins_from t i x.place ≡ b → is_entry x.kind ≡ e → under_way_after t i x now ≡ cond e 0 (counted x (cond b 1 now))
      unfolding under_way_after enters begun begins
      own_way b e f g = rw (eq-eqb x.thread i mine, f, g)

      own_keeps :
          (e : Bool) (m' : ℕ) → is_entry x.kind ≡ e → finished_by t i x now ≡ [] → Marked (n + cond e 1 0) (under_way_from t i under_way (xs ++ (x ∷ []))) m' →
          Tallied t under_way (xs ++ (x ∷ [])) i m' a w l
      own_keeps e m' g none M = keeps m m' a w l T (waits_kept none) (rw g M)

      -- if an attempt is finished, with this wait
      adds :
          (k v : ℕ) → finished_by t i x now ≡ k ∷ [] → v ≡ k → under_way_from t i under_way (xs ++ (x ∷ [])) ≡ 0 →
          Tallied t under_way (xs ++ (x ∷ [])) i 0 (a + 1) (w + v) (max l v)
      unfolding total largest
      adds k v one same over =
          let ws = waits_from t i under_way xs in
          let more : waits_from t i under_way (xs ++ (x ∷ [])) ≡ ws ++ (k ∷ []) = waits_next ∙ ap (λ (r : List ℕ). ws ++ r) one in
          record {
            attempts_are = sym (ap length more ∙ length-append ws (k ∷ []) ∙ ap (λ y. y + 1) (sym T.attempts_are));
            total_is = sym (ap total more ∙ total_join ws (k ∷ []) ∙ omega (arith, T.total_is, same));
            largest_is = sym (ap largest more ∙ largest_join ws (k ∷ []) ∙ omega (arith, T.largest_is, same));
            marked = inl (over, refl);
          }

      -- what the code leaves at the thread's index
      abbrev pub Left : (b e : Bool) → Type 0
      Left b e =
          let m' = mark_with b n m in
          let f = finishes e m' in
          Tallied t under_way (xs ++ (x ∷ [])) i (cond e 0 m') (cond f (a + 1) a) (cond f (w + wait_of n m') w) (cond f (max l (wait_of n m')) l)

      pub own_turn : (b e : Bool) → begins_from t i x.place ≡ b → is_entry x.kind ≡ e → (p : ℕ) → now ≡ p → Marked n p m → Left b e
      unfolding finished counted
      own_turn true false f g p q M =
          own_keeps false (n + 1) g (own_finishes true false f g) (rw (way_next, own_way true false f g, g) (inr (omega arith, (omega arith, omega arith))))
      own_turn false false f g zero q (inl z) = own_keeps false m g (own_finishes false false f g) (rw (way_next, own_way false false f g, q) (inl (refl, z.1)))
      own_turn false false f g zero q (inr z) = absurd (omega (arith, z.0))
      own_turn false false f g (suc k) q (inl z) = absurd (omega (arith, z.0))
      own_turn false false f g (suc k) q (inr z) =
          own_keeps false m g (own_finishes false false f g) (rw (way_next, own_way false false f g, q, g) (inr (omega arith, (omega (arith, z.1.0), z.1.1))))
      own_turn true true f g p q M = rw (ne_eqb (n + 1) 0 (omega arith)) (adds 0 (n + 1 - (n + 1)) (own_finishes true true f g) (omega arith) (way_next ∙ own_way true true f g))
      own_turn false true f g zero q (inl z) =
          rw (eq-eqb m 0 z.1) (own_keeps true 0 g (own_finishes false true f g ∙ ap finished q) (inl (way_next ∙ own_way false true f g, refl)))
      own_turn false true f g zero q (inr z) = absurd (omega (arith, z.0))
      own_turn false true f g (suc k) q (inl z) = absurd (omega (arith, z.0))
      own_turn false true f g (suc k) q (inr z) =
          rw (ne_eqb m 0 (omega (arith, z.1.1))) (adds k (n + 1 - m) (own_finishes false true f g ∙ ap finished q) (omega (arith, z.1.0)) (way_next ∙ own_way false true f g))
