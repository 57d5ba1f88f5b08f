-- A thread's entries are its attempts, or one more, for the attempt that was under way before the run.
use mathlib.Core.Path.{◌≡◌, refl, sym, ap, subst, ◌∙◌}
use mathlib.Core.Bool.{Bool, true, false, cond, true≢false}
use mathlib.Core.List.{List, [], ◌∷◌, ◌++◌}
use mathlib.Core.Logic.{◌≢◌, ◌⊎◌, inl, inr}
use Prim.Native.Nat.{ℕ, zero, suc, ◌+◌, ◌<◌}
use native.Mathlib.Omega.{arith}
use native.Mathlib.Decide.{ℕ_discrete}
use native.Mathlib.Nat.{zero-add}
use lib.ListN.{length}
use borrow.Author.Tests.{eq-eqb, ne_eqb}
use Rattle.model.specs.declared.Place.{Place}
use Rattle.model.specs.declared.Place.TheVariants.{Inside}
use Rattle.model.specs.declared.State.{State}
use Rattle.model.specs.declared.PlaceArrays.{PlaceArrays}
use Rattle.model.specs.Trees.{Tree}
use Rattle.model.specs.Places.{words_of, place_of}
use Rattle.model.specs.States.{place, fresh_state, numbers_at, store_numbers, HasRoom}
use Rattle.model.specs.Steps.{is_entry, RowResult, Step, row, step}
use Rattle.model.specs.Runs.{steps, entering, run_of, run, occurrences}
use Rattle.model.specs.Refusals.{tree_refusal}
use Rattle.model.specs.Laws.{AllThreads, Formed, FormLaw, SixteenBit}
use Rattle.model.proofs.Trees.Accepted.{Accepted, accepted}
use Rattle.model.proofs.Laws.Facts.{well_formed_facts}
use Rattle.model.proofs.Laws.Form.{form_law}
use Rattle.model.proofs.Places.{place_stored, numbers_other, fresh_idle}
use Rattle.waits.specs.Attempts.{begins_from, begins, enters, begun, counted, under_way_after, finished, finished_by, waits_from, waits}
use Rattle.waits.specs.Laws.{EntryLaw}
use Rattle.waits.proofs.Phases.{on_way, Phase, rests, goes, sets_out, arrives, at_once, phase}

-- PLACES after a step of thread j: its own is the new one, the others are unchanged
pub place_own : (s : State) (ps : PlaceArrays) (j : ℕ) (q : Place) → ps ≡ store_numbers s.places j (words_of q) → HasRoom s.places j → place_of (numbers_at ps j) ≡ q
place_own s ps j q e h = ap (λ v. place_of (numbers_at v j)) e ∙ place_stored j q s h

place_other : (s : State) (ps : PlaceArrays) (i j : ℕ) (q : Place) → ps ≡ store_numbers s.places j (words_of q) → i ≢ j → place_of (numbers_at ps i) ≡ place s i
place_other s ps i j q e n = ap (λ v. place_of (numbers_at v i)) e ∙ ap place_of (numbers_other s.places j i (words_of q) n)

pub others_kept : (t : Tree) (j : ℕ) (s : State) (p : Place) (x : RowResult) → Phase t j s p x → (i : ℕ) → i ≢ j → place x.state i ≡ place s i
others_kept t j s p x (rests e st b) i n = ap (λ v. place v i) st
others_kept t j s p x (goes q e pl b w) i n = place_other s x.state.places i j q pl n
others_kept t j s p x (sets_out q e pl b w v) i n = place_other s x.state.places i j q pl n
others_kept t j s p x (arrives e pl b w) i n = place_other s x.state.places i j Inside pl n
others_kept t j s p x (at_once e pl b w) i n = place_other s x.state.places i j Inside pl n

-- attempts: none under way if the thread is not acquiring, one if it is
abbrev pub Mode : Bool → ℕ → Type 0
Mode o a = ((o ≡ false) × (a ≡ 0)) ⊎ ((o ≡ true) × (0 < a))

module _ (i : ℕ) where
  abbrev E : List Step → ℕ
  E xs = occurrences i (entering xs)

  EOwn : (x : Step) (xs : List Step) (e : Bool) → x.thread ≡ i → is_entry x.kind ≡ e → E (x ∷ xs) ≡ cond e 1 0 + E xs
  unfolding entering occurrences
  EOwn x xs true m f = rw (f, m, eq-eqb i i refl)
  EOwn x xs false m f = rw f (sym (omega arith))

  EOther : (x : Step) (xs : List Step) → x.thread ≢ i → E (x ∷ xs) ≡ E xs
  unfolding entering occurrences
  EOther x xs n = by (is_entry x.kind) refl
    where
      by : (e : Bool) → is_entry x.kind ≡ e → E (x ∷ xs) ≡ E xs
      by true f = rw (f, ne_eqb i x.thread (λ z. n (sym z))) (omega arith)
      by false f = rw f

  module _ (t : Tree) where
    pub waits_own :
        (x : Step) (xs : List Step) (a : ℕ) (b e : Bool) → x.thread ≡ i → begins_from t i x.place ≡ b → is_entry x.kind ≡ e →
        waits_from t i a (x ∷ xs) ≡ cond e (finished (cond b 1 a)) [] ++ waits_from t i (cond e 0 (counted x (cond b 1 a))) xs
    unfolding waits_from finished_by under_way_after enters begun begins
    waits_own x xs a b e m f g = rw (eq-eqb x.thread i m, f, g)

    pub waits_other : (x : Step) (xs : List Step) (a : ℕ) → x.thread ≢ i → waits_from t i a (x ∷ xs) ≡ waits_from t i (counted x a) xs
    unfolding waits_from finished_by under_way_after enters begun begins
    waits_other x xs a n = rw (ne_eqb x.thread i n)

    -- counting another thread's entry keeps whether an attempt is under way
    pub mode_counted : (x : Step) (o : Bool) (a : ℕ) → Mode o a → Mode o (counted x a)
    unfolding counted
    mode_counted x o zero (inl m) = inl (m.0, refl)
    mode_counted x o zero (inr m) = absurd (omega (arith, m.1))
    mode_counted x o (suc a) (inl m) = absurd (omega (arith, m.1))
    mode_counted x o (suc a) (inr m) = inr (m.0, omega arith)

    -- a step of the thread itself that begins and finishes nothing
    plain_waits : (x : Step) (xs : List Step) (a : ℕ) → x.thread ≡ i → begins_from t i x.place ≡ false → is_entry x.kind ≡ false → waits_from t i a (x ∷ xs) ≡ waits_from t i (counted x a) xs
    plain_waits x xs a m f g = waits_own x xs a false false m f g

    -- THE STEP: with one attempt under way exactly if the thread is acquiring
    own_step :
        (s : State) (x : Step) (xs : List Step) (a : ℕ) (r : RowResult) → x.thread ≡ i → x.kind ≡ r.kind → x.place ≡ place s i → HasRoom s.places i →
        Phase t i s (place s i) r → Mode (on_way t i (place s i)) a → ((a' : ℕ) → Mode (on_way t i (place r.state i)) a' → E xs ≡ length (waits_from t i a' xs)) →
        E (x ∷ xs) ≡ length (waits_from t i a (x ∷ xs))
    unfolding finished counted on_way
    own_step s x xs a r m k pl room (rests e st b) M ih =
        let f = ap (begins_from t i) pl ∙ b in
        let g = ap is_entry k ∙ e in
        EOwn x xs false m g ∙ (let z : 0 + E xs ≡ E xs = omega arith in z) ∙ ih (counted x a) (subst (λ v. Mode (on_way t i (place v i)) (counted x a)) (sym st) (mode_counted x _ a M)) ∙ sym (ap length (plain_waits x xs a m f g))
    own_step s x xs a r m k pl room (goes q e ps b w) M ih =
        let f = ap (begins_from t i) pl ∙ b in
        let g = ap is_entry k ∙ e in
        let o : on_way t i (place r.state i) ≡ on_way t i (place s i) = ap (on_way t i) (place_own s r.state.places i q ps room) ∙ w in
        EOwn x xs false m g ∙ (let z : 0 + E xs ≡ E xs = omega arith in z) ∙ ih (counted x a) (rw o (mode_counted x _ a M)) ∙ sym (ap length (plain_waits x xs a m f g))
    own_step s x xs a r m k pl room (sets_out q e ps b w v) (inr M) ih = absurd (true≢false (sym M.0 ∙ w))
    own_step s x xs a r m k pl room (sets_out q e ps b w v) (inl M) ih =
        let f = ap (begins_from t i) pl ∙ b in
        let g = ap is_entry k ∙ e in
        let o : on_way t i (place r.state i) ≡ true = ap (on_way t i) (place_own s r.state.places i q ps room) ∙ v in
        EOwn x xs false m g ∙ (let z : 0 + E xs ≡ E xs = omega arith in z) ∙ ih (counted x 1) (inr (o, omega arith)) ∙ sym (ap length (waits_own x xs a true false m f g))
    own_step s x xs a r m k pl room (arrives e ps b w) (inl M) ih = absurd (true≢false (sym w ∙ M.0))
    own_step s x xs a r m k pl room (arrives e ps b w) (inr M) ih =
        let f = ap (begins_from t i) pl ∙ b in
        let g = ap is_entry k ∙ e in
        let o : on_way t i (place r.state i) ≡ false = ap (on_way t i) (place_own s r.state.places i Inside ps room) in
        EOwn x xs true m g ∙ ap (λ v. 1 + v) (ih 0 (inl (o, refl))) ∙ one a M.1 ∙ sym (ap length (waits_own x xs a false true m f g))
      where
        one : (c : ℕ) → 0 < c → 1 + length (waits_from t i 0 xs) ≡ length (finished c ++ waits_from t i 0 xs)
        one zero h = absurd (omega arith)
        one (suc c) h = omega arith
    own_step s x xs a r m k pl room (at_once e ps b w) (inr M) ih = absurd (true≢false (sym M.0 ∙ w))
    own_step s x xs a r m k pl room (at_once e ps b w) (inl M) ih =
        let f = ap (begins_from t i) pl ∙ b in
        let g = ap is_entry k ∙ e in
        let o : on_way t i (place r.state i) ≡ false = ap (on_way t i) (place_own s r.state.places i Inside ps room) in
        EOwn x xs true m g ∙ ap (λ v. 1 + v) (ih 0 (inl (o, refl))) ∙ (let z : 1 + length (waits_from t i 0 xs) ≡ suc (length (waits_from t i 0 xs)) = omega arith in z)
        ∙ sym (ap length (waits_own x xs a true true m f g))

    -- the step with no attempt counted, if the thread was already acquiring before the run
    own_late :
        (s : State) (x : Step) (xs : List Step) (r : RowResult) → x.thread ≡ i → x.kind ≡ r.kind → x.place ≡ place s i → HasRoom s.places i →
        Phase t i s (place s i) r → on_way t i (place s i) ≡ true → (on_way t i (place r.state i) ≡ false → E xs ≡ length (waits_from t i 0 xs)) →
        (on_way t i (place r.state i) ≡ true → (E xs ≡ length (waits_from t i 0 xs)) ⊎ (E xs ≡ length (waits_from t i 0 xs) + 1)) →
        (E (x ∷ xs) ≡ length (waits_from t i 0 (x ∷ xs))) ⊎ (E (x ∷ xs) ≡ length (waits_from t i 0 (x ∷ xs)) + 1)
    unfolding finished counted on_way
    own_late s x xs r m k pl room (rests e st b) o ih late =
        rw (EOwn x xs false m (ap is_entry k ∙ e), plain_waits x xs 0 m (ap (begins_from t i) pl ∙ b) (ap is_entry k ∙ e), zero-add (E xs))
        (late (ap (λ v. on_way t i (place v i)) st ∙ o))
    own_late s x xs r m k pl room (goes q e ps b w) o ih late =
        rw (EOwn x xs false m (ap is_entry k ∙ e), plain_waits x xs 0 m (ap (begins_from t i) pl ∙ b) (ap is_entry k ∙ e), zero-add (E xs))
        (late (ap (on_way t i) (place_own s r.state.places i q ps room) ∙ w ∙ o))
    own_late s x xs r m k pl room (sets_out q e ps b w v) o ih late = absurd (true≢false (sym o ∙ w))
    own_late s x xs r m k pl room (arrives e ps b w) o ih late =
        let n = ih (ap (on_way t i) (place_own s r.state.places i Inside ps room)) in
        inr (EOwn x xs true m (ap is_entry k ∙ e) ∙ rw (waits_own x xs 0 false true m (ap (begins_from t i) pl ∙ b) (ap is_entry k ∙ e)) (omega (arith, n)))
    own_late s x xs r m k pl room (at_once e ps b w) o ih late = absurd (true≢false (sym o ∙ w))

    module _ (sixteen : SixteenBit t) (ok : (tree_refusal t).number ≡ 0) (h : i < t.threads) where
      abbrev valid : Accepted t
      valid = accepted t ok

      pub phase_of : (j : ℕ) (s : State) → j < t.threads → Formed t s → Phase t j s (place s j) (row t j (place s j) s)
      phase_of j s l f = phase t valid j l s (place s j) (((well_formed_facts t s f).places j).used l)

      pub formed_next : (j : ℕ) (s : State) → j < t.threads → Formed t s → Formed t (step t j s).state
      unfolding FormLaw
      formed_next j s l f = (form_law t sixteen ok).of_step j s l f

      pub room_for : (s : State) → Formed t s → HasRoom s.places i
      room_for s f = (f.typed.places_room, omega (arith, valid.few_threads))

      pub exact : (is : List ℕ) (s : State) (a : ℕ) → AllThreads t is → Formed t s → Mode (on_way t i (place s i)) a → E (steps t is s) ≡ length (waits_from t i a (steps t is s))
      unfolding steps step AllThreads entering occurrences waits_from
      exact [] s a A f M = refl
      exact (j ∷ is) s a A f M =
          let x = step t j s in
          let xs = steps t is x.state in
          elim (ℕ_discrete j i) [
            | no z ↦
                (let o : on_way t i (place x.state i) ≡ on_way t i (place s i) = ap (on_way t i) (others_kept t j s (place s j) (row t j (place s j) s) (phase_of j s A.0 f) i (λ q. z (sym q))) in
                EOther x xs z ∙ exact is x.state (counted x a) A.1 (formed_next j s A.0 f) (rw o (mode_counted x _ a M)) ∙ sym (ap length (waits_other x xs a z)))
            | yes z ↦
                rw z
                (own_step s (step t i s) (steps t is (step t i s).state) a (row t i (place s i) s) refl refl refl (room_for s f) (phase_of i s h f) M
                (λ a' M'. exact is (step t i s).state a' A.1 (formed_next i s h f) M'))
          ]

      pub late : (is : List ℕ) (s : State) → AllThreads t is → Formed t s → on_way t i (place s i) ≡ true → (let xs = steps t is s in (E xs ≡ length (waits_from t i 0 xs)) ⊎ (E xs ≡ length (waits_from t i 0 xs) + 1))
      unfolding steps step AllThreads entering occurrences waits_from counted
      late [] s A f o = inl refl
      late (j ∷ is) s A f o =
          let x = step t j s in
          let xs = steps t is x.state in
          elim (ℕ_discrete j i) [
            | no z ↦
                (let w : on_way t i (place x.state i) ≡ on_way t i (place s i) = ap (on_way t i) (others_kept t j s (place s j) (row t j (place s j) s) (phase_of j s A.0 f) i (λ q. z (sym q))) in
                rw (EOther x xs z, waits_other x xs 0 z) (late is x.state A.1 (formed_next j s A.0 f) (w ∙ o)))
            | yes z ↦
                rw z
                (own_late s (step t i s) (steps t is (step t i s).state) (row t i (place s i) s) refl refl refl (room_for s f) (phase_of i s h f) o
                (λ w. exact is (step t i s).state 0 A.1 (formed_next i s h f) (inl (w, refl))) (λ w. late is (step t i s).state A.1 (formed_next i s h f) w))
          ]

      of_state : (is : List ℕ) (s : State) → AllThreads t is → Formed t s → (E (steps t is s) ≡ length (waits t i (steps t is s))) ⊎ (E (steps t is s) ≡ length (waits t i (steps t is s)) + 1)
      of_state is s A f = by (on_way t i (place s i)) refl
        where
          by : (o : Bool) → on_way t i (place s i) ≡ o → (E (steps t is s) ≡ length (waits t i (steps t is s))) ⊎ (E (steps t is s) ≡ length (waits t i (steps t is s)) + 1)
          by true e = late is s A f e
          by false e = inl (exact is s 0 A f (inl (e, refl)))

-- in a fresh state every thread is Idle
pub off_way : (t : Tree) (v i : ℕ) → on_way t i (place (fresh_state t v) i) ≡ false
unfolding on_way
off_way t v i = ap (on_way t i) (fresh_idle t v i)

pub entry_law : EntryLaw
unfolding EntryLaw run run_of FormLaw fresh_state on_way
entry_law t is k i h =
    let sixteen = k.sixteen_bit in
    let ok = k.tree_accepted in
    let A = k.threads in
    record {
      of_state = λ s f. of_state i t sixteen ok h is s A f;
      of_fresh = λ v. exact i t sixteen ok h is (fresh_state t v) 0 A ((form_law t sixteen ok).of_fresh v) (inl (off_way t v i, refl));
    }
