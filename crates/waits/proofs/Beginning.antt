-- From fresh, the attempts that a thread begins are those that it finishes and the one under way.
use mathlib.Core.Path.{◌≡◌, refl, sym, ap, subst, ◌∙◌}
use mathlib.Core.Bool.{Bool, true, false, cond, true≢false}
use mathlib.Core.List.{List, [], ◌∷◌, ◌++◌}
use mathlib.Core.Logic.{◌≢◌, inl, inr}
use Prim.Native.Nat.{ℕ, zero, suc, ◌+◌, ◌<◌}
use native.Mathlib.Omega.{arith}
use native.Mathlib.Decide.{ℕ_discrete}
use lib.Dec.{eqb}
use lib.ListN.{length}
use borrow.Author.Tests.{eq-eqb, ne_eqb}
use Rattle.model.specs.declared.Place.TheVariants.{Inside}
use Rattle.model.specs.declared.State.{State}
use Rattle.model.specs.Trees.{Tree}
use Rattle.model.specs.States.{place, fresh_state, HasRoom}
use Rattle.model.specs.Steps.{is_entry, RowResult, Step, row, step}
use Rattle.model.specs.Runs.{steps}
use Rattle.model.specs.Refusals.{tree_refusal}
use Rattle.model.specs.Laws.{AllThreads, Formed, FormLaw, SixteenBit}
use Rattle.model.proofs.Laws.Form.{form_law}
use Rattle.waits.specs.Attempts.{begins_from, begins, enters, begun, counted, under_way_after, finished, waits_from, under_way_from}
use Rattle.waits.specs.GoingOn.{beginnings, BeginningLaw}
use Rattle.waits.proofs.Phases.{on_way, Phase, rests, goes, sets_out, arrives, at_once}
use Rattle.waits.proofs.Entering.{place_own, others_kept, Mode, waits_own, waits_other, mode_counted, phase_of, formed_next, room_for, off_way}

-- an attempt under way counts as one
abbrev one_if : (under_way : ℕ) → ℕ
one_if a = cond (eqb a 0) 0 1

module _ (i : ℕ) (t : Tree) where
  -- attempts begun, with one from before, are as many as attempts finished, with one still under way
  abbrev Even : (under_way : ℕ) → List Step → Type 0
  Even a xs = beginnings t i xs + one_if a ≡ length (waits_from t i a xs) + one_if (under_way_from t i a xs)

  some : (a : ℕ) → 0 < a → one_if a ≡ 1
  some a h = rw (ne_eqb a 0 (omega arith))

  counted_same : (x : Step) (a : ℕ) → one_if (counted x a) ≡ one_if a
  unfolding counted
  counted_same x zero = refl
  counted_same x (suc a) = some (suc a + cond (is_entry x.kind) 1 0) (omega arith) ∙ sym (some (suc a) (omega arith))

  counted_some : (x : Step) → 0 < counted x 1
  unfolding counted
  counted_some x = omega arith

  begins_own : (x : Step) (xs : List Step) (b : Bool) → x.thread ≡ i → begins_from t i x.place ≡ b → beginnings t i (x ∷ xs) ≡ cond b 1 0 + beginnings t i xs
  unfolding beginnings begins
  begins_own x xs b m f = rw (eq-eqb x.thread i m, f)

  begins_other : (x : Step) (xs : List Step) → x.thread ≢ i → beginnings t i (x ∷ xs) ≡ beginnings t i xs
  unfolding beginnings begins
  begins_other x xs n = rw (ne_eqb x.thread i n) (omega arith)

  number_own :
      (x : Step) (xs : List Step) (a : ℕ) (b e : Bool) → x.thread ≡ i → begins_from t i x.place ≡ b → is_entry x.kind ≡ e →
      under_way_from t i a (x ∷ xs) ≡ under_way_from t i (cond e 0 (counted x (cond b 1 a))) xs
  unfolding under_way_from under_way_after enters begun begins
  number_own x xs a b e m f g = rw (eq-eqb x.thread i m, f, g)

  number_other : (x : Step) (xs : List Step) (a : ℕ) → x.thread ≢ i → under_way_from t i a (x ∷ xs) ≡ under_way_from t i (counted x a) xs
  unfolding under_way_from under_way_after enters begun begins
  number_other x xs a n = rw (ne_eqb x.thread i n)

  -- a step of the thread itself that begins and finishes nothing
  plain :
      (x : Step) (xs : List Step) (a : ℕ) → x.thread ≡ i → begins_from t i x.place ≡ false → is_entry x.kind ≡ false → Even (counted x a) xs → Even a (x ∷ xs)
  plain x xs a m f g E = rw (begins_own x xs false m f, waits_own i t x xs a false false m f g, number_own x xs a false false m f g) (omega (arith, E, counted_same x a))

  finishes_one : (a : ℕ) (ws : List ℕ) → 0 < a → length (finished a ++ ws) ≡ 1 + length ws
  unfolding finished
  finishes_one zero ws h = absurd (omega arith)
  finishes_one (suc a) ws h = omega arith

  own_step :
      (s : State) (x : Step) (xs : List Step) (a : ℕ) (r : RowResult) → x.thread ≡ i → x.kind ≡ r.kind → x.place ≡ place s i → HasRoom s.places i →
      Phase t i s (place s i) r → Mode (on_way t i (place s i)) a → ((a' : ℕ) → Mode (on_way t i (place r.state i)) a' → Even a' xs) → Even a (x ∷ xs)
  unfolding on_way
  own_step s x xs a r m k pl room (rests e st b) M ih =
      plain x xs a m (ap (begins_from t i) pl ∙ b) (ap is_entry k ∙ e)
      (ih (counted x a) (subst (λ v. Mode (on_way t i (place v i)) (counted x a)) (sym st) (mode_counted i t x _ a M)))
  own_step s x xs a r m k pl room (goes q e ps b w) M ih =
      let o : on_way t i (place r.state i) ≡ on_way t i (place s i) = ap (on_way t i) (place_own s r.state.places i q ps room) ∙ w in
      plain x xs a m (ap (begins_from t i) pl ∙ b) (ap is_entry k ∙ e) (ih (counted x a) (rw o (mode_counted i t x _ a M)))
  own_step s x xs a r m k pl room (sets_out q e ps b w v) (inr M) ih = absurd (true≢false (sym M.0 ∙ w))
  own_step s x xs a r m k pl room (sets_out q e ps b w v) (inl M) ih =
      let f = ap (begins_from t i) pl ∙ b in
      let g = ap is_entry k ∙ e in
      let o : on_way t i (place r.state i) ≡ true = ap (on_way t i) (place_own s r.state.places i q ps room) ∙ v in
      let some_way : 0 < counted x 1 = counted_some x in
      let E = ih (counted x 1) (inr (o, some_way)) in
      rw (begins_own x xs true m f, waits_own i t x xs a true false m f g, number_own x xs a true false m f g, M.1) (omega (arith, E, some (counted x 1) some_way))
  own_step s x xs a r m k pl room (arrives e ps b w) (inl M) ih = absurd (true≢false (sym w ∙ M.0))
  own_step s x xs a r m k pl room (arrives e ps b w) (inr M) ih =
      let f = ap (begins_from t i) pl ∙ b in
      let g = ap is_entry k ∙ e in
      let o : on_way t i (place r.state i) ≡ false = ap (on_way t i) (place_own s r.state.places i Inside ps room) in
      let E = ih 0 (inl (o, refl)) in
      rw (begins_own x xs false m f, waits_own i t x xs a false true m f g, number_own x xs a false true m f g)
      (omega (arith, E, some a M.1, finishes_one a (waits_from t i 0 xs) M.1))
  own_step s x xs a r m k pl room (at_once e ps b w) (inr M) ih = absurd (true≢false (sym M.0 ∙ w))
  own_step s x xs a r m k pl room (at_once e ps b w) (inl M) ih =
      let f = ap (begins_from t i) pl ∙ b in
      let g = ap is_entry k ∙ e in
      let o : on_way t i (place r.state i) ≡ false = ap (on_way t i) (place_own s r.state.places i Inside ps room) in
      let E = ih 0 (inl (o, refl)) in
      rw (begins_own x xs true m f, waits_own i t x xs a true true m f g, number_own x xs a true true m f g, M.1)
      (omega (arith, E, finishes_one 1 (waits_from t i 0 xs) (omega arith)))

  module _ (sixteen : SixteenBit t) (ok : (tree_refusal t).number ≡ 0) (h : i < t.threads) where
    even : (is : List ℕ) (s : State) (a : ℕ) → AllThreads t is → Formed t s → Mode (on_way t i (place s i)) a → Even a (steps t is s)
    unfolding steps step AllThreads beginnings waits_from under_way_from
    even [] s a A f M = refl
    even (j ∷ is) s a A f M =
        let x = step t j s in
        let xs = steps t is x.state in
        elim (ℕ_discrete j i) [
          | no z ↦
              (let o : on_way t i (place x.state i) ≡ on_way t i (place s i) = ap (on_way t i) (others_kept t j s (place s j) (row t j (place s j) s) (phase_of i t sixteen ok h j s A.0 f) i (λ q. z (sym q))) in
              let E = even is x.state (counted x a) A.1 (formed_next i t sixteen ok h j s A.0 f) (rw o (mode_counted i t x _ a M)) in
              rw (begins_other x xs z, waits_other i t x xs a z, number_other x xs a z) (omega (arith, E, counted_same x a)))
          | yes z ↦
              rw z
              (own_step s (step t i s) (steps t is (step t i s).state) a (row t i (place s i) s) refl refl refl (room_for i t sixteen ok h s f) (phase_of i t sixteen ok h i s h f) M
              (λ a' M'. even is (step t i s).state a' A.1 (formed_next i t sixteen ok h i s h f) M'))
        ]

pub beginning_law : BeginningLaw
unfolding BeginningLaw FormLaw
beginning_law t v is k i h =
    let sixteen = k.sixteen_bit in
    let ok = k.tree_accepted in
    let E = even i t sixteen ok h is (fresh_state t v) 0 k.threads ((form_law t sixteen ok).of_fresh v) (inl (off_way t v i, refl)) in
    omega (arith, E)
