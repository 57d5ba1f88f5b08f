-- Named steps piece by piece.
use mathlib.Core.Path.{◌≡◌, refl, sym, ap, ◌∙◌}
use mathlib.Core.List.{List, [], ◌++◌}
use mathlib.Core.Logic.{◌≢◌}
use Prim.Native.Nat.{ℕ, ◌+◌, ◌-◌, ◌≤◌}
use native.Mathlib.Omega.{arith}
use lib.ListN.{length, take, drop, take-append-drop, length-drop}
use lib.Seq.{length-take-le, drop-drop}
use Rattle.std.proofs.lemmas.List.{drop_all}
use borrow.Author.Tests.{eq-eqb, ne_eqb}
use Rattle.model.specs.declared.TreeWords.{TreeWords}
use Rattle.model.specs.declared.LockState.{LockState}
use Rattle.model.specs.Trees.{Tree, tree_of}
use Rattle.model.proofs.Trees.Accepted.{sixteen_bit}
use Rattle.journal.specs.StepCheck.Answers.{Checked, checked}
use Rattle.journal.proofs.step_check.Checking.{shifted, then_checked, checked_join}
use Rattle.journal.proofs.step_check.Keeping.{checked_kept, checked_full, checked_few}
use Rattle.journal_call.specs.StepCheck.Stretches.{Ready}
use Rattle.journal_call.proofs.step_check.Piecing.{Says, says}

-- some steps are checked, and those ahead decide the rest
pub record SoFar (t : Tree) (s₀ : LockState) (is ks ds : List ℕ) (s : LockState) (at : ℕ) : Type 0 where
  pub ready : Ready t s
  pub within : at ≤ length is
  pub ahead : checked t s₀ is ks ds ≡ shifted at (checked t s (drop at is) (drop at ks) (drop at ds))

module _ (w : TreeWords) (s₀ : LockState) (is ks ds : List ℕ) (a : length ks ≡ length is) (b : length ds ≡ length is) where
  abbrev t : Tree
  t = tree_of w

  -- no step is left, and none was wrong
  pub ends : (s : LockState) (at : ℕ) → SoFar t s₀ is ks ds s at → length is ≤ at → Says (checked t s₀ is ks ds) 0 at s
  unfolding checked
  ends s at g h =
      let none : drop at is ≡ [] = drop_all at is h in
      let z : at + 0 ≡ at = omega arith in
      says (sym (g.ahead ∙ rw (none, z)))

  module _ (s : LockState) (at end : ℕ) (g : SoFar t s₀ is ks ds s at) (from : at ≤ end) (to : end ≤ length is) where
    abbrev piece : List ℕ → List ℕ
    piece l = take (end - at) (drop at l)

    abbrev c : Checked
    c = checked t s (piece is) (piece ks) (piece ds)

    piece_long : (l : List ℕ) → length l ≡ length is → length (piece l) ≡ end - at
    piece_long l e = length-take-le (end - at) (drop at l) (omega (arith, length-drop at l))

    split : (l : List ℕ) → drop at l ≡ piece l ++ drop end l
    split l =
        let z : at + (end - at) ≡ end = omega arith in
        sym (take-append-drop (end - at) (drop at l)) ∙ ap (λ v. piece l ++ v) (drop-drop (end - at) at l ∙ rw z)

    whole : checked t s₀ is ks ds ≡ shifted at (then_checked c (λ s'. checked t s' (drop end is) (drop end ks) (drop end ds)))
    whole =
        g.ahead
        ∙ ap (shifted at)
        (ap (λ v. checked t s v (drop at ks) (drop at ds)) (split is) ∙ ap (λ v. checked t s (piece is ++ drop end is) v (drop at ds)) (split ks)
        ∙ ap (λ v. checked t s (piece is ++ drop end is) (piece ks ++ drop end ks) v) (split ds)
        ∙ checked_join t s (piece is) (piece ks) (piece ds) (drop end is) (drop end ks) (drop end ds) (piece_long ks a ∙ sym (piece_long is refl)) (piece_long ds b ∙ sym (piece_long is refl)))

    -- a step is wrong
    pub stops : c.number ≢ 0 → Says (checked t s₀ is ks ds) c.number (at + c.steps) c.state
    unfolding then_checked
    stops n =
        let all : checked t s₀ is ks ds ≡ shifted at c = whole ∙ rw (ne_eqb c.number 0 n) in
        says (sym all)

    -- no step is wrong: the next piece follows
    pub goes_on : c.number ≡ 0 → (s' : LockState) → s' ≡ c.state → SoFar t s₀ is ks ds s' end
    unfolding then_checked
    goes_on z s' e =
        let full : c.steps ≡ end - at = checked_full t s (piece is) (piece ks) (piece ds) (piece_long ks a ∙ sym (piece_long is refl)) (piece_long ds b ∙ sym (piece_long is refl)) z ∙ piece_long is refl in
        let r = g.ready in
        let kept = checked_kept t r.tree (sixteen_bit w) s (piece is) (piece ks) (piece ds) (record { form = record { typed = r.typed; form = r.form }; counts = r.counts }) in
        let m = (checked t c.state (drop end is) (drop end ks) (drop end ds)).steps in
        let y : at + (c.steps + m) ≡ end + m = omega (arith, full) in
        record {
          ready = rw e (record { tree = r.tree; typed = kept.form.typed; form = kept.form.form; counts = kept.counts });
          within = to;
          ahead = whole ∙ rw (eq-eqb c.number 0 z) (rw (e, y));
        }

    -- the steps so far are at most all steps
    pub steps_few : (n : ℕ) → n ≡ c.steps → at + n ≤ length is
    steps_few n e = omega (arith, e, checked_few t s (piece is) (piece ks) (piece ds), piece_long is refl)
