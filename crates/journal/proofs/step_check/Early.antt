-- Before the steps: the check of the state decides, then 30.
use mathlib.Core.Path.{◌≡◌, refl, sym, ap, ◌∙◌}
use mathlib.Core.List.{List, []}
use mathlib.Core.Logic.{◌≢◌}
use Prim.Native.Nat.{ℕ}
use native.Mathlib.Omega.{arith}
use native.Mathlib.Decide.{ℕ_discrete}
use lib.ListN.{length}
use borrow.Author.Tests.{eq-eqb, ne_eqb}
use Rattle.model.specs.declared.LockState.{LockState}
use Rattle.model.specs.Trees.{Tree}
use Rattle.model.specs.Refusals.{refusal, accepted, first_refusal, has_number, tree_tests}
use Rattle.model.specs.Laws.{RefusalLaw, RefusesExactly}
use Rattle.model.proofs.Refusing.{numbered}
use Rattle.model.proofs.Laws.Refusals.{refusal_law}
use Rattle.refusals.specs.Arrays.{tree_state_tests}
use Rattle.refusals.proofs.Joining.{first_decides, other_decides, state_numbered}
use Rattle.refusals.proofs.Scanning.{single_hit, single_missed}
use Rattle.refusals.specs.StateCheck.Answers.{check_tests, check_refusal}
use Rattle.journal.specs.StepCheck.Answers.{bad_lengths, length_tests, early_tests, early_refusal}

module _ (t : Tree) (s : LockState) (is ks ds : List ℕ) where
  pub exactly : RefusesExactly (early_tests t s is ks ds)
  unfolding RefusalLaw has_number tree_tests early_tests
  exactly = refusal_law (early_tests t s is ks ds) (numbered (early_tests t s is ks ds) refl)

  pub state_decides : (check_refusal t s).number ≢ 0 → early_refusal t s is ks ds ≡ check_refusal t s
  unfolding early_refusal early_tests check_refusal check_tests
  state_decides n = first_decides (tree_state_tests t s) (length_tests is ks ds) n

  module _ (z : (check_refusal t s).number ≡ 0) where
    lengths_decide : early_refusal t s is ks ds ≡ first_refusal (length_tests is ks ds)
    unfolding early_refusal early_tests check_refusal check_tests
    lengths_decide = other_decides (tree_state_tests t s) (length_tests is ks ds) (state_numbered t s) z

    pub kinds_refuse : length ks ≢ length is → early_refusal t s is ks ds ≡ refusal 30 0
    unfolding bad_lengths
    kinds_refuse n = lengths_decide ∙ single_hit _ [] refl (rw (ne_eqb (length ks) (length is) n))

    pub domains_refuse : length ks ≡ length is → length ds ≢ length is → early_refusal t s is ks ds ≡ refusal 30 0
    unfolding bad_lengths
    domains_refuse e n = lengths_decide ∙ single_hit _ [] refl (rw (eq-eqb (length ks) (length is) e, ne_eqb (length ds) (length is) n))

    pub lengths_pass : length ks ≡ length is → length ds ≡ length is → early_refusal t s is ks ds ≡ accepted
    unfolding bad_lengths first_refusal
    lengths_pass e f = lengths_decide ∙ single_missed _ [] refl (rw (eq-eqb (length ks) (length is) e, eq-eqb (length ds) (length is) f))

  -- nothing refuses: the state is accepted, and the lists have the same length
  pub early_passes : (early_refusal t s is ks ds).number ≡ 0 → ((check_refusal t s).number ≡ 0) × ((length ks ≡ length is) × (length ds ≡ length is))
  unfolding refusal
  early_passes e =
      elim (ℕ_discrete (check_refusal t s).number 0) [
        | no n ↦ absurd (n (sym (ap (λ r. r.number) (state_decides n)) ∙ e))
        | yes z ↦ (
          z,
          (
            decided (length ks) (length is) (λ n. let m = sym (ap (λ r. r.number) (kinds_refuse z n)) ∙ e in absurd (omega arith)),
            decided (length ds) (length is)
                (λ n.
                let same = decided (length ks) (length is) (λ n. let m = sym (ap (λ r. r.number) (kinds_refuse z n)) ∙ e in absurd (omega arith)) in
                let m = sym (ap (λ r. r.number) (domains_refuse z same n)) ∙ e in
                absurd (omega arith)),
          ),
        )
      ]
    where
      decided : (a b : ℕ) → ((a ≡ b → ⊥) → ⊥) → a ≡ b
      decided a b f = elim (ℕ_discrete a b) [ yes y ↦ y | no n ↦ absurd (f n) ]
