-- What the code's tests imply about the refusals.
use mathlib.Core.Path.{◌≡◌, sym, ap, ◌∙◌}
use mathlib.Core.List.{List}
use Prim.Native.Nat.{ℕ, ◌/◌, ◌≤◌, ◌<◌}
use native.Mathlib.Omega.{arith}
use lib.ListN.{length}
use Rattle.model.specs.declared.LockState.{LockState}
use Rattle.model.specs.Trees.{Tree}
use Rattle.model.specs.Refusals.{Refusal, refusal, first_refusal, counter_tests, run_tests_before_19}
use Rattle.model.proofs.Laws.Refusals.{accepted_number}
use Rattle.lock.proofs.steps.CounterLimits.{passes_alone}
use Rattle.kinds.specs.Answers.{kinds_refusal}
use Rattle.kinds.specs.Laws.{KindsRefusalLaw}
use Rattle.kinds.proofs.Refusing.{run_decides, early_decides, rows_pass, counters_decide, kinds_refusal_law}

module _ (t : Tree) (s : LockState) (is : List ℕ) (room n : ℕ) where
  -- if a test before 28 refuses, its result is the answer
  pub run_answered : (q : Refusal) → q ≡ first_refusal (run_tests_before_19 t s is room) → ((first_refusal (run_tests_before_19 t s is room)).number ≡ 0 → ⊥) → q ≡ kinds_refusal t s is room n
  run_answered q e n' =
      let d = run_decides t s is room n n' in
      e ∙ sym (early_decides t s is room n (λ z. n' (sym (ap (λ q. q.number) d) ∙ z)) ∙ d)

  module _ (passes : (first_refusal (run_tests_before_19 t s is room)).number ≡ 0) where
    pub room_answered : n / 2 < length is → refusal 28 0 ≡ kinds_refusal t s is room n
    unfolding KindsRefusalLaw
    room_answered l = sym ((kinds_refusal_law t s is room n).room_refused passes (omega arith))

    -- only 19 is left to test
    pub alone : (first_refusal (run_tests_before_19 t s is (length is))).number ≡ 0
    alone = passes_alone t s is room passes

    pub counters_answered : length is ≤ n / 2 → (q : Refusal) → q ≡ first_refusal (counter_tests t s is) → q ≡ kinds_refusal t s is room n
    counters_answered l q f =
        f ∙ sym (counters_decide t s is room n (ap (λ v. v.number) (rows_pass t s is room n passes (omega arith)) ∙ accepted_number))
