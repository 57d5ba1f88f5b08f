-- What the code's tests imply about the refusals of a run with waits.
use mathlib.Core.Path.{◌≡◌, sym, ap, ◌∙◌}
use mathlib.Core.List.{List}
use Prim.Native.Nat.{ℕ, ◌/◌, ◌≤◌, ◌<◌}
use native.Mathlib.Omega.{arith}
use Rattle.model.specs.declared.LockState.{LockState}
use Rattle.model.specs.Trees.{Tree}
use Rattle.model.specs.Refusals.{Refusal, refusal, accepted, first_refusal, counter_tests, run_tests_before_19}
use Rattle.model.proofs.Laws.Refusals.{accepted_number}
use Rattle.refusals.specs.Lowest.{Lowest}
use Rattle.waits.specs.Refusals.{bad_under_way, waits_on_refusal}
use Rattle.waits.proofs.Refusing.{run_early, early, run_decides, rows_refuse, rows_pass, early_decides, early_passes}
use Rattle.waits.proofs.RefusingOn.{waits_refused, number_refuses, numbers_pass, on_early_decides, on_counters_decide}

module _ (t : Tree) (s : LockState) (is : List ℕ) (room n : ℕ) where
  pub run_answered : (q : Refusal) → q ≡ run_early t s is room n → ((run_early t s is room n).number ≡ 0 → ⊥) → q ≡ early t s is room n
  run_answered q e h = e ∙ sym (run_decides t s is room n h)

  module _ (passes : (run_early t s is room n).number ≡ 0) where
    pub room_answered : n / 5 ≤ t.threads → refusal 18 0 ≡ early t s is room n
    room_answered l = sym (rows_refuse t s is room n passes (omega arith))

    pub acceptance_answered : t.threads < n / 5 → accepted ≡ early t s is room n
    acceptance_answered l = sym (rows_pass t s is room n passes (omega arith))

-- then 27: what the numbers refuse, and what is left if they refuse nothing
module _ (t : Tree) (s : LockState) (is : List ℕ) (room n : ℕ) (us : List ℕ) where
  -- if a test before 27 refuses, its result is the answer
  pub waits_answered : (q : Refusal) → q ≡ early t s is room n → ((early t s is room n).number ≡ 0 → ⊥) → q ≡ waits_on_refusal t s is room n us
  waits_answered q e m = e ∙ sym (waits_refused t s is room n us m ∙ early_decides t s is room n m)

  module _ (passes : (early t s is room n).number ≡ 0) where
    pub number_answered : (k : ℕ) → Lowest 256 (bad_under_way t us) k → k < 256 → refusal 27 k ≡ waits_on_refusal t s is room n us
    unfolding refusal
    number_answered k L h =
        let refused = number_refuses t s is room n us passes k L h in
        sym (on_early_decides t s is room n us (λ q. let m = sym (ap (λ v. v.number) refused) ∙ q in omega arith) ∙ refused)

    -- only 19 is left to test; the run and its rows pass the other tests
    pub run_passes : (first_refusal (run_tests_before_19 t s is room)).number ≡ 0
    run_passes = (early_passes t s is room n passes).0

    pub counters_left : Lowest 256 (bad_under_way t us) 256 → waits_on_refusal t s is room n us ≡ first_refusal (counter_tests t s is)
    counters_left L = on_counters_decide t s is room n us (ap (λ v. v.number) (numbers_pass t s is room n us passes 256 L (omega arith)) ∙ accepted_number)
