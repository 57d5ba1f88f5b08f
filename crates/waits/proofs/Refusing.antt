-- What refuses a run with waits, in plain numbers.
use mathlib.Core.Path.{◌≡◌, refl, sym, ap, ◌∙◌}
use mathlib.Core.List.{List, []}
use mathlib.Core.Logic.{◌≢◌}
use Prim.Native.Nat.{ℕ, ◌+◌, ◌*◌, ◌/◌, ◌≤◌, ◌<◌}
use native.Mathlib.Omega.{arith, by_contra}
use native.Mathlib.Decide.{ℕ_discrete}
use borrow.Author.Tests.{lt-ltb, le-ltb}
use Rattle.model.specs.declared.LockState.{LockState}
use Rattle.model.specs.Trees.{Tree}
use Rattle.model.specs.Refusals as model
use Rattle.model.specs.Refusals.{refusal, accepted, Test, first_refusal, tree_tests, counter_tests, run_tests_before_19, run_tests, has_number, run_refusal}
use Rattle.model.specs.Laws.{Numbered, RefusalLaw, RefusesExactly}
use Rattle.model.proofs.Refusing.{numbered}
use Rattle.model.proofs.Laws.Refusals.{accepted_number, refusal_law, run_numbered_before_19}
use Rattle.refusals.proofs.Joining.{first_decides, other_decides}
use Rattle.refusals.proofs.Scanning.{single_hit, single_missed}
use Rattle.waits.specs.Refusals.{bad_row_room, row_room_tests, waits_tests_before_19, waits_tests, waits_refusal}
use Rattle.waits.specs.Laws.{WaitsRefusalLaw}

module _ (t : Tree) (s : LockState) (is : List ℕ) (room n : ℕ) where
  abbrev pub ran : List Test
  ran = run_tests_before_19 t s is room

  -- what is refused before 19 is tested, by the run and by the run with waits
  abbrev pub run_early : model.Refusal
  run_early = first_refusal ran

  abbrev pub early : model.Refusal
  early = first_refusal (waits_tests_before_19 t s is room n)

  pub early_numbered : Numbered (waits_tests_before_19 t s is room n)
  unfolding has_number tree_tests
  early_numbered = numbered (waits_tests_before_19 t s is room n) refl

  exactly : RefusesExactly (waits_tests t s is room n)
  unfolding RefusalLaw has_number tree_tests waits_tests
  exactly = refusal_law (waits_tests t s is room n) (numbered (waits_tests t s is room n) refl)

  -- BEFORE 19: the run's tests decide if one of them refuses, otherwise the length of the row buffer
  pub run_decides : run_early.number ≢ 0 → early ≡ run_early
  run_decides = first_decides ran (row_room_tests t n)

  module _ (passes : run_early.number ≡ 0) where
    rows_decide : early ≡ first_refusal (row_room_tests t n)
    rows_decide = other_decides ran (row_room_tests t n) (run_numbered_before_19 t s is room) passes

    pub rows_refuse : n < 5 * (t.threads + 1) → early ≡ refusal 18 0
    unfolding bad_row_room
    rows_refuse h = rows_decide ∙ single_hit _ [] refl (lt-ltb (n / 5) (t.threads + 1) (omega arith))

    pub rows_pass : 5 * (t.threads + 1) ≤ n → early ≡ accepted
    unfolding bad_row_room first_refusal
    rows_pass h = rows_decide ∙ single_missed _ [] refl (le-ltb (n / 5) (t.threads + 1) (omega arith))

  -- WITH 19: what refuses before it is the answer; if nothing does, 19 decides
  pub early_decides : early.number ≢ 0 → waits_refusal t s is room n ≡ early
  unfolding waits_refusal waits_tests
  early_decides = first_decides (waits_tests_before_19 t s is room n) (counter_tests t s is)

  pub counters_decide : early.number ≡ 0 → waits_refusal t s is room n ≡ first_refusal (counter_tests t s is)
  unfolding waits_refusal waits_tests
  counters_decide = other_decides (waits_tests_before_19 t s is room n) (counter_tests t s is) early_numbered

  -- if nothing refuses before 19, neither do the run's tests nor the length of the row buffer
  pub early_passes : early.number ≡ 0 → (run_early.number ≡ 0) × (5 * (t.threads + 1) ≤ n)
  unfolding refusal
  early_passes e =
      elim (ℕ_discrete run_early.number 0) [
        | no z ↦ absurd (z (sym (ap (λ r. r.number) (run_decides z)) ∙ e))
        | yes z ↦ (z, by_contra (5 * (t.threads + 1)) n (λ h. let m = ap (λ r. r.number) (rows_refuse z h) in omega arith))
      ]

  -- an accepted call met no refusal before 19
  pub early_zero : (waits_refusal t s is room n).number ≡ 0 → early.number ≡ 0
  early_zero e =
      elim (ℕ_discrete early.number 0) [
        | yes z ↦ z
        | no z ↦ absurd (z (sym (ap (λ r. r.number) (early_decides z)) ∙ e))
      ]

  run_refused : run_early.number ≢ 0 → waits_refusal t s is room n ≡ run_refusal t s is room
  unfolding run_refusal run_tests
  run_refused h =
      early_decides (λ z. h (sym (ap (λ r. r.number) (run_decides h)) ∙ z)) ∙ run_decides h ∙ sym (first_decides ran (counter_tests t s is) h)

  module _ (passes : run_early.number ≡ 0) where
    room_refused : n < 5 * (t.threads + 1) → waits_refusal t s is room n ≡ refusal 18 0
    unfolding refusal
    room_refused h =
        let e = rows_refuse passes h in
        early_decides (λ z. let m = sym (ap (λ r. r.number) e) ∙ z in omega arith) ∙ e

    rows_fit : 5 * (t.threads + 1) ≤ n → waits_refusal t s is room n ≡ run_refusal t s is room
    unfolding run_refusal run_tests
    rows_fit h =
        counters_decide (ap (λ r. r.number) (rows_pass passes h) ∙ accepted_number)
        ∙ sym (other_decides ran (counter_tests t s is) (run_numbered_before_19 t s is room) passes)

pub waits_refusal_law : WaitsRefusalLaw
unfolding WaitsRefusalLaw
waits_refusal_law t s is room n =
    record {
      exactly = exactly t s is room n;
      run_refused = run_refused t s is room n;
      room_refused = room_refused t s is room n;
      rows_fit = rows_fit t s is room n;
    }
