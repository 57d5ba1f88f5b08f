-- What refuses a run with waits that continues, in plain numbers.
use mathlib.Core.Path.{◌≡◌, refl, sym, ap, ◌∙◌}
use mathlib.Core.Bool.{Bool, true, false, ◌&&◌, not}
use mathlib.Core.List.{List, []}
use mathlib.Core.Logic.{◌≢◌}
use Prim.Native.Nat.{ℕ, ◌≤◌, ◌<◌}
use native.Mathlib.Omega.{arith}
use native.Mathlib.Decide.{ℕ_discrete}
use lib.Dec.{eqb, ltb, leb}
use lib.ListN.{get_or}
use borrow.Author.Tests.{le-ltb, ltb-false, le-leb, leb-true, eq-eqb, eqb-true, not-false}
use Rattle.model.specs.declared.LockState.{LockState}
use Rattle.model.specs.Trees.{Tree}
use Rattle.model.specs.Counters.{most_counted}
use Rattle.model.specs.Refusals as model
use Rattle.model.specs.Refusals.{refusal, accepted, first_refusal, tree_tests, counter_tests, has_number}
use Rattle.model.specs.Laws.{Numbered, RefusalLaw, RefusesExactly}
use Rattle.model.proofs.Refusing.{tests_pass, numbered}
use Rattle.model.proofs.Tests.{or_neither}
use Rattle.model.proofs.Laws.Refusals.{accepted_number, refusal_law}
use Rattle.refusals.specs.Lowest.{Lowest}
use Rattle.refusals.proofs.Joining.{first_decides, other_decides}
use Rattle.refusals.proofs.Scanning.{test_hit, test_missed}
use Rattle.waits.specs.Refusals.{waits_tests_before_19, waits_refusal, bad_under_way, under_way_tests, waits_on_tests_before_19, waits_on_tests, waits_on_refusal}
use Rattle.waits.specs.GoingOn.{NumberFits, WaitsOnRefusalLaw}
use Rattle.waits.proofs.Refusing.{early, early_numbered, early_decides, counters_decide}

-- A NUMBER, by its test
pub fits_passed : (t : Tree) (us : List ℕ) (i : ℕ) → bad_under_way t us i ≡ false → NumberFits t us i
unfolding bad_under_way
fits_passed t us i e =
    let both = or_neither (ltb most_counted (get_or us i 0)) (leb t.threads i && not (eqb (get_or us i 0) 0)) e in
    (ltb-false most_counted (get_or us i 0) both.0, λ h. eqb-true (get_or us i 0) 0 (not-false (eqb (get_or us i 0) 0) (rw (le-leb t.threads i h) at both.1)))

pub fits_passes : (t : Tree) (us : List ℕ) (i : ℕ) → NumberFits t us i → bad_under_way t us i ≡ false
unfolding bad_under_way
fits_passes t us i f = rw (le-ltb most_counted (get_or us i 0) f.0) (by (leb t.threads i) refl)
  where
    by : (b : Bool) → leb t.threads i ≡ b → b && not (eqb (get_or us i 0) 0) ≡ false
    by true e = rw (eq-eqb (get_or us i 0) 0 (f.1 (leb-true t.threads i e)))
    by false e = refl

module _ (t : Tree) (s : LockState) (is : List ℕ) (room n : ℕ) (us : List ℕ) where
  -- what is refused before 19 is tested
  abbrev pub on_early : model.Refusal
  on_early = first_refusal (waits_on_tests_before_19 t s is room n us)

  on_early_numbered : Numbered (waits_on_tests_before_19 t s is room n us)
  unfolding has_number tree_tests
  on_early_numbered = numbered (waits_on_tests_before_19 t s is room n us) refl

  exactly : RefusesExactly (waits_on_tests t s is room n us)
  unfolding RefusalLaw has_number tree_tests waits_on_tests
  exactly = refusal_law (waits_on_tests t s is room n us) (numbered (waits_on_tests t s is room n us) refl)

  -- BEFORE 19: the tests of a run with waits decide if one of them refuses, otherwise the numbers
  pub waits_decide : (early t s is room n).number ≢ 0 → on_early ≡ early t s is room n
  waits_decide = first_decides (waits_tests_before_19 t s is room n) (under_way_tests t us)

  module _ (passes : (early t s is room n).number ≡ 0) where
    pub numbers_decide : on_early ≡ first_refusal (under_way_tests t us)
    numbers_decide = other_decides (waits_tests_before_19 t s is room n) (under_way_tests t us) (early_numbered t s is room n) passes

    pub number_refuses : (p : ℕ) → Lowest 256 (bad_under_way t us) p → p < 256 → on_early ≡ refusal 27 p
    number_refuses p L h = numbers_decide ∙ test_hit _ [] p L h

    pub numbers_pass : (p : ℕ) → Lowest 256 (bad_under_way t us) p → 256 ≤ p → on_early ≡ accepted
    unfolding first_refusal
    numbers_pass p L h = numbers_decide ∙ test_missed _ [] p L h

  -- WITH 19: what refuses before it is the answer; if nothing does, 19 decides
  pub on_early_decides : on_early.number ≢ 0 → waits_on_refusal t s is room n us ≡ on_early
  unfolding waits_on_refusal waits_on_tests
  on_early_decides = first_decides (waits_on_tests_before_19 t s is room n us) (counter_tests t s is)

  pub on_counters_decide : on_early.number ≡ 0 → waits_on_refusal t s is room n us ≡ first_refusal (counter_tests t s is)
  unfolding waits_on_refusal waits_on_tests
  on_counters_decide = other_decides (waits_on_tests_before_19 t s is room n us) (counter_tests t s is) on_early_numbered

  -- if nothing refuses before 19, neither does a test of a run with waits nor a number
  pub on_early_passes : on_early.number ≡ 0 → ((early t s is room n).number ≡ 0) × ((i : ℕ) → i < 256 → NumberFits t us i)
  on_early_passes e =
      elim (ℕ_discrete (early t s is room n).number 0) [
        | no z ↦ absurd (z (sym (ap (λ r. r.number) (waits_decide z)) ∙ e))
        | yes z ↦ (z, λ i h. fits_passed t us i ((tests_pass _ [] (omega arith) (sym (ap (λ r. r.number) (numbers_decide z)) ∙ e)).0 i h))
      ]

  -- an accepted call met no refusal before 19
  pub on_early_zero : (waits_on_refusal t s is room n us).number ≡ 0 → on_early.number ≡ 0
  on_early_zero e =
      elim (ℕ_discrete on_early.number 0) [
        | yes z ↦ z
        | no z ↦ absurd (z (sym (ap (λ r. r.number) (on_early_decides z)) ∙ e))
      ]

  pub waits_refused : (early t s is room n).number ≢ 0 → waits_on_refusal t s is room n us ≡ waits_refusal t s is room n
  waits_refused h =
      on_early_decides (λ z. h (sym (ap (λ r. r.number) (waits_decide h)) ∙ z)) ∙ waits_decide h ∙ sym (early_decides t s is room n h)

  module _ (passes : (early t s is room n).number ≡ 0) where
    -- the first number that does not fit
    lowest : (i : ℕ) → i < 256 → (NumberFits t us i → ⊥) → ((j : ℕ) → j < i → NumberFits t us j) → Lowest 256 (bad_under_way t us) i
    lowest i h misfit before =
        record { within = omega arith; passed = λ j l. fits_passes t us j (before j l); fails = λ _. by (bad_under_way t us i) refl }
      where
        by : (b : Bool) → bad_under_way t us i ≡ b → bad_under_way t us i ≡ true
        by true e = e
        by false e = absurd (misfit (fits_passed t us i e))

    pub number_refused : (i : ℕ) → i < 256 → (NumberFits t us i → ⊥) → ((j : ℕ) → j < i → NumberFits t us j) → waits_on_refusal t s is room n us ≡ refusal 27 i
    unfolding refusal
    number_refused i h misfit before =
        let e = number_refuses passes i (lowest i h misfit before) h in
        on_early_decides (λ z. let m = sym (ap (λ r. r.number) e) ∙ z in omega arith) ∙ e

    pub numbers_fit : ((i : ℕ) → i < 256 → NumberFits t us i) → waits_on_refusal t s is room n us ≡ waits_refusal t s is room n
    numbers_fit all =
        let L : Lowest 256 (bad_under_way t us) 256 = record { within = omega arith; passed = λ j l. fits_passes t us j (all j l); fails = λ l. absurd (omega arith) } in
        on_counters_decide (ap (λ r. r.number) (numbers_pass passes 256 L (omega arith)) ∙ accepted_number) ∙ sym (counters_decide t s is room n passes)

  -- an accepted call: a run with waits would be accepted, and the numbers fit
  pub on_accepted : (waits_on_refusal t s is room n us).number ≡ 0 → ((waits_refusal t s is room n).number ≡ 0) × ((i : ℕ) → i < 256 → NumberFits t us i)
  on_accepted e =
      let p = on_early_passes (on_early_zero e) in
      (sym (ap (λ r. r.number) (numbers_fit p.0 p.1)) ∙ e, p.1)

pub waits_on_refusal_law : WaitsOnRefusalLaw
unfolding WaitsOnRefusalLaw
waits_on_refusal_law t s is room n us =
    record {
      exactly = exactly t s is room n us;
      waits_refused = waits_refused t s is room n us;
      number_refused = number_refused t s is room n us;
      numbers_fit = numbers_fit t s is room n us;
    }
