-- What refuses a chain: the tests of a step, then 20 and 21.
use mathlib.Core.Path.{◌≡◌, refl, sym, ap, ◌∙◌}
use mathlib.Core.Bool.{Bool, true, false}
use mathlib.Core.List.{List, [], ◌∷◌, ◌++◌}
use mathlib.Core.Logic.{◌≢◌}
use Prim.Native.Nat.{ℕ, ◌≤◌, ◌<◌}
use lib.ListN.{length}
use borrow.Author.Tests.{eq-eqb, ne_eqb, lt-ltb, le-ltb}
use native.Mathlib.Decide.{ℕ_discrete}
use Rattle.model.specs.declared.LockState.{LockState}
use Rattle.model.specs.Trees.{Tree}
use Rattle.model.specs.Refusals.{Refusal, refusal, accepted, Test, test, first_refusal, has_number, entry_tests, room_tests, tree_tests, bad_length, bad_entry, bad_room, run_tests_before_19}
use Rattle.model.proofs.Refusing.{numbered}
use Rattle.refusals.specs.Arrays.{tree_state_tests, schedule_room_tests}
use Rattle.refusals.proofs.Scanning.{single_hit, single_missed}
use Rattle.refusals.proofs.Joining.{first_decides, other_decides, state_numbered}
use Rattle.chain.specs.Chain.{chain}
use Rattle.chain.specs.Answers.{bad_buffer, bad_chain, chain_tests, chain_refusal}

no_tests : first_refusal [] ≡ accepted
unfolding first_refusal
no_tests = refl

module _ (t : Tree) (s : LockState) (i room : ℕ) where
  -- a run with this one entry and a trace buffer for it, without 19
  abbrev ran : Refusal
  ran = first_refusal (run_tests_before_19 t s (i ∷ []) 1)

  abbrev entry : List Test
  entry = entry_tests t (i ∷ [])

  abbrev late : List Test
  late = test 20 1 (bad_buffer t room) ∷ test 21 1 (bad_chain t s.words i) ∷ []

  abbrev early : List Test
  early = tree_state_tests t s ++ entry

  one_schedule : first_refusal (schedule_room_tests t (i ∷ []) 1) ≡ first_refusal entry
  unfolding bad_length bad_room
  one_schedule = single_missed _ (entry ++ room_tests (i ∷ []) 1) refl refl ∙ by (bad_entry t (i ∷ []) 0) refl
    where
      by : (b : Bool) → bad_entry t (i ∷ []) 0 ≡ b → first_refusal (entry ++ room_tests (i ∷ []) 1) ≡ first_refusal entry
      by true e = single_hit _ (room_tests (i ∷ []) 1) refl e ∙ sym (single_hit _ [] refl e)
      by false e = single_missed _ (room_tests (i ∷ []) 1) refl e ∙ single_missed _ [] refl refl ∙ sym (single_missed _ [] refl e)

  early_run : first_refusal early ≡ ran
  unfolding tree_tests
  early_run =
      let xs = tree_state_tests t s in
      elim (ℕ_discrete (first_refusal xs).number 0) [
        | yes z ↦ other_decides xs entry (state_numbered t s) z ∙ sym one_schedule ∙ sym (other_decides xs (schedule_room_tests t (i ∷ []) 1) (state_numbered t s) z)
        | no z ↦ first_decides xs entry z ∙ sym (first_decides xs (schedule_room_tests t (i ∷ []) 1) z)
      ]

  early_numbered : has_number early 0 ≡ false
  unfolding has_number tree_tests
  early_numbered = refl

  -- a chain is refused like a step
  pub refused_early : ran.number ≢ 0 → chain_refusal t s i room ≡ ran
  unfolding chain_refusal chain_tests tree_tests
  refused_early n = first_decides early late (λ z. n (ap (λ r. r.number) (sym early_run) ∙ z)) ∙ early_run

  passed_early : ran.number ≡ 0 → chain_refusal t s i room ≡ first_refusal late
  unfolding chain_refusal chain_tests tree_tests
  passed_early z = other_decides early late (numbered early early_numbered) (ap (λ r. r.number) early_run ∙ z)

  pub refused_20 : ran.number ≡ 0 → room < t.threads → chain_refusal t s i room ≡ refusal 20 0
  unfolding bad_buffer
  refused_20 z b = passed_early z ∙ single_hit _ _ refl (lt-ltb room t.threads b)

  pub refused_21 : ran.number ≡ 0 → t.threads ≤ room → length (chain t s.words i) ≡ 0 → chain_refusal t s i room ≡ refusal 21 0
  unfolding bad_buffer bad_chain
  refused_21 z b e = passed_early z ∙ single_missed _ _ refl (le-ltb room t.threads b) ∙ single_hit _ [] refl (eq-eqb (length (chain t s.words i)) 0 e)

  pub not_refused : ran.number ≡ 0 → t.threads ≤ room → length (chain t s.words i) ≢ 0 → chain_refusal t s i room ≡ accepted
  unfolding bad_buffer bad_chain
  not_refused z b e =
      passed_early z ∙ single_missed (test 20 1 (bad_buffer t room)) (test 21 1 (bad_chain t s.words i) ∷ []) refl (le-ltb room t.threads b)
      ∙ single_missed (test 21 1 (bad_chain t s.words i)) [] refl (ne_eqb (length (chain t s.words i)) 0 e) ∙ no_tests
