-- The laws of the check of a state.
use mathlib.Core.Path.{◌≡◌, refl, sym, ap, ◌∙◌}
use mathlib.Core.Bool.{true}
use mathlib.Core.List.{List, [], ◌∷◌, ◌++◌}
use Prim.Native.Nat.{ℕ}
use native.Mathlib.Omega.{arith}
use native.Mathlib.Decide.{ℕ_discrete}
use lib.ListN.{length}
use lib.Dec.{eqb}
use borrow.Author.Tests.{eqb-true, eq-eqb, le-ltb, not-false}
use Rattle.model.specs.declared.TreeWords.{TreeWords}
use Rattle.model.specs.declared.LockState.{LockState}
use Rattle.model.specs.declared.Counters.{Counters}
use Rattle.model.specs.declared.RunReply.{RunReply}
use Rattle.model.specs.Trees.{Tree, tree_of}
use Rattle.model.specs.WellFormed.{well_formed}
use Rattle.model.specs.Counters.{good_counts, lock_state}
use Rattle.model.specs.Runs.{steps, Run, run_of, run}
use Rattle.model.specs.Refusals.{Refusal, refusal, accepted, Test, first_refusal, lowest_bad, has_number, state_tests, tree_tests, tree_refusal, bad_state, bad_length, bad_room, counter_tests, run_tests_before_19, run_tests, step_refusal, run_refusal}
use Rattle.model.specs.Answers.{counters_after_run, fresh_answer, step_reply, step_answer, run_reply, run_answer}
use Rattle.model.specs.CounterLaws.{CounterFormLaw}
use Rattle.model.specs.Laws.{AllThreads, Formed, FormLaw, AllPass, Numbered, RefusalLaw}
use Rattle.model.proofs.Tests.{and_both, by_test}
use Rattle.model.proofs.Refusing.{numbered}
use Rattle.model.proofs.Laws.Refusals.{accepted_number, refusal_law, run_refuses_exactly, run_numbered_before_19}
use Rattle.model.proofs.Laws.Calls.{pass_split, pass_join, tree_passes, tree_passed, CountsPass, step_facts, step_counted, step_accepted, run_facts, run_counted, run_reply_number, step_reply_number}
use Rattle.model.proofs.Laws.Form.{form_law}
use Rattle.model.proofs.Laws.Counters.{fresh_good, counter_form_law}
use Rattle.model.proofs.Trees.Accepted.{sixteen_bit}
use Rattle.refusals.specs.Arrays.{tree_state_tests, schedule_room_tests}
use Rattle.refusals.proofs.Joining.{first_decides, other_decides, state_numbered}
use Rattle.refusals.specs.StateCheck.Answers.{check_tests, check_refusal, check_answer}
use Rattle.refusals.specs.StateCheck.Laws.{CheckRefusalLaw, AcceptedLaw, EmptyRunLaw, ReturnedStateLaw, SteppedLaw}

pub check_refusal_law : CheckRefusalLaw
unfolding CheckRefusalLaw RefusalLaw has_number tree_tests check_tests
check_refusal_law t s = refusal_law (check_tests t s) (numbered (check_tests t s) refl)

-- later tests that refuse nothing change no answer
late_pass : (xs ys : List Test) → Numbered xs → first_refusal ys ≡ accepted → first_refusal (xs ++ ys) ≡ first_refusal xs
unfolding RefusalLaw
late_pass xs ys n e =
    elim (ℕ_discrete (first_refusal xs).number 0) [
      | no z ↦ first_decides xs ys z
      | yes z ↦ other_decides xs ys n z ∙ e ∙ sym ((refusal_law xs n).zero_accepted z)
    ]

module _ (t : Tree) (s : LockState) where
  -- the tests of an empty schedule refuse nothing
  nothing_refused : (room : ℕ) → first_refusal (schedule_room_tests t [] room) ≡ accepted
  unfolding first_refusal lowest_bad bad_length bad_room
  nothing_refused room = rw (le-ltb room 0 (omega arith))

  pub empty_early : (room : ℕ) → first_refusal (run_tests_before_19 t s [] room) ≡ check_refusal t s
  unfolding check_refusal check_tests tree_tests
  empty_early room = late_pass (tree_state_tests t s) (schedule_room_tests t [] room) (state_numbered t s) (nothing_refused room)

  nothing_counted : first_refusal (counter_tests t s []) ≡ accepted
  unfolding first_refusal lowest_bad
  nothing_counted = refl

  pub empty_run : (room : ℕ) → run_refusal t s [] room ≡ check_refusal t s
  unfolding run_refusal run_tests
  empty_run room = late_pass (run_tests_before_19 t s [] room) (counter_tests t s []) (run_numbered_before_19 t s [] room) nothing_counted ∙ empty_early room

  passed : check_refusal t s ≡ accepted → ((tree_refusal t).number ≡ 0) × (well_formed t s.words ≡ true) × (good_counts t s.counters ≡ true)
  unfolding check_refusal check_tests AllPass bad_state CheckRefusalLaw
  passed e =
      let both = pass_split (tree_tests t) (state_tests t s) ((check_refusal_law t s).passed.0 e) in
      let good = and_both (well_formed t s.words) (good_counts t s.counters) (not-false _ (both.1.0 0 (omega arith))) in
      (tree_passes t both.0, good.0, good.1)

  passes : ((tree_refusal t).number ≡ 0) × (well_formed t s.words ≡ true) × (good_counts t s.counters ≡ true) → check_refusal t s ≡ accepted
  unfolding check_refusal check_tests AllPass bad_state CheckRefusalLaw
  passes h =
      (check_refusal_law t s).passed.1 (pass_join (tree_tests t) (state_tests t s) (tree_passed t h.0) (λ p l. rw (h.1, h.2), tt))

pub accepted_law : AcceptedLaw
unfolding AcceptedLaw
accepted_law t s = (passed t s, passes t s)

-- the place of a reply is that of its refusal
reply_place : (r : Refusal) (s : LockState) (x : Run) (c : Counters) → (r.number ≡ 0 → r ≡ accepted) → (run_reply r s x c).place ≡ r.place
unfolding run_reply accepted refusal
reply_place r s x c z = by_test (λ (y : RunReply). y.place ≡ r.place) (eqb r.number 0) _ _ (λ e. sym (ap (λ q. q.place) (z (eqb-true r.number 0 e)))) (λ e. refl)

pub empty_run_law : EmptyRunLaw
unfolding EmptyRunLaw check_answer run_answer run_refusal
empty_run_law w s b =
    let t = tree_of w in
    let same = sym (empty_run t s (length b)) in
    record {
      refusal = same;
      number = ap (λ r. r.number) same ∙ sym (run_reply_number _ s _ _);
      place = ap (λ r. r.place) same ∙ sym (reply_place _ s _ _ (run_refuses_exactly t s [] (length b)).zero_accepted);
    }

-- WHAT CALLS RETURN
module _ (w : TreeWords) where
  abbrev t : Tree
  t = tree_of w

  of_fresh : (start : ℕ) → (fresh_answer w start).number ≡ 0 → check_answer w (fresh_answer w start).state ≡ accepted
  unfolding fresh_answer check_answer FormLaw
  of_fresh v e = passes t _ (e, ((form_law t (sixteen_bit w) e).of_fresh _).form, fresh_good t)

  of_steps :
      (s : LockState) (is : List ℕ) → (tree_refusal t).number ≡ 0 → AllThreads t is → Formed t s.words → good_counts t s.counters ≡ true →
      CountsPass t s is → check_refusal t (lock_state (run t is s.words).state (counters_after_run t is s)) ≡ accepted
  unfolding FormLaw CounterFormLaw
  of_steps s is ok all f good low =
      passes t _ (ok, ((form_law t (sixteen_bit w) ok).of_run is s.words all f).form, (counter_form_law t ok (sixteen_bit w)).of_run is s all f good low)

  of_run :
      (s : LockState) (is b : List ℕ) → Formed t s.words → (run_answer w s is b).number ≡ 0 →
      check_answer w (run_answer w s is b).state ≡ accepted
  unfolding run_answer run_reply check_answer
  of_run s is b f e =
      let r = run_refusal t s is (length b) in
      let z : r.number ≡ 0 = sym (run_reply_number r s (run t is s.words) (counters_after_run t is s)) ∙ e in
      let g = run_facts t s is (length b) z in
      rw (eq-eqb r.number 0 z) (of_steps s is g.tree g.threads f g.counts (run_counted t s is (length b) z))

  of_step : (s : LockState) (i : ℕ) → Formed t s.words → (step_answer w s i).number ≡ 0 → check_answer w (step_answer w s i).state ≡ accepted
  unfolding step_answer step_reply check_answer AllThreads run run_of
  of_step s i f e =
      let r = step_refusal t s i in
      let z : r.number ≡ 0 = sym (step_reply_number r s (steps t (i ∷ []) s.words) (counters_after_run t (i ∷ []) s)) ∙ e in
      let g = step_facts t s i z in
      rw (eq-eqb r.number 0 z) (of_steps s (i ∷ []) g.tree (g.thread, tt) f g.counts (step_counted t s i z))

pub returned_state_law : ReturnedStateLaw
unfolding ReturnedStateLaw
returned_state_law w = record { of_fresh = of_fresh w; of_step = of_step w; of_run = of_run w }

pub stepped_law : SteppedLaw
unfolding SteppedLaw
stepped_law t s i e h =
    let a = passed t s e in (
      λ z. step_counted t s i (ap (λ r. r.number) z ∙ accepted_number),
      step_accepted t s i (record { tree = a.0; form = a.1; counts = a.2; thread = h }),
    )
