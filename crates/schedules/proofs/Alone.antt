-- A schedule run alone on an accepted tree: the tree and the fresh words pass and the trace buffer is long enough, so the schedule's own tests decide.
use mathlib.Core.Path.{◌≡◌, refl, sym, ap, ◌∙◌}
use mathlib.Core.Bool.{Bool}
use mathlib.Core.List.{List, [], ◌++◌}
use mathlib.Core.Logic.{◌≢◌, ◌⊎◌, inl, inr, ⊎_elim}
use Prim.Native.Nat.{ℕ, zero, suc, ◌≤◌}
use native.Mathlib.Omega.{arith}
use native.Mathlib.Decide.{ℕ_discrete}
use lib.Dec.{eqb}
use lib.ListN.{length, drop, get_or, replicate, length-replicate}
use borrow.Author.Tests.{ne_eqb, eqb-true, le-ltb}
use Rattle.model.specs.declared.TreeWords.{TreeWords}
use Rattle.model.specs.declared.Counters.{Counters}
use Rattle.model.specs.declared.LockState.{LockState}
use Rattle.model.specs.declared.RunReply.{RunReply}
use Rattle.model.specs.Trees.{Tree, tree_of}
use Rattle.model.specs.States.{fresh_words}
use Rattle.model.specs.Runs.{Run, run}
use Rattle.model.specs.Counters.{fresh_lock}
use Rattle.model.specs.CounterLaws.{RoomLaw}
use Rattle.model.specs.Refusals.{Refusal, refusal, accepted, Test, test, first_refusal, lowest_bad, bad_state, bad_length, bad_entry, bad_room, bad_counter, counter_tests, run_tests_before_19, entry_tests, state_tests, schedule_tests, room_tests, tree_tests, run_tests, has_number, tree_refusal, run_refusal}
use Rattle.model.specs.Answers.{fresh_answer, counters_after_run, run_reply, run_answer}
use Rattle.model.specs.Laws.{Numbered, RefusalLaw}
use Rattle.claims.specs.Reached.{LoneRunLaw}
use Rattle.model.proofs.Refusing.{test_skipped, numbered}
use Rattle.model.proofs.Laws.Refusals.{refusal_law, tree_numbered, run_numbered_before_19}
use Rattle.model.proofs.Laws.Counters.{fresh_good, room_law, fresh_room}
use Rattle.model.proofs.Laws.Form.{fresh_at_zero, fresh_well_formed}
use Rattle.model.proofs.Laws.Calls.{early_facts, run_reply_number}
use Rattle.model.proofs.Tests.{by_test}
use Rattle.model.proofs.Trees.Accepted.{sixteen_bit}
use Rattle.claims.proofs.Claims.Accepts.{lone_run_law}
use Rattle.refusals.proofs.Joining.{first_decides, other_decides}
use Rattle.refusals.proofs.Scanning.{single_missed}
use Rattle.schedules.specs.Rows.{alone, row_of}
use Rattle.schedules.specs.Laws.{Says}

-- tests that refuse nothing, put after others, change no answer
passing_after : (xs ys : List Test) → Numbered xs → first_refusal ys ≡ accepted → first_refusal (xs ++ ys) ≡ first_refusal xs
unfolding RefusalLaw
passing_after xs ys n e =
    elim (ℕ_discrete (first_refusal xs).number 0) [
      | yes z ↦ other_decides xs ys n z ∙ e ∙ sym ((refusal_law xs n).zero_accepted z)
      | no z ↦ first_decides xs ys z
    ]

schedule_numbered : (t : Tree) (is : List ℕ) → Numbered (schedule_tests t is)
unfolding has_number
schedule_numbered t is = numbered (schedule_tests t is) refl

module _ (w : TreeWords) (ok : (tree_refusal (tree_of w)).number ≡ 0) where
  -- a fresh lock passes 10
  fresh_passes : first_refusal (state_tests (tree_of w) fresh_lock) ≡ accepted
  unfolding bad_state first_refusal
  fresh_passes = single_missed _ [] refl (rw (fresh_well_formed (tree_of w), fresh_good (tree_of w)))

  -- and 19: a schedule that 11 does not refuse is too short to reach its limit
  before_19 : (is : List ℕ) (room : ℕ) → run_refusal (tree_of w) fresh_lock is room ≡ first_refusal (run_tests_before_19 (tree_of w) fresh_lock is room)
  unfolding run_refusal run_tests RoomLaw first_refusal
  before_19 is room =
      let t = tree_of w in
      let xs = run_tests_before_19 t fresh_lock is room in
      elim (ℕ_discrete (first_refusal xs).number 0) [
        | yes z ↦
            let short = (early_facts t fresh_lock is room z).short in
            passing_after xs (counter_tests t fresh_lock is) (run_numbered_before_19 t fresh_lock is room)
            (test_skipped (test 19 (length is) (bad_counter t fresh_lock is)) [] (room_law t (sixteen_bit w) fresh_lock is (fresh_room (length is) (omega arith))))
        | no z ↦ first_decides xs (counter_tests t fresh_lock is) z
      ]

  -- so only 11 to 13 can refuse a run from it
  pub schedule_decides : (is : List ℕ) (room : ℕ) → run_refusal (tree_of w) fresh_lock is room ≡ first_refusal (schedule_tests (tree_of w) is ++ room_tests is room)
  unfolding tree_refusal has_number refusal accepted
  schedule_decides is room =
      let t = tree_of w in
      before_19 is room
      ∙ other_decides (tree_tests t) (state_tests t fresh_lock ++ (schedule_tests t is ++ room_tests is room)) (tree_numbered t) ok
      ∙ other_decides (state_tests t fresh_lock) (schedule_tests t is ++ room_tests is room) (numbered (state_tests t fresh_lock) refl) (ap (λ r. r.number) fresh_passes)

  -- and only 11 and 12 if the trace buffer is long enough
  pub alone_decides : (is : List ℕ) (room : ℕ) → length is ≤ room → run_refusal (tree_of w) fresh_lock is room ≡ first_refusal (schedule_tests (tree_of w) is)
  unfolding bad_room first_refusal
  alone_decides is room h =
      schedule_decides is room
      ∙ passing_after (schedule_tests (tree_of w) is) (room_tests is room) (schedule_numbered (tree_of w) is) (single_missed _ [] refl (le-ltb room (length is) h))

  -- the answer of a run with a trace buffer of the schedule's length
  pub answer_by_schedule :
      (is b : List ℕ) → length b ≡ length is →
      run_answer w fresh_lock is b ≡ run_reply (first_refusal (schedule_tests (tree_of w) is)) fresh_lock (run (tree_of w) is fresh_words) (counters_after_run (tree_of w) is fresh_lock)
  unfolding run_answer
  answer_by_schedule is b long = rw (alone_decides is (length b) (omega arith))

  pub alone_by_schedule : (is : List ℕ) → alone w is ≡ run_reply (first_refusal (schedule_tests (tree_of w) is)) fresh_lock (run (tree_of w) is fresh_words) (counters_after_run (tree_of w) is fresh_lock)
  unfolding alone
  alone_by_schedule is = answer_by_schedule is (replicate (length is) 0) (length-replicate {A = ℕ} (length is) 0)

-- THE ROW of a run's reply
row_number : (r : Refusal) (s : LockState) (x : Run) (c : Counters) → get_or (row_of (run_reply r s x c)) 0 0 ≡ r.number
unfolding row_of
row_number r s x c = run_reply_number r s x c

row_place : (r : Refusal) (s : LockState) (x : Run) (c : Counters) → (r.number ≡ 0 → r.place ≡ 0) → get_or (row_of (run_reply r s x c)) 1 0 ≡ r.place
unfolding row_of run_reply
row_place r s x c h =
    by_test (λ (y : RunReply). y.place ≡ r.place) (eqb r.number 0) _ _ (λ e. sym (h (eqb-true r.number 0 e))) (λ e. refl)

row_no_counts : (r : Refusal) (s : LockState) (x : Run) (c : Counters) → r.number ≢ 0 → drop 2 (row_of (run_reply r s x c)) ≡ replicate 6 0
unfolding row_of run_reply
row_no_counts r s x c h = rw (ne_eqb r.number 0 h)

-- an accepted answer has place 0
zero_place : (r : Refusal) → (r.number ≡ 0 → r ≡ accepted) → r.number ≡ 0 → r.place ≡ 0
unfolding accepted refusal
zero_place r f z = ap (λ x. x.place) (f z)

-- a schedule's tests have the numbers 11 and 12
lowest_number : (n : ℕ) (f : ℕ → Bool) (k p : ℕ) (r : Refusal) → ((lowest_bad n f k p r).number ≡ n) ⊎ ((lowest_bad n f k p r).number ≡ r.number)
unfolding lowest_bad refusal
lowest_number n f zero p r = inr refl
lowest_number n f (suc k) p r =
    by_test (λ (y : Refusal). (y.number ≡ n) ⊎ (y.number ≡ r.number)) (f p) (refusal n p) (lowest_bad n f k (suc p) r) (λ e. inl refl) (λ e. lowest_number n f k (suc p) r)

schedule_number : (t : Tree) (is : List ℕ) → let n = (first_refusal (schedule_tests t is)).number in (n ≡ 0) ⊎ ((n ≡ 11) ⊎ (n ≡ 12))
unfolding first_refusal accepted refusal
schedule_number t is =
    ⊎_elim (λ e. inr (inl e))
    (λ e. ⊎_elim (λ f. inr (inr (e ∙ f))) (λ f. inl (e ∙ f)) (lowest_number 12 (bad_entry t is) (length is) 0 accepted))
    (lowest_number 11 (bad_length is) 1 0 (first_refusal (entry_tests t is)))

module _ (w : TreeWords) (ok : (tree_refusal (tree_of w)).number ≡ 0) (is : List ℕ) where
  abbrev met : Refusal
  met = first_refusal (schedule_tests (tree_of w) is)

  abbrev ran : Run
  ran = run (tree_of w) is fresh_words

  abbrev left : Counters
  left = counters_after_run (tree_of w) is fresh_lock

  -- what the row of a schedule run alone reports
  pub row_says : Says w is (row_of (alone w is))
  unfolding fresh_answer refusal RefusalLaw LoneRunLaw tree_refusal
  row_says =
      let e = alone_by_schedule w ok is in
      let exactly = refusal_law (schedule_tests (tree_of w) is) (schedule_numbered (tree_of w) is) in
      let number : get_or (row_of (alone w is)) 0 0 ≡ met.number = ap (λ y. get_or (row_of y) 0 0) e ∙ row_number met fresh_lock ran left in
      let place : get_or (row_of (alone w is)) 1 0 ≡ met.place =
      ap (λ y. get_or (row_of y) 1 0) e ∙ row_place met fresh_lock ran left (zero_place met exactly.zero_accepted) in
      record {
        alone = λ b long. rw (ok, fresh_at_zero (tree_of w)) (ap row_of (e ∙ sym (answer_by_schedule w ok is b long)));
        refused = rw (number, place);
        number = rw number (schedule_number (tree_of w) is);
        no_counts = λ h. ap (λ y. drop 2 (row_of y)) e ∙ row_no_counts met fresh_lock ran left (λ z. h (number ∙ z));
        claimed = λ b. lone_run_law w 0 is b ok;
      }
