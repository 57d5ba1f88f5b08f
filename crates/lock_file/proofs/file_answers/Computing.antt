-- FAST COMPUTED CASES: the file call runs from a fresh lock, which passes 10, and also 19, since a file's schedule is short. So a case is computed without these tests.
use mathlib.Core.Path.{◌≡◌, refl, ap, ◌∙◌, fun_ext}
use mathlib.Core.Bool.{Bool, true, false, cond}
use mathlib.Core.List.{List, [], ◌∷◌, ◌++◌}
use Prim.Native.Nat.{ℕ, ◌≤◌, ◌<◌}
use native.Mathlib.Omega.{arith}
use lib.Dec.{ltb}
use lib.ListN.{length, replicate}
use borrow.Author.Tests.{ltb-false}
use Rattle.model.specs.declared.TreeWords.{TreeWords}
use Rattle.model.specs.declared.RunReply.{RunReply}
use Rattle.model.specs.Trees.{Tree, tree_of}
use Rattle.model.specs.States.{fresh_words}
use Rattle.model.specs.Counters.{fresh_lock}
use Rattle.model.specs.CounterLaws.{RoomLaw}
use Rattle.model.specs.Runs.{run}
use Rattle.model.specs.Refusals.{Refusal, refusal, Test, test, lowest_bad, first_refusal, bad_state, bad_counter, tree_tests, schedule_tests, room_tests, run_tests_before_19, run_tests, run_refusal}
use Rattle.model.specs.Answers.{counters_after_run, run_reply, run_answer}
use Rattle.model.specs.Laws.{SixteenBit}
use Rattle.model.proofs.Refusing.{test_skipped}
use Rattle.model.proofs.Trees.Accepted.{sixteen_bit}
use Rattle.model.proofs.Laws.Counters.{fresh_good, fresh_room, room_law}
use Rattle.model.proofs.Laws.Form.{fresh_well_formed}
use Rattle.model.proofs.Computing.{last_passes}
use Rattle.lock_file.specs.Reading.{Reading, refused, described, file_read}
use Rattle.lock_file.specs.FileAnswers.FileAnswers.{Outcome, refused_by, run_outcome, file_run, file_trace, reading_outcome, file_outcome}

-- a test that passes changes no answer, also if others follow
passes_between :
    (xs : List Test) (y : Test) (zs : List Test) → ((p : ℕ) → p < y.places → y.bad p ≡ false) →
    first_refusal (xs ++ (y ∷ zs)) ≡ first_refusal (xs ++ zs)
unfolding first_refusal
passes_between [] y zs h = test_skipped y zs h
passes_between (x ∷ xs) y zs h = ap (lowest_bad x.number x.bad x.places 0) (passes_between xs y zs h)

-- the length of a trace buffer as long as the schedule
abbrev pub own_room : (schedule : List ℕ) → ℕ
own_room is = length (replicate {A = ℕ} (length is) 0)

-- what refuses a run on a lock of its own, by the tests other than 10 and 19
unfoldable pub quick_refusal : Tree → (schedule : List ℕ) → Refusal
quick_refusal t is = first_refusal (tree_tests t ++ (schedule_tests t is ++ room_tests is (own_room is)))

same_refusal : (t : Tree) → SixteenBit t → (is : List ℕ) → length is ≤ 65536 → run_refusal t fresh_lock is (own_room is) ≡ quick_refusal t is
unfolding run_refusal run_tests quick_refusal bad_state RoomLaw
same_refusal t bits is short =
    last_passes (run_tests_before_19 t fresh_lock is (own_room is)) (test 19 (length is) (bad_counter t fresh_lock is))
    (room_law t bits fresh_lock is (fresh_room (length is) (omega arith)))
    ∙ passes_between (tree_tests t) (test 10 1 (bad_state t fresh_lock)) (schedule_tests t is ++ room_tests is (own_room is)) (λ p l. rw (fresh_well_formed t, fresh_good t))

-- the file call's run with those tests; a longer schedule, which no file has, is run with all
unfoldable pub quick_run : TreeWords → (schedule : List ℕ) → RunReply
quick_run w is =
    let short = run_reply (quick_refusal (tree_of w) is) fresh_lock (run (tree_of w) is fresh_words) (counters_after_run (tree_of w) is fresh_lock) in
    cond (ltb 65536 (length is)) (file_run w is) short

short_run :
    (w : TreeWords) (is : List ℕ) → length is ≤ 65536 →
    file_run w is ≡ run_reply (quick_refusal (tree_of w) is) fresh_lock (run (tree_of w) is fresh_words) (counters_after_run (tree_of w) is fresh_lock)
unfolding file_run run_answer
short_run w is h = rw (same_refusal (tree_of w) (sixteen_bit w) is h)

same_run : (w : TreeWords) (is : List ℕ) → file_run w is ≡ quick_run w is
unfolding quick_run
same_run w is = by (ltb 65536 (length is)) refl
  where
    by : (b : Bool) → ltb 65536 (length is) ≡ b → file_run w is ≡ quick_run w is
    by true e = rw e
    by false e = rw e (short_run w is (ltb-false 65536 (length is) e))

-- the result of reading, with such a run
unfoldable pub quick_reading : Reading → (room : ℕ) → Outcome
quick_reading (refused r) room = refused_by r
quick_reading (described w is) room = run_outcome (quick_run w is) (file_trace w is) room

same_for : (x : Reading) (room : ℕ) → reading_outcome x room ≡ quick_reading x room
unfolding reading_outcome quick_reading
same_for (refused r) room = refl
same_for (described w is) room = ap (λ r. run_outcome r (file_trace w is) room) (same_run w is)

-- the outcome of the file call, with such a reading
unfoldable pub quick_outcome : (bytes : List ℕ) → (room : ℕ) → Outcome
quick_outcome bs room = let read = quick_reading (file_read bs) room in cond (ltb 65536 (length bs)) (refused_by (refusal 1 0)) read

-- the same for every file at once, so that a list of cases is rewritten as a whole, before any file is read
pub same_outcome : file_outcome ≡ quick_outcome
unfolding file_outcome quick_outcome
same_outcome = fun_ext (λ bs. fun_ext (λ room. ap (λ x. cond (ltb 65536 (length bs)) (refused_by (refusal 1 0)) x) (same_for (file_read bs) room)))
