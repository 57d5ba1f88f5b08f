-- THE LONGEST LISTING: in a buffer long enough for it, 14 never refuses.
use mathlib.Core.Path.{◌≡◌, sym, ap, ◌∙◌}
use mathlib.Core.Bool.{Bool, true, false, cond, true≢false}
use mathlib.Core.List.{List, [], ◌∷◌, ◌++◌}
use mathlib.Core.Logic.{◌≢◌, inl, inr}
use Prim.Native.Nat.{ℕ, zero, suc, ◌-◌, ◌/◌, ◌≤◌, ◌<◌}
use native.Mathlib.Omega.{arith}
use lib.Dec.{ltb, eqb}
use lib.ListN.{length, get_or, replicate}
use borrow.Author.Tests.{ltb-false, le-ltb, eqb-true}
use Rattle.model.specs.declared.TreeWords.{TreeWords}
use Rattle.model.specs.declared.State.{State}
use Rattle.model.specs.Trees.{Tree, tree_of}
use Rattle.model.specs.States.{fresh_words}
use Rattle.model.specs.Counters.{fresh_lock}
use Rattle.model.specs.Steps.{is_kind, is_entry, stay, root_entry, passed_entry, crossed_entry, step}
use Rattle.model.specs.Runs.{steps, how_many, entering, counts_of, run_of, run}
use Rattle.model.specs.Refusals.{Refusal, refusal, tree_tests, has_number, run_refusal}
use Rattle.model.specs.Answers.{counters_after_run, run_reply, run_answer}
use Rattle.model.specs.Laws.{AllThreads}
use Rattle.model.proofs.Tests.{by_test}
use Rattle.model.proofs.Trees.Accepted.{accepted}
use Rattle.model.specs.Laws.{CountLaw}
use Rattle.model.proofs.Laws.Runs.{count_law, steps_length}
use Rattle.model.proofs.Laws.Calls.{run_facts, run_reply_number}
use Rattle.model.proofs.Counted.{how_many_most}
use Rattle.lock_file.specs.Reading.{Reached, At, Ended, BadMap, reached_refusal, entries_at, tree_read, reading_of, file_read}
use Rattle.lock_file.proofs.Positions.{entries_length}
use Rattle.lock_file.specs.PrintedListing.Listing.{listing}
use Rattle.lock_file.specs.PrintedListing.ListingLaws.{FiveDigits, LengthLaw}
use Rattle.lock_file.proofs.printed_listing.Lengths.{length_law}
use Rattle.lock_file.specs.FileAnswers.FileAnswers.{Outcome, refused_by, listing_outcome, run_outcome, file_run, file_trace, reading_outcome, file_outcome, outcome_reply, file_answer}
use Rattle.lock_file.specs.FileAnswers.FileLaws.{listing_room, RoomLaw}
use Rattle.lock_file.proofs.file_answers.FileRunLaw.{RunPossible, run_possible}

abbrev Not14 : Outcome → Type 0
Not14 o = (outcome_reply o).number ≢ 14

-- THE TRACE: every number in it is a thread's
entering_small : (t : Tree) (is : List ℕ) (s : State) → t.threads ≤ 256 → AllThreads t is → (k : ℕ) → get_or (entering (steps t is s)) k 0 < 1000
unfolding steps entering AllThreads step
entering_small t [] s h all k = omega arith
entering_small t (i ∷ is) s h all k = by (is_entry (step t i s).kind) k (entering_small t is (step t i s).state h all.1)
  where
    by : (b : Bool) (k : ℕ) → ((n : ℕ) → get_or (entering (steps t is (step t i s).state)) n 0 < 1000) → get_or (cond b (i ∷ []) [] ++ entering (steps t is (step t i s).state)) k 0 < 1000
    by true zero f = omega (arith, all.0)
    by true (suc k) f = f k
    by false k f = f k

-- a run that is not refused has a listing that fits
module _ (w : TreeWords) (is : List ℕ) (short : length is ≤ 32768) where
  abbrev t : Tree
  t = tree_of w

  abbrev r : Refusal
  r = run_refusal t fresh_lock is (length (replicate {A = ℕ} (length is) 0))

  few : FiveDigits (run t is fresh_words).counts
  unfolding run run_of counts_of
  few =
      let n = steps_length t is fresh_words in
      let xs = steps t is fresh_words in
      record {
        steps = omega arith;
        entries = omega (arith, how_many_most is_entry xs);
        stays = omega (arith, how_many_most (is_kind stay) xs);
        root = omega (arith, how_many_most (is_kind root_entry) xs);
        passed = omega (arith, how_many_most (is_kind passed_entry) xs);
        crossed = omega (arith, how_many_most (is_kind crossed_entry) xs);
      }

  fits : r.number ≡ 0 → length (listing (run t is fresh_words).counts (run t is fresh_words).trace) ≤ listing_room
  unfolding LengthLaw CountLaw run run_of counts_of
  fits e =
      let g = run_facts t fresh_lock is (length (replicate {A = ℕ} (length is) 0)) e in
      let small = entering_small t is fresh_words (accepted t g.tree).few_threads g.threads in
      let most = how_many_most is_entry (steps t is fresh_words) in
      let traced : length (run t is fresh_words).trace ≡ how_many is_entry (steps t is fresh_words) = (count_law t is fresh_words).traced in
      omega (arith, length_law (run t is fresh_words).counts (run t is fresh_words).trace few small, most, traced, steps_length t is fresh_words)

  -- a refused run does not have the file call's own number, 14
  other : (n : ℕ) → RunPossible n → n ≢ 14
  unfolding has_number tree_tests
  other n (inl e) z = omega arith
  other n (inr (inl h)) z = true≢false (sym (h t) ∙ ap (has_number (tree_tests t)) z)
  other n (inr (inr e)) z = omega arith

  run_is : RunPossible r.number
  unfolding file_run run_answer
  run_is = rw (run_reply_number r fresh_lock (run t is fresh_words) (counters_after_run t is fresh_lock)) at (run_possible w is (omega arith))

  run_fits : (room : ℕ) → listing_room ≤ room → Not14 (run_outcome (file_run w is) (file_trace w is) room)
  unfolding run_outcome file_run file_trace run_answer run_reply listing_outcome outcome_reply refusal
  run_fits room h =
      by_test (λ y. Not14 (run_outcome y (run t is fresh_words).trace room)) (eqb r.number 0) _ _
      (λ e. rw (le-ltb room (length (listing (run t is fresh_words).counts (run t is fresh_words).trace)) (omega (arith, fits (eqb-true r.number 0 e)))) (λ z. omega arith))
      (λ e. rw e (other r.number run_is))

reading_fits : (bs : List ℕ) (x : Reached) (w : TreeWords) (room : ℕ) → length bs ≤ 65536 → listing_room ≤ room → Not14 (reading_outcome (reading_of bs x w) room)
unfolding reading_of reading_outcome reached_refusal refusal outcome_reply entries_at
reading_fits bs (At at) w room h l = run_fits w (entries_at bs at) (omega (arith, entries_length bs ((length bs - at) / 2) at)) room l
reading_fits bs Ended w room h l = λ z. omega arith
reading_fits bs (BadMap p) w room h l = λ z. omega arith

pub room_law : RoomLaw
unfolding RoomLaw file_answer file_outcome file_read outcome_reply refusal
room_law bs output h =
    by_test (λ x. Not14 x) (ltb 65536 (length bs)) (refused_by (refusal 1 0)) (reading_outcome (file_read bs) (length output)) (λ e. λ z. omega arith)
    (λ e. reading_fits bs (tree_read bs).reached (tree_read bs).tree (length output) (ltb-false 65536 (length bs) e) h)
