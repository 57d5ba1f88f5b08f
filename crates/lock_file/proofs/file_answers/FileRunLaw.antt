-- REFUSALS OF THE FILE CALL'S RUN: a fresh lock is well formed, and schedule and trace buffer have the right length.
use mathlib.Core.Path.{◌≡◌, refl, sym, ◌∙◌}
use mathlib.Core.Bool.{Bool, true, false}
use mathlib.Core.List.{List, [], ◌∷◌, ◌++◌}
use mathlib.Core.Logic.{◌≢◌, ◌⊎◌, inl, inr}
use Prim.Native.Nat.{ℕ, zero, suc, ◌+◌, ◌≤◌, ◌<◌}
use native.Mathlib.Omega.{arith}
use native.Mathlib.Decide.{ℕ_discrete}
use lib.Dec.{eqb}
use lib.ListN.{length, replicate, length-replicate}
use borrow.Author.Tests.{le-ltb, eqb-false}
use Rattle.model.specs.declared.TreeWords.{TreeWords}
use Rattle.model.specs.Trees.{Tree, tree_of}
use Rattle.model.specs.States.{fresh_words}
use Rattle.model.specs.Counters.{fresh_lock}
use Rattle.model.specs.CounterLaws.{RoomLaw}
use Rattle.model.specs.Runs.{run}
use Rattle.model.specs.Refusals.{Refusal, refusal, accepted, Test, lowest_bad, first_refusal, bad_state, bad_length, bad_room, state_tests, schedule_tests, room_tests, counter_tests, tree_tests, run_tests_before_19, run_tests, has_number, run_refusal}
use Rattle.model.specs.Answers.{counters_after_run, run_answer}
use Rattle.model.specs.Laws.{Passes, SixteenBit}
use Rattle.model.proofs.Tests.{or_neither, by_test}
use Rattle.model.proofs.Refusing.{lowest_none}
use Rattle.model.proofs.Trees.Accepted.{sixteen_bit}
use Rattle.model.proofs.Laws.Counters.{fresh_good, fresh_room, room_law}
use Rattle.model.proofs.Laws.Calls.{run_reply_number}
use Rattle.model.proofs.Laws.Form.{fresh_well_formed}
use Rattle.lock_file.specs.FileAnswers.FileAnswers.{file_run}

-- a number that no failing test has is not the answer
unfoldable Never : (number : ℕ) → List Test → Type 0
Never n [] = Unit {0}
Never n (x ∷ xs) = ((x.number ≢ n) ⊎ Passes x) × Never n xs

lowest_other :
    (m n : ℕ) (f : ℕ → Bool) (k p : ℕ) (r : Refusal) → m ≢ n → r.number ≢ n → (lowest_bad m f k p r).number ≢ n
unfolding lowest_bad refusal
lowest_other m n f zero p r h g = g
lowest_other m n f (suc k) p r h g =
    by_test (λ x. x.number ≢ n) (f p) (refusal m p) (lowest_bad m f k (suc p) r) (λ e. h) (λ e. lowest_other m n f k (suc p) r h g)

lowest_passed : (m : ℕ) (f : ℕ → Bool) (k : ℕ) (r : Refusal) → ((p : ℕ) → p < k → f p ≡ false) → lowest_bad m f k 0 r ≡ r
lowest_passed m f k r h = lowest_none m f k 0 r (λ j l. let z : 0 + j ≡ j = omega arith in rw z (h j l))

never_answered : (n : ℕ) (xs : List Test) → 0 < n → Never n xs → (first_refusal xs).number ≢ n
unfolding first_refusal accepted refusal Never
never_answered n [] h g = λ e. omega arith
never_answered n (x ∷ xs) h g =
    by g.0 (never_answered n xs h g.1)
  where
    by :
        (x.number ≢ n) ⊎ Passes x → (first_refusal xs).number ≢ n →
        (lowest_bad x.number x.bad x.places 0 (first_refusal xs)).number ≢ n
    by (inl o) r = lowest_other x.number n x.bad x.places 0 (first_refusal xs) o r
    by (inr p) r = rw (lowest_passed x.number x.bad x.places (first_refusal xs) p) r

-- a number that no test has is not the answer
other_numbers : (n : ℕ) (xs : List Test) → has_number xs n ≡ false → Never n xs
unfolding has_number Never
other_numbers n [] e = tt
other_numbers n (x ∷ xs) e =
    let both = or_neither (eqb x.number n) (has_number xs n) e in
    (inl (eqb-false x.number n both.0), other_numbers n xs both.1)

never_joined : (n : ℕ) (xs ys : List Test) → Never n xs → Never n ys → Never n (xs ++ ys)
unfolding Never
never_joined n [] ys g h = h
never_joined n (x ∷ xs) ys g h = (g.0, never_joined n xs ys g.1 h)

-- the numbers that the file call's run answers: 0, those of the tree's tests, and 12
abbrev pub RunPossible : ℕ → Type 0
RunPossible n = (n ≡ 0) ⊎ (((t : Tree) → has_number (tree_tests t) n ≡ true) ⊎ (n ≡ 12))

-- the numbers do not depend on the tree
same_numbers : (t u : Tree) (n : ℕ) → has_number (tree_tests t) n ≡ has_number (tree_tests u) n
unfolding has_number tree_tests
same_numbers t u n = refl

-- a run from a fresh lock, with a schedule that is short enough and a trace buffer long enough, is not refused by any other: 10, 11, 13 and 19 pass
module _ (t : Tree) (bits : SixteenBit t) (is : List ℕ) (room : ℕ) (short : length is ≤ 65536) (enough : length is ≤ room) where
  later_tests : (n : ℕ) → n ≢ 12 → Never n (state_tests t fresh_lock ++ (schedule_tests t is ++ room_tests is room))
  unfolding Never bad_state bad_length bad_room
  later_tests n o = (
    inr (λ p l. rw (fresh_well_formed t, fresh_good t)),
    (inr (λ p l. le-ltb 65536 (length is) short), (inl (λ e. o (sym e)), (inr (λ p l. le-ltb room (length is) enough), tt))),
  )

  last : (n : ℕ) → Never n (counter_tests t fresh_lock is)
  unfolding Never RoomLaw
  last n = (inr (room_law t bits fresh_lock is (fresh_room (length is) (omega arith))), tt)

  pub run_never : (n : ℕ) → 0 < n → has_number (tree_tests t) n ≡ false → n ≢ 12 → (run_refusal t fresh_lock is room).number ≢ n
  unfolding run_refusal run_tests
  run_never n h e o =
      never_answered n (run_tests t fresh_lock is room) h
      (never_joined n (run_tests_before_19 t fresh_lock is room) (counter_tests t fresh_lock is)
      (never_joined n (tree_tests t) _ (other_numbers n (tree_tests t) e) (later_tests n o)) (last n))

pub run_possible : (w : TreeWords) (is : List ℕ) → length is ≤ 65536 → RunPossible (file_run w is).number
unfolding file_run run_answer
run_possible w is short =
    let buffer : List ℕ = replicate (length is) 0 in
    let enough : length is ≤ length buffer = omega (arith, length-replicate {A = ℕ} (length is) 0) in
    let r = run_refusal (tree_of w) fresh_lock is (length buffer) in
    rw (run_reply_number r fresh_lock (run (tree_of w) is fresh_words) (counters_after_run (tree_of w) is fresh_lock))
    (by r.number (has_number (tree_tests (tree_of w)) r.number) refl (run_never (tree_of w) (sixteen_bit w) is (length buffer) short enough r.number))
  where
    by : (n : ℕ) (b : Bool) → has_number (tree_tests (tree_of w)) n ≡ b → (0 < n → b ≡ false → n ≢ 12 → n ≢ n) → RunPossible n
    by n true e f = inr (inl (λ t. same_numbers t (tree_of w) n ∙ e))
    by n false e f =
        elim (ℕ_discrete n 0) [
          | yes z ↦ inl z
          | no z ↦ elim (ℕ_discrete n 12) [ yes y ↦ inr (inr y) | no y ↦ absurd (f (omega arith) refl y refl) ]
        ]
