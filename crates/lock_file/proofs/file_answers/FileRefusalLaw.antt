-- REFUSALS OF THE FILE CALL: 1 to 3, those of the tree, 12 and 14.
use mathlib.Core.Path.{◌≡◌, refl, sym}
use mathlib.Core.Bool.{true, false, true≢false}
use mathlib.Core.List.{List}
use mathlib.Core.Logic.{inl, inr}
use Prim.Native.Nat.{ℕ, ◌-◌, ◌/◌, ◌≤◌}
use native.Mathlib.Omega.{arith}
use lib.Dec.{ltb, eqb}
use lib.ListN.{length}
use borrow.Author.Tests.{ltb-false, eqb-true}
use Rattle.model.specs.declared.TreeWords.{TreeWords}
use Rattle.model.specs.declared.RunReply.{RunReply}
use Rattle.model.specs.Trees.{Tree}
use Rattle.model.specs.Runs.{occurrences}
use Rattle.model.specs.Refusals.{refusal, tree_tests, has_number}
use Rattle.model.proofs.Tests.{by_test, or_cases}
use Rattle.model.proofs.Lists.{same_or}
use Rattle.lock_file.specs.Reading.{Reached, At, Ended, BadMap, reached_refusal, entries_at, tree_read, reading_of, file_read}
use Rattle.lock_file.proofs.Positions.{entries_length}
use Rattle.lock_file.specs.PrintedListing.Listing.{listing}
use Rattle.lock_file.specs.FileAnswers.FileAnswers.{Outcome, refused_by, lists, listing_outcome, run_outcome, file_run, file_trace, reading_outcome, file_outcome, outcome_reply, file_answer}
use Rattle.lock_file.specs.FileAnswers.FileLaws.{Possible, FileRefusalLaw, possible_numbers, PossibleNumbersLaw}
use Rattle.lock_file.proofs.file_answers.FileRunLaw.{RunPossible, run_possible}

abbrev PossibleBy : Outcome → Type 0
PossibleBy o = Possible (outcome_reply o).number

listing_possible : (ls : List ℕ) (room : ℕ) → PossibleBy (listing_outcome ls room)
unfolding listing_outcome outcome_reply refusal Possible
listing_possible ls room =
    by_test (λ o. PossibleBy o) (ltb room (length ls)) (refused_by (refusal 14 0)) (lists ls) (λ e. inr (inr (inr refl))) (λ e. inl (omega arith))

refusal_possible : (r : RunReply) → RunPossible r.number → PossibleBy (refused_by (refusal r.number r.place))
unfolding outcome_reply refusal Possible
refusal_possible r (inl e) = inl (omega arith)
refusal_possible r (inr (inl h)) = inr (inl h)
refusal_possible r (inr (inr e)) = inr (inr (inl e))

run_outcome_possible :
    (r : RunReply) (trace : List ℕ) (room : ℕ) → RunPossible r.number → PossibleBy (run_outcome r trace room)
unfolding run_outcome
run_outcome_possible r trace room h =
    let ls = listing r.counts trace in
    by_test (λ o. PossibleBy o) (eqb r.number 0) (listing_outcome ls room) (refused_by (refusal r.number r.place))
    (λ e. listing_possible ls room) (λ e. refusal_possible r h)

reading_possible :
    (bs : List ℕ) (r : Reached) (w : TreeWords) (room : ℕ) → length bs ≤ 65536 → PossibleBy (reading_outcome (reading_of bs r w) room)
unfolding reading_of reading_outcome reached_refusal refusal outcome_reply entries_at Possible
reading_possible bs (At at) w room h =
    let is = entries_at bs at in
    let short : length is ≤ 65536 = omega (arith, entries_length bs ((length bs - at) / 2) at) in
    run_outcome_possible (file_run w is) (file_trace w is) room (run_possible w is short)
reading_possible bs Ended w room h = inl (omega arith)
reading_possible bs (BadMap p) w room h = inl (omega arith)

pub file_refusal_law : FileRefusalLaw
unfolding FileRefusalLaw file_answer file_outcome file_read outcome_reply refusal Possible
file_refusal_law bs output =
    let o = reading_outcome (file_read bs) (length output) in
    by_test (λ x. PossibleBy x) (ltb 65536 (length bs)) (refused_by (refusal 1 0)) o (λ e. inl (omega arith))
    (λ e. reading_possible bs (tree_read bs).reached (tree_read bs).tree (length output) (ltb-false 65536 (length bs) e))

-- WHICH NUMBERS: each is one of the list
any_tree : Tree
any_tree = record { domains = 0; threads = 0; parent = λ d. 0; threshold = λ d. 0; home = λ i. 0; ticket_root = false }

listed : (n m : ℕ) → eqb m n ≡ true → 1 ≤ occurrences m possible_numbers → 1 ≤ occurrences n possible_numbers
listed n m e h = rw (← eqb-true m n e) h

tree_listed : (n : ℕ) → has_number (tree_tests any_tree) n ≡ true → 1 ≤ occurrences n possible_numbers
unfolding has_number tree_tests occurrences possible_numbers
tree_listed n e =
    elim (or_cases (eqb 4 n) _ e) [
      | inl a ↦ listed n 4 a (omega arith)
      | inr e ↦ elim (or_cases (eqb 5 n) _ e) [
        | inl a ↦ listed n 5 a (omega arith)
        | inr e ↦ elim (or_cases (eqb 6 n) _ e) [
          | inl a ↦ listed n 6 a (omega arith)
          | inr e ↦ elim (or_cases (eqb 7 n) _ e) [
            | inl a ↦ listed n 7 a (omega arith)
            | inr e ↦ elim (or_cases (eqb 8 n) _ e) [
              | inl a ↦ listed n 8 a (omega arith)
              | inr e ↦ elim (or_cases (eqb 9 n) _ e) [
                | inl a ↦ listed n 9 a (omega arith)
                | inr e ↦ elim (or_cases (eqb 16 n) false e) [
                  | inl a ↦ listed n 16 a (omega arith)
                  | inr z ↦ absurd (true≢false (sym z))
                ]
              ]
            ]
          ]
        ]
      ]
    ]

same_listed : (n m : ℕ) → n ≡ m → 1 ≤ occurrences m possible_numbers → 1 ≤ occurrences n possible_numbers
same_listed n m e h = rw e h

pub possible_numbers_law : PossibleNumbersLaw
unfolding PossibleNumbersLaw Possible occurrences possible_numbers
possible_numbers_law n (inl few) =
    same_or n 0 _ (λ e. same_listed n 0 e (omega arith))
    (λ a. same_or n 1 _ (λ e. same_listed n 1 e (omega arith))
    (λ b. same_or n 2 _ (λ e. same_listed n 2 e (omega arith)) (λ c. same_listed n 3 (omega arith) (omega arith))))
possible_numbers_law n (inr (inl tree)) = tree_listed n (tree any_tree)
possible_numbers_law n (inr (inr (inl e))) = same_listed n 12 e (omega arith)
possible_numbers_law n (inr (inr (inr e))) = same_listed n 14 e (omega arith)
