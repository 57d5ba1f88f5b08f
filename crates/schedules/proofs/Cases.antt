-- The cases hold, by computation.
use mathlib.Core.Path.{◌≡◌, refl, ◌∙◌}
use mathlib.Core.Bool.{Bool, true, ◌&&◌}
use mathlib.Core.List.{List, [], ◌∷◌}
use Prim.Native.Nat.{ℕ}
use native.Mathlib.Decide.{ℕ_discrete}
use lib.Dec.{eqb}
use lib.ListN.{length}
use borrow.Author.Tests.{ne_eqb}
use Rattle.model.specs.declared.TreeWords.{TreeWords}
use Rattle.model.specs.declared.RunReply.{RunReply}
use Rattle.model.specs.Scans.{any_below, filter_below, all_below}
use Rattle.model.specs.Trees.{read_word, tree_of, is_ticket, is_child, is_leaf, depth_from, depth, level, meets, on_path, child_from, child, own_record, under}
use Rattle.model.specs.Places.{place_of, is_watch, is_idle, is_inside}
use Rattle.model.specs.States.{fresh_words, fresh_state, numbers_at, store_numbers}
use Rattle.model.specs.Steps.{is_kind, is_entry, prep_row, swap_row, link_row, wait_row, leave_row, check_row, help_row, cas_row, linger_row, grant_row, draw_row, watch_row, is_watched, shown_members, raise_row, row, step}
use Rattle.model.specs.Runs.{steps, state_after, how_many, entering, counts_of, run_of, run, occurrences}
use Rattle.model.specs.Counters.{fresh_lock}
use Rattle.model.specs.Refusals.{refusal, accepted, lowest_bad, first_refusal, bad_domains, bad_threads, bad_parent, too_deep, no_threshold, bad_home, empty_domain, tree_tests, bad_length, bad_entry, schedule_tests, tree_refusal}
use Rattle.model.specs.Answers.{counters_after_run, run_reply}
use Rattle.model.specs.Cases.Marked.{padded, tree, at_ticket_root, two_homes, first_entries, two_in_root, three_levels, same_numbers}
use Rattle.schedules.specs.Rows.{total, cut, row_of, rows_of, after_one_another}
use Rattle.schedules.specs.Refusals.{bad_total, bad_row_room, many_tests, many_refusal}
use Rattle.schedules.specs.Answers.{many_answer, row_buffer, rows_answer}
use Rattle.schedules.specs.Cases.Schedules.{Case, rows_given, refused_by, no_steps, one_move, one_entry, example_row, no_thread_at, empty_leaf, cases, holds, all_hold}
use Rattle.schedules.proofs.Alone.{alone_by_schedule}
use Rattle.schedules.proofs.Answering.{call_facts}

-- THE ROWS, QUICKLY: on an accepted tree only the schedule's own tests decide, so neither the fresh words nor the counters are tested
abbrev quick_alone : TreeWords → (schedule : List ℕ) → RunReply
quick_alone w is = let t = tree_of w in run_reply (first_refusal (schedule_tests t is)) fresh_lock (run t is fresh_words) (counters_after_run t is fresh_lock)

unfoldable quick_rows : TreeWords → (schedules : List (List ℕ)) → List (List ℕ)
quick_rows w [] = []
quick_rows w (is ∷ iss) = row_of (quick_alone w is) ∷ quick_rows w iss

same_rows : (w : TreeWords) → (tree_refusal (tree_of w)).number ≡ 0 → (iss : List (List ℕ)) → rows_of w iss ≡ quick_rows w iss
unfolding rows_of quick_rows
same_rows w ok [] = refl
same_rows w ok (is ∷ iss) = rw (alone_by_schedule w ok is, same_rows w ok iss)

unfoldable quick_answer : TreeWords → (lengths entries buffer : List ℕ) → List ℕ
quick_answer w ns es b = row_buffer (many_answer w ns es b) b (after_one_another (quick_rows w (cut ns es)))

same_answer : (w : TreeWords) (ns es b : List ℕ) → rows_answer w ns es b ≡ quick_answer w ns es b
unfolding rows_answer quick_answer row_buffer many_answer
same_answer w ns es b =
    elim (ℕ_discrete (many_refusal (tree_of w) ns (length es) (length b)).number 0) [
      | yes z ↦ rw (same_rows w (call_facts (tree_of w) ns (length es) (length b) z).tree (cut ns es))
      | no z ↦ rw (ne_eqb (many_refusal (tree_of w) ns (length es) (length b)).number 0 z)
    ]

unfoldable holds_quickly : Case → Bool
holds_quickly c =
    let r = many_answer c.words c.lengths c.entries c.buffer in
    (eqb r.number c.number && eqb r.place c.place) && same_numbers (quick_answer c.words c.lengths c.entries c.buffer) c.after

unfoldable all_hold_quickly : List Case → Bool
all_hold_quickly [] = true
all_hold_quickly (c ∷ cs) = holds_quickly c && all_hold_quickly cs

same_cases : (cs : List Case) → all_hold cs ≡ all_hold_quickly cs
unfolding all_hold all_hold_quickly holds holds_quickly
same_cases [] = refl
same_cases (c ∷ cs) = rw (same_answer c.words c.lengths c.entries c.buffer, same_cases cs)

pub cases_hold : all_hold cases ≡ true
unfolding occurrences any_below filter_below all_below read_word tree_of is_ticket is_child is_leaf depth_from depth level meets on_path child_from child
    own_record under place_of is_watch is_idle is_inside numbers_at store_numbers fresh_words fresh_state is_kind is_entry prep_row swap_row link_row wait_row leave_row check_row
    help_row cas_row linger_row grant_row draw_row watch_row is_watched shown_members raise_row row step steps state_after how_many entering counts_of
    run_of run refusal accepted lowest_bad first_refusal bad_domains bad_threads bad_parent too_deep no_threshold bad_home empty_domain tree_tests
    bad_length bad_entry run_reply padded tree at_ticket_root two_homes first_entries two_in_root three_levels same_numbers total cut row_of
    after_one_another bad_total bad_row_room many_tests many_refusal many_answer row_buffer quick_rows quick_answer rows_given refused_by no_steps
    one_move one_entry example_row no_thread_at empty_leaf cases holds_quickly all_hold_quickly
cases_hold = same_cases cases ∙ refl
