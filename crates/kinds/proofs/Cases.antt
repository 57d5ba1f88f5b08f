-- The cases hold, by computation.
use mathlib.Core.Path.{◌≡◌, refl, ap, ◌∙◌}
use mathlib.Core.Bool.{Bool, true, ◌&&◌}
use mathlib.Core.List.{List, [], ◌∷◌, ◌++◌}
use Prim.Native.Nat.{ℕ, ◌≤◌}
use lib.Dec.{leb}
use lib.ListN.{length}
use borrow.Author.Tests.{leb-true}
use Rattle.model.specs.declared.LockState.{LockState}
use Rattle.model.specs.Scans.{any_below, filter_below, all_below}
use Rattle.model.specs.Trees.{Tree, read_word, tree_of, is_ticket, is_child, is_leaf, depth_from, depth, level, meets, on_path, child_from, child, own_record, is_record, is_member, owner_domain, under}
use Rattle.model.specs.Places.{place_of, is_watch, is_idle, is_inside}
use Rattle.model.specs.States.{fresh_words, fresh_state, numbers_at, store_numbers}
use Rattle.model.specs.Steps.{is_kind, is_entry, prep_row, swap_row, link_row, wait_row, leave_row, check_row, help_row, cas_row, linger_row, grant_row, draw_row, watch_row, is_watched, shown_members, raise_row, row, step}
use Rattle.model.specs.Runs.{steps, state_after, how_many, entering, counts_of, run_of, run, ended_in, entries_under, occurrences}
use Rattle.model.specs.WellFormed.{good_tail, queue_on_path, good_place, good_counters}
use Rattle.model.specs.Tenures.{finds_none, taken_from, given, starts, checks_at, word_to_grant, tenure_length, domain_entries, domain_tenures, longest_tenure}
use Rattle.model.specs.Counters.{fresh_counters, each_with_index, counters_after, good_count, good_counts, count_above, any_above}
use Rattle.model.specs.Refusals.{Refusal, refusal, accepted, lowest_bad, first_refusal, bad_domains, bad_threads, bad_parent, too_deep, no_threshold, bad_home, empty_domain, tree_tests, bad_state, bad_length, bad_entry, bad_room, bad_counter, schedule_tests, room_tests}
use Rattle.model.specs.Answers.{counters_after_run, run_reply, run_buffer}
use Rattle.model.specs.Cases.Marked.{padded, tree, at_ticket_root, two_homes, first_entries, two_in_root, three_levels, same_numbers, same_places, same_counts, same_state, same_counters, same_lock}
use Rattle.schedules.specs.Answers.{row_buffer}
use Rattle.kinds.specs.Answers.{rows_of, bad_kind_room, kind_room_tests, kinds_tests_before_19, kinds_tests, kinds_refusal, kinds_reply, refused_by, kinds_answer, kinds_trace, kinds_rows}
use Rattle.kinds.specs.Cases.Kinds.{Case, accepted_with, refused_from, refused_with, full_entries, cases, answered, holds, all_hold}
use Rattle.model.proofs.Tests.{and_both}
use Rattle.model.proofs.Walks.{walked, Sized, zero_from, first_pass, first_meets, formed_by_walks, same_formed, counts_by_walks, above_by_walks, zipped}
use Rattle.model.proofs.Computing.{far_below, have_room, walked_counter, tests_by, late_tests, same_late, same_lock_formed, state_sized, sized}

-- what refuses a run that reports its steps, given whether its state is well formed; 19 is left out if no counter can exceed its limit
abbrev reporting_refusal : Tree → (formed : Bool) → LockState → (schedule : List ℕ) → (room row_room : ℕ) → Refusal
reporting_refusal t b s is room n = first_refusal ((tests_by t b (schedule_tests t is ++ room_tests is room) ++ kind_room_tests is n) ++ late_tests t s is)

unfoldable walked_refusal : Case → Refusal
walked_refusal c =
    let t = tree_of c.words in
    let s = c.state in
    reporting_refusal t (formed_by_walks t s.words && counts_by_walks t s.counters) s c.schedule (length c.trace) (length c.rows)

same_refusal : (c : Case) → length c.schedule ≤ 65536 → Sized c.state.words → refused_by c.words c.state c.schedule c.trace c.rows ≡ walked_refusal c
unfolding walked_refusal refused_by kinds_refusal kinds_tests bad_state
same_refusal c short h =
    let t = tree_of c.words in
    let s = c.state in
    same_late c.words s c.schedule (kinds_tests_before_19 t s c.schedule (length c.trace) (length c.rows)) short
    ∙ ap (λ b. reporting_refusal t b s c.schedule (length c.trace) (length c.rows))
    (same_lock_formed c.words s (formed_by_walks t s.words) (same_formed t s.words h))

unfoldable holds_by_walks : Case → Bool
holds_by_walks c =
    let t = tree_of c.words in
    let r = walked_refusal c in
    let x = run t c.schedule c.state.words in
    answered (kinds_reply r c.state x (counters_after_run t c.schedule c.state) (length c.schedule)) (run_buffer r c.trace x) (row_buffer r c.rows (rows_of (steps t c.schedule c.state.words))) c

unfoldable all_hold_by_walks : List Case → Bool
all_hold_by_walks [] = true
all_hold_by_walks (c ∷ cs) = holds_by_walks c && all_hold_by_walks cs

-- the arrays in the states of the cases have their full lengths, and the schedules are short
abbrev case_sized : Case → Bool
case_sized c = leb (length c.schedule) 65536 && state_sized c.state.words

unfoldable all_sized : List Case → Bool
all_sized [] = true
all_sized (c ∷ cs) = case_sized c && all_sized cs

same_case : (c : Case) → case_sized c ≡ true → holds c ≡ holds_by_walks c
unfolding holds_by_walks holds kinds_answer kinds_reply kinds_trace kinds_rows
same_case c e =
    let a = and_both (leb (length c.schedule) 65536) (state_sized c.state.words) e in
    rw (same_refusal c (leb-true _ _ a.0) (sized c.state.words a.1))

same_cases : (cs : List Case) → all_sized cs ≡ true → all_hold cs ≡ all_hold_by_walks cs
unfolding all_hold all_hold_by_walks all_sized
same_cases [] e = refl
same_cases (c ∷ cs) e =
    let a = and_both (case_sized c) (all_sized cs) e in
    rw (same_case c a.0, same_cases cs a.1)

cases_sized : all_sized cases ≡ true
unfolding any_below filter_below all_below read_word tree_of is_ticket is_child is_leaf depth_from depth level meets on_path child_from child own_record
    is_record is_member owner_domain under place_of is_watch is_idle is_inside numbers_at store_numbers fresh_words fresh_state is_kind is_entry prep_row swap_row link_row wait_row
    leave_row check_row help_row cas_row linger_row grant_row draw_row watch_row is_watched shown_members raise_row row step steps state_after how_many
    entering counts_of run_of run good_tail queue_on_path good_place good_counters refusal accepted bad_domains bad_threads bad_parent too_deep no_threshold
    bad_home empty_domain tree_tests bad_length bad_entry bad_room run_reply run_buffer padded tree at_ticket_root two_homes first_entries two_in_root
    three_levels same_numbers same_places same_counts same_state row_buffer rows_of accepted_with refused_from refused_with full_entries cases all_sized
cases_sized = refl

pub cases_hold : all_hold cases ≡ true
unfolding zero_from first_pass first_meets counts_by_walks above_by_walks walked_counter far_below have_room occurrences ended_in entries_under finds_none taken_from given starts checks_at word_to_grant tenure_length domain_entries domain_tenures
    longest_tenure fresh_counters each_with_index counters_after good_count good_counts count_above any_above bad_counter counters_after_run any_below
    filter_below all_below read_word tree_of is_ticket is_child is_leaf depth_from depth level meets on_path child_from child own_record is_record is_member
    owner_domain under place_of is_watch is_idle is_inside numbers_at store_numbers fresh_words fresh_state is_kind is_entry prep_row swap_row link_row wait_row leave_row check_row
    help_row cas_row linger_row grant_row draw_row watch_row is_watched shown_members raise_row row step steps state_after how_many entering counts_of run_of
    run good_tail queue_on_path good_place good_counters refusal accepted lowest_bad first_refusal bad_domains bad_threads bad_parent too_deep no_threshold
    bad_home empty_domain tree_tests bad_length bad_entry bad_room run_reply run_buffer padded tree at_ticket_root two_homes first_entries two_in_root
    three_levels same_numbers same_places same_counts same_state same_counters same_lock row_buffer rows_of kinds_reply bad_kind_room accepted_with
    refused_from refused_with full_entries cases walked zipped formed_by_walks walked_refusal holds_by_walks all_hold_by_walks
cases_hold = same_cases cases cases_sized ∙ refl
