-- The cases of runs that continue hold, by computation.
use mathlib.Core.Path.{◌≡◌, refl, ap, ◌∙◌}
use mathlib.Core.Bool.{Bool, true, ◌&&◌, cond}
use mathlib.Core.List.{List, [], ◌∷◌, ◌++◌}
use Prim.Native.Nat.{ℕ, ◌-◌, ◌≤◌}
use lib.Dec.{eqb, leb}
use lib.ListN.{length, replicate}
use borrow.Author.Tests.{leb-true}
use Rattle.model.specs.declared.TreeWords.{TreeWords}
use Rattle.model.specs.declared.LockState.{LockState}
use Rattle.model.specs.Scans.{any_below, filter_below, all_below}
use Rattle.model.specs.Trees.{Tree, read_word, tree_of, is_ticket, is_child, is_leaf, depth_from, depth, level, meets, on_path, child_from, child, own_record, is_record, is_member, owner_domain, under}
use Rattle.model.specs.Places.{place_of, is_watch, is_idle, is_inside}
use Rattle.model.specs.States.{fresh_words, fresh_state, numbers_at, store_numbers}
use Rattle.model.specs.Steps.{is_kind, is_entry, prep_row, swap_row, link_row, wait_row, leave_row, check_row, help_row, cas_row, linger_row, grant_row, draw_row, watch_row, is_watched, shown_members, raise_row, row, step}
use Rattle.model.specs.Runs.{steps, state_after, how_many, entering, counts_of, run_of, run, ended_in, entries_under, occurrences}
use Rattle.model.specs.WellFormed.{good_tail, queue_on_path, good_place, good_counters}
use Rattle.model.specs.Tenures.{finds_none, taken_from, given, starts, checks_at, word_to_grant, tenure_length, domain_entries, domain_tenures, longest_tenure}
use Rattle.model.specs.Counters.{fresh_counters, each_with_index, counters_after, good_count, good_counts, count_above, any_above}
use Rattle.model.specs.Refusals.{Refusal, refusal, accepted, lowest_bad, first_refusal, bad_domains, bad_threads, bad_parent, too_deep, no_threshold, bad_home, empty_domain, tree_tests, bad_state, bad_length, bad_entry, bad_room, bad_counter, schedule_tests, room_tests}
use Rattle.model.specs.Answers.{counters_after_run, run_reply, run_buffer}
use Rattle.model.specs.Cases.Marked.{padded, tree, at_ticket_root, two_homes, first_entries, two_in_root, three_levels, same_numbers, same_places, same_counts, same_state, same_counters, same_lock}
use Rattle.schedules.specs.Rows.{total}
use Rattle.schedules.specs.Answers.{row_buffer}
use Rattle.waits.specs.Attempts.{swaps_at, draws, begins_from, begins, enters, begun, counted, under_way_after, finished, finished_by, waits_from, under_way_from, waits_below_from, under_way_below}
use Rattle.waits.specs.Rows.{largest, divisor_in, mean, row_with, row_of, rows_below_from, capped, row_of_all, all_rows_from}
use Rattle.waits.specs.Refusals.{bad_row_room, row_room_tests, bad_under_way, under_way_tests, waits_on_tests_before_19, waits_on_tests, waits_on_refusal}
use Rattle.waits.specs.Answers.{waits_reply, refused_on, waits_on_answer, waits_on_trace, waits_on_rows, waits_on_under_way}
use Rattle.waits.specs.Cases.Waits.{full_entries, reached, no_attempt, no_wait}
use Rattle.waits.specs.Cases.GoingOn.{OnCase, all_numbers, goes_on, refused_from, four_in_root, three_wait, all_enter, on_cases, answered, holds, all_hold, parts, EveryPart}
use Rattle.model.proofs.Tests.{and_both}
use Rattle.model.proofs.Walks.{walked, Sized, zero_from, first_pass, first_meets, formed_by_walks, same_formed, counts_by_walks, above_by_walks, zipped}
use Rattle.model.proofs.Computing.{far_below, have_room, walked_counter, tests_by, late_tests, same_late, same_lock_formed, state_sized, sized}

-- what refuses a run with waits that continues, given whether its state is well formed; 19 is left out if no counter can exceed its limit
abbrev pub refused_going_on : Tree → (formed : Bool) → LockState → (schedule : List ℕ) → (room row_room : ℕ) → (under_way : List ℕ) → Refusal
refused_going_on t b s is room n us =
    first_refusal (((tests_by t b (schedule_tests t is ++ room_tests is room) ++ row_room_tests t n) ++ under_way_tests t us) ++ late_tests t s is)

unfoldable pub walked_refused : TreeWords → LockState → (schedule trace rows under_way : List ℕ) → Refusal
walked_refused w s is b rs us =
    let t = tree_of w in
    refused_going_on t (formed_by_walks t s.words && counts_by_walks t s.counters) s is (length b) (length rs) us

pub same_refused : (w : TreeWords) (s : LockState) (is b rs us : List ℕ) → length is ≤ 65536 → Sized s.words → refused_on w s is b rs us ≡ walked_refused w s is b rs us
unfolding walked_refused refused_on waits_on_refusal waits_on_tests bad_state
same_refused w s is b rs us short h =
    let t = tree_of w in
    same_late w s is (waits_on_tests_before_19 t s is (length b) (length rs) us) short
    ∙ ap (λ f. refused_going_on t f s is (length b) (length rs) us) (same_lock_formed w s (formed_by_walks t s.words) (same_formed t s.words h))

abbrev walked_refusal : OnCase → Refusal
walked_refusal c = walked_refused c.words c.state c.schedule c.trace c.rows c.under_way

unfoldable holds_by_walks : OnCase → Bool
holds_by_walks c =
    let t = tree_of c.words in
    let r = walked_refusal c in
    let x = run t c.schedule c.state.words in
    let xs = steps t c.schedule c.state.words in
    answered (waits_reply r c.state x (counters_after_run t c.schedule c.state) t.threads) (run_buffer r c.trace x)
    (row_buffer r c.rows (all_rows_from t c.under_way xs))
    (cond (eqb r.number 0) (under_way_below t c.under_way t.threads xs ++ replicate (256 - t.threads) 0) c.under_way) c

unfoldable all_hold_by_walks : List OnCase → Bool
all_hold_by_walks [] = true
all_hold_by_walks (c ∷ cs) = holds_by_walks c && all_hold_by_walks cs

-- the arrays in the states of the cases have their full lengths, and the schedules are short
abbrev case_sized : OnCase → Bool
case_sized c = leb (length c.schedule) 65536 && state_sized c.state.words

unfoldable all_sized : List OnCase → Bool
all_sized [] = true
all_sized (c ∷ cs) = case_sized c && all_sized cs

same_case : (c : OnCase) → case_sized c ≡ true → holds c ≡ holds_by_walks c
unfolding holds_by_walks holds waits_on_answer waits_on_trace waits_on_rows waits_on_under_way
same_case c e =
    let a = and_both (leb (length c.schedule) 65536) (state_sized c.state.words) e in
    rw (same_refused c.words c.state c.schedule c.trace c.rows c.under_way (leb-true _ _ a.0) (sized c.state.words a.1))

same_cases : (cs : List OnCase) → all_sized cs ≡ true → all_hold cs ≡ all_hold_by_walks cs
unfolding all_hold all_hold_by_walks all_sized
same_cases [] e = refl
same_cases (c ∷ cs) e =
    let a = and_both (case_sized c) (all_sized cs) e in
    rw (same_case c a.0, same_cases cs a.1)

cases_sized : all_sized on_cases ≡ true
unfolding any_below filter_below all_below read_word tree_of is_ticket is_child is_leaf depth_from depth level meets on_path child_from child own_record
    is_record is_member owner_domain under place_of is_watch is_idle is_inside numbers_at store_numbers fresh_words fresh_state is_kind is_entry prep_row swap_row link_row wait_row
    leave_row check_row help_row cas_row linger_row grant_row draw_row watch_row is_watched shown_members raise_row row step steps state_after how_many
    entering counts_of run_of run good_tail queue_on_path good_place good_counters refusal accepted bad_domains bad_threads bad_parent too_deep no_threshold
    bad_home empty_domain tree_tests bad_length bad_entry bad_room run_reply run_buffer padded tree at_ticket_root two_homes first_entries two_in_root
    three_levels same_numbers same_places same_counts same_state total row_buffer swaps_at draws begins_from begins enters begun counted under_way_after
    finished finished_by waits_from under_way_from waits_below_from under_way_below largest divisor_in mean row_with row_of rows_below_from capped row_of_all all_rows_from all_numbers goes_on refused_from full_entries
    reached no_attempt no_wait four_in_root three_wait all_enter on_cases all_sized
cases_sized = refl

pub on_cases_hold : all_hold on_cases ≡ true
unfolding zero_from first_pass first_meets counts_by_walks above_by_walks walked_counter far_below have_room occurrences ended_in entries_under finds_none taken_from given starts checks_at word_to_grant tenure_length domain_entries domain_tenures
    longest_tenure fresh_counters each_with_index counters_after good_count good_counts count_above any_above bad_counter counters_after_run any_below
    filter_below all_below read_word tree_of is_ticket is_child is_leaf depth_from depth level meets on_path child_from child own_record is_record is_member
    owner_domain under place_of is_watch is_idle is_inside numbers_at store_numbers fresh_words fresh_state is_kind is_entry prep_row swap_row link_row wait_row leave_row check_row
    help_row cas_row linger_row grant_row draw_row watch_row is_watched shown_members raise_row row step steps state_after how_many entering counts_of run_of
    run good_tail queue_on_path good_place good_counters refusal accepted lowest_bad first_refusal bad_domains bad_threads bad_parent too_deep no_threshold
    bad_home empty_domain tree_tests bad_length bad_entry bad_room run_reply run_buffer padded tree at_ticket_root two_homes first_entries two_in_root
    three_levels same_numbers same_places same_counts same_state same_counters same_lock total row_buffer swaps_at draws begins_from begins enters begun
    counted under_way_after finished finished_by waits_from under_way_from waits_below_from under_way_below largest divisor_in mean row_with row_of rows_below_from capped row_of_all all_rows_from bad_row_room bad_under_way waits_reply all_numbers goes_on
    refused_from full_entries reached no_attempt no_wait four_in_root three_wait all_enter on_cases walked zipped formed_by_walks walked_refused holds_by_walks all_hold_by_walks
on_cases_hold = same_cases on_cases cases_sized ∙ refl

pub every_part : EveryPart
unfolding fresh_words fresh_counters padded tree two_in_root same_numbers same_places same_counts same_state same_counters same_lock refused_from full_entries parts EveryPart
every_part = refl
