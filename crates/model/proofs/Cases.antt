-- The cases of the table hold, and the allowance is reached.
use mathlib.Core.Path.{◌≡◌, refl, ◌∙◌}
use mathlib.Core.Bool.{true}
use Rattle.model.specs.Scans.{any_below, all_below, largest_below, filter_below}
use Rattle.model.specs.Trees.{read_word, tree_of, is_ticket, is_child, is_leaf, depth_from, depth, level, meets, on_path, child_from, child, own_record, is_record, is_member, owner_domain, under, domain_allowance, allowance}
use Rattle.model.specs.Places.{place_of, is_idle, is_inside, is_watch}
use Rattle.model.specs.States.{fresh_words, fresh_state, numbers_at, store_numbers}
use Rattle.model.specs.Steps.{is_kind, is_entry, prep_row, swap_row, link_row, wait_row, leave_row, check_row, help_row, cas_row, linger_row, grant_row, draw_row, watch_row, is_watched, shown_members, raise_row, row, step}
use Rattle.model.specs.Runs.{steps, state_after, how_many, entering, counts_of, run_of, run, begun_in, ended_in, begun, ended, entries_under, occurrences}
use Rattle.model.specs.WellFormed.{good_tail, queue_on_path, good_place, good_counters}
use Rattle.model.specs.Refusals.{refusal, accepted, lowest_bad, first_refusal, bad_domains, bad_threads, bad_parent, too_deep, no_threshold, bad_home, empty_domain, tree_tests, bad_length, bad_entry, bad_room, tree_refusal}
use Rattle.model.specs.Counters.{fresh_counters}
use Rattle.model.specs.Answers.{fresh_answer, first_kind, first_domain, step_reply, run_reply, run_buffer}
use Rattle.model.specs.Cases.Marked.{padded, tree, count_up, ok, refused, passes, two_homes, first_entries, root_alone, two_in_root, one_home, three_levels, four_levels, cases, counters, same_numbers, same_places, same_state, same_counters, same_lock, gives, same_counts, kept, holds, all_hold, three_homes, until_standing, while_standing, allowance_reached}
use Rattle.model.proofs.Walks.{walked, zero_from, first_pass, formed_by_walks, zipped}
use Rattle.model.proofs.Computing.{walked_step, walked_refusal, holds_by_walks, all_hold_by_walks, case_sized, all_sized, same_cases}

-- the states that the cases pass in are complete
cases_sized : all_sized cases ≡ true
unfolding numbers_at store_numbers fresh_words counters cases first_entries case_sized all_sized
cases_sized = refl

-- each line is computed
pub cases_hold : all_hold cases ≡ true
unfolding any_below filter_below all_below read_word tree_of is_ticket is_child is_leaf depth_from depth level meets on_path child_from child own_record
    is_record is_member owner_domain under place_of is_watch is_idle is_inside numbers_at store_numbers fresh_words fresh_state is_kind is_entry prep_row swap_row link_row wait_row
    leave_row check_row help_row cas_row linger_row grant_row draw_row watch_row is_watched shown_members raise_row row step steps state_after how_many
    entering counts_of run_of run good_tail queue_on_path good_place good_counters refusal accepted lowest_bad first_refusal bad_domains bad_threads bad_parent
    too_deep no_threshold bad_home empty_domain tree_tests bad_length bad_entry bad_room tree_refusal fresh_answer first_kind first_domain step_reply run_reply
    run_buffer padded tree count_up ok refused passes counters two_homes first_entries root_alone two_in_root one_home three_levels four_levels cases
    same_numbers same_places same_state same_counters same_lock fresh_counters gives same_counts kept holds walked zipped zero_from first_pass formed_by_walks walked_step walked_refusal
    holds_by_walks all_hold_by_walks
cases_hold = same_cases cases cases_sized ∙ refl

-- the threads under domain 1 enter as often as its allowance permits while domain 2 stands ungranted
pub reached : allowance_reached ≡ true
unfolding any_below filter_below largest_below read_word tree_of is_ticket is_child is_leaf meets on_path child_from child own_record under domain_allowance
    allowance place_of is_watch numbers_at store_numbers fresh_words fresh_state is_entry prep_row swap_row link_row wait_row leave_row check_row help_row cas_row linger_row grant_row
    draw_row watch_row is_watched shown_members raise_row row step steps state_after begun_in ended_in begun ended entries_under occurrences padded tree
    same_numbers three_homes until_standing while_standing allowance_reached
reached = refl
