-- The cases of a ticket lock at the root hold.
use mathlib.Core.Path.{◌≡◌, refl, ◌∙◌}
use mathlib.Core.Bool.{true}
use Rattle.model.specs.Scans.{any_below, all_below, filter_below}
use Rattle.model.specs.Trees.{read_word, tree_of, is_ticket, is_child, is_leaf, depth_from, depth, level, meets, on_path, child_from, child, own_record, is_record, is_member, owner_domain, under}
use Rattle.model.specs.Places.{place_of, is_idle, is_inside, is_watch}
use Rattle.model.specs.States.{fresh_words, fresh_state, numbers_at, store_numbers}
use Rattle.model.specs.Steps.{is_kind, is_entry, prep_row, swap_row, link_row, wait_row, leave_row, check_row, help_row, cas_row, linger_row, grant_row, draw_row, watch_row, is_watched, shown_members, raise_row, row, step}
use Rattle.model.specs.Runs.{steps, state_after, how_many, entering, counts_of, run_of, run, begun_in, ended_in, begun, ended}
use Rattle.model.specs.WellFormed.{good_tail, queue_on_path, good_place, good_counters}
use Rattle.model.specs.Refusals.{refusal, accepted, lowest_bad, first_refusal, bad_domains, bad_threads, bad_parent, too_deep, no_threshold, bad_home, empty_domain, tree_tests, bad_length, bad_entry, bad_room, tree_refusal}
use Rattle.model.specs.Counters.{fresh_counters}
use Rattle.model.specs.Answers.{fresh_answer, first_kind, first_domain, step_reply, run_reply, run_buffer}
use Rattle.model.specs.Cases.Marked.{padded, tree, at_ticket_root, count_up, counters, ok, refused, two_homes, root_alone, two_in_root, one_home, same_numbers, same_places, same_state, same_counters, same_lock, gives, same_counts, kept, holds, all_hold}
use Rattle.model.specs.Cases.Ticket.{ticket_alone, two_in_ticket, three_in_ticket, ticket_above, with_numbers, ticket_cases, SeveralShown, RaisesInOrder}
use Rattle.model.proofs.Walks.{walked, zero_from, first_pass, formed_by_walks, zipped}
use Rattle.model.proofs.Computing.{walked_step, walked_refusal, holds_by_walks, all_hold_by_walks, case_sized, all_sized, same_cases}

-- the states that the cases pass in are complete
ticket_cases_sized : all_sized ticket_cases ≡ true
unfolding numbers_at store_numbers fresh_words counters with_numbers ticket_cases case_sized all_sized
ticket_cases_sized = refl

-- each line is computed
pub ticket_cases_hold : all_hold ticket_cases ≡ true
unfolding any_below filter_below all_below read_word tree_of is_ticket is_child is_leaf depth_from depth level meets on_path child_from child own_record
    is_record is_member owner_domain under place_of is_watch is_idle is_inside numbers_at store_numbers fresh_words fresh_state is_kind is_entry prep_row swap_row link_row wait_row
    leave_row check_row help_row cas_row linger_row grant_row draw_row watch_row is_watched shown_members raise_row row step steps state_after how_many
    entering counts_of run_of run good_tail queue_on_path good_place good_counters refusal accepted lowest_bad first_refusal bad_domains bad_threads bad_parent
    too_deep no_threshold bad_home empty_domain tree_tests bad_length bad_entry bad_room tree_refusal fresh_answer first_kind first_domain step_reply run_reply
    run_buffer padded tree at_ticket_root count_up ok refused counters two_homes root_alone two_in_root one_home ticket_alone two_in_ticket three_in_ticket
    ticket_above with_numbers ticket_cases same_numbers same_places same_state same_counters same_lock fresh_counters gives same_counts kept holds walked zipped zero_from first_pass
    formed_by_walks walked_step walked_refusal holds_by_walks all_hold_by_walks
ticket_cases_hold = same_cases ticket_cases ticket_cases_sized ∙ refl

-- one Raise shows several members
pub several_shown : SeveralShown
unfolding any_below filter_below read_word tree_of meets on_path child_from child own_record place_of is_watch numbers_at store_numbers fresh_words is_watched shown_members padded tree at_ticket_root three_in_ticket SeveralShown
several_shown = refl

pub raises_in_order : RaisesInOrder
unfolding any_below filter_below read_word tree_of is_ticket is_child is_leaf meets on_path child_from child own_record place_of is_watch numbers_at store_numbers fresh_words prep_row
    swap_row link_row wait_row leave_row check_row help_row cas_row linger_row grant_row draw_row watch_row is_watched shown_members raise_row row step steps
    begun_in ended_in begun ended padded tree at_ticket_root counters three_in_ticket RaisesInOrder
raises_in_order = (refl, refl, refl, refl)
