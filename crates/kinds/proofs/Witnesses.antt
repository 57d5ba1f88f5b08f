-- The witnesses of `kinds` hold.
use mathlib.Core.Path.{refl}
use Rattle.model.specs.Scans.{any_below, all_below, filter_below}
use Rattle.model.specs.Trees.{read_word, tree_of, is_ticket, is_child, is_leaf, depth_from, depth, level, meets, on_path, child_from, child, own_record, is_record, is_member, owner_domain, under}
use Rattle.model.specs.Places.{place_of, is_idle, is_watch}
use Rattle.model.specs.States.{fresh_words, numbers_at, store_numbers}
use Rattle.model.specs.Steps.{is_kind, is_entry, prep_row, swap_row, link_row, wait_row, leave_row, check_row, help_row, cas_row, linger_row, grant_row, draw_row, watch_row, is_watched, shown_members, raise_row, row, step}
use Rattle.model.specs.Runs.{steps, state_after, how_many, entering, counts_of, run_of, run, ended_in, entries_under, occurrences}
use Rattle.model.specs.Tenures.{finds_none, taken_from, given, starts, checks_at, word_to_grant, tenure_length, domain_entries, domain_tenures, longest_tenure}
use Rattle.model.specs.Counters.{fresh_counters, each_with_index, counters_after, good_count, good_counts, count_above, any_above}
use Rattle.model.specs.WellFormed.{good_tail, good_next, good_status, queue_on_path, good_place, good_watch, good_thread, good_counters, well_formed}
use Rattle.model.specs.Refusals.{refusal, accepted, lowest_bad, first_refusal, bad_domains, bad_threads, bad_parent, too_deep, no_threshold, bad_home, empty_domain, tree_tests, bad_state, bad_length, bad_entry, bad_room, bad_counter, tree_refusal}
use Rattle.model.specs.Answers.{counters_after_run, run_reply}
use Rattle.model.specs.Cases.Marked.{padded, tree, two_in_root}
use Rattle.kinds.specs.Answers.{bad_kind_room, kinds_tests, kinds_refusal, kinds_reply, refused_by, kinds_answer}
use Rattle.kinds.specs.Cases.Witnesses.{CallsMeet}

pub calls_meet : CallsMeet
unfolding occurrences ended_in entries_under finds_none taken_from given starts checks_at word_to_grant tenure_length domain_entries domain_tenures
    longest_tenure fresh_counters each_with_index counters_after good_count good_counts count_above any_above bad_counter counters_after_run is_entry any_below
    all_below filter_below read_word tree_of is_ticket is_child is_leaf depth_from depth level meets on_path child_from child own_record is_record is_member
    owner_domain under place_of is_watch is_idle numbers_at store_numbers fresh_words is_kind prep_row swap_row link_row wait_row leave_row check_row help_row cas_row linger_row grant_row draw_row watch_row is_watched shown_members raise_row row step steps state_after
    how_many entering counts_of run_of run good_tail good_next good_status
    queue_on_path good_place good_watch good_thread good_counters well_formed refusal accepted lowest_bad first_refusal bad_domains bad_threads bad_parent
    too_deep no_threshold bad_home empty_domain tree_tests bad_state bad_length bad_entry bad_room tree_refusal run_reply
    padded tree two_in_root bad_kind_room kinds_tests kinds_refusal kinds_reply refused_by kinds_answer
calls_meet = record { first = refl; second = refl; whole = refl }
