-- The cases hold, by computation.
use mathlib.Core.Path.{◌≡◌, refl}
use mathlib.Core.Bool.{true}
use Rattle.model.specs.Scans.{any_below, filter_below, all_below}
use Rattle.model.specs.Trees.{read_word, tree_of, is_ticket, is_child, is_leaf, depth_from, depth, level, meets, on_path, child_from, child, own_record, is_record, is_member, owner_domain, under}
use Rattle.model.specs.Places.{place_of, is_watch, is_idle, is_inside}
use Rattle.model.specs.States.{fresh_words, fresh_state, numbers_at, store_numbers}
use Rattle.model.specs.Steps.{is_kind, is_entry, prep_row, swap_row, link_row, wait_row, leave_row, check_row, help_row, cas_row, linger_row, grant_row, draw_row, watch_row, is_watched, shown_members, raise_row, row, step}
use Rattle.model.specs.Refusals.{refusal, accepted, lowest_bad, first_refusal, bad_domains, bad_threads, bad_parent, too_deep, no_threshold, bad_home, empty_domain, tree_tests, tree_refusal}
use Rattle.model.specs.Answers.{fresh_answer}
use Rattle.model.specs.Cases.Marked.{padded, tree, at_ticket_root, two_homes, two_in_root, three_levels}
use Rattle.journal.specs.Answers.{kind_checked, entry_checked, checked, journal_refusal, journal_answer}
use Rattle.journal.specs.Cases.Journals.{empty_leaf, enters_written_out, enters_by_default, handed_over, crosses, cases, holds, all_hold}

pub cases_hold : all_hold cases ≡ true
unfolding any_below filter_below all_below read_word tree_of is_ticket is_child is_leaf depth_from depth level meets on_path child_from child own_record
    is_record is_member owner_domain under place_of is_watch is_idle is_inside numbers_at store_numbers fresh_words fresh_state is_kind is_entry prep_row swap_row link_row wait_row
    leave_row check_row help_row cas_row linger_row grant_row draw_row watch_row is_watched shown_members raise_row row step refusal accepted lowest_bad
    first_refusal bad_domains bad_threads bad_parent too_deep no_threshold bad_home empty_domain tree_tests tree_refusal fresh_answer padded tree
    at_ticket_root two_homes two_in_root three_levels kind_checked entry_checked checked journal_refusal journal_answer empty_leaf enters_written_out enters_by_default
    handed_over crosses cases holds all_hold
cases_hold = refl
