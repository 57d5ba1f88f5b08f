-- The computed cases hold.
use mathlib.Core.Path.{refl}
use Rattle.model.specs.Scans.{any_below, filter_below}
use Rattle.model.specs.Trees.{read_word, tree_of, is_ticket, meets, on_path, child_from, child, own_record, under}
use Rattle.model.specs.Places.{place_of, is_watch}
use Rattle.model.specs.States.{fresh_words, fresh_state, numbers_at, store_numbers}
use Rattle.model.specs.Steps.{is_entry, prep_row, swap_row, link_row, wait_row, leave_row, check_row, help_row, cas_row, linger_row, grant_row, draw_row, watch_row, is_watched, shown_members, raise_row, row, step}
use Rattle.model.specs.Runs.{steps, ended_in, entries_under, occurrences}
use Rattle.model.specs.Tenures.{finds_none, taken_from, given, starts, checks_at, word_to_grant, tenure_length, domain_entries, domain_tenures, longest_tenure}
use Rattle.model.specs.Cases.Marked.{padded, tree, at_ticket_root}
use Rattle.claims.specs.Cases.Tenures.{holds, all_counted, two_threads, three_threads, three_levels, two_leaves, one_after, cases, CasesHold}

pub cases_hold : CasesHold
unfolding any_below filter_below read_word tree_of is_ticket meets on_path child_from child own_record under place_of is_watch numbers_at store_numbers fresh_words fresh_state is_entry
    prep_row swap_row link_row wait_row leave_row check_row help_row cas_row linger_row grant_row draw_row watch_row is_watched shown_members raise_row row
    step steps ended_in entries_under occurrences finds_none taken_from given starts checks_at word_to_grant tenure_length domain_entries domain_tenures
    longest_tenure padded tree at_ticket_root holds all_counted two_threads three_threads three_levels two_leaves one_after cases CasesHold
cases_hold = refl
