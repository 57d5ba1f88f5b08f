-- The cases of the file call hold, by computation of what `Computing` shows to be equal.
use mathlib.Core.Path.{◌≡◌, refl}
use mathlib.Core.Bool.{true}
use Rattle.model.specs.Scans.{all, any_below, filter_below}
use Rattle.model.specs.Trees.{read_word, tree_of, is_ticket, is_child, is_leaf, depth_from, depth, level, meets, on_path, child_from, child, own_record, is_record, is_member, under}
use Rattle.model.specs.Places.{place_of, is_idle, is_watch}
use Rattle.model.specs.States.{fresh_words, numbers_at, store_numbers}
use Rattle.model.specs.Steps.{is_kind, is_entry, prep_row, swap_row, link_row, wait_row, leave_row, check_row, help_row, cas_row, linger_row, grant_row, draw_row, watch_row, is_watched, shown_members, raise_row, row, step}
use Rattle.model.specs.Runs.{steps, state_after, how_many, entering, counts_of, run_of, run}
use Rattle.model.specs.Refusals.{refusal, accepted, lowest_bad, first_refusal, bad_domains, bad_threads, bad_parent, too_deep, no_threshold, bad_home, empty_domain, tree_tests, bad_length, bad_entry, bad_room}
use Rattle.model.specs.Answers.{run_reply}
use Rattle.model.specs.Cases.Marked.{same_numbers}
use Rattle.lock_file.specs.Reading.{reached_refusal, field_end, entry_end, domain_size, domain_end, parent_at, threshold_at, stored, domains_from, domains_read, thread_end, home_at, threads_from, threads_after, threads_read, thread_count, schedule_start, tree_read, entries_from, entries_at, reading_of, file_read}
use Rattle.lock_file.specs.PrintedListing.Listing.{digits, numeral, number_then, trace_lines, spaced, first_line, listing}
use Rattle.lock_file.specs.FileAnswers.FileAnswers.{listing_outcome, run_outcome, file_trace, outcome_reply, outcome_output, file_answer, output_answer}
use Rattle.lock_file.specs.Cases.FileAnswers.{cases, parts, EveryPart}
use Rattle.lock_file.specs.FileAnswers.FileLaws.{possible_numbers}
use Rattle.lock_file.specs.Cases.FileAnswersWitnesses.{numbered_files, NumbersOccur}
use Rattle.lock_file.proofs.file_answers.Computing.{quick_refusal, quick_run, quick_reading, quick_outcome, same_outcome}

pub cases_hold : all cases ≡ true
unfolding same_numbers any_below filter_below read_word tree_of is_ticket is_child is_leaf depth_from depth level meets on_path child_from child own_record
    is_record is_member under place_of is_watch is_idle numbers_at store_numbers fresh_words is_kind is_entry prep_row swap_row link_row wait_row leave_row check_row help_row
    cas_row linger_row grant_row draw_row watch_row is_watched shown_members raise_row row step steps state_after how_many entering counts_of run_of run
    refusal accepted lowest_bad first_refusal bad_domains bad_threads bad_parent too_deep no_threshold bad_home empty_domain tree_tests bad_length
    bad_entry bad_room run_reply reached_refusal field_end entry_end domain_size domain_end parent_at threshold_at stored domains_from domains_read
    thread_end home_at threads_from threads_after threads_read thread_count schedule_start tree_read entries_from entries_at reading_of file_read digits
    numeral number_then trace_lines spaced first_line listing listing_outcome run_outcome file_trace quick_refusal quick_run quick_reading quick_outcome
    outcome_reply outcome_output file_answer output_answer cases
cases_hold = rw same_outcome refl

-- each number is the answer for its file
pub numbers_occur : NumbersOccur
unfolding same_numbers any_below filter_below read_word tree_of is_ticket is_child is_leaf depth_from depth level meets on_path child_from child own_record
    is_record is_member under place_of is_watch is_idle numbers_at store_numbers fresh_words is_kind is_entry prep_row swap_row link_row wait_row leave_row check_row help_row
    cas_row linger_row grant_row draw_row watch_row is_watched shown_members raise_row row step steps state_after how_many entering counts_of run_of run
    refusal accepted lowest_bad first_refusal bad_domains bad_threads bad_parent too_deep no_threshold bad_home empty_domain tree_tests bad_length
    bad_entry bad_room run_reply reached_refusal field_end entry_end domain_size domain_end parent_at threshold_at stored domains_from domains_read
    thread_end home_at threads_from threads_after threads_read thread_count schedule_start tree_read entries_from entries_at reading_of file_read digits
    numeral number_then trace_lines spaced first_line listing listing_outcome run_outcome file_trace quick_refusal quick_run quick_reading quick_outcome
    outcome_reply outcome_output file_answer output_answer NumbersOccur numbered_files possible_numbers
numbers_occur = rw same_outcome refl

pub every_part : EveryPart
unfolding parts EveryPart
every_part = refl
