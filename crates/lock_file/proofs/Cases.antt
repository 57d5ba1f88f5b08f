-- The cases of reading hold, by computation.
use mathlib.Core.Path.{◌≡◌, refl}
use mathlib.Core.Bool.{true}
use Rattle.model.specs.Refusals.{refusal, accepted}
use Rattle.model.specs.Scans.{all}
use Rattle.model.specs.Cases.Marked.{same_numbers}
use Rattle.lock_file.specs.Reading.{reached_refusal, field_end, entry_end, domain_size, domain_end, parent_at, threshold_at, stored, domains_from, domains_read, thread_end, home_at, threads_from, threads_after, threads_read, thread_count, schedule_start, tree_read, entries_from, entries_at, reading_of, file_read, filled}
use Rattle.lock_file.specs.Answers.{bounded_read, no_tree, reading_reply, reading_buffer, read_answer, schedule_answer}
use Rattle.lock_file.specs.Cases.Reading.{cases, parts, EveryPart}

pub cases_hold : all cases ≡ true
unfolding same_numbers refusal accepted reached_refusal field_end entry_end domain_size domain_end parent_at threshold_at stored domains_from domains_read thread_end home_at threads_from threads_after threads_read thread_count schedule_start tree_read entries_from entries_at reading_of file_read filled bounded_read no_tree reading_reply reading_buffer read_answer schedule_answer cases
cases_hold = refl

pub every_part : EveryPart
unfolding same_numbers parts EveryPart
every_part = refl
