-- The cases hold, by computation.
use mathlib.Core.Path.{◌≡◌, refl}
use mathlib.Core.Bool.{true}
use Rattle.model.specs.Scans.{any_below}
use Rattle.model.specs.Trees.{read_word, tree_of, is_child, is_leaf, depth_from, depth, level, meets, on_path, under}
use Rattle.model.specs.Refusals.{refusal, accepted, lowest_bad, first_refusal, bad_domains, bad_threads, bad_parent, too_deep, no_threshold, bad_home, empty_domain, tree_tests, bad_length, bad_entry}
use Rattle.model.specs.Cases.Marked.{padded, tree, at_ticket_root, two_homes, first_entries, root_alone, two_in_root, same_numbers}
use Rattle.lock_file.specs.FileWriter.Writing.{written_domain, written_domains, written_thread, written_threads, written_schedule, first_byte, written_tree, written_file}
use Rattle.lock_file.specs.FileWriter.Refusals.{bad_file_length, bad_file_room, write_tests, write_refusal}
use Rattle.lock_file.specs.FileWriter.Answers.{write_reply, file_buffer, write_answer, file_buffer_answer}
use Rattle.lock_file.specs.Cases.FileWriter.{writes, refuses, edges, unread, empty_leaf, cases, holds, all_hold, parts, EveryPart}

pub cases_hold : all_hold cases ≡ true
unfolding any_below read_word tree_of is_child is_leaf depth_from depth level meets on_path under refusal accepted lowest_bad first_refusal bad_domains
    bad_threads bad_parent too_deep no_threshold bad_home empty_domain tree_tests bad_length bad_entry padded tree at_ticket_root two_homes first_entries
    root_alone two_in_root same_numbers written_domain written_domains written_thread written_threads written_schedule first_byte written_tree written_file
    bad_file_length bad_file_room write_tests write_refusal write_reply file_buffer write_answer file_buffer_answer writes refuses edges unread empty_leaf
    cases holds all_hold
cases_hold = refl

pub every_part : EveryPart
unfolding root_alone tree padded same_numbers writes parts EveryPart
every_part = refl
