-- The longest file: one domain and one thread with many steps.
use mathlib.Core.Path.{◌≡◌, refl, ap, ◌∙◌}
use mathlib.Core.Bool.{false}
use Prim.Native.Nat.{ℕ, ◌+◌, ◌*◌, ◌≤◌}
use native.Mathlib.Omega.{arith}
use lib.ListN.{length, length-replicate}
use borrow.Author.Tests.{le-ltb}
use Rattle.model.specs.Scans.{any_below}
use Rattle.model.specs.Trees.{read_word, tree_of, is_child, is_leaf, depth_from, depth, level, meets, on_path, under}
use Rattle.model.specs.Refusals.{refusal, accepted, lowest_bad, first_refusal, bad_domains, bad_threads, bad_parent, too_deep, no_threshold, bad_home, empty_domain, tree_tests, tree_refusal, bad_length, bad_entry, entry_tests, schedule_tests}
use Rattle.model.specs.Cases.Marked.{padded, tree, root_alone}
use Rattle.model.proofs.Refusing.{lowest_none}
use Rattle.model.proofs.Laws.Counters.{zeros}
use Rattle.refusals.proofs.Scanning.{single_missed}
use Rattle.lock_file.specs.FileWriter.Writing.{written_domains, written_thread, written_threads, first_byte, written_tree, written_file}
use Rattle.lock_file.specs.FileWriter.Laws.{WriteRefusalLaw}
use Rattle.lock_file.specs.Cases.FileWriter.{steps_of_one, LongestLaw}
use Rattle.lock_file.proofs.file_writer.Lengths.{file_length}
use Rattle.lock_file.proofs.file_writer.Refusing.{write_refusal_law}

tree_passes : (tree_refusal (tree_of root_alone)).number ≡ 0
unfolding any_below read_word tree_of is_child is_leaf depth_from depth level meets on_path under refusal accepted lowest_bad first_refusal bad_domains bad_threads bad_parent too_deep no_threshold bad_home empty_domain tree_tests tree_refusal padded tree root_alone
tree_passes = refl

tree_takes : length (written_tree (tree_of root_alone)) ≡ 4
unfolding read_word tree_of padded tree root_alone written_domains written_thread written_threads first_byte written_tree
tree_takes = refl

module _ (n : ℕ) (few : n ≤ 65536) where
  steps_length : length (steps_of_one n) ≡ n
  steps_length = length-replicate {A = ℕ} n 0

  entry_passes : (p : ℕ) → bad_entry (tree_of root_alone) (steps_of_one n) p ≡ false
  unfolding bad_entry tree_of tree root_alone
  entry_passes p = rw (zeros n p)

  entries_pass : first_refusal (entry_tests (tree_of root_alone) (steps_of_one n)) ≡ accepted
  unfolding first_refusal
  entries_pass = lowest_none 12 (bad_entry (tree_of root_alone) (steps_of_one n)) (length (steps_of_one n)) 0 accepted (λ j l. entry_passes (0 + j))

  schedule_passes : (first_refusal (schedule_tests (tree_of root_alone) (steps_of_one n))).number ≡ 0
  unfolding bad_length accepted refusal
  schedule_passes =
      ap (λ r. r.number)
      (single_missed _ (entry_tests (tree_of root_alone) (steps_of_one n)) refl (le-ltb 65536 (length (steps_of_one n)) (omega (arith, steps_length))) ∙ entries_pass)

pub longest_law : LongestLaw
unfolding LongestLaw WriteRefusalLaw
longest_law n room few =
    let t = tree_of root_alone in
    let is = steps_of_one n in
    let long : length (written_file t is) ≡ 4 + 2 * n = omega (arith, file_length t is, tree_takes, steps_length n few) in
    let law = write_refusal_law t is room in
    record {
      long = long;
      written = λ h g. law.accepts tree_passes (schedule_passes n few) (omega (arith, long)) (omega (arith, long));
      no_room = λ h g. law.room_refused tree_passes (schedule_passes n few) (omega (arith, long)) (omega (arith, long));
      too_long = λ h. law.length_refused tree_passes (schedule_passes n few) (omega (arith, long));
    }
