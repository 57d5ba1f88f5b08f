-- The witnesses of the check of steps hold.
use mathlib.Core.Path.{◌≡◌, refl, subst}
use native.Mathlib.Omega.{arith}
use Rattle.model.specs.declared.State.{State}
use Rattle.model.specs.Scans.{any_below, filter_below, all_below}
use Rattle.model.specs.Trees.{read_word, tree_of, is_ticket, is_child, is_leaf, depth_from, depth, level, meets, on_path, child_from, child, own_record, is_record, is_member, owner_domain, under}
use Rattle.model.specs.Places.{place_of, is_watch, is_idle}
use Rattle.model.specs.States.{fresh_words, fresh_state, numbers_at}
use Rattle.model.specs.Counters.{fresh_counters, fresh_lock, good_count, good_counts}
use Rattle.model.specs.WellFormed.{good_tail, good_next, good_status, queue_on_path, good_place, good_watch, good_thread, good_counters, well_formed}
use Rattle.model.specs.Refusals.{refusal, accepted, lowest_bad, first_refusal, bad_domains, bad_threads, bad_parent, too_deep, no_threshold, bad_home, empty_domain, tree_tests, bad_state, tree_refusal}
use Rattle.model.specs.Laws.{Formed, FormLaw}
use Rattle.model.specs.Cases.Marked.{padded, tree, two_homes}
use Rattle.model.proofs.Trees.Accepted.{sixteen_bit}
use Rattle.model.proofs.Laws.Form.{form_law}
use Rattle.journal.specs.StepCheck.Answers.{bad_lengths, early_tests, early_refusal}
use Rattle.journal.specs.Cases.StepCheck.{passing, passing_kinds, passing_domains}
use Rattle.journal.specs.Cases.StepCheckWitnesses.{Witnesses}

tree_accepted : (tree_refusal (tree_of two_homes)).number ≡ 0
unfolding any_below filter_below read_word tree_of is_child is_leaf depth_from depth level meets on_path under refusal accepted lowest_bad first_refusal bad_domains bad_threads bad_parent too_deep no_threshold bad_home empty_domain tree_tests tree_refusal padded tree two_homes
tree_accepted = refl

-- at a queue root a fresh state is 0 throughout
fresh_zero : fresh_state (tree_of two_homes) 0 ≡ fresh_words
unfolding fresh_state fresh_words tree_of two_homes tree
fresh_zero = refl

formed : Formed (tree_of two_homes) fresh_lock.words
unfolding FormLaw
formed = subst (λ (s : State). Formed (tree_of two_homes) s) fresh_zero ((form_law (tree_of two_homes) (sixteen_bit two_homes) tree_accepted).of_fresh 0)

pub witnesses : Witnesses
unfolding any_below filter_below all_below read_word tree_of is_ticket is_child is_leaf depth_from depth level meets on_path child_from child own_record is_record is_member owner_domain under
    place_of is_watch is_idle numbers_at fresh_words fresh_counters good_count good_counts good_tail good_next good_status queue_on_path good_place good_watch good_thread good_counters well_formed
    refusal accepted lowest_bad first_refusal bad_domains bad_threads bad_parent too_deep no_threshold bad_home empty_domain tree_tests bad_state padded tree two_homes
    bad_lengths early_tests early_refusal passing passing_kinds passing_domains
witnesses = record { formed = formed; first = refl; kinds = refl; domains = refl; few = omega arith }
