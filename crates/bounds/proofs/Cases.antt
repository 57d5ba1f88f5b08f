-- The cases of the calls hold, by computation.
use mathlib.Core.Path.{◌≡◌, refl}
use mathlib.Core.Bool.{true}
use Rattle.model.specs.Scans.{all, any_below, all_below, largest_below, filter_below}
use Rattle.model.specs.Trees.{read_word, tree_of, is_child, is_member, is_leaf, depth_from, depth, level, meets, on_path, under, domain_allowance, allowance}
use Rattle.model.specs.Refusals.{refusal, accepted, lowest_bad, first_refusal, bad_domains, bad_threads, bad_parent, too_deep, no_threshold, bad_home, empty_domain, tree_tests, tree_refusal}
use Rattle.bounds.specs.StarvationFreedom.Bounds.{members, levels, entry_rounds, tenure_length, tenures_for, link_rounds, standing_rounds, acquire_from, acquire_rounds, acquire_bound, release_bound, everyone_bound}
use Rattle.bounds.specs.LongestWait.Bounds.{sum_below, effective_threshold, effective, passes, others_passes, tenures_for_all, wait_from, member_wait, wait_bound}
use Rattle.model.specs.Cases.Marked.{same_numbers}
use Rattle.bounds.specs.Answers.{capped, allowance_word, words_from, allowances_answer, allowances_left, rounds_answer, wait_word, wait_bounds_answer, wait_bounds_left}
use Rattle.bounds.specs.Cases.Answers.{cases, rounds_cases, wait_cases}

pub cases_hold : all cases ≡ true
unfolding same_numbers any_below all_below largest_below read_word tree_of is_child is_leaf depth_from depth level meets on_path under domain_allowance allowance refusal accepted lowest_bad first_refusal bad_domains bad_threads bad_parent too_deep no_threshold bad_home empty_domain tree_tests tree_refusal capped allowance_word words_from allowances_answer allowances_left cases
cases_hold = refl

pub rounds_cases_hold : all rounds_cases ≡ true
unfolding same_numbers any_below all_below largest_below filter_below read_word tree_of is_child is_member is_leaf depth_from depth level meets on_path under
    domain_allowance allowance refusal accepted lowest_bad first_refusal bad_domains bad_threads bad_parent too_deep no_threshold bad_home empty_domain
    tree_tests tree_refusal capped members sum_below effective_threshold effective passes others_passes levels entry_rounds tenure_length tenures_for link_rounds standing_rounds acquire_from
    acquire_rounds acquire_bound release_bound everyone_bound rounds_answer rounds_cases
rounds_cases_hold = refl

pub wait_cases_hold : all wait_cases ≡ true
unfolding same_numbers any_below all_below largest_below filter_below read_word tree_of is_child is_member is_leaf depth_from depth level meets on_path under
    domain_allowance allowance refusal accepted lowest_bad first_refusal bad_domains bad_threads bad_parent too_deep no_threshold bad_home empty_domain
    tree_tests tree_refusal capped members words_from sum_below effective_threshold effective passes others_passes tenures_for_all wait_from member_wait
    wait_bound wait_word wait_bounds_answer wait_bounds_left wait_cases
wait_cases_hold = refl
