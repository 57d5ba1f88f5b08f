-- The cases hold, by computation.
use mathlib.Core.Path.{◌≡◌, refl, ap, ◌∙◌}
use mathlib.Core.Bool.{Bool, true, ◌&&◌, cond}
use mathlib.Core.List.{List, [], ◌∷◌}
use lib.Dec.{eqb}
use lib.ListN.{take}
use Rattle.model.specs.Scans.{any_below, filter_below, all_below}
use Rattle.model.specs.Trees.{read_word, tree_of, is_ticket, is_child, is_leaf, depth_from, depth, level, meets, on_path, child_from, child, own_record, is_record, is_member, owner_domain, under}
use Rattle.model.specs.Places.{place_of, is_watch, is_idle, is_inside}
use Rattle.model.specs.States.{fresh_words, fresh_state, numbers_at, store_numbers}
use Rattle.model.specs.Steps.{is_kind, is_entry, prep_row, swap_row, link_row, wait_row, leave_row, check_row, help_row, cas_row, linger_row, grant_row, draw_row, watch_row, is_watched, shown_members, raise_row, row, step}
use Rattle.model.specs.Runs.{steps, state_after, how_many, entering, counts_of, run_of, run, ended_in, entries_under, occurrences}
use Rattle.model.specs.WellFormed.{good_tail, queue_on_path, good_place, good_counters}
use Rattle.model.specs.Tenures.{finds_none, taken_from, given, starts, checks_at, word_to_grant, tenure_length, domain_entries, domain_tenures, longest_tenure}
use Rattle.model.specs.Counters.{fresh_counters, each_with_index, counters_after, good_count, good_counts, count_above, any_above, lock_after}
use Rattle.model.specs.Refusals.{Refusal, refusal, accepted, lowest_bad, first_refusal, bad_domains, bad_threads, bad_parent, too_deep, no_threshold, bad_home, empty_domain, tree_tests, bad_state}
use Rattle.model.specs.Cases.Marked.{padded, tree, at_ticket_root, two_homes, one_home, two_in_root, same_numbers, same_places, same_state, same_counters, same_lock}
use Rattle.model.proofs.Tests.{and_both}
use Rattle.model.proofs.Walks.{walked, zero_from, first_pass, first_meets, formed_by_walks, same_formed, counts_by_walks, zipped}
use Rattle.model.proofs.Computing.{refusal_by, same_lock_formed, state_sized, sized}
use Rattle.journal.specs.StepCheck.Answers.{bad_lengths, length_tests, early_tests, early_refusal, step_number, checked, replied, refused, steps_answer}
use Rattle.journal.specs.Cases.StepCheck.{Case, passing, passing_kinds, passing_domains, one_pass, releasing, releasing_kinds, releasing_domains, full_entries, empty_leaf, cases, holds, all_hold}

-- what refuses before the steps, with 10 tested by single passes
unfoldable walked_refusal : Case → Refusal
walked_refusal c =
    let t = tree_of c.words in
    refusal_by t (formed_by_walks t c.state.words && counts_by_walks t c.state.counters) (length_tests c.threads c.kinds c.domains)

same_refusal : (c : Case) → state_sized c.state.words ≡ true → early_refusal (tree_of c.words) c.state c.threads c.kinds c.domains ≡ walked_refusal c
unfolding walked_refusal early_refusal early_tests tree_tests bad_state
same_refusal c e =
    let t = tree_of c.words in
    ap (λ b. refusal_by t b (length_tests c.threads c.kinds c.domains)) (same_lock_formed c.words c.state (formed_by_walks t c.state.words) (same_formed t c.state.words (sized c.state.words e)))

unfoldable holds_by_walks : Case → Bool
holds_by_walks c =
    let t = tree_of c.words in
    let q = walked_refusal c in
    let r = cond (eqb q.number 0) (replied (checked t c.state c.threads c.kinds c.domains)) (refused q c.state) in
    let after = lock_after t c.state (steps t (take c.right c.threads) c.state.words) in
    (eqb r.number c.number && eqb r.place c.place) && (eqb r.checked c.right && same_lock r.state after)

unfoldable all_hold_by_walks : List Case → Bool
all_hold_by_walks [] = true
all_hold_by_walks (c ∷ cs) = holds_by_walks c && all_hold_by_walks cs

-- the arrays in the states of the cases have their full lengths
unfoldable all_sized : List Case → Bool
all_sized [] = true
all_sized (c ∷ cs) = state_sized c.state.words && all_sized cs

same_cases : (cs : List Case) → all_sized cs ≡ true → all_hold cs ≡ all_hold_by_walks cs
unfolding all_hold all_hold_by_walks all_sized holds holds_by_walks steps_answer
same_cases [] e = refl
same_cases (c ∷ cs) e =
    let a = and_both (state_sized c.state.words) (all_sized cs) e in
    rw (same_refusal c a.0, same_cases cs a.1)

cases_sized : all_sized cases ≡ true
unfolding any_below filter_below all_below read_word tree_of is_ticket is_child is_leaf depth_from depth level meets on_path child_from child own_record
    is_record is_member owner_domain under place_of is_watch is_idle is_inside numbers_at store_numbers fresh_words fresh_state is_kind is_entry prep_row swap_row link_row wait_row
    leave_row check_row help_row cas_row linger_row grant_row draw_row watch_row is_watched shown_members raise_row row step steps state_after lock_after padded tree at_ticket_root
    two_homes one_home two_in_root passing one_pass full_entries empty_leaf cases all_sized
cases_sized = refl

pub cases_hold : all_hold cases ≡ true
unfolding zero_from first_pass first_meets counts_by_walks occurrences ended_in entries_under finds_none taken_from given starts checks_at word_to_grant tenure_length domain_entries domain_tenures
    longest_tenure fresh_counters each_with_index counters_after good_count good_counts count_above any_above lock_after any_below
    filter_below all_below read_word tree_of is_ticket is_child is_leaf depth_from depth level meets on_path child_from child own_record is_record is_member
    owner_domain under place_of is_watch is_idle is_inside numbers_at store_numbers fresh_words fresh_state is_kind is_entry prep_row swap_row link_row wait_row leave_row check_row
    help_row cas_row linger_row grant_row draw_row watch_row is_watched shown_members raise_row row step steps state_after how_many entering counts_of run_of
    run good_tail queue_on_path good_place good_counters refusal accepted lowest_bad first_refusal bad_domains bad_threads bad_parent too_deep no_threshold
    bad_home empty_domain tree_tests padded tree at_ticket_root two_homes one_home two_in_root
    same_numbers same_places same_state same_counters same_lock bad_lengths step_number checked passing passing_kinds passing_domains one_pass releasing releasing_kinds releasing_domains
    full_entries empty_leaf cases walked zipped formed_by_walks walked_refusal holds_by_walks all_hold_by_walks
cases_hold = same_cases cases cases_sized ∙ refl
