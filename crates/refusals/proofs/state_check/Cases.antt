-- The cases hold, by computation.
use mathlib.Core.Path.{◌≡◌, refl, ap, ◌∙◌}
use mathlib.Core.Bool.{Bool, true, ◌&&◌}
use mathlib.Core.List.{List, [], ◌∷◌}
use lib.Dec.{eqb}
use Rattle.model.specs.declared.TreeWords.{TreeWords}
use Rattle.model.specs.declared.LockState.{LockState}
use Rattle.model.specs.Scans.{any_below, all_below}
use Rattle.model.specs.Trees.{read_word, tree_of, is_ticket, is_child, is_leaf, depth_from, depth, level, meets, on_path, child_from, child, own_record, is_record, is_member, owner_domain, under}
use Rattle.model.specs.Places.{place_of, is_idle, is_watch}
use Rattle.model.specs.States.{fresh_words, numbers_at, store_numbers}
use Rattle.model.specs.Steps.{is_kind, prep_row, swap_row, link_row, wait_row, leave_row, check_row, help_row, cas_row, linger_row, grant_row, draw_row, watch_row, raise_row, row, step}
use Rattle.model.specs.Runs.{steps, state_after, run_of, run}
use Rattle.model.specs.WellFormed.{good_tail, queue_on_path, good_place, good_counters}
use Rattle.model.specs.Counters.{fresh_counters, good_count}
use Rattle.model.specs.Refusals.{Refusal, refusal, accepted, lowest_bad, first_refusal, bad_domains, bad_threads, bad_parent, too_deep, no_threshold, bad_home, empty_domain, tree_tests, bad_state}
use Rattle.model.specs.Cases.Marked.{padded, tree, at_ticket_root, two_homes, first_entries, root_alone}
use Rattle.model.specs.Cases.Counters.{counters}
use Rattle.model.proofs.Tests.{and_both}
use Rattle.model.proofs.Walks.{walked, zero_from, first_pass, first_meets, formed_by_walks, same_formed, counts_by_walks, zipped}
use Rattle.model.proofs.Computing.{refusal_by, same_lock_formed, state_sized, sized}
use Rattle.refusals.specs.StateCheck.Answers.{check_tests, check_refusal, check_answer}
use Rattle.refusals.specs.Cases.StateCheck.{Case, empty_leaf, cases, holds, all_hold}

-- what refuses a state, with 10 tested by single passes
unfoldable walked_refusal : TreeWords → LockState → Refusal
walked_refusal w s =
    let t = tree_of w in
    refusal_by t (formed_by_walks t s.words && counts_by_walks t s.counters) []

same_refusal : (w : TreeWords) (s : LockState) → state_sized s.words ≡ true → check_refusal (tree_of w) s ≡ walked_refusal w s
unfolding walked_refusal check_refusal check_tests tree_tests bad_state
same_refusal w s e =
    let t = tree_of w in
    ap (λ b. refusal_by t b []) (same_lock_formed w s (formed_by_walks t s.words) (same_formed t s.words (sized s.words e)))

unfoldable holds_by_walks : Case → Bool
holds_by_walks c =
    let r = walked_refusal c.words c.state in
    eqb r.number c.number && eqb r.place c.place

unfoldable all_hold_by_walks : List Case → Bool
all_hold_by_walks [] = true
all_hold_by_walks (c ∷ cs) = holds_by_walks c && all_hold_by_walks cs

-- the arrays in the states of the cases have their full lengths
unfoldable all_sized : List Case → Bool
all_sized [] = true
all_sized (c ∷ cs) = state_sized c.state.words && all_sized cs

same_cases : (cs : List Case) → all_sized cs ≡ true → all_hold cs ≡ all_hold_by_walks cs
unfolding all_hold all_hold_by_walks all_sized holds holds_by_walks check_answer
same_cases [] e = refl
same_cases (c ∷ cs) e =
    let a = and_both (state_sized c.state.words) (all_sized cs) e in
    rw (same_refusal c.words c.state a.0, same_cases cs a.1)

cases_sized : all_sized cases ≡ true
unfolding any_below all_below read_word tree_of is_ticket is_child is_leaf depth_from depth level meets on_path child_from child own_record
    is_record is_member owner_domain under place_of numbers_at store_numbers fresh_words is_kind prep_row swap_row link_row wait_row leave_row check_row help_row
    cas_row linger_row grant_row draw_row watch_row raise_row row step steps state_after run_of run padded tree at_ticket_root two_homes first_entries root_alone
    counters empty_leaf cases all_sized
cases_sized = refl

pub cases_hold : all_hold cases ≡ true
unfolding fresh_counters good_count zero_from first_pass first_meets counts_by_walks any_below all_below read_word tree_of is_ticket is_child is_leaf depth_from depth level meets
    on_path child_from child own_record is_record is_member owner_domain under place_of is_idle is_watch numbers_at store_numbers fresh_words is_kind prep_row swap_row link_row
    wait_row leave_row check_row help_row cas_row linger_row grant_row draw_row watch_row raise_row row step steps state_after run_of
    run good_tail queue_on_path good_place good_counters refusal accepted lowest_bad first_refusal bad_domains
    bad_threads bad_parent too_deep no_threshold bad_home empty_domain tree_tests padded tree at_ticket_root two_homes first_entries root_alone counters
    empty_leaf cases walked zipped formed_by_walks walked_refusal holds_by_walks all_hold_by_walks
cases_hold = same_cases cases cases_sized ∙ refl
