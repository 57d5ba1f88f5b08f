-- The cases of the counters hold; 10 is tested by single passes.
use mathlib.Core.Path.{◌≡◌, refl, ◌∙◌}
use mathlib.Core.Bool.{Bool, true, ◌&&◌}
use mathlib.Core.List.{List, [], ◌∷◌, ◌++◌}
use Prim.Native.Nat.{ℕ}
use lib.Dec.{leb, eqb}
use lib.ListN.{length}
use borrow.Author.Tests.{leb-true}
use Rattle.model.specs.declared.TreeWords.{TreeWords}
use Rattle.model.specs.declared.Counters.{Counters}
use Rattle.model.specs.declared.LockState.{LockState}
use Rattle.model.specs.Scans.{any_below, all_below, filter_below}
use Rattle.model.specs.Trees.{read_word, Tree, tree_of, is_ticket, is_child, is_leaf, depth_from, depth, level, meets, on_path, child_from, child, own_record, is_record, is_member, owner_domain, under}
use Rattle.model.specs.Places.{place_of, is_idle, is_inside, is_watch}
use Rattle.model.specs.States.{fresh_words, fresh_state, numbers_at, store_numbers}
use Rattle.model.specs.Steps.{is_kind, is_entry, prep_row, swap_row, link_row, wait_row, leave_row, check_row, help_row, cas_row, linger_row, grant_row, draw_row, watch_row, is_watched, shown_members, raise_row, row, step}
use Rattle.model.specs.Runs.{steps, state_after, how_many, entering, counts_of, run_of, run, ended_in, entries_under, occurrences}
use Rattle.model.specs.Tenures.{finds_none, taken_from, given, starts, checks_at, word_to_grant, tenure_length, domain_entries, domain_tenures, longest_tenure}
use Rattle.model.specs.WellFormed.{good_tail, queue_on_path, good_place, good_counters}
use Rattle.model.specs.Counters.{lock_state, fresh_counters, each_with_index, counters_after, good_count, good_counts, count_above, any_above}
use Rattle.model.specs.Refusals.{Refusal, refusal, accepted, lowest_bad, first_refusal, bad_domains, bad_threads, bad_parent, too_deep, no_threshold, bad_home, empty_domain, tree_tests, bad_length, bad_entry, bad_room, bad_counter, entry_tests, schedule_tests, room_tests, run_refusal}
use Rattle.model.specs.Answers.{counters_after_run, first_kind, first_domain, step_reply, step_answer, run_reply, run_buffer, run_answer, trace_answer}
use Rattle.model.specs.Cases.Marked.{padded, tree, at_ticket_root, counters as ticket_counters, two_homes, first_entries, same_numbers, same_places, same_state, same_counters, same_lock, uncounted}
use Rattle.model.specs.Cases.Counters.{counters, Case, leaves, run_with, step_with, step_leaves, two_below, one_pass, two_leaves, three_leaves, two_watch, cases, buffer, counters_are, run_replies, step_replies, holds, all_hold, CounterCasesHold}
use Rattle.model.proofs.Tests.{and_both}
use Rattle.model.proofs.Laws.Form.{fresh_well_formed}
use Rattle.model.proofs.Walks.{walked, zero_from, first_pass, first_meets, formed_by_walks, same_formed, counts_by_walks, above_by_walks, zipped}
use Rattle.model.proofs.Computing.{far_below, have_room, walked_counter, counted_refusal, same_counted_step, same_counted_run, state_sized, sized}

-- the words in the cases are fresh, which is well formed for every tree, or are tested by single passes
abbrev fresh_refusal : Tree → LockState → (schedule : List ℕ) → (room : ℕ) → Refusal
fresh_refusal t s is n = counted_refusal t true s (schedule_tests t is ++ room_tests is (length (buffer n))) is

unfoldable holds_by_walks : Case → Bool
holds_by_walks (leaves w is c) =
    let t = tree_of w in
    counters_are (run_reply (fresh_refusal t (uncounted fresh_words) is (length is)) (uncounted fresh_words) (run t is fresh_words) (counters_after_run t is (uncounted fresh_words))) c
holds_by_walks (run_with w c is n k p) =
    let t = tree_of w in
    let s = lock_state fresh_words c in
    let r = fresh_refusal t s is n in
    run_replies k p (run_reply r s (run t is fresh_words) (counters_after_run t is s)) (run_buffer r (buffer n) (run t is fresh_words)) s n
holds_by_walks (step_with w is c i k p) =
    let t = tree_of w in
    let s = lock_state (run t is fresh_words).state c in
    step_replies k p (step_reply (counted_refusal t (formed_by_walks t s.words) s (entry_tests t (i ∷ [])) (i ∷ [])) s (steps t (i ∷ []) s.words) (counters_after_run t (i ∷ []) s)) s
holds_by_walks (step_leaves w s i c) =
    let t = tree_of w in
    let l = uncounted s in
    let r = step_reply (counted_refusal t (formed_by_walks t s) l (entry_tests t (i ∷ [])) (i ∷ [])) l (steps t (i ∷ []) s) (counters_after_run t (i ∷ []) l) in
    (eqb r.number 0 && eqb r.place 0) && same_counters r.state.counters c

unfoldable all_hold_by_walks : List Case → Bool
all_hold_by_walks [] = true
all_hold_by_walks (c ∷ cs) = holds_by_walks c && all_hold_by_walks cs

-- the words that the cases pass in are complete, and their schedules short
unfoldable case_sized : Case → Bool
case_sized (leaves w is c) = leb (length is) 65536
case_sized (run_with w c is n k p) = leb (length is) 65536
case_sized (step_with w is c i k p) = state_sized (run (tree_of w) is fresh_words).state
case_sized (step_leaves w s i c) = state_sized s

unfoldable all_sized : List Case → Bool
all_sized [] = true
all_sized (c ∷ cs) = case_sized c && all_sized cs

same_fresh : (w : TreeWords) (c : Counters) (is : List ℕ) (n : ℕ) → leb (length is) 65536 ≡ true → run_refusal (tree_of w) (lock_state fresh_words c) is (length (buffer n)) ≡ fresh_refusal (tree_of w) (lock_state fresh_words c) is n
same_fresh w c is n e = same_counted_run w (lock_state fresh_words c) true (fresh_well_formed (tree_of w)) is (length (buffer n)) (leb-true _ _ e)

same_case : (c : Case) → case_sized c ≡ true → holds c ≡ holds_by_walks c
unfolding holds_by_walks case_sized holds run_answer trace_answer step_answer
same_case (leaves w is c) e = rw (same_fresh w fresh_counters is (length is) e)
same_case (run_with w c is n k p) e = rw (same_fresh w c is n e)
same_case (step_with w is c i k p) e =
    let s = (run (tree_of w) is fresh_words).state in
    rw (same_counted_step w (lock_state s c) (formed_by_walks (tree_of w) s) (same_formed (tree_of w) s (sized s e)) i)
same_case (step_leaves w s i c) e = rw (same_counted_step w (uncounted s) (formed_by_walks (tree_of w) s) (same_formed (tree_of w) s (sized s e)) i)

same_cases : (cs : List Case) → all_sized cs ≡ true → all_hold cs ≡ all_hold_by_walks cs
unfolding all_hold all_hold_by_walks all_sized
same_cases [] e = refl
same_cases (c ∷ cs) e =
    let a = and_both (case_sized c) (all_sized cs) e in
    rw (same_case c a.0, same_cases cs a.1)

cases_sized : all_sized cases ≡ true
unfolding any_below filter_below read_word tree_of is_ticket is_child is_leaf meets on_path child_from child own_record under place_of is_watch numbers_at store_numbers fresh_words
    is_entry prep_row swap_row link_row wait_row leave_row check_row help_row cas_row linger_row grant_row draw_row watch_row is_watched shown_members
    raise_row row step steps state_after run_of run fresh_counters counters cases first_entries two_below two_watch ticket_counters padded tree case_sized all_sized
cases_sized = refl

pub counter_cases_hold : CounterCasesHold
unfolding CounterCasesHold any_below filter_below all_below read_word tree_of is_ticket is_child is_leaf depth_from depth level meets on_path child_from
    child own_record is_record is_member owner_domain under place_of is_watch is_idle is_inside numbers_at store_numbers fresh_words fresh_state is_kind is_entry prep_row swap_row
    link_row wait_row leave_row check_row help_row cas_row linger_row grant_row draw_row watch_row is_watched shown_members raise_row row step steps
    state_after how_many entering counts_of run_of run ended_in entries_under occurrences finds_none taken_from given starts checks_at word_to_grant
    tenure_length domain_entries domain_tenures longest_tenure good_tail queue_on_path good_place good_counters fresh_counters each_with_index counters_after
    good_count good_counts count_above any_above refusal accepted lowest_bad first_refusal bad_domains bad_threads bad_parent too_deep no_threshold bad_home
    empty_domain tree_tests bad_length bad_entry bad_room bad_counter counters_after_run first_kind first_domain step_reply run_reply run_buffer padded tree
    at_ticket_root two_homes first_entries same_numbers same_places same_state same_counters same_lock counters two_below one_pass two_leaves three_leaves two_watch ticket_counters cases
    run_replies step_replies walked zipped formed_by_walks counts_by_walks zero_from first_pass first_meets above_by_walks walked_counter far_below have_room counted_refusal holds_by_walks all_hold_by_walks
counter_cases_hold = same_cases cases cases_sized ∙ refl
