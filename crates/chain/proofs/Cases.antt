-- The cases hold, by computation.
use mathlib.Core.Path.{◌≡◌, refl, ap, ◌∙◌}
use mathlib.Core.Bool.{Bool, true, ◌&&◌}
use mathlib.Core.List.{List, [], ◌∷◌, ◌++◌}
use Prim.Native.Nat.{ℕ}
use lib.ListN.{length}
use Rattle.model.specs.declared.TreeWords.{TreeWords}
use Rattle.model.specs.declared.LockState.{LockState}
use Rattle.model.specs.Scans.{any_below, all_below, filter_below}
use Rattle.model.specs.Trees.{Tree, read_word, tree_of, is_ticket, is_child, is_leaf, depth_from, depth, level, meets, on_path, child_from, child, own_record, is_record, is_member, owner_domain, under}
use Rattle.model.specs.Places.{place_of, is_idle, is_watch}
use Rattle.model.specs.States.{fresh_words, numbers_at, store_numbers}
use Rattle.model.specs.Steps.{is_kind, prep_row, swap_row, link_row, wait_row, leave_row, check_row, help_row, cas_row, linger_row, grant_row, draw_row, watch_row, is_watched, shown_members, raise_row, row, step}
use Rattle.model.specs.Runs.{steps, state_after, run_of, run, occurrences}
use Rattle.model.specs.Acts.{sends_inside, acts_at, acts}
use Rattle.model.specs.WellFormed.{good_tail, queue_on_path, good_place, good_counters}
use Rattle.model.specs.Counters.{lock_state, fresh_counters, good_count}
use Rattle.model.specs.Refusals.{Refusal, refusal, accepted, Test, test, lowest_bad, first_refusal, bad_domains, bad_threads, bad_parent, too_deep, no_threshold, bad_home, empty_domain, tree_tests, bad_state, bad_entry, entry_tests}
use Rattle.model.specs.Cases.Marked.{padded, tree, at_ticket_root, uncounted, counters, two_homes, root_alone, two_in_root, same_numbers}
use Rattle.chain.specs.Chain.{stays, acts_ahead, acts_holding, looked_to, looks_to, only, among, chain_from, chain}
use Rattle.chain.specs.Answers.{bad_buffer, bad_chain, chain_tests, chain_refusal, chain_reply, chain_buffer, chain_answer, buffer_answer}
use Rattle.chain.specs.Cases.Chains.{Case, gives, refuses, refuses_at, breaks, counted, sevens, long_buffer, gave, refused_at, refused, holds, all_hold, three_in_root, three_in_ticket, cases}
use Rattle.model.proofs.Tests.{and_both}
use Rattle.model.proofs.Walks.{walked, zero_from, first_pass, formed_by_walks, same_formed, counts_by_walks, zipped}
use Rattle.model.proofs.Computing.{refusal_by, same_lock_formed, state_sized, sized}

-- the tests after 10
abbrev later : Tree → LockState → (thread room : ℕ) → List Test
later t s i room = entry_tests t (i ∷ []) ++ (test 20 1 (bad_buffer t room) ∷ test 21 1 (bad_chain t s.words i) ∷ [])

-- the refusal of a chain, with 10 tested by single passes
unfoldable walked_refusal : TreeWords → LockState → (thread room : ℕ) → Refusal
walked_refusal w s i room =
    let t = tree_of w in
    refusal_by t (formed_by_walks t s.words && counts_by_walks t s.counters) (later t s i room)

same_refusal : (w : TreeWords) (s : LockState) (i room : ℕ) → state_sized s.words ≡ true → chain_refusal (tree_of w) s i room ≡ walked_refusal w s i room
unfolding walked_refusal chain_refusal chain_tests tree_tests bad_state
same_refusal w s i room e =
    let t = tree_of w in
    ap (λ b. refusal_by t b (later t s i room)) (same_lock_formed w s (formed_by_walks t s.words) (same_formed t s.words (sized s.words e)))

unfoldable holds_by_walks : Case → Bool
holds_by_walks (gives w s i c) =
    let r = walked_refusal w (uncounted s) i (length (long_buffer w)) in
    let x = chain (tree_of w) s i in
    gave (chain_reply r x) (chain_buffer r x (long_buffer w)) (long_buffer w) 0 c
holds_by_walks (refuses w s i room n) =
    let r = walked_refusal w (uncounted s) i (length (sevens room)) in
    let x = chain (tree_of w) s i in
    refused (chain_reply r x) (chain_buffer r x (sevens room)) (sevens room) n
holds_by_walks (refuses_at w s i room n p) =
    let r = walked_refusal w (uncounted s) i (length (sevens room)) in
    let x = chain (tree_of w) s i in
    refused_at (chain_reply r x) (chain_buffer r x (sevens room)) (sevens room) n p
holds_by_walks (breaks w s i last c) =
    let r = walked_refusal w (uncounted s) i (length (sevens w.threads)) in
    let x = chain (tree_of w) s i in
    refused (chain_reply r x) (chain_buffer r x (sevens w.threads)) (sevens w.threads) 21 && same_numbers (looks_to (tree_of w) s last) c
holds_by_walks (counted w s k i n c) =
    let r = walked_refusal w (lock_state s k) i (length (long_buffer w)) in
    let x = chain (tree_of w) s i in
    gave (chain_reply r x) (chain_buffer r x (long_buffer w)) (long_buffer w) n c

unfoldable all_hold_by_walks : List Case → Bool
all_hold_by_walks [] = true
all_hold_by_walks (c ∷ cs) = holds_by_walks c && all_hold_by_walks cs

-- the states that the cases pass in are complete
unfoldable case_sized : Case → Bool
case_sized (gives w s i c) = state_sized s
case_sized (refuses w s i room n) = state_sized s
case_sized (refuses_at w s i room n p) = state_sized s
case_sized (breaks w s i last c) = state_sized s
case_sized (counted w s k i n c) = state_sized s

unfoldable all_sized : List Case → Bool
all_sized [] = true
all_sized (c ∷ cs) = case_sized c && all_sized cs

same_case : (c : Case) → case_sized c ≡ true → holds c ≡ holds_by_walks c
unfolding holds_by_walks case_sized holds chain_answer buffer_answer
same_case (gives w s i c) e = rw (same_refusal w (uncounted s) i (length (long_buffer w)) e)
same_case (refuses w s i room n) e = rw (same_refusal w (uncounted s) i (length (sevens room)) e)
same_case (refuses_at w s i room n p) e = rw (same_refusal w (uncounted s) i (length (sevens room)) e)
same_case (breaks w s i last c) e = rw (same_refusal w (uncounted s) i (length (sevens w.threads)) e)
same_case (counted w s k i n c) e = rw (same_refusal w (lock_state s k) i (length (long_buffer w)) e)

same_cases : (cs : List Case) → all_sized cs ≡ true → all_hold cs ≡ all_hold_by_walks cs
unfolding all_hold all_hold_by_walks all_sized
same_cases [] e = refl
same_cases (c ∷ cs) e =
    let a = and_both (case_sized c) (all_sized cs) e in
    rw (same_case c a.0, same_cases cs a.1)

cases_sized : all_sized cases ≡ true
unfolding any_below all_below filter_below read_word tree_of is_ticket is_child is_leaf depth_from depth level meets on_path child_from child own_record
    is_record is_member owner_domain under place_of is_idle is_watch numbers_at store_numbers fresh_words is_kind prep_row swap_row link_row wait_row leave_row check_row help_row
    cas_row linger_row grant_row draw_row watch_row is_watched shown_members raise_row row step steps state_after run_of run occurrences sends_inside acts_at
    acts good_tail queue_on_path good_place good_counters refusal accepted bad_domains bad_threads bad_parent too_deep no_threshold bad_home empty_domain
    tree_tests bad_entry padded tree at_ticket_root counters two_homes root_alone two_in_root same_numbers stays acts_ahead acts_holding looked_to looks_to
    only among chain_from chain three_in_root three_in_ticket cases case_sized all_sized
cases_sized = refl

pub cases_hold : all_hold cases ≡ true
unfolding fresh_counters good_count zero_from first_pass counts_by_walks any_below all_below filter_below read_word tree_of is_ticket is_child is_leaf depth_from depth level meets
    on_path child_from child own_record is_record is_member owner_domain under place_of is_idle is_watch numbers_at store_numbers fresh_words is_kind prep_row swap_row link_row
    wait_row leave_row check_row help_row cas_row linger_row grant_row draw_row watch_row is_watched shown_members raise_row row step steps state_after run_of
    run occurrences sends_inside acts_at acts good_tail queue_on_path good_place good_counters refusal accepted lowest_bad first_refusal bad_domains
    bad_threads bad_parent too_deep no_threshold bad_home empty_domain tree_tests bad_entry padded tree at_ticket_root counters two_homes root_alone
    two_in_root same_numbers stays acts_ahead acts_holding looked_to looks_to only among chain_from chain bad_buffer bad_chain chain_reply chain_buffer
    three_in_root three_in_ticket cases walked zipped formed_by_walks walked_refusal holds_by_walks all_hold_by_walks
cases_hold = same_cases cases cases_sized ∙ refl
