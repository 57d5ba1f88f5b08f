-- The computed cases hold.
use mathlib.Core.Path.{◌≡◌, refl, ap, ◌∙◌}
use mathlib.Core.Bool.{true, ◌&&◌}
use mathlib.Core.List.{List, [], ◌∷◌, ◌++◌}
use Prim.Native.Nat.{ℕ, zero, suc, ◌+◌, ◌*◌}
use native.Mathlib.Omega.{arith}
use lib.Dec.{ltb}
use borrow.Author.Tests.{ltb-true}
use Rattle.model.specs.declared.State.{State}
use Rattle.model.specs.Scans.{any_below, all_below, largest_below, filter_below}
use Rattle.model.specs.Trees.{Tree, read_word, tree_of, is_ticket, is_child, is_leaf, depth_from, depth, level, meets, on_path, child_from, child, own_record, is_member, domain_allowance, allowance}
use Rattle.model.specs.Places.{place_of, is_watch}
use Rattle.model.specs.States.{fresh_words, fresh_state, numbers_at, store_numbers}
use Rattle.model.specs.Steps.{is_entry, prep_row, swap_row, link_row, wait_row, leave_row, check_row, help_row, cas_row, linger_row, grant_row, draw_row, watch_row, is_watched, shown_members, raise_row, row, step}
use Rattle.model.specs.Runs.{steps, state_after, entering, run_of, run, occurrences}
use Rattle.model.specs.Cases.Marked.{padded, tree, at_ticket_root, two_homes, two_in_root, same_numbers, same_places, same_state}
use Rattle.model.specs.Laws.{AllThreads, RunLaw, then_run}
use Rattle.model.proofs.Tests.{and_both, all_each}
use Rattle.model.proofs.Laws.Runs.{run_law}
use Rattle.model.proofs.Counted.{occurrences_join}
use Rattle.bounds.specs.StarvationFreedom.Bounds.{sum_below, members, effective_threshold, effective, passes, others_passes, levels, entry_rounds, tenure_length, tenures_for, link_rounds, standing_rounds, acquire_from, acquire_rounds, acquire_bound, release_bound, everyone_bound, largest_allowance, allowance_from, allowance_acquire_bound, allowance_everyone_bound}
use Rattle.bounds.specs.StarvationFreedom.Laws.{none, one_more}
use Rattle.bounds.specs.Cases.StarvationFreedom.{bound_holds, all_bounds, one_leaf, two_lone, leaf_of_three, two_below_one, bound_cases, all_threads, are_rounds, joined, DecidesRounds, round_holds, all_rounds, round_cases, stalled_tree, until_stalled, without_releaser, times, StarvesWithoutRounds, CasesHold}
use Rattle.bounds.proofs.starvation_freedom.SameState.{state_same}

bounds_hold : all_bounds bound_cases ≡ true
unfolding any_below largest_below filter_below read_word tree_of is_child is_leaf depth_from depth level is_member domain_allowance allowance padded tree at_ticket_root two_homes two_in_root effective_threshold effective passes sum_below others_passes members levels entry_rounds tenure_length tenures_for link_rounds standing_rounds acquire_from acquire_rounds acquire_bound release_bound bound_holds all_bounds one_leaf two_lone leaf_of_three two_below_one bound_cases
bounds_hold = refl

everyone_holds : everyone_bound (tree_of two_homes) ≡ 44
unfolding any_below largest_below filter_below read_word tree_of is_child is_leaf depth_from depth level is_member domain_allowance allowance padded tree two_homes effective_threshold effective passes sum_below others_passes members levels entry_rounds tenure_length tenures_for link_rounds standing_rounds acquire_from acquire_rounds acquire_bound release_bound everyone_bound
everyone_holds = refl

lone_holds : everyone_bound (tree_of two_lone) ≡ 29
unfolding any_below largest_below filter_below read_word tree_of is_child is_leaf depth_from depth level is_member domain_allowance allowance padded tree two_lone effective_threshold effective passes sum_below others_passes members levels entry_rounds tenure_length tenures_for link_rounds standing_rounds acquire_from acquire_rounds acquire_bound release_bound everyone_bound
lone_holds = refl

lone_allowance_holds : allowance_everyone_bound (tree_of two_lone) ≡ 89
unfolding any_below largest_below filter_below read_word tree_of is_child is_leaf depth_from depth level is_member domain_allowance allowance padded tree two_lone members levels entry_rounds largest_allowance allowance_from allowance_acquire_bound release_bound allowance_everyone_bound
lone_allowance_holds = refl

rounds_hold : all_rounds round_cases ≡ true
unfolding any_below all_below filter_below read_word tree_of is_ticket meets on_path child_from child own_record place_of is_watch numbers_at store_numbers fresh_words fresh_state
    is_entry prep_row swap_row link_row wait_row leave_row check_row help_row cas_row linger_row grant_row draw_row watch_row is_watched shown_members
    raise_row row step steps state_after entering run_of run occurrences padded tree at_ticket_root two_in_root one_leaf all_threads are_rounds joined
    round_holds all_rounds round_cases
rounds_hold = refl

-- LISTS THAT PASS ARE ROUNDS
pub threads_pass : (t : Tree) (is : List ℕ) → all_threads t is ≡ true → AllThreads t is
unfolding all_threads AllThreads
threads_pass t [] e = tt
threads_pass t (i ∷ is) e =
    let both = and_both (ltb i t.threads) (all_threads t is) e in
    (ltb-true i t.threads both.0, threads_pass t is both.1)

decides_rounds : DecidesRounds
unfolding DecidesRounds are_rounds joined
decides_rounds t [] e = none
decides_rounds t (r ∷ rs) e =
    let both = and_both (all_threads t r) (all_below t.threads (λ i. ltb 0 (occurrences i r)) && are_rounds t rs) e in
    let rest = and_both (all_below t.threads (λ i. ltb 0 (occurrences i r))) (are_rounds t rs) both.1 in
    one_more r (record { threads = threads_pass t r both.0; everyone = λ i h. ltb-true 0 (occurrences i r) (all_each t.threads (λ j. ltb 0 (occurrences j r)) rest.0 i h) })
    (decides_rounds t rs rest.1)

-- THE STALLED RELEASER: the turns, done twice, lead to the same state as done once
abbrev stalled : State
stalled = (run stalled_tree until_stalled (fresh_state stalled_tree 0)).state

abbrev turned : State
turned = (run stalled_tree without_releaser stalled).state

same_again : same_state (run stalled_tree without_releaser turned).state turned ≡ true
unfolding any_below filter_below read_word tree_of is_ticket meets on_path child_from child own_record place_of is_watch numbers_at store_numbers fresh_words fresh_state prep_row
    swap_row link_row wait_row leave_row check_row help_row cas_row linger_row grant_row draw_row watch_row is_watched shown_members raise_row row step steps
    state_after run_of run padded tree stalled_tree until_stalled without_releaser same_numbers same_places same_state
same_again = refl

comes_back : (run stalled_tree without_releaser turned).state ≡ turned
comes_back = state_same (run stalled_tree without_releaser turned).state turned same_again

-- the entries: thread 0 before the releaser stalls, thread 2 in the turns
entries_are :
    ((run stalled_tree until_stalled (fresh_state stalled_tree 0)).trace ≡ 0 ∷ [])
    × ((run stalled_tree without_releaser stalled).trace ≡ 2 ∷ [])
    × ((run stalled_tree without_releaser turned).trace ≡ 2 ∷ [])
unfolding any_below filter_below read_word tree_of is_ticket meets on_path child_from child own_record place_of is_watch numbers_at store_numbers fresh_words fresh_state is_entry
    prep_row swap_row link_row wait_row leave_row check_row help_row cas_row linger_row grant_row draw_row watch_row is_watched shown_members raise_row row
    step steps state_after entering run_of run padded tree stalled_tree until_stalled without_releaser
entries_are = (refl, refl, refl)

trace_join : (t : Tree) (is js : List ℕ) (s : State) → (run t (is ++ js) s).trace ≡ (run t is s).trace ++ (run t js (run t is s).state).trace
unfolding RunLaw then_run
trace_join t is js s = ap (λ x. x.trace) ((run_law t s).joined is js)

-- how often a thread enters
abbrev enters : (thread : ℕ) → List ℕ → State → ℕ
enters i is s = occurrences i (run stalled_tree is s).trace

enters_join : (i : ℕ) (is js : List ℕ) (s : State) → enters i (is ++ js) s ≡ enters i is s + enters i js (run stalled_tree is s).state
enters_join i is js s =
    ap (occurrences i) (trace_join stalled_tree is js s)
    ∙ occurrences_join i (run stalled_tree is s).trace (run stalled_tree js (run stalled_tree is s).state).trace

-- no turns, no entries
enters_none : (i : ℕ) (s : State) → enters i [] s ≡ 0
unfolding run run_of steps entering occurrences
enters_none i s = refl

-- k entries in each of the turns
again : (i k : ℕ) → enters i without_releaser turned ≡ k → (n : ℕ) → enters i (times n without_releaser) turned ≡ n * k
unfolding times
again i k e zero = omega (arith, enters_none i turned)
again i k e (suc n) =
    let one = enters_join i without_releaser (times n without_releaser) turned in
    let same = ap (λ s. enters i (times n without_releaser) s) comes_back in
    let rec = again i k e n in
    omega arith

from_stalled : (i k : ℕ) → enters i without_releaser stalled ≡ k → enters i without_releaser turned ≡ k → (n : ℕ) → enters i (times n without_releaser) stalled ≡ n * k
unfolding times
from_stalled i k d e zero = omega (arith, enters_none i stalled)
from_stalled i k d e (suc n) = omega (arith, enters_join i without_releaser (times n without_releaser) stalled, again i k e n)

enters_one : (i : ℕ) (is : List ℕ) (s : State) (j : ℕ) → (run stalled_tree is s).trace ≡ j ∷ [] → enters i is s ≡ occurrences i (j ∷ [])
enters_one i is s j e = ap (occurrences i) e

starves_without_rounds : StarvesWithoutRounds
unfolding StarvesWithoutRounds occurrences
starves_without_rounds n =
    let f = fresh_state stalled_tree 0 in
    let of : (i k : ℕ) → occurrences i (0 ∷ []) ≡ 0 → occurrences i (2 ∷ []) ≡ k → enters i (until_stalled ++ times n without_releaser) f ≡ n * k = λ i k x y.
    let a = enters_join i until_stalled (times n without_releaser) f in
    let b = enters_one i until_stalled f 0 entries_are.0 in
    let c = from_stalled i k (enters_one i without_releaser stalled 2 entries_are.1 ∙ y) (enters_one i without_releaser turned 2 entries_are.2 ∙ y) n in
    omega arith in
    let two = of 2 1 refl refl in
    let one = of 1 0 refl refl in
    (omega arith, omega arith)

pub cases_hold : CasesHold
cases_hold = record { bounds = bounds_hold; everyone = everyone_holds; lone = lone_holds; lone_by_allowances = lone_allowance_holds; rounds = rounds_hold; rounds_decided = decides_rounds; without_rounds = starves_without_rounds }
