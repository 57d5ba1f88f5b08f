-- The computed cases hold.
use mathlib.Core.Path.{◌≡◌, refl, sym, ap, ◌∙◌}
use mathlib.Core.Bool.{true, ◌&&◌}
use mathlib.Core.List.{List, [], ◌∷◌, ◌++◌, append-nil}
use Prim.Native.Nat.{ℕ, ◌<◌}
use lib.Dec.{eqb}
use borrow.Author.Tests.{eqb-true}
use Rattle.model.specs.Scans.{any_below, all_below, largest_below, filter_below}
use Rattle.model.specs.Trees.{Tree, read_word, tree_of, is_ticket, is_child, is_leaf, depth_from, depth, level, meets, on_path, child_from, child, own_record, is_member, domain_allowance, allowance}
use Rattle.model.specs.Places.{place_of, is_idle, is_watch}
use Rattle.model.specs.States.{fresh_words, fresh_state, numbers_at, store_numbers}
use Rattle.model.specs.Steps.{is_kind, is_entry, prep_row, swap_row, link_row, wait_row, leave_row, check_row, help_row, cas_row, linger_row, grant_row, draw_row, watch_row, is_watched, shown_members, raise_row, row, step}
use Rattle.model.specs.Runs.{steps, state_after, entering, run_of, run, occurrences}
use Rattle.model.specs.Acts.{sends_inside, acts_at, acts}
use Rattle.model.specs.Laws.{AllThreads}
use Rattle.model.specs.Cases.Marked.{padded, tree, at_ticket_root, two_homes, two_in_root}
use Rattle.model.specs.Cases.Ticket.{three_in_ticket}
use Rattle.model.proofs.Tests.{and_both}
use Rattle.model.proofs.Laws.Runs.{steps_join}
use Rattle.claims.specs.Cases.Moving.{three_in_root}
use Rattle.chain.specs.Chain.{stays, acts_ahead, acts_holding, looked_to, looks_to, only, among, chain_from, chain}
use Rattle.waits.specs.Attempts.{swaps_at, draws, begins_from, begins}
use Rattle.claims.specs.Tenures.Laws.{sum_below}
use Rattle.bounds.specs.StarvationFreedom.Bounds.{members}
use Rattle.bounds.specs.Cases.StarvationFreedom.{all_threads}
use Rattle.bounds.specs.LongestWait.Bounds.{effective_threshold, effective, passes, others_passes, tenures_for_all, wait_from, member_wait, wait_bound}
use Rattle.bounds.specs.LongestWait.InLine.{ends_at, others_entry, in_line, bypass, prompt, late_entry, count_steps}
use Rattle.bounds.specs.Cases.LongestWait.{bound_holds, all_bounds, two_sockets, bound_cases, first_step, steps_on, wait_holds, all_waits, all_reach, DecidesAttempts, three_and_one, two_below_one, one_below_one, ones, reaching_cases, two_by_three_by_two, rounded_up, equation_19, beyond_equation_19, stalled_case, CasesHold}
use Rattle.bounds.proofs.starvation_freedom.Cases.{threads_pass}

bounds_hold : all_bounds bound_cases ≡ true
unfolding any_below largest_below filter_below read_word tree_of is_child is_leaf domain_allowance allowance depth_from depth level is_member padded tree at_ticket_root two_homes two_in_root members sum_below effective_threshold effective passes others_passes tenures_for_all wait_from member_wait wait_bound bound_holds all_bounds two_sockets bound_cases
bounds_hold = refl

stalled_bound_holds : wait_bound (tree_of ones) 1 ≡ 3
unfolding any_below largest_below filter_below read_word tree_of is_child is_leaf domain_allowance allowance depth_from depth level is_member padded tree members sum_below effective_threshold effective passes others_passes tenures_for_all wait_from member_wait wait_bound ones
stalled_bound_holds = refl

reached_holds : all_reach reaching_cases ≡ true
unfolding any_below largest_below filter_below read_word tree_of is_child is_leaf domain_allowance allowance depth_from depth level is_member padded tree at_ticket_root two_homes members sum_below effective_threshold effective passes others_passes tenures_for_all wait_from member_wait wait_bound all_reach three_in_root three_in_ticket three_and_one two_below_one one_below_one reaching_cases
reached_holds = refl

attempts_hold : all_waits reaching_cases ≡ true
unfolding any_below all_below filter_below read_word tree_of is_ticket meets on_path child_from child own_record place_of is_idle is_watch numbers_at store_numbers fresh_words fresh_state
    is_kind is_entry prep_row swap_row link_row wait_row leave_row check_row help_row cas_row linger_row grant_row draw_row watch_row is_watched shown_members
    raise_row row step steps state_after entering run_of run occurrences sends_inside acts_at acts stays acts_ahead acts_holding looked_to looks_to only among chain_from chain
    swaps_at draws begins_from begins all_threads ends_at others_entry in_line bypass prompt late_entry count_steps padded tree at_ticket_root two_homes three_in_root three_in_ticket
    wait_holds all_waits three_and_one two_below_one one_below_one reaching_cases
attempts_hold = refl

stalled_holds : wait_holds stalled_case ≡ true
unfolding any_below all_below filter_below read_word tree_of is_ticket meets on_path child_from child own_record place_of is_idle is_watch numbers_at store_numbers fresh_words fresh_state
    is_kind is_entry prep_row swap_row link_row wait_row leave_row check_row help_row cas_row linger_row grant_row draw_row watch_row is_watched shown_members
    raise_row row step steps state_after entering run_of run occurrences sends_inside acts_at acts stays acts_ahead acts_holding looked_to looks_to only among chain_from chain
    swaps_at draws begins_from begins all_threads ends_at others_entry in_line bypass prompt late_entry count_steps padded tree wait_holds ones stalled_case
stalled_holds = refl

beyond_holds : wait_holds beyond_equation_19 ≡ true
unfolding any_below all_below filter_below read_word tree_of is_ticket meets on_path child_from child own_record place_of is_idle is_watch numbers_at store_numbers fresh_words fresh_state
    is_kind is_entry prep_row swap_row link_row wait_row leave_row check_row help_row cas_row linger_row grant_row draw_row watch_row is_watched shown_members
    raise_row row step steps state_after entering run_of run occurrences sends_inside acts_at acts stays acts_ahead acts_holding looked_to looks_to only among chain_from chain
    swaps_at draws begins_from begins all_threads ends_at others_entry in_line bypass prompt late_entry count_steps padded tree wait_holds two_by_three_by_two beyond_equation_19
beyond_holds = refl

beyond_bound_holds : wait_bound (tree_of two_by_three_by_two) 8 ≡ 13
unfolding any_below largest_below filter_below read_word tree_of is_child is_leaf domain_allowance allowance depth_from depth level is_member padded tree members sum_below effective_threshold effective passes others_passes tenures_for_all wait_from member_wait wait_bound two_by_three_by_two
beyond_bound_holds = refl

allowed_holds : equation_19 2 3 2 1 2 ≡ 11
unfolding rounded_up equation_19
allowed_holds = refl

example_holds : equation_19 3 4 2 2 3 ≡ 32
unfolding rounded_up equation_19
example_holds = refl

-- A LIST THAT PASSES IS AN ATTEMPT
thread_there : (t : Tree) (xs : List ℕ) (i : ℕ) (ys : List ℕ) → AllThreads t (xs ++ (i ∷ ys)) → i < t.threads
unfolding AllThreads
thread_there t [] i ys h = h.0
thread_there t (x ∷ xs) i ys h = thread_there t xs i ys h.1

decides : DecidesAttempts
unfolding DecidesAttempts wait_holds steps run run_of
decides c e =
    let t = tree_of c.words in
    let i = c.thread in
    let x = first_step c in
    let xs = steps_on c in
    let bs = c.before in
    let f = fresh_state t c.start in
    let all = and_both (all_threads t (bs ++ (i ∷ c.meanwhile)) && (begins t i x && eqb (occurrences i (entering (x ∷ xs))) 0)) _ e in
    let parts = and_both (all_threads t (bs ++ (i ∷ c.meanwhile))) (begins t i x && eqb (occurrences i (entering (x ∷ xs))) 0) all.0 in
    let own = and_both (begins t i x) (eqb (occurrences i (entering (x ∷ xs))) 0) parts.1 in
    let threads = threads_pass t (bs ++ (i ∷ c.meanwhile)) parts.0 in (
      threads,
      record {
        real = thread_there t bs i c.meanwhile threads;
        before = steps t bs f;
        later = [];
        there = steps_join t bs (i ∷ c.meanwhile) f ∙ ap (λ ys. steps t bs f ++ (x ∷ ys)) (sym (append-nil xs));
        begun = own.0;
        not_entered = eqb-true (occurrences i (entering (x ∷ xs))) 0 own.1;
      },
    )

pub cases_hold : CasesHold
cases_hold = record { bounds = bounds_hold; attempts_decided = decides; attempts = attempts_hold; reached = reached_holds; stalled = stalled_holds; stalled_bound = stalled_bound_holds; beyond = beyond_holds; beyond_bound = beyond_bound_holds; allowed = allowed_holds; example = example_holds }
