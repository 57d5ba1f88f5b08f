-- The witnesses of `claims` hold.
use mathlib.Core.Path.{◌≡◌, refl, ap, ◌∙◌}
use mathlib.Core.Bool.{Bool, true, false, ◌&&◌, cond}
use mathlib.Core.List.{[], ◌∷◌}
use Prim.Native.Nat.{ℕ, zero, suc, ◌%◌, ◌≤◌}
use native.Mathlib.Omega.{arith}
use lib.Dec.{leb, eqb}
use lib.ListN.{length, get_or, replicate, length-replicate}
use borrow.Author.Tests.{le-ltb}
use Rattle.model.specs.Scans.{any_below, all_below, filter_below}
use Rattle.model.specs.Trees.{read_word, tree_of, is_ticket, is_child, is_leaf, depth_from, depth, level, meets, on_path, child_from, child, own_record, is_record, is_member, owner_domain, under}
use Rattle.model.specs.Places.{words_of, place_of, is_idle, is_watch}
use Rattle.model.specs.States.{place, fresh_words, fresh_state, numbers_at, store_numbers}
use Rattle.model.specs.Steps.{is_kind, is_entry, prep_row, swap_row, link_row, wait_row, leave_row, check_row, help_row, cas_row, linger_row, grant_row, draw_row, watch_row, is_watched, shown_members, raise_row, row, step}
use Rattle.model.specs.Runs.{steps, state_after, run_of, run}
use Rattle.model.specs.Counters.{fresh_lock}
use Rattle.model.specs.WellFormed.{good_tail, queue_on_path, good_place, good_counters}
use Rattle.model.specs.Refusals.{refusal, accepted, lowest_bad, first_refusal, bad_domains, bad_threads, bad_parent, too_deep, no_threshold, bad_home, empty_domain, tree_tests, bad_entry}
use Rattle.model.specs.Answers.{fresh_answer, step_reply, step_answer}
use Rattle.model.specs.Calls.{one_step, state_in, answer_to, answer, asked_entries, joined, Names}
use Rattle.model.specs.Cases.Marked.{padded, tree, two_homes}
use Rattle.model.specs.Cases.Counters.{one_pass}
use Rattle.model.specs.Cases.Claim.{call, mixed_calls, mixed_schedule}
use Rattle.model.proofs.Walks.{walked, zero_from, first_pass, formed_by_walks, zipped}
use Rattle.model.proofs.Computing.{walked_step, same_step, sized}
use Rattle.model.proofs.ClaimCases.{mixed_calls_answered}
use Rattle.model.proofs.Places.{not_idle}
use Rattle.claims.specs.Reached.{last_state, LongestRunLaw}
use Rattle.claims.specs.Cases.Witnesses.{CallMeets, until_waiting, reached, StatesReached, ThresholdsOne, ListMeets, Witnesses}
use Rattle.claims.proofs.RefusedCalls.{refused_calls_allowed}
use Rattle.claims.proofs.Claims.Accepts.{longest_run_law}

-- at a queue root a fresh state is 0 throughout
fresh_zero : (fresh_answer two_homes 0).state ≡ fresh_lock
unfolding fresh_answer fresh_state fresh_words tree_of two_homes tree
fresh_zero = refl

listed : length (joined mixed_calls (fresh_answer two_homes 0).state) ≡ 11
unfolding mixed_schedule
listed = ap (λ s. length (joined mixed_calls s)) fresh_zero ∙ ap length mixed_calls_answered.schedule

call_meets : CallMeets
unfolding LongestRunLaw asked_entries tree_of two_homes tree
call_meets =
    let a = mixed_calls_answered in
    record {
      fresh = a.fresh;
      names = rw fresh_zero a.names;
      same_tree = refl;
      asks = longest_run_law (tree_of two_homes) (omega arith);
      room = (let l = listed in let n = length-replicate {A = ℕ} 65536 0 in omega arith);
      stretches = refused_calls_allowed.claim.stretches;
    }

states_reached : StatesReached
unfolding any_below filter_below read_word tree_of is_ticket meets on_path child_from child own_record place_of is_watch is_idle numbers_at store_numbers fresh_words fresh_state
    is_kind is_entry prep_row swap_row link_row wait_row leave_row check_row help_row cas_row linger_row grant_row draw_row watch_row is_watched shown_members raise_row
    row step steps state_after run_of run padded tree two_homes until_waiting reached
states_reached = record { at_check = refl; passes = refl; waits = refl; enters = refl }

thresholds_one : ThresholdsOne
unfolding ThresholdsOne read_word tree_of one_pass tree padded
thresholds_one zero = omega arith
thresholds_one (suc zero) = omega arith
thresholds_one (suc (suc d)) = rw (le-ltb (suc (suc d)) 2 (omega arith)) (by (leb 1 (suc (suc d))))
  where
    by : (b : Bool) → cond (b && false) (get_or (0 ∷ 1 ∷ replicate 62 0) (suc (suc d)) 0) 0 % 65536 ≤ 1
    by true = omega arith
    by false = omega arith

-- the state after the step, whose refusal is computed by single passes
after_one_step : last_state (call two_homes (one_step 0) ∷ []) (fresh_answer two_homes 0).state ≡ (walked_step two_homes fresh_words 0).state
unfolding last_state state_in answer answer_to fresh_words
after_one_step = ap (λ s. (step_answer two_homes s 0).state) fresh_zero ∙ ap (λ r. r.state) (same_step two_homes fresh_words 0 (sized fresh_words refl))

started : eqb (words_of (place (walked_step two_homes fresh_words 0).state.words 0)).row 0 ≡ false
unfolding walked_step formed_by_walks walked zipped zero_from first_pass any_below all_below filter_below read_word tree_of is_ticket is_child is_leaf depth_from depth
    level meets on_path child_from child own_record is_record is_member owner_domain under place_of is_watch is_idle numbers_at store_numbers fresh_words is_kind prep_row
    row step steps state_after good_tail queue_on_path good_place good_counters refusal accepted lowest_bad first_refusal bad_domains bad_threads bad_parent too_deep
    no_threshold bad_home empty_domain tree_tests bad_entry step_reply padded tree two_homes
started = refl

list_meets : ListMeets
unfolding Names
list_meets = record { names = (λ e. refl, tt); busy = rw after_one_step (not_idle _ started) }

pub witnesses : Witnesses
witnesses = record { call_meets = call_meets; states = states_reached; thresholds = thresholds_one; list_meets = list_meets }
