-- The witnesses of `waits` hold.
use mathlib.Core.Path.{◌≡◌, refl, ap, ◌∙◌}
use mathlib.Core.Bool.{cond}
use mathlib.Core.List.{List, [], ◌∷◌, ◌++◌}
use Prim.Native.Nat.{ℕ, ◌-◌}
use native.Mathlib.Omega.{arith}
use lib.Dec.{eqb}
use lib.ListN.{replicate}
use Rattle.model.specs.declared.LockState.{LockState}
use Rattle.model.specs.Scans.{any_below, all_below, filter_below}
use Rattle.model.specs.Trees.{read_word, tree_of, is_ticket, is_child, is_leaf, depth_from, depth, level, meets, on_path, child_from, child, own_record, is_record, is_member, owner_domain, under}
use Rattle.model.specs.Places.{place_of, is_idle, is_watch}
use Rattle.model.specs.States.{fresh_words, numbers_at, store_numbers}
use Rattle.model.specs.Steps.{is_kind, is_entry, prep_row, swap_row, link_row, wait_row, leave_row, check_row, help_row, cas_row, linger_row, grant_row, draw_row, watch_row, is_watched, shown_members, raise_row, row, step}
use Rattle.model.specs.Runs.{steps, state_after, how_many, entering, counts_of, run_of, run, ended_in, entries_under, occurrences}
use Rattle.model.specs.Tenures.{finds_none, taken_from, given, starts, checks_at, word_to_grant, tenure_length, domain_entries, domain_tenures, longest_tenure}
use Rattle.model.specs.Counters.{fresh_lock, fresh_counters, each_with_index, counters_after, good_count, good_counts, count_above, any_above}
use Rattle.model.specs.WellFormed.{good_tail, queue_on_path, good_place, good_counters}
use Rattle.model.specs.Refusals.{Refusal, refusal, accepted, lowest_bad, first_refusal, bad_domains, bad_threads, bad_parent, too_deep, no_threshold, bad_home, empty_domain, tree_tests, bad_length, bad_entry, bad_room, bad_counter, tree_refusal}
use Rattle.model.specs.Answers.{counters_after_run, run_reply}
use Rattle.model.specs.Cases.Marked.{padded, tree, at_ticket_root, two_in_root}
use Rattle.model.specs.Cases.Ticket.{three_in_ticket}
use Rattle.model.proofs.Walks.{walked, zero_from, first_pass, first_meets, formed_by_walks, counts_by_walks, above_by_walks, zipped}
use Rattle.model.proofs.Computing.{far_below, have_room, walked_counter, sized}
use Rattle.waits.specs.Attempts.{swaps_at, draws, begins_from, begins, enters, begun, counted, under_way_after, under_way_from, under_way_below}
use Rattle.waits.specs.Refusals.{bad_row_room, bad_under_way}
use Rattle.waits.specs.Answers.{waits_reply, refused_on, waits_on_answer, waits_on_under_way}
use Rattle.waits.specs.Meanings.{Between}
use Rattle.waits.proofs.CasesOn.{walked_refused, same_refused}
use Rattle.waits.specs.Cases.Witnesses.{first_left, CallsMeet, in_ticket, two_drawn, draw, between, entry, AttemptMet, Witnesses}

-- WHAT THE FIRST CALL LEAVES, given its refusal
unfoldable state_left : Refusal → LockState
state_left r =
    let t = tree_of two_in_root in
    (waits_reply r fresh_lock (run t (0 ∷ 0 ∷ []) fresh_words) (counters_after_run t (0 ∷ 0 ∷ []) fresh_lock) t.threads).state

unfoldable under_way_left : Refusal → List ℕ
under_way_left r =
    let t = tree_of two_in_root in
    let numbers = under_way_below t (replicate 256 0) t.threads (steps t (0 ∷ 0 ∷ []) fresh_words) in
    cond (eqb r.number 0) (numbers ++ replicate (256 - t.threads) 0) (replicate 256 0)

-- THE CALLS are accepted; 10 is tested by single passes
record AcceptedCalls : Type 0 where
  first : refused_on two_in_root fresh_lock (0 ∷ 0 ∷ []) (replicate 2 9) (replicate 15 7) (replicate 256 0) ≡ accepted
  second : refused_on two_in_root (state_left accepted) (1 ∷ []) (9 ∷ []) (replicate 15 7) (under_way_left accepted) ≡ accepted
  whole : refused_on two_in_root fresh_lock (0 ∷ 0 ∷ 1 ∷ []) (replicate 3 9) (replicate 15 7) (replicate 256 0) ≡ accepted

accepted_calls : AcceptedCalls
unfolding walked_refused counts_by_walks formed_by_walks walked zipped zero_from first_pass first_meets above_by_walks walked_counter far_below have_room
    state_left under_way_left occurrences ended_in entries_under finds_none taken_from given starts checks_at word_to_grant tenure_length domain_entries
    domain_tenures longest_tenure fresh_counters each_with_index counters_after good_count good_counts count_above any_above bad_counter
    counters_after_run is_entry any_below all_below filter_below read_word tree_of is_ticket is_child is_leaf depth_from depth level meets on_path
    child_from child own_record is_record is_member owner_domain under place_of is_watch is_idle numbers_at store_numbers fresh_words is_kind prep_row
    swap_row link_row wait_row leave_row check_row help_row cas_row linger_row grant_row draw_row watch_row is_watched shown_members raise_row row step
    steps state_after how_many entering counts_of run_of run good_tail queue_on_path good_place good_counters refusal accepted lowest_bad first_refusal
    bad_domains bad_threads bad_parent too_deep no_threshold bad_home empty_domain tree_tests bad_length bad_entry bad_room tree_refusal run_reply padded
    tree two_in_root swaps_at draws begins_from begins enters begun counted under_way_after under_way_from under_way_below bad_row_room bad_under_way
    waits_reply
accepted_calls =
    let fresh = sized fresh_words refl in
    let left = sized (state_left accepted).words refl in
    record {
      first = same_refused two_in_root fresh_lock (0 ∷ 0 ∷ []) (replicate 2 9) (replicate 15 7) (replicate 256 0) (omega arith) fresh ∙ refl;
      second = same_refused two_in_root (state_left accepted) (1 ∷ []) (9 ∷ []) (replicate 15 7) (under_way_left accepted) (omega arith) left ∙ refl;
      whole = same_refused two_in_root fresh_lock (0 ∷ 0 ∷ 1 ∷ []) (replicate 3 9) (replicate 15 7) (replicate 256 0) (omega arith) fresh ∙ refl;
    }

state_known : first_left.state ≡ state_left accepted
unfolding first_left waits_on_answer state_left
state_known = ap state_left accepted_calls.first

under_way_known : first_left.under_way ≡ under_way_left accepted
unfolding first_left waits_on_under_way under_way_left
under_way_known = ap under_way_left accepted_calls.first

calls_meet : CallsMeet
unfolding accepted refusal
calls_meet =
    record {
      first = ap (λ r. r.number) accepted_calls.first;
      second = rw (state_known, under_way_known) (ap (λ r. r.number) accepted_calls.second);
      whole = ap (λ r. r.number) accepted_calls.whole;
    }

attempt_met : AttemptMet
unfolding any_below filter_below read_word tree_of is_ticket meets on_path child_from child own_record place_of is_watch is_idle numbers_at store_numbers fresh_words
    is_kind is_entry prep_row swap_row link_row wait_row leave_row check_row help_row cas_row linger_row grant_row draw_row watch_row is_watched shown_members raise_row
    row step steps state_after run_of run padded tree at_ticket_root three_in_ticket swaps_at draws begins_from begins enters Between in_ticket two_drawn draw between entry
attempt_met =
    record {
      begins_there = refl;
      not_yet = refl;
      meanwhile = (refl, (refl, (refl, (refl, (refl, (refl, (refl, (refl, (refl, (refl, tt))))))))));
      begins_no_other = refl;
      enters_there = refl;
      at_once = (refl, refl);
    }

pub witnesses : Witnesses
witnesses = record { calls = calls_meet; attempt = attempt_met }
