-- The cases of "someone can move" hold, and the law is false for states that a caller may pass in.
use mathlib.Core.Path.{◌≡◌, refl, sym, ap, ◌∙◌}
use mathlib.Core.Bool.{Bool, true, false, ◌&&◌, not, cond, true≢false}
use mathlib.Core.List.{List, [], ◌∷◌, ◌++◌, nil≢cons}
use Prim.Native.Nat.{ℕ, zero, suc, ◌<◌}
use native.Mathlib.Omega.{arith}
use Rattle.model.specs.declared.State.{State}
use Rattle.model.specs.Scans.{any_below, all_below, filter_below}
use Rattle.model.specs.Trees.{Tree, read_word, tree_of, is_ticket, is_child, is_leaf, depth_from, depth, level, meets, on_path, child_from, child, own_record, is_record, is_member, owner_domain, under}
use Rattle.model.specs.Places.{place_of, is_idle, is_watch}
use Rattle.model.specs.States.{place, fresh_words, fresh_state, numbers_at, store_numbers}
use Rattle.model.specs.Steps.{stay, is_kind, prep_row, swap_row, link_row, wait_row, leave_row, check_row, help_row, cas_row, linger_row, grant_row, draw_row, watch_row, is_watched, shown_members, raise_row, row, step}
use Rattle.model.specs.Runs.{steps, state_after, run_of, run}
use Rattle.model.specs.WellFormed.{good_tail, queue_on_path, good_place, good_counters}
use Rattle.model.specs.Refusals.{refusal, accepted, lowest_bad, first_refusal, bad_domains, bad_threads, bad_parent, too_deep, no_threshold, bad_home, empty_domain, tree_tests, bad_entry}
use Rattle.model.specs.Answers.{step_reply}
use Rattle.claims.specs.Reached.{CanMove}
use Rattle.model.specs.Cases.Marked.{padded, tree, at_ticket_root, same_numbers, two_homes, two_in_root, one_home}
use Rattle.model.specs.Cases.Ticket.{two_in_ticket, three_in_ticket}
use Rattle.claims.specs.Cases.Moving.{busy_threads, moving_threads, three_in_root, until_lingering, until_woken, move_cases, move_holds, all_move, NobodyMoves, dead_queue, dead_ticket, DeadStates}
use Rattle.model.proofs.Walks.{walked, zero_from, first_pass, formed_by_walks, zipped}
use Rattle.model.proofs.Computing.{walked_step, same_step, sized}
use Rattle.model.proofs.Places.{not_idle, idle_facts}
use Rattle.model.proofs.Lists.{same_or}
use Rattle.model.proofs.Laws.Kinds.{stay_named}

-- each line is computed
pub move_cases_hold : all_move move_cases ≡ true
unfolding any_below filter_below read_word tree_of is_ticket meets on_path child_from child own_record place_of is_watch is_idle numbers_at store_numbers fresh_words fresh_state
    is_kind prep_row swap_row link_row wait_row leave_row check_row help_row cas_row linger_row grant_row draw_row watch_row is_watched shown_members raise_row
    row step steps state_after run_of run padded tree at_ticket_root two_homes one_home three_in_ticket busy_threads moving_threads three_in_root
    until_lingering until_woken move_cases move_holds all_move same_numbers
move_cases_hold = refl

-- NOBODY MOVES: the list of threads that can move is empty
append_none : (xs ys : List ℕ) → xs ++ ys ≡ [] → (xs ≡ []) × (ys ≡ [])
append_none [] ys e = (refl, e)
append_none (x ∷ xs) ys e = absurd (nil≢cons (sym e))

filter_empty : (n : ℕ) (f : ℕ → Bool) → filter_below n f ≡ [] → (j : ℕ) → j < n → f j ≡ false
unfolding filter_below
filter_empty zero f e j h = absurd (omega arith)
filter_empty (suc n) f e j h =
    let both = append_none (filter_below n f) (cond (f n) (n ∷ []) []) e in
    same_or j n _ (λ z. rw z (by (f n) both.1)) (λ z. filter_empty n f both.0 j (omega arith))
  where
    by : (b : Bool) → cond b (n ∷ []) [] ≡ [] → b ≡ false
    by true z = absurd (nil≢cons (sym z))
    by false z = refl

nobody : (t : Tree) (s : State) → moving_threads t s ≡ [] → ¬ CanMove t s
unfolding moving_threads
nobody t s e x = by (is_idle (place s x.thread)) (is_kind stay (step t x.thread s).kind) refl refl (filter_empty t.threads _ e x.thread x.real)
  where
    by : (b c : Bool) → is_idle (place s x.thread) ≡ b → is_kind stay (step t x.thread s).kind ≡ c → not b && not c ≡ false → ⊥
    by true c i k z = x.not_idle (idle_facts (place s x.thread) i)
    by false true i k z = x.no_stay (stay_named (step t x.thread s).kind k)
    by false false i k z = true≢false z

-- the step is accepted: 10 is tested by single passes, and the counters are fresh
of_queue : NobodyMoves three_in_root dead_queue
unfolding walked_step formed_by_walks walked zipped zero_from first_pass any_below all_below filter_below read_word tree_of is_ticket is_child is_leaf depth_from depth
    level meets on_path child_from child own_record is_record is_member owner_domain under place_of is_watch is_idle numbers_at store_numbers fresh_words is_kind
    wait_row linger_row watch_row row step good_tail queue_on_path good_place good_counters refusal accepted lowest_bad first_refusal bad_domains bad_threads
    bad_parent too_deep no_threshold bad_home empty_domain tree_tests bad_entry step_reply padded tree three_in_root moving_threads dead_queue
of_queue =
    record {
      accepted = ap (λ r. r.number) (same_step three_in_root dead_queue 0 (sized dead_queue refl)) ∙ refl;
      not_idle = not_idle _ refl;
      nobody = nobody (tree_of three_in_root) dead_queue refl;
    }

of_ticket : NobodyMoves two_in_ticket dead_ticket
unfolding walked_step formed_by_walks walked zipped zero_from first_pass any_below all_below filter_below read_word tree_of is_ticket is_child is_leaf depth_from depth
    level meets on_path child_from child own_record is_record is_member owner_domain under place_of is_watch is_idle numbers_at store_numbers fresh_words is_kind
    wait_row linger_row watch_row row step good_tail queue_on_path good_place good_counters refusal accepted lowest_bad first_refusal bad_domains bad_threads
    bad_parent too_deep no_threshold bad_home empty_domain tree_tests bad_entry step_reply padded tree at_ticket_root two_in_root two_in_ticket moving_threads dead_ticket
of_ticket =
    record {
      accepted = ap (λ r. r.number) (same_step two_in_ticket dead_ticket 0 (sized dead_ticket refl)) ∙ refl;
      not_idle = not_idle _ refl;
      nobody = nobody (tree_of two_in_ticket) dead_ticket refl;
    }

pub dead_states : DeadStates
dead_states = record { of_queue = of_queue; of_ticket = of_ticket }
