-- The witnesses of `bounds` hold.
use mathlib.Core.Path.{◌≡◌, refl, sym, subst, ◌∙◌}
use mathlib.Core.Bool.{Bool, true, false, ◌||◌}
use Prim.Native.Nat.{ℕ, ◌<◌, ◌∣◌}
use native.Mathlib.Omega.{arith}
use native.Mathlib.Nat.{dvd_refl}
use lib.Dec.{eqb}
use borrow.Author.Tests.{eqb-true}
use Rattle.model.specs.Scans.{any_below, all_below, largest_below, filter_below}
use Rattle.model.specs.Trees.{Tree, read_word, tree_of, is_ticket, is_child, is_leaf, depth_from, depth, level, meets, on_path, child_from, child, own_record, is_record, is_member, under, domain_allowance, allowance}
use Rattle.model.specs.Places.{place_of, is_idle, is_watch}
use Rattle.model.specs.States.{fresh_words, fresh_state, numbers_at, store_numbers}
use Rattle.model.specs.Steps.{is_kind, is_entry, prep_row, swap_row, link_row, wait_row, leave_row, check_row, help_row, cas_row, linger_row, grant_row, draw_row, watch_row, is_watched, shown_members, raise_row, row, step}
use Rattle.model.specs.Runs.{steps, state_after, entering, run_of, run, occurrences}
use Rattle.model.specs.Acts.{sends_inside, acts_at, acts}
use Rattle.model.specs.Refusals.{refusal, accepted, lowest_bad, first_refusal, bad_domains, bad_threads, bad_parent, too_deep, no_threshold, bad_home, empty_domain, tree_tests, tree_refusal}
use Rattle.model.specs.Cases.Marked.{padded, tree, at_ticket_root, two_homes}
use Rattle.model.specs.Cases.Ticket.{three_in_ticket}
use Rattle.model.proofs.Tests.{all_each}
use Rattle.chain.specs.Chain.{stays, acts_ahead, acts_holding, looked_to, looks_to, only, among, chain_from, chain}
use Rattle.waits.specs.Attempts.{swaps_at, draws, begins_from, begins, enters, begun, counted, under_way_after, finished, finished_by, waits_from}
use Rattle.claims.specs.Tenures.Laws.{sum_below}
use Rattle.bounds.specs.StarvationFreedom.Bounds.{members}
use Rattle.bounds.specs.StarvationFreedom.Laws.{is_acquiring, is_releasing, RoundRobinLaw}
use Rattle.bounds.specs.LongestWait.Bounds.{effective_threshold, effective, passes, others_passes, tenures_for_all, wait_from, member_wait, wait_bound}
use Rattle.bounds.specs.LongestWait.InLine.{ends_at, others_entry, in_line, bypass, prompt, late_entry, count_steps}
use Rattle.bounds.specs.LongestWait.Laws.{Even}
use Rattle.bounds.specs.Cases.Witnesses.{RoundsMet, PlacesMet, two_by_two_by_two, EvenMet, in_turn, PromptMet, Witnesses}
use Rattle.bounds.proofs.starvation_freedom.Law.{robin_rounds, robin_length}
use Rattle.bounds.proofs.starvation_freedom.RoundRobin.{round_robin_law}

rounds_met : RoundsMet
unfolding RoundsMet RoundRobinLaw
rounds_met t n = (robin_rounds t n, round_robin_law t n, let l = robin_length t.threads n in omega arith)

places_met : PlacesMet
unfolding any_below filter_below read_word tree_of is_ticket meets on_path child_from child own_record place_of is_watch is_idle numbers_at store_numbers fresh_words fresh_state is_kind prep_row swap_row link_row wait_row leave_row check_row help_row cas_row linger_row grant_row draw_row watch_row is_watched shown_members raise_row row step steps state_after run_of run padded tree two_homes is_acquiring is_releasing
places_met = record { acquiring = refl; releasing = refl }

-- EVEN: every number is the same in all domains of the tree
abbrev t : Tree
t = tree_of two_by_two_by_two

level_three : (i : ℕ) → i < 8 → level t (t.home i) ≡ 3
unfolding all_below read_word tree_of depth_from depth level padded tree two_by_two_by_two
level_three i h = eqb-true _ _ (all_each 8 (λ i. eqb (level t (t.home i)) 3) refl i h)

members_two : (d : ℕ) → d < 7 → members t d ≡ 2
unfolding all_below any_below filter_below read_word tree_of is_child is_leaf is_record is_member padded tree two_by_two_by_two members sum_below
members_two d h = eqb-true _ _ (all_each 7 (λ d. eqb (members t d) 2) refl d h)

threshold_two : (d : ℕ) → 0 < d → d < 7 → t.threshold d ≡ 2
unfolding all_below read_word tree_of padded tree two_by_two_by_two
threshold_two d p h = by (eqb d 0) refl (all_each 7 (λ d. eqb d 0 || eqb (t.threshold d) 2) refl d h)
  where
    by : (b : Bool) → eqb d 0 ≡ b → b || eqb (t.threshold d) 2 ≡ true → t.threshold d ≡ 2
    by true e z = absurd (let y = eqb-true d 0 e in omega arith)
    by false e z = eqb-true _ _ z

even : Even t
unfolding tree_of two_by_two_by_two tree
even =
    record {
      levels = record {
        one_level = λ i j h k. level_three i h ∙ sym (level_three j k);
        same_members = λ c d h k e. members_two c h ∙ sym (members_two d k);
        same_threshold = λ c d p q h k e. threshold_two c p h ∙ sym (threshold_two d q k);
      };
      divides = λ d p h. subst (λ n. t.threshold d ∣ n) (threshold_two d p h ∙ sym (members_two d h)) (dvd_refl (t.threshold d));
    }

even_met : EvenMet t
unfolding all_below any_below largest_below filter_below read_word tree_of is_ticket is_child is_leaf depth_from depth level meets on_path is_member under domain_allowance allowance
    refusal accepted lowest_bad first_refusal bad_domains bad_threads bad_parent too_deep no_threshold bad_home empty_domain tree_tests tree_refusal padded tree two_by_two_by_two members sum_below
    effective_threshold effective passes others_passes tenures_for_all wait_from member_wait wait_bound
even_met =
    record {
      accepted = refl;
      even = even;
      three_levels = refl;
      two_threads = omega arith;
      two_homes_each = omega arith;
      home_passes = omega arith;
      socket_passes = omega arith;
      waits_for_all = refl;
    }

prompt_met : PromptMet (tree_of three_in_ticket)
unfolding any_below all_below filter_below read_word tree_of is_ticket meets on_path child_from child own_record place_of is_idle is_watch numbers_at store_numbers fresh_words fresh_state
    is_kind is_entry prep_row swap_row link_row wait_row leave_row check_row help_row cas_row linger_row grant_row draw_row watch_row is_watched shown_members
    raise_row row step steps state_after entering run_of run occurrences sends_inside acts_at acts stays acts_ahead acts_holding looked_to looks_to only among chain_from chain
    swaps_at draws begins_from begins enters begun counted under_way_after finished finished_by waits_from ends_at others_entry in_line bypass prompt late_entry count_steps padded tree at_ticket_root three_in_ticket in_turn
prompt_met = record { all_prompt = refl; waited = refl }

pub witnesses : Witnesses
witnesses = record { rounds = rounds_met; places = places_met; even = even_met; prompt = prompt_met }
