-- The witnesses of `model` hold.
use mathlib.Core.Path.{◌≡◌, refl, ap, ◌∙◌}
use mathlib.Core.Bool.{Bool, true, false, ◌&&◌, cond}
use mathlib.Core.List.{List, [], ◌∷◌}
use Prim.Native.Nat.{ℕ, ◌<◌}
use native.Mathlib.Omega.{arith}
use lib.Dec.{eqb, ltb}
use lib.ListN.{get_or}
use borrow.Author.Tests.{ltb-true, eqb-true}
use Rattle.model.specs.declared.TreeWords.{TreeWords}
use Rattle.model.specs.Scans.{any_below, all_below, filter_below}
use Rattle.model.specs.Trees.{Tree, read_word, tree_of, is_ticket, is_child, is_leaf, depth_from, depth, level, meets, on_path, child_from, child, own_record, is_member, under}
use Rattle.model.specs.Places.{place_of, is_idle, is_watch}
use Rattle.model.specs.States.{fresh_words, fresh_state, numbers_at, store_numbers}
use Rattle.model.specs.Steps.{is_kind, prep_row, swap_row, link_row, wait_row, leave_row, check_row, help_row, cas_row, linger_row, grant_row, draw_row, watch_row, is_watched, shown_members, raise_row, row, step}
use Rattle.model.specs.Runs.{steps, state_after, run_of, run}
use Rattle.model.specs.Counters.{fresh_lock, fresh_counters, good_count}
use Rattle.model.specs.Refusals.{refusal, accepted, lowest_bad, first_refusal, bad_domains, bad_threads, bad_parent, too_deep, no_threshold, bad_home, empty_domain, tree_tests, bad_length, bad_entry, bad_room, tree_refusal}
use Rattle.model.specs.Laws.{AllThreads, FreshRun, FormLaw}
use Rattle.model.specs.CounterLaws.{RoomLaw}
use Rattle.model.specs.Search.{with_parent, six_levels}
use Rattle.model.specs.Cases.Marked.{padded, tree, at_ticket_root, count_up, two_homes, first_entries, three_levels}
use Rattle.model.specs.Cases.Counters.{counters, one_pass}
use Rattle.model.specs.Cases.Claim.{two_homes_again}
use Rattle.model.specs.Cases.Witnesses.{Meets, crossing, TreesMeet, StatesMet, counted_before, CountersMet, kinds_of, KindsMet, TestsNumbered, UnreadMet, status_after, WordsMet, DomainsMet, OwnParent, Witnesses}
use Rattle.model.proofs.Tests.{and_both}
use Rattle.model.proofs.Trees.Accepted.{sixteen_bit}
use Rattle.model.proofs.Walks.{zero_from, first_pass, counts_by_walks}
use Rattle.model.proofs.Computing.{far_below, have_room, walked_counter, counted_refusal, same_counted_step, same_counted_run}
use Rattle.model.proofs.Laws.Form.{form_law, fresh_well_formed}
use Rattle.model.proofs.Laws.FromFresh.{left_from_fresh}
use Rattle.model.proofs.Laws.Counters.{fresh_good, fresh_room, room_law}
use Rattle.model.proofs.Laws.Refusals.{tree_numbered, run_numbered_before_19}
use Rattle.model.proofs.ClaimCases.{below_three}

-- whether all entries of a schedule are threads
unfoldable known : Tree → List ℕ → Bool
known t [] = true
known t (i ∷ is) = ltb i t.threads && known t is

known_threads : (t : Tree) (is : List ℕ) → known t is ≡ true → AllThreads t is
unfolding known AllThreads
known_threads t [] e = tt
known_threads t (i ∷ is) e = let both = and_both (ltb i t.threads) (known t is) e in (ltb-true _ _ both.0, known_threads t is both.1)

meeting : (w : TreeWords) (is : List ℕ) (i : ℕ) → (tree_refusal (tree_of w)).number ≡ 0 → known (tree_of w) is ≡ true → i < (tree_of w).threads → Meets w is i
meeting w is i ok e real =
    let k : FreshRun (tree_of w) is = record { sixteen_bit = sixteen_bit w; tree_accepted = ok; threads = known_threads (tree_of w) is e } in
    record { fresh_run = k; from_fresh = left_from_fresh (tree_of w) 0 is k; real = real }

trees_meet : TreesMeet
unfolding known any_below filter_below read_word tree_of is_ticket is_child is_leaf depth_from depth level meets on_path under refusal accepted lowest_bad first_refusal bad_domains bad_threads bad_parent too_deep no_threshold bad_home empty_domain tree_tests tree_refusal padded tree at_ticket_root two_homes three_levels first_entries crossing
trees_meet =
    record {
      queue_root = meeting two_homes _ _ refl refl (omega arith);
      ticket_root = meeting (at_ticket_root two_homes) _ _ refl refl (omega arith);
      inner = meeting three_levels _ _ refl refl (omega arith);
    }

two_homes_known : AllThreads (tree_of two_homes) first_entries
unfolding known read_word tree_of padded tree two_homes first_entries
two_homes_known = known_threads _ _ refl

states_met : StatesMet
unfolding StatesMet FormLaw RoomLaw
states_met =
    let t = tree_of two_homes in
    let ok = trees_meet.queue_root.fresh_run.tree_accepted in
    let law = form_law t (sixteen_bit two_homes) ok in
    record {
      formed = law.of_run first_entries (fresh_state t 0) two_homes_known (law.of_fresh 0);
      good = fresh_good t;
      room = fresh_room 1 (omega arith);
      not_bad = room_law t (sixteen_bit two_homes) _ (2 ∷ []) (fresh_room 1 (omega arith));
    }

-- the words are fresh, so well formed for every tree, and the counters are tested by single passes
counters_met : CountersMet
unfolding counted_refusal counts_by_walks walked_counter far_below have_room zero_from first_pass fresh_counters good_count any_below all_below filter_below
    read_word tree_of is_ticket is_child is_leaf depth_from depth level meets on_path is_member under refusal accepted lowest_bad first_refusal bad_domains
    bad_threads bad_parent too_deep no_threshold bad_home empty_domain tree_tests bad_length bad_entry bad_room padded tree two_homes counters counted_before
counters_met =
    let formed = fresh_well_formed (tree_of two_homes) in
    record {
      of_step = ap (λ r. r.number) (same_counted_step two_homes fresh_lock true formed 0) ∙ refl;
      of_step_counted = ap (λ r. r.number) (same_counted_step two_homes counted_before true formed 0) ∙ refl;
      of_run = ap (λ r. r.number) (same_counted_run two_homes fresh_lock true formed (0 ∷ 1 ∷ []) 2 (omega arith)) ∙ refl;
      of_run_counted = ap (λ r. r.number) (same_counted_run two_homes counted_before true formed (0 ∷ 1 ∷ []) 2 (omega arith)) ∙ refl;
    }

kinds_met : KindsMet
unfolding any_below filter_below read_word tree_of is_ticket meets on_path child_from child own_record place_of is_watch is_idle numbers_at store_numbers fresh_words fresh_state
    is_kind prep_row swap_row link_row wait_row leave_row check_row help_row cas_row linger_row grant_row draw_row watch_row is_watched shown_members raise_row
    row step steps state_after run_of run padded tree two_homes three_levels first_entries crossing kinds_of
kinds_met = record { of_two_homes = refl; of_three_levels = refl }

tests_numbered : TestsNumbered
unfolding TestsNumbered
tests_numbered t s is room = (tree_numbered t, run_numbered_before_19 t s is room)

unread_met : UnreadMet
unfolding two_homes two_homes_again tree padded
unread_met =
    record {
      alike = record {
        domains = refl;
        threads = refl;
        parents = λ d p s. below_three (λ d. 0 < d → get_or two_homes_again.parents d 0 ≡ get_or two_homes.parents d 0) (λ p. absurd (omega arith)) (λ p. refl) (λ p. refl) d s p;
        thresholds = λ d p s. below_three (λ d. 0 < d → get_or two_homes_again.thresholds d 0 ≡ get_or two_homes.thresholds d 0) (λ p. absurd (omega arith)) (λ p. refl) (λ p. refl) d s p;
        homes = λ i s. below_three (λ i. get_or two_homes_again.homes i 0 ≡ get_or two_homes.homes i 0) refl refl refl i s;
        root = (λ e. refl, λ e. refl);
      };
      parent = λ e. absurd (omega arith);
      threshold = λ e. absurd (omega arith);
    }

words_met : WordsMet
unfolding any_below filter_below read_word tree_of is_ticket meets on_path child_from child own_record place_of is_watch is_idle numbers_at store_numbers fresh_words fresh_state
    is_kind prep_row swap_row link_row wait_row leave_row check_row help_row cas_row linger_row grant_row draw_row watch_row is_watched shown_members raise_row
    row step steps state_after run_of run padded tree two_homes one_pass status_after
words_met = record { count = refl; waits = refl; granted = refl }

domains_met : DomainsMet
unfolding any_below filter_below read_word tree_of is_ticket is_child is_leaf depth_from depth level meets on_path under is_member refusal accepted lowest_bad first_refusal bad_domains bad_threads bad_parent too_deep no_threshold bad_home empty_domain tree_tests tree_refusal padded tree count_up two_homes three_levels six_levels
domains_met = record { member = refl; leaf = refl; inner = refl; root = refl; six_accepted = refl; six_path = refl; off_path = refl }

own_parent : OwnParent
unfolding OwnParent with_parent
own_parent t i c d =
    record { home = refl; parent = λ e on near. by e (eqb e d) refl }
  where
    by : (e : ℕ) (b : Bool) → eqb e d ≡ b → cond b (t.parent d) (t.parent e) ≡ t.parent e
    by e true z = rw (eqb-true e d z) refl
    by e false z = refl

pub witnesses : Witnesses
witnesses =
    record {
      trees = trees_meet;
      states = states_met;
      counters_alone = counters_met;
      kinds = kinds_met;
      tests = tests_numbered;
      unread = unread_met;
      words = words_met;
      domains = domains_met;
      own_parent = own_parent;
    }
