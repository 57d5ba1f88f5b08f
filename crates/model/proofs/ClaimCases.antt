-- The allowances are reached, and a list with refused calls is answered as stated.
use mathlib.Core.Path.{◌≡◌, refl, ap, ◌∙◌}
use mathlib.Core.Bool.{Bool, true, false, ◌&&◌, cond}
use mathlib.Core.List.{List, [], ◌∷◌, ◌++◌}
use Prim.Native.Nat.{ℕ, zero, suc, ◌≤◌, ◌<◌}
use native.Mathlib.Omega.{arith}
use lib.Dec.{eqb, leb}
use lib.ListN.{length, get_or}
use borrow.Author.Tests.{leb-true}
use Rattle.model.specs.declared.TreeWords.{TreeWords}
use Rattle.model.specs.declared.LockState.{LockState}
use Rattle.model.specs.Scans.{any_below, all_below, largest_below, filter_below}
use Rattle.model.specs.Trees.{Tree, read_word, tree_of, is_ticket, is_child, is_leaf, depth_from, depth, level, meets, on_path, child_from, child, own_record, is_record, is_member, owner_domain, under, domain_allowance, allowance}
use Rattle.model.specs.Places.{place_of, is_idle, is_watch}
use Rattle.model.specs.States.{fresh_words, fresh_state, numbers_at, store_numbers}
use Rattle.model.specs.Steps.{is_kind, is_entry, prep_row, swap_row, link_row, wait_row, leave_row, check_row, help_row, cas_row, linger_row, grant_row, draw_row, watch_row, is_watched, shown_members, raise_row, row, step}
use Rattle.model.specs.Runs.{steps, state_after, how_many, entering, counts_of, run_of, run, begun_in, ended_in, begun, ended, entries_under, occurrences}
use Rattle.model.specs.WellFormed.{good_tail, queue_on_path, good_place, good_counters}
use Rattle.model.specs.Tenures.{finds_none, taken_from, given, starts, checks_at, word_to_grant, tenure_length, domain_entries, domain_tenures, longest_tenure}
use Rattle.model.specs.Counters.{fresh_counters, fresh_lock, each_with_index, counters_after, good_count, count_above, any_above}
use Rattle.model.specs.Refusals.{Refusal, refusal, accepted, lowest_bad, first_refusal, bad_domains, bad_threads, bad_parent, too_deep, no_threshold, bad_home, empty_domain, tree_tests, bad_length, bad_entry, bad_room, bad_counter, entry_tests, schedule_tests, room_tests, tree_refusal, step_refusal, run_refusal}
use Rattle.model.specs.Answers.{fresh_answer, counters_after_run, step_reply, step_answer, run_reply, run_buffer, run_answer, trace_answer}
use Rattle.model.specs.Laws.{UnreadLaw}
use Rattle.model.specs.Calls.{Ask, one_step, a_run, Call, Answer, stepped, ran, state_in, answer_to, answer, ask_refusal, call_refusal, asked_entries, added, answers, joined, Names}
use Rattle.model.specs.Cases.Marked.{padded, tree, count_up, same_numbers, two_homes}
use Rattle.model.specs.Cases.Claim.{reaches, one_leaf, thread_allowance_reached, two_leaves_below, until_leaf_stands, while_leaf_stands, inner_allowance_reached, AllowancesReached, too_many_domains, two_homes_again, mixed_calls, mixed_schedule, refusal_in, refusals_in, MixedCallsAnswered}
use Rattle.model.proofs.Tests.{and_both}
use Rattle.model.proofs.Walks.{walked, Sized, zero_from, first_pass, formed_by_walks, same_formed, counts_by_walks, zipped}
use Rattle.model.proofs.Computing.{far_below, have_room, counted_refusal, same_counted_step, same_counted_run, state_sized, sized}
use Rattle.model.proofs.Laws.Calls.{step_reply_number, run_reply_number}
use Rattle.model.proofs.Laws.Unread.{unread_law}

pub allowances_reached : AllowancesReached
unfolding any_below filter_below largest_below read_word tree_of is_ticket is_child is_leaf meets on_path child_from child own_record is_member under
    domain_allowance allowance place_of is_watch numbers_at store_numbers fresh_words fresh_state is_entry prep_row swap_row link_row wait_row leave_row check_row help_row cas_row
    linger_row grant_row draw_row watch_row is_watched shown_members raise_row row step steps state_after run_of run begun_in ended_in begun ended
    entries_under occurrences padded tree same_numbers reaches one_leaf thread_allowance_reached two_leaves_below until_leaf_stands while_leaf_stands
    inner_allowance_reached AllowancesReached
allowances_reached = (refl, refl)

-- what holds for 0, 1 and 2 holds below 3
pub below_three : (P : ℕ → Type 0) → P 0 → P 1 → P 2 → (k : ℕ) → k < 3 → P k
below_three P a b c zero h = a
below_three P a b c (suc zero) h = b
below_three P a b c (suc (suc zero)) h = c
below_three P a b c (suc (suc (suc k))) h = absurd (omega arith)

same_tree : tree_of two_homes_again ≡ tree_of two_homes
unfolding UnreadLaw two_homes two_homes_again tree padded
same_tree =
    unread_law two_homes two_homes_again (record {
      domains = refl;
      threads = refl;
      parents = λ d p s. below_three (λ d. 0 < d → get_or two_homes_again.parents d 0 ≡ get_or two_homes.parents d 0) (λ p. absurd (omega arith)) (λ p. refl) (λ p. refl) d s p;
      thresholds = λ d p s. below_three (λ d. 0 < d → get_or two_homes_again.thresholds d 0 ≡ get_or two_homes.thresholds d 0) (λ p. absurd (omega arith)) (λ p. refl) (λ p. refl) d s p;
      homes = λ i s. below_three (λ i. get_or two_homes_again.homes i 0 ≡ get_or two_homes.homes i 0) refl refl refl i s;
      root = (λ e. refl, λ e. refl);
    })

-- THE TREE AND THE SCHEDULE OF A LIST, from the refusals in its answers
call_refused : (c : Call) (s : LockState) → (refusal_in (answer c s)).number ≡ (call_refusal c s).number
unfolding refusal refusal_in answer answer_to call_refusal ask_refusal step_answer run_answer
call_refused c s = by c.ask
  where
    by : (a : Ask) → (refusal_in (answer_to c.tree a s)).number ≡ (ask_refusal (tree_of c.tree) a s).number
    by (one_step i) = step_reply_number (step_refusal (tree_of c.tree) s i) s (steps (tree_of c.tree) (i ∷ []) s.words) (counters_after_run (tree_of c.tree) (i ∷ []) s)
    by (a_run is b) = run_reply_number (run_refusal (tree_of c.tree) s is (length b)) s (run (tree_of c.tree) is s.words) (counters_after_run (tree_of c.tree) is s)

-- each call that is answered with number 0 names the tree
NamesBy : Tree → List Call → List Refusal → Type 0
NamesBy t [] rs = Unit {0}
NamesBy t (c ∷ cs) [] = ⊥
NamesBy t (c ∷ cs) (r ∷ rs) = (r.number ≡ 0 → tree_of c.tree ≡ t) × NamesBy t cs rs

names_by : (t : Tree) (cs : List Call) (s : LockState) → NamesBy t cs (refusals_in (answers cs s)) → Names t cs s
unfolding NamesBy Names answers refusals_in
names_by t [] s n = tt
names_by t (c ∷ cs) s n = (λ e. n.0 (rw (call_refused c s) e), names_by t cs _ n.1)

joined_by : List Call → List Refusal → List ℕ
joined_by [] rs = []
joined_by (c ∷ cs) [] = []
joined_by (c ∷ cs) (r ∷ rs) = cond (eqb r.number 0) (asked_entries c.ask) [] ++ joined_by cs rs

joined_same : (cs : List Call) (s : LockState) → joined cs s ≡ joined_by cs (refusals_in (answers cs s))
unfolding joined joined_by added answers refusals_in
joined_same [] s = refl
joined_same (c ∷ cs) s = rw (call_refused c s, joined_same cs (state_in (answer c s)))

-- REFUSALS BY SINGLE PASSES: the answer to a call, given its refusal
unfoldable answer_by : TreeWords → Ask → Refusal → LockState → Answer
answer_by w (one_step i) r s = stepped (step_reply r s (steps (tree_of w) (i ∷ []) s.words) (counters_after_run (tree_of w) (i ∷ []) s))
answer_by w (a_run is b) r s =
    let x = run (tree_of w) is s.words in
    ran (run_reply r s x (counters_after_run (tree_of w) is s)) (run_buffer r b x)

unfoldable walked_refusal : Tree → Ask → LockState → Refusal
walked_refusal t (one_step i) s = counted_refusal t (formed_by_walks t s.words) s (entry_tests t (i ∷ [])) (i ∷ [])
walked_refusal t (a_run is b) s = counted_refusal t (formed_by_walks t s.words) s (schedule_tests t is ++ room_tests is (length b)) is

-- the state is complete and the schedule short
abbrev fits : Ask → LockState → Bool
fits a s = leb (length (asked_entries a)) 65536 && state_sized s.words

same_answer : (w : TreeWords) (a : Ask) (s : LockState) → fits a s ≡ true → answer_to w a s ≡ answer_by w a (walked_refusal (tree_of w) a s) s
unfolding answer_by walked_refusal answer_to step_answer run_answer trace_answer asked_entries
same_answer w a s e = by a (leb-true _ _ both.0)
  where
    both : (leb (length (asked_entries a)) 65536 ≡ true) × (state_sized s.words ≡ true)
    both = and_both (leb (length (asked_entries a)) 65536) (state_sized s.words) e

    h : Sized s.words
    h = sized s.words both.1

    by : (a : Ask) → length (asked_entries a) ≤ 65536 → answer_to w a s ≡ answer_by w a (walked_refusal (tree_of w) a s) s
    by (one_step i) short = rw (same_counted_step w s (formed_by_walks (tree_of w) s.words) (same_formed (tree_of w) s.words h) i)
    by (a_run is b) short = rw (same_counted_run w s (formed_by_walks (tree_of w) s.words) (same_formed (tree_of w) s.words h) is (length b) short)

abbrev walked_answer : Call → LockState → Answer
walked_answer c s = answer_by c.tree c.ask (walked_refusal (tree_of c.tree) c.ask s) s

-- the refusals of the calls before the first that does not fit; if there are as many as calls, they are the refusals of the list
unfoldable walked_refusals : List Call → LockState → List Refusal
walked_refusals [] s = []
walked_refusals (c ∷ cs) s =
    let a = walked_answer c s in
    let all = refusal_in a ∷ walked_refusals cs (state_in a) in
    cond (fits c.ask s) all []

same_refusals : (cs : List Call) (s : LockState) → length (walked_refusals cs s) ≡ length cs → refusals_in (answers cs s) ≡ walked_refusals cs s
unfolding walked_refusals answers answer refusals_in
same_refusals [] s e = refl
same_refusals (c ∷ cs) s e = by (fits c.ask s) refl (λ n. same_refusals cs (state_in (walked_answer c s)) n) e
  where
    by : (b : Bool) → fits c.ask s ≡ b →
        (let t = state_in (walked_answer c s) in length (walked_refusals cs t) ≡ length cs → refusals_in (answers cs t) ≡ walked_refusals cs t) →
        length (cond b (refusal_in (walked_answer c s) ∷ walked_refusals cs (state_in (walked_answer c s))) []) ≡ suc (length cs) →
        refusals_in (answers (c ∷ cs) s) ≡ cond b (refusal_in (walked_answer c s) ∷ walked_refusals cs (state_in (walked_answer c s))) []
    by true f rest n = rw (same_answer c.tree c.ask s f) (ap (λ rs. refusal_in (walked_answer c s) ∷ rs) (rest (omega arith)))
    by false f rest n = absurd (omega arith)

abbrev mixed_refusals : List Refusal
mixed_refusals = accepted ∷ refusal 4 0 ∷ accepted ∷ refusal 12 1 ∷ accepted ∷ accepted ∷ []

mixed_walked : walked_refusals mixed_calls fresh_lock ≡ mixed_refusals
unfolding occurrences ended_in entries_under finds_none taken_from given starts checks_at word_to_grant tenure_length domain_entries domain_tenures
    longest_tenure fresh_counters each_with_index counters_after count_above any_above bad_counter counters_after_run any_below filter_below all_below read_word
    tree_of is_ticket is_child is_leaf depth_from depth level meets on_path child_from child own_record is_record is_member owner_domain under place_of
    is_watch is_idle numbers_at store_numbers fresh_words fresh_state is_kind is_entry prep_row swap_row link_row wait_row leave_row check_row help_row cas_row linger_row grant_row
    draw_row watch_row is_watched shown_members raise_row row step steps state_after how_many entering counts_of run_of run good_tail queue_on_path good_place
    good_counters good_count refusal accepted lowest_bad first_refusal bad_domains bad_threads bad_parent too_deep no_threshold bad_home empty_domain tree_tests
    bad_length bad_entry bad_room step_reply run_reply run_buffer padded tree count_up two_homes state_in asked_entries too_many_domains two_homes_again
    mixed_calls refusal_in walked zipped formed_by_walks counts_by_walks zero_from first_pass far_below have_room counted_refusal answer_by walked_refusal walked_refusals
mixed_walked = refl

refused : refusals_in (answers mixed_calls fresh_lock) ≡ mixed_refusals
unfolding mixed_calls
refused = same_refusals mixed_calls fresh_lock (ap length mixed_walked) ∙ mixed_walked

named : NamesBy (tree_of two_homes) mixed_calls mixed_refusals
unfolding NamesBy mixed_calls refusal accepted
named = (λ e. refl, (λ e. absurd (omega arith), (λ e. refl, (λ e. absurd (omega arith), (λ e. same_tree, (λ e. refl, tt))))))

names : Names (tree_of two_homes) mixed_calls fresh_lock
names = names_by (tree_of two_homes) mixed_calls fresh_lock (rw refused named)

schedule : joined mixed_calls fresh_lock ≡ mixed_schedule
unfolding joined_by mixed_calls asked_entries mixed_schedule refusal accepted
schedule = joined_same mixed_calls fresh_lock ∙ ap (joined_by mixed_calls) refused

fresh_accepted : (fresh_answer two_homes 0).number ≡ 0
unfolding any_below filter_below read_word tree_of is_ticket is_child is_leaf depth_from depth level meets on_path under refusal accepted lowest_bad first_refusal bad_domains bad_threads bad_parent too_deep no_threshold bad_home empty_domain tree_tests tree_refusal fresh_answer padded tree two_homes
fresh_accepted = refl

pub mixed_calls_answered : MixedCallsAnswered
mixed_calls_answered = record { fresh = fresh_accepted; names = names; refused = refused; schedule = schedule }
