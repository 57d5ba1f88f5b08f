-- FAST COMPUTED CASES: well-formedness is tested by single passes, and 19 is left out if no counter can exceed its limit. Both give what the definition gives, so the cases are computed with them.
use mathlib.Core.Path.{◌≡◌, refl, sym, ap, ◌∙◌}
use mathlib.Core.Bool.{Bool, true, false, ◌&&◌, not, cond}
use mathlib.Core.List.{List, [], ◌∷◌, ◌++◌, append-nil}
use Prim.Native.Nat.{ℕ, zero, suc, ◌+◌, ◌≤◌, ◌<◌}
use native.Mathlib.Omega.{arith}
use lib.Dec.{eqb, leb}
use lib.ListN.{length, get_or, take}
use borrow.Author.Tests.{eqb-true, leb-true}
use Rattle.model.specs.declared.TreeWords.{TreeWords}
use Rattle.model.specs.declared.State.{State}
use Rattle.model.specs.declared.Counters.{Counters}
use Rattle.model.specs.declared.LockState.{LockState}
use Rattle.model.specs.declared.StepReply.{StepReply}
use Rattle.model.specs.declared.PlaceArrays.{PlaceArrays}
use Rattle.model.specs.Trees.{Tree, tree_of}
use Rattle.model.specs.Runs.{steps, run}
use Rattle.model.specs.WellFormed.{well_formed}
use Rattle.model.specs.Counters.{fresh_counters, counters_after, good_counts}
use Rattle.model.specs.CounterLaws.{RoomLeft, RoomLaw}
use Rattle.model.specs.Refusals.{Refusal, Test, test, lowest_bad, first_refusal, tree_tests, bad_state, bad_counter, entry_tests, schedule_tests, room_tests, counter_tests, step_tests_before_19, step_tests, run_tests_before_19, run_tests, step_refusal, run_refusal}
use Rattle.model.specs.Answers.{counters_after_run, step_reply, step_answer, run_reply, run_buffer, run_answer, trace_answer}
use Rattle.model.specs.Cases.Marked.{Case, fresh_call, fresh_starts, step_call, step_gives, run_call, trace_room, uncounted, step_holds, step_gave, run_holds, holds, all_hold}
use Rattle.model.specs.States.{PlacesRoom}
use Rattle.model.proofs.Tests.{and_both, and_true}
use Rattle.model.proofs.Refusing.{test_skipped}
use Rattle.model.proofs.Walks.{Sized, formed_by_walks, same_formed, counts_by_walks, same_counted, above_by_walks, same_above}
use Rattle.model.proofs.Trees.Accepted.{sixteen_bit}
use Rattle.model.proofs.Laws.Counters.{fresh_good, room_law, fresh_room}

-- counters so small that no schedule of 65,536 entries raises one to 2^63
unfoldable pub far_below : List ℕ → Bool
far_below [] = true
far_below (v ∷ vs) = leb v 9223372036854710272 && far_below vs

unfoldable pub have_room : Counters → Bool
have_room c = far_below c.entries && (far_below c.tenures && far_below c.longest)

far : (l : List ℕ) → far_below l ≡ true → (d : ℕ) → get_or l d 0 ≤ 9223372036854710272
unfolding far_below
far [] e d = omega arith
far (v ∷ vs) e zero = leb-true v 9223372036854710272 (and_both (leb v 9223372036854710272) (far_below vs) e).0
far (v ∷ vs) e (suc d) = far vs (and_both (leb v 9223372036854710272) (far_below vs) e).1 d

pub room_left : (c : Counters) (n : ℕ) → have_room c ≡ true → n ≤ 65536 → RoomLeft c n
unfolding have_room
room_left c n e h =
    let a = and_both (far_below c.entries) (far_below c.tenures && far_below c.longest) e in
    let b = and_both (far_below c.tenures) (far_below c.longest) a.1 in
    record {
      entries = λ d l. omega (arith, far c.entries a.0 d);
      tenures = λ d l. omega (arith, far c.tenures b.0 d);
      longest = λ d l. omega (arith, far c.longest b.1 d);
    }

-- ANSWERS. 10 is tested by single passes, and 19 only if a counter could exceed its limit. The tests before 19 and their refusal, given whether the state is well formed and the tests after 10
abbrev pub tests_by : Tree → (formed : Bool) → List Test → List Test
tests_by t b xs = tree_tests t ++ ((test 10 1 (λ p. not b) ∷ []) ++ xs)

abbrev pub refusal_by : Tree → (formed : Bool) → List Test → Refusal
refusal_by t b xs = first_refusal (tests_by t b xs)

-- the test of 19 by single passes; it is left out if the counters are far below the limit
unfoldable pub walked_counter : Tree → LockState → (schedule : List ℕ) → (position : ℕ) → Bool
walked_counter t s is p = above_by_walks t (counters_after t s.counters (take (p + 1) (steps t is s.words)))

abbrev pub late_tests : Tree → LockState → (schedule : List ℕ) → List Test
late_tests t s is = cond (have_room s.counters) [] (test 19 (length is) (walked_counter t s is) ∷ [])

-- the refusal of a state with any counters, given whether its words are well formed, the tests after 10, and the schedule
unfoldable pub counted_refusal : Tree → (formed : Bool) → LockState → List Test → (schedule : List ℕ) → Refusal
counted_refusal t b s xs is = first_refusal (tests_by t (b && counts_by_walks t s.counters) xs ++ late_tests t s is)

-- for a state with fresh counters, which are below the limit and need no pass
unfoldable pub walked_step : TreeWords → State → (thread : ℕ) → StepReply
walked_step w s i =
    let t = tree_of w in
    step_reply (refusal_by t (formed_by_walks t s) (entry_tests t (i ∷ []))) (uncounted s) (steps t (i ∷ []) s) (counters_after_run t (i ∷ []) (uncounted s))

unfoldable pub walked_refusal : TreeWords → State → (schedule : List ℕ) → (room : ℕ) → Refusal
walked_refusal w s is room = let t = tree_of w in refusal_by t (formed_by_walks t s) (schedule_tests t is ++ room_tests is room)

-- a last test that passes changes no answer
pub last_passes : (xs : List Test) (y : Test) → ((p : ℕ) → p < y.places → y.bad p ≡ false) → first_refusal (xs ++ (y ∷ [])) ≡ first_refusal xs
unfolding first_refusal
last_passes [] y h = test_skipped y [] h
last_passes (x ∷ xs) y h = ap (lowest_bad x.number x.bad x.places 0) (last_passes xs y h)

-- a last test may be replaced by one with the same bad places
bad_same : (n : ℕ) (f g : ℕ → Bool) → ((p : ℕ) → f p ≡ g p) → (k p : ℕ) (r : Refusal) → lowest_bad n f k p r ≡ lowest_bad n g k p r
unfolding lowest_bad
bad_same n f g h zero p r = refl
bad_same n f g h (suc k) p r = rw (h p, bad_same n f g h k (suc p) r)

last_same : (xs : List Test) (n k : ℕ) (f g : ℕ → Bool) → ((p : ℕ) → f p ≡ g p) → first_refusal (xs ++ (test n k f ∷ [])) ≡ first_refusal (xs ++ (test n k g ∷ []))
unfolding first_refusal
last_same [] n k f g h = bad_same n f g h k 0 (first_refusal [])
last_same (x ∷ xs) n k f g h = ap (lowest_bad x.number x.bad x.places 0) (last_same xs n k f g h)

pub same_late : (w : TreeWords) (s : LockState) (is : List ℕ) (xs : List Test) → length is ≤ 65536 → first_refusal (xs ++ counter_tests (tree_of w) s is) ≡ first_refusal (xs ++ late_tests (tree_of w) s is)
unfolding RoomLaw bad_counter walked_counter
same_late w s is xs h = by (have_room s.counters) refl
  where
    by : (b : Bool) → have_room s.counters ≡ b → first_refusal (xs ++ counter_tests (tree_of w) s is) ≡ first_refusal (xs ++ cond b [] (test 19 (length is) (walked_counter (tree_of w) s is) ∷ []))
    by true e =
        last_passes xs (test 19 (length is) (bad_counter (tree_of w) s is)) (room_law (tree_of w) (sixteen_bit w) s is (room_left s.counters (length is) e h))
        ∙ ap first_refusal (sym (append-nil xs))
    by false e = last_same xs 19 (length is) (bad_counter (tree_of w) s is) (walked_counter (tree_of w) s is)
        (λ p. same_above (tree_of w) (counters_after (tree_of w) s.counters (take (p + 1) (steps (tree_of w) is s.words))))

-- for any counters
module _ (w : TreeWords) (s : LockState) (formed : Bool) (f : well_formed (tree_of w) s.words ≡ formed) where
  abbrev t : Tree
  t = tree_of w

  pub same_lock_formed : well_formed t s.words && good_counts t s.counters ≡ formed && counts_by_walks t s.counters
  same_lock_formed = rw (f, same_counted t s.counters)

  pub same_counted_step : (i : ℕ) → step_refusal t s i ≡ counted_refusal t formed s (entry_tests t (i ∷ [])) (i ∷ [])
  unfolding counted_refusal step_refusal step_tests bad_state
  same_counted_step i =
      same_late w s (i ∷ []) (step_tests_before_19 t s i) (omega arith)
      ∙ ap (λ b. first_refusal (tests_by t b (entry_tests t (i ∷ [])) ++ late_tests t s (i ∷ []))) same_lock_formed

  pub same_counted_run : (is : List ℕ) (room : ℕ) → length is ≤ 65536 → run_refusal t s is room ≡ counted_refusal t formed s (schedule_tests t is ++ room_tests is room) is
  unfolding counted_refusal run_refusal run_tests bad_state
  same_counted_run is room short =
      same_late w s is (run_tests_before_19 t s is room) short
      ∙ ap (λ b. first_refusal (tests_by t b (schedule_tests t is ++ room_tests is room) ++ late_tests t s is)) same_lock_formed

-- fresh counters pass 10, and 19 if the schedule is short
fresh_counts : (w : TreeWords) (s : State) → well_formed (tree_of w) s && good_counts (tree_of w) fresh_counters ≡ well_formed (tree_of w) s
fresh_counts w s = rw (fresh_good (tree_of w)) (and_true (well_formed (tree_of w) s))

fresh_pass : (w : TreeWords) (s : State) (is : List ℕ) → length is ≤ 65536 → (p : ℕ) → p < length is → bad_counter (tree_of w) (uncounted s) is p ≡ false
unfolding RoomLaw
fresh_pass w s is h = room_law (tree_of w) (sixteen_bit w) (uncounted s) is (fresh_room (length is) (omega arith))

pub same_step : (w : TreeWords) (s : State) (i : ℕ) → Sized s → step_answer w (uncounted s) i ≡ walked_step w s i
unfolding step_answer walked_step step_refusal step_tests bad_state
same_step w s i h =
    let t = tree_of w in
    rw (last_passes (step_tests_before_19 t (uncounted s) i) (test 19 1 (bad_counter t (uncounted s) (i ∷ []))) (fresh_pass w s (i ∷ []) (omega arith)))
    (ap (λ b. step_reply (refusal_by t b (entry_tests t (i ∷ []))) (uncounted s) (steps t (i ∷ []) s) (counters_after_run t (i ∷ []) (uncounted s))) (fresh_counts w s ∙ same_formed t s h))

pub same_refusal : (w : TreeWords) (s : State) (is : List ℕ) (room : ℕ) → length is ≤ 65536 → Sized s → run_refusal (tree_of w) (uncounted s) is room ≡ walked_refusal w s is room
unfolding walked_refusal run_refusal run_tests bad_state
same_refusal w s is room short h =
    let t = tree_of w in
    last_passes (run_tests_before_19 t (uncounted s) is room) (test 19 (length is) (bad_counter t (uncounted s) is)) (fresh_pass w s is short)
    ∙ ap (λ b. refusal_by t b (schedule_tests t is ++ room_tests is room)) (fresh_counts w s ∙ same_formed t s h)

-- CASES, computed with these answers
unfoldable pub holds_by_walks : Case → Bool
holds_by_walks (fresh_call w x) = holds (fresh_call w x)
holds_by_walks (fresh_starts w v c) = holds (fresh_starts w v c)
holds_by_walks (step_call w s i x) = step_holds (walked_step w s i) (uncounted s) x
holds_by_walks (step_gives w s i k d n) = step_gave (walked_step w s i) k d n
holds_by_walks (run_call w s is x) =
    let b = trace_room is in
    let r = walked_refusal w s is (length b) in
    let y = run (tree_of w) is s in
    run_holds (run_reply r (uncounted s) y (counters_after_run (tree_of w) is (uncounted s))) (run_buffer r b y) (uncounted s) b x

unfoldable pub all_hold_by_walks : List Case → Bool
all_hold_by_walks [] = true
all_hold_by_walks (c ∷ cs) = holds_by_walks c && all_hold_by_walks cs

-- the states that the cases pass in are complete, and their schedules short
abbrev pub places_sized : PlaceArrays → Bool
places_sized q = (eqb (length q.rows) 256 && eqb (length q.domains) 256) && (eqb (length q.peers) 256 && eqb (length q.words) 256)

abbrev pub state_sized : State → Bool
state_sized s = eqb (length s.nexts) 320 && (eqb (length s.statuses) 320 && places_sized s.places)

unfoldable pub case_sized : Case → Bool
case_sized (fresh_call w x) = true
case_sized (fresh_starts w v c) = true
case_sized (step_call w s i x) = state_sized s
case_sized (step_gives w s i k d n) = state_sized s
case_sized (run_call w s is x) = leb (length is) 65536 && state_sized s

unfoldable pub all_sized : List Case → Bool
all_sized [] = true
all_sized (c ∷ cs) = case_sized c && all_sized cs

sized_places : (q : PlaceArrays) → places_sized q ≡ true → PlacesRoom q
sized_places q e =
    let a = and_both (eqb (length q.rows) 256 && eqb (length q.domains) 256) (eqb (length q.peers) 256 && eqb (length q.words) 256) e in
    let b = and_both (eqb (length q.rows) 256) (eqb (length q.domains) 256) a.0 in
    let c = and_both (eqb (length q.peers) 256) (eqb (length q.words) 256) a.1 in
    record { rows = eqb-true _ _ b.0; domains = eqb-true _ _ b.1; peers = eqb-true _ _ c.0; words = eqb-true _ _ c.1 }

pub sized : (s : State) → state_sized s ≡ true → Sized s
sized s e =
    let a = and_both (eqb (length s.nexts) 320) (eqb (length s.statuses) 320 && places_sized s.places) e in
    let b = and_both (eqb (length s.statuses) 320) (places_sized s.places) a.1 in
    record { nexts = eqb-true _ _ a.0; statuses = eqb-true _ _ b.0; places = sized_places s.places b.1 }

same_case : (c : Case) → case_sized c ≡ true → holds c ≡ holds_by_walks c
unfolding holds_by_walks case_sized holds run_answer trace_answer
same_case (fresh_call w x) e = refl
same_case (fresh_starts w v c) e = refl
same_case (step_call w s i x) e = rw (same_step w s i (sized s e))
same_case (step_gives w s i k d n) e = rw (same_step w s i (sized s e))
same_case (run_call w s is x) e =
    let both = and_both (leb (length is) 65536) (state_sized s) e in
    rw (same_refusal w s is (length (trace_room is)) (leb-true _ _ both.0) (sized s both.1))

pub same_cases : (cs : List Case) → all_sized cs ≡ true → all_hold cs ≡ all_hold_by_walks cs
unfolding all_hold all_hold_by_walks all_sized
same_cases [] e = refl
same_cases (c ∷ cs) e =
    let a = and_both (case_sized c) (all_sized cs) e in
    rw (same_case c a.0, same_cases cs a.1)
