-- Accepted calls: what acceptance implies about tree, state and schedule, and that nothing more is required.
use mathlib.Core.Path.{◌≡◌, refl, sym, ap, ◌∙◌}
use mathlib.Core.Bool.{true, false}
use mathlib.Core.List.{List, [], ◌∷◌, ◌++◌}
use Prim.Native.Nat.{ℕ, zero, suc, ◌≤◌, ◌<◌}
use native.Mathlib.Omega.{arith}
use lib.Dec.{eqb}
use lib.ListN.{length}
use borrow.Author.Tests.{eqb-true, ltb-false, leb-false, not-false, le-ltb, lt-leb}
use Rattle.model.specs.declared.Counters.{Counters}
use Rattle.model.specs.declared.LockState.{LockState}
use Rattle.model.specs.declared.StepReply.{StepReply}
use Rattle.model.specs.declared.RunReply.{RunReply}
use Rattle.model.specs.Trees.{Tree}
use Rattle.model.specs.Steps.{Step}
use Rattle.model.specs.Runs.{Run}
use Rattle.model.specs.WellFormed.{well_formed}
use Rattle.model.specs.Counters.{good_counts}
use Rattle.model.specs.Refusals.{Refusal, accepted, Test, first_refusal, tree_tests, bad_state, bad_length, bad_entry, bad_room, bad_counter, counter_tests, step_tests_before_19, step_tests, run_tests_before_19, run_tests, tree_refusal, step_refusal, run_refusal}
use Rattle.model.specs.Answers.{step_reply, run_reply}
use Rattle.model.specs.Laws.{AllThreads, AllPass, RefusalLaw}
use Rattle.model.proofs.Tests.{and_both, by_test}
use Rattle.model.proofs.Laws.Refusals.{accepted_number, refusal_law, tree_refuses_exactly, step_refuses_exactly, run_refuses_exactly, run_numbered_before_19}

-- an accepted step's tree, state and thread, without 19
pub record GoodStep (t : Tree) (s : LockState) (i : ℕ) : Type 0 where
  pub tree : (tree_refusal t).number ≡ 0
  pub form : well_formed t s.words ≡ true
  pub counts : good_counts t s.counters ≡ true
  pub thread : i < t.threads

-- an accepted run's tree, state, schedule and buffer length, without 19
pub record GoodRun (t : Tree) (s : LockState) (is : List ℕ) (room : ℕ) : Type 0 where
  pub tree : (tree_refusal t).number ≡ 0
  pub form : well_formed t s.words ≡ true
  pub counts : good_counts t s.counters ≡ true
  pub short : length is ≤ 65536
  pub threads : AllThreads t is
  pub fits : length is ≤ room

-- if the tests of joined lists pass, those of both lists pass
pub pass_split : (xs ys : List Test) → AllPass (xs ++ ys) → AllPass xs × AllPass ys
unfolding AllPass
pass_split [] ys h = (tt, h)
pass_split (x ∷ xs) ys h = let r = pass_split xs ys h.1 in ((h.0, r.0), r.1)

pub pass_join : (xs ys : List Test) → AllPass xs → AllPass ys → AllPass (xs ++ ys)
unfolding AllPass
pass_join [] ys f g = g
pass_join (x ∷ xs) ys f g = (f.0, pass_join xs ys f.1 g)

pub tree_passes : (t : Tree) → AllPass (tree_tests t) → (tree_refusal t).number ≡ 0
unfolding tree_refusal
tree_passes t h = ap (λ r. r.number) ((tree_refuses_exactly t).passed.1 h) ∙ accepted_number

pub tree_passed : (t : Tree) → (tree_refusal t).number ≡ 0 → AllPass (tree_tests t)
unfolding tree_refusal
tree_passed t e = (tree_refuses_exactly t).passed.0 ((tree_refuses_exactly t).zero_accepted e)

-- if no entry is bad, all entries are threads
all_threads : (t : Tree) (is : List ℕ) → ((p : ℕ) → p < length is → bad_entry t is p ≡ false) → AllThreads t is
unfolding AllThreads bad_entry
all_threads t [] h = tt
all_threads t (i ∷ is) h = (leb-false _ _ (h 0 (omega arith)), all_threads t is (λ p l. h (suc p) (omega arith)))

no_bad_entry : (t : Tree) (is : List ℕ) → AllThreads t is → (p : ℕ) → p < length is → bad_entry t is p ≡ false
unfolding AllThreads bad_entry
no_bad_entry t [] h p l = absurd (omega arith)
no_bad_entry t (i ∷ is) h zero l = lt-leb _ _ h.0
no_bad_entry t (i ∷ is) h (suc p) l = no_bad_entry t is h.1 p (omega arith)

-- 19 refuses nothing
abbrev pub CountsPass : Tree → LockState → (schedule : List ℕ) → Type 0
CountsPass t s is = (p : ℕ) → p < length is → bad_counter t s is p ≡ false

step_passed : (t : Tree) (s : LockState) (i : ℕ) → (step_refusal t s i).number ≡ 0 → AllPass (step_tests_before_19 t s i) × AllPass (counter_tests t s (i ∷ []))
unfolding step_refusal step_tests
step_passed t s i e = let x = step_refuses_exactly t s i in pass_split (step_tests_before_19 t s i) _ (x.passed.0 (x.zero_accepted e))

pub step_facts : (t : Tree) (s : LockState) (i : ℕ) → (step_refusal t s i).number ≡ 0 → GoodStep t s i
unfolding AllPass bad_state bad_entry
step_facts t s i e =
    let both = pass_split (tree_tests t) _ (step_passed t s i e).0 in
    let good = and_both (well_formed t s.words) (good_counts t s.counters) (not-false _ (both.1.0 0 (omega arith))) in
    record { tree = tree_passes t both.0; form = good.0; counts = good.1; thread = leb-false _ _ (both.1.1.0 0 (omega arith)) }

pub step_counted : (t : Tree) (s : LockState) (i : ℕ) → (step_refusal t s i).number ≡ 0 → CountsPass t s (i ∷ [])
unfolding AllPass
step_counted t s i e = (step_passed t s i e).1.0

pub step_accepted : (t : Tree) (s : LockState) (i : ℕ) → GoodStep t s i → CountsPass t s (i ∷ []) → step_refusal t s i ≡ accepted
unfolding step_refusal step_tests AllPass AllThreads bad_state
step_accepted t s i g low =
    (step_refuses_exactly t s i).passed.1
    (pass_join (step_tests_before_19 t s i) _
    (pass_join (tree_tests t) _ (tree_passed t g.tree) (λ p l. rw (g.form, g.counts), (no_bad_entry t (i ∷ []) (g.thread, tt), tt)))
    (low, tt))

before_facts : (t : Tree) (s : LockState) (is : List ℕ) (room : ℕ) → AllPass (run_tests_before_19 t s is room) → GoodRun t s is room
unfolding AllPass bad_state bad_length bad_room
before_facts t s is room h =
    let both = pass_split (tree_tests t) _ h in
    let good = and_both (well_formed t s.words) (good_counts t s.counters) (not-false _ (both.1.0 0 (omega arith))) in
    record {
      tree = tree_passes t both.0;
      form = good.0;
      counts = good.1;
      short = ltb-false _ _ (both.1.1.0 0 (omega arith));
      threads = all_threads t is both.1.1.1.0;
      fits = ltb-false _ _ (both.1.1.1.1.0 0 (omega arith));
    }

before_passed : (t : Tree) (s : LockState) (is : List ℕ) (room : ℕ) → GoodRun t s is room → AllPass (run_tests_before_19 t s is room)
unfolding AllPass bad_state bad_length bad_room
before_passed t s is room g =
    pass_join (tree_tests t) _ (tree_passed t g.tree)
    (λ p l. rw (g.form, g.counts), (λ p l. le-ltb _ _ g.short, (no_bad_entry t is g.threads, (λ p l. le-ltb _ _ g.fits, tt))))

-- what acceptance implies, without 19
pub early_facts : (t : Tree) (s : LockState) (is : List ℕ) (room : ℕ) → (first_refusal (run_tests_before_19 t s is room)).number ≡ 0 → GoodRun t s is room
unfolding RefusalLaw
early_facts t s is room e =
    let x = refusal_law (run_tests_before_19 t s is room) (run_numbered_before_19 t s is room) in
    before_facts t s is room (x.passed.0 (x.zero_accepted e))

pub early_accepted : (t : Tree) (s : LockState) (is : List ℕ) (room : ℕ) → GoodRun t s is room → first_refusal (run_tests_before_19 t s is room) ≡ accepted
unfolding RefusalLaw
early_accepted t s is room g = (refusal_law (run_tests_before_19 t s is room) (run_numbered_before_19 t s is room)).passed.1 (before_passed t s is room g)

run_passed : (t : Tree) (s : LockState) (is : List ℕ) (room : ℕ) → (run_refusal t s is room).number ≡ 0 → AllPass (run_tests_before_19 t s is room) × AllPass (counter_tests t s is)
unfolding run_refusal run_tests
run_passed t s is room e = let x = run_refuses_exactly t s is room in pass_split (run_tests_before_19 t s is room) _ (x.passed.0 (x.zero_accepted e))

pub run_facts : (t : Tree) (s : LockState) (is : List ℕ) (room : ℕ) → (run_refusal t s is room).number ≡ 0 → GoodRun t s is room
run_facts t s is room e = before_facts t s is room (run_passed t s is room e).0

pub run_counted : (t : Tree) (s : LockState) (is : List ℕ) (room : ℕ) → (run_refusal t s is room).number ≡ 0 → CountsPass t s is
unfolding AllPass
run_counted t s is room e = (run_passed t s is room e).1.0

pub run_accepted : (t : Tree) (s : LockState) (is : List ℕ) (room : ℕ) → GoodRun t s is room → CountsPass t s is → run_refusal t s is room ≡ accepted
unfolding run_refusal run_tests AllPass
run_accepted t s is room g low =
    (run_refuses_exactly t s is room).passed.1 (pass_join (run_tests_before_19 t s is room) _ (before_passed t s is room g) (low, tt))

-- the number of an answer is its refusal's
pub run_reply_number : (r : Refusal) (s : LockState) (x : Run) (c : Counters) → (run_reply r s x c).number ≡ r.number
unfolding run_reply
run_reply_number r s x c = by_test (λ (y : RunReply). y.number ≡ r.number) (eqb r.number 0) _ _ (λ e. sym (eqb-true r.number 0 e)) (λ e. refl)

pub step_reply_number : (r : Refusal) (s : LockState) (xs : List Step) (c : Counters) → (step_reply r s xs c).number ≡ r.number
unfolding step_reply
step_reply_number r s xs c = by_test (λ (y : StepReply). y.number ≡ r.number) (eqb r.number 0) _ _ (λ e. sym (eqb-true r.number 0 e)) (λ e. refl)
