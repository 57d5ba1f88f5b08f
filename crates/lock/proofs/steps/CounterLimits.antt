-- 19 after the other tests of a run: if no schedule can reach the limit it refuses nothing, and if the other tests refuse nothing it decides.
use mathlib.Core.Path.{◌≡◌, sym, ap, ◌∙◌}
use mathlib.Core.Bool.{Bool, true, false}
use mathlib.Core.List.{List, []}
use Prim.Native.Nat.{ℕ, ◌<◌}
use native.Mathlib.Omega.{arith}
use lib.ListN.{length}
use Rattle.model.specs.declared.TreeWords.{TreeWords}
use Rattle.model.specs.declared.LockState.{LockState}
use Rattle.model.specs.Trees.{Tree, tree_of}
use Rattle.model.specs.Refusals as model
use Rattle.model.specs.Refusals.{refusal, accepted, test, first_refusal, bad_counter, counter_tests, run_tests_before_19, run_tests, run_refusal}
use Rattle.model.specs.CounterLaws.{RoomLaw}
use Rattle.model.proofs.Refusing.{test_skipped}
use Rattle.model.proofs.Laws.Calls.{early_facts, early_accepted}
use Rattle.model.proofs.Laws.Counters.{good_facts, room_law}
use Rattle.model.proofs.Laws.Refusals.{accepted_number, run_numbered_before_19}
use Rattle.model.proofs.Trees.Accepted.{sixteen_bit}
use Rattle.refusals.specs.declared.reasons.Refusal.{Refusal}
use Rattle.refusals.specs.Reasons.{number_of}
use Rattle.refusals.specs.Lowest.{Lowest}
use Rattle.refusals.proofs.Scanning.{test_hit}
use Rattle.refusals.proofs.Refusing.{ok_numbered, refused_early, passed_early}
use Rattle.lock.specs.Steps.Counting.{RoomAnswered}

-- the tests before 19 with a trace buffer just long enough for the schedule
pub passes_alone : (t : Tree) (s : LockState) (is : List ℕ) (room : ℕ) → (first_refusal (run_tests_before_19 t s is room)).number ≡ 0 → (first_refusal (run_tests_before_19 t s is (length is))).number ≡ 0
passes_alone t s is room e =
    let g = early_facts t s is room e in
    ap (λ r. r.number) (early_accepted t s is (length is) (record { tree = g.tree; form = g.form; counts = g.counts; short = g.short; threads = g.threads; fits = omega arith })) ∙ accepted_number

module _ (w : TreeWords) (s : LockState) (is : List ℕ) where
  abbrev t : Tree
  t = tree_of w

  -- 19 refuses nothing if no entry brings a counter above 2^63
  none : ((p : ℕ) → p < length is → bad_counter t s is p ≡ false) → accepted ≡ first_refusal (counter_tests t s is)
  unfolding first_refusal
  none h = sym (test_skipped (test 19 (length is) (bad_counter t s is)) [] h)

  module _ (e : (first_refusal (run_tests_before_19 t s is (length is))).number ≡ 0) where
    pub has_room : (answer : Bool) → RoomAnswered s.counters.entries s.counters.tenures answer → answer ≡ true → accepted ≡ first_refusal (counter_tests t s is)
    unfolding RoomLaw
    has_room answer g y =
        let r = early_facts t s is (length is) e in
        none
        (room_law t (sixteen_bit w) s is
        (record {
          entries = λ d h. omega (arith, g.entries_fit y d h, r.short);
          tenures = λ d h. omega (arith, g.tenures_fit y d h, r.short);
          longest = λ d h. omega (arith, (good_facts t s.counters r.counts).within d h, sixteen_bit w d);
        }))

  pub is_above : (k : ℕ) → Lowest (length is) (bad_counter t s is) k → k < length is → refusal 19 k ≡ first_refusal (counter_tests t s is)
  is_above k low h = sym (test_hit (test 19 (length is) (bad_counter t s is)) [] k low h)

  pub is_none : Lowest (length is) (bad_counter t s is) (length is) → accepted ≡ first_refusal (counter_tests t s is)
  is_none low = none (λ p l. low.passed p l)

  -- THE WHOLE: the tests before 19 refuse, or 19 decides
  module _ (room : ℕ) where
    pub before_decides : (x : Refusal) → refusal (number_of x.reason) x.place ≡ first_refusal (run_tests_before_19 t s is room) → refusal (number_of x.reason) x.place ≡ run_refusal t s is room
    unfolding run_refusal run_tests
    before_decides x e = refused_early (run_tests_before_19 t s is room) (counter_tests t s is) x e

    module _ (z : accepted ≡ first_refusal (run_tests_before_19 t s is room)) where
      pub before_passes : (first_refusal (run_tests_before_19 t s is (length is))).number ≡ 0
      before_passes = passes_alone t s is room (ok_numbered z)

      pub counters_decide : (q : model.Refusal) → q ≡ first_refusal (counter_tests t s is) → q ≡ run_refusal t s is room
      unfolding run_refusal run_tests
      counters_decide q f = f ∙ sym (passed_early (run_tests_before_19 t s is room) (counter_tests t s is) (run_numbered_before_19 t s is room) z)
