-- How many threads of a piece can be stepped, given the first unknown one and what 19 refuses.
use mathlib.Core.Path.{◌≡◌, refl, sym, ap, ◌∙◌, subst}
use mathlib.Core.Bool.{Bool, true, false}
use mathlib.Core.List.{List, [], ◌∷◌}
use mathlib.Core.Logic.{◌≢◌, inl, inr}
use Prim.Native.Nat.{ℕ, suc, ◌+◌, ◌≤◌, ◌<◌}
use native.Mathlib.Omega.{arith}
use lib.ListN.{length, take, get_or}
use lib.Seq.{length-take-le, get_or-take, take-take}
use lib.Dec.{ltb}
use borrow.Author.Tests.{ltb-true, ltb-false, leb-true, leb-false}
use Rattle.model.specs.declared.TreeWords.{TreeWords}
use Rattle.model.specs.declared.LockState.{LockState}
use Rattle.model.specs.Trees.{Tree, tree_of}
use Rattle.model.specs.Runs.{steps}
use Rattle.model.specs.Counters.{counters_after, any_above}
use Rattle.model.specs.Refusals.{refusal, accepted, test, first_refusal, bad_counter, counter_tests, has_number, run_tests_before_19}
use Rattle.model.specs.Laws.{AllThreads, AllPass, RefusalLaw, RefusesExactly}
use Rattle.model.proofs.Refusing.{test_skipped, numbered}
use Rattle.model.proofs.Laws.Calls.{early_accepted}
use Rattle.model.proofs.Laws.Refusals.{accepted_number, lowest, refusal_law}
use Rattle.model.proofs.Laws.Runs.{steps_take}
use Rattle.refusals.specs.declared.reasons.Reason.TheVariants.{BadEntry, CounterFull}
use Rattle.refusals.specs.declared.reasons.Refusal.{Refusal}
use Rattle.refusals.specs.Reasons.{number_of}
use Rattle.std.specs.Prelude.{Option, Some, None, unwrap_or}
use Rattle.std.specs.Bool.{then_some}
use Rattle.refusals.specs.Lowest.{Lowest, or_end}
use Rattle.refusals.proofs.Scanning.{test_hit}
use Rattle.refusals.proofs.Refusing.{reason_numbered, error_numbered}
use Rattle.journal.specs.StepCheck.Laws.{after_first}
use Rattle.journal.proofs.step_check.Checking.{above_at, number_12, number_19}
use Rattle.journal_call.specs.StepCheck.Stretches.{Ready, unknown, Stretch}

-- the number of places before the one that a scan returns, which is all if it returns none
pub known_front : (n : ℕ) (bad : ℕ → Bool) (found : Option ℕ) → Lowest n bad (or_end found n) → (m : ℕ) → m ≡ unwrap_or found n → Lowest n bad m
known_front n bad (Some p) L m e = rw e L
known_front n bad None L m e = rw e L

-- if each entry is a thread of the tree, all are
pub all_known : (t : Tree) (is : List ℕ) → ((j : ℕ) → j < length is → get_or is j 0 < t.threads) → AllThreads t is
unfolding AllThreads
all_known t [] h = tt
all_known t (i ∷ is) h = (h 0 (omega arith), all_known t is (λ j l. h (suc j) (omega arith)))

-- 19 at one of the first entries is the same with all entries
pub taken_counter : (t : Tree) (s : LockState) (is : List ℕ) (m p : ℕ) → p < m → bad_counter t s (take m is) p ≡ bad_counter t s is p
unfolding bad_counter
taken_counter t s is m p h =
    ap (λ v. any_above (counters_after t s.counters (take (p + 1) v))) (steps_take t m is s.words)
    ∙ ap (λ v. any_above (counters_after t s.counters v)) (take-take (p + 1) m (steps t is s.words) (omega arith))

-- what a refusal by one test implies
pub record OneRefused (f : ℕ → Bool) (k number place : ℕ) : Type 0 where
  pub within : place < k
  pub bad : f place ≡ true
  pub below : (q : ℕ) → q < place → f q ≡ false

one_refused : (f : ℕ → Bool) (k : ℕ) → (let q = first_refusal (test 19 k f ∷ []) in q.number ≢ 0 → OneRefused f k q.number q.place)
unfolding first_refusal accepted refusal
one_refused f k n =
    elim (lowest f k) [
      | inl none ↦ absurd (n (ap (λ r. r.number) (test_skipped (test 19 k f) [] none)))
      | inr L ↦
          let e = test_hit (test 19 k f) [] L.place (record { within = omega (arith, L.within); passed = L.none_below; fails = λ _. L.bad }) L.within in
          let at : (first_refusal (test 19 k f ∷ [])).place ≡ L.place = ap (λ r. r.place) e in
          record { within = omega (arith, at, L.within); bad = rw at L.bad; below = λ q h. L.none_below q (omega (arith, at)) }
    ]

module _ (w : TreeWords) (s : LockState) (is : List ℕ) (g : Ready (tree_of w) s) (few : length is ≤ 1024) (m : ℕ) (L : Lowest (length is) (unknown w.threads is) m) where
  abbrev t : Tree
  t = tree_of w

  -- the first entries
  abbrev js : List ℕ
  js = take m is

  long : length js ≡ m
  long = length-take-le m is L.within

  known : (j : ℕ) → j < m → get_or is j 0 < t.threads
  unfolding tree_of
  known j h = leb-false w.threads (get_or is j 0) (L.passed j h)

  pub early : (first_refusal (run_tests_before_19 t s js (length js))).number ≡ 0
  early =
      ap (λ r. r.number)
      (early_accepted t s js (length js)
      (record {
        tree = g.tree;
        form = g.form;
        counts = g.counts;
        short = omega (arith, long, L.within);
        threads = all_known t js (λ j h. subst (λ v. v < t.threads) (sym (get_or-take m is j 0 (omega (arith, long)))) (known j (omega (arith, long))));
        fits = omega arith;
      }))
      ∙ accepted_number

  tests_exact : RefusesExactly (counter_tests t s js)
  unfolding RefusalLaw has_number
  tests_exact = refusal_law (counter_tests t s js) (numbered (counter_tests t s js) refl)

  -- 19 stops the stretch
  pub counter_stops : (x : Refusal) → refusal (number_of x.reason) x.place ≡ first_refusal (counter_tests t s js) → (p : ℕ) → p ≡ x.place → Stretch t s is (record { refused = Some CounterFull; steps = p })
  unfolding refusal
  counter_stops x e p at =
      let q = first_refusal (counter_tests t s js) in
      let one = one_refused (bad_counter t s js) (length js) (error_numbered x e) in
      let there : p ≡ q.place = at ∙ ap (λ v. v.place) e in
      let inside : p < m = omega (arith, one.within, there, long) in
      record {
        within = omega (arith, inside, L.within);
        known = λ j h. known j (omega (arith, inside));
        low = λ j h. sym (taken_counter t s is m j (omega (arith, inside))) ∙ one.below j (omega (arith, there));
        goes_on = λ z. absurd (reason_numbered CounterFull z);
        stops = λ _. omega (arith, inside, L.within);
        refuses = λ _ k d.
            number_19 t (after_first t s is p) (get_or is p 0) k d (known p inside)
            (above_at t s is p (omega (arith, inside, L.within)) ∙ sym (taken_counter t s is m p (omega (arith, inside))) ∙ rw there one.bad);
      }

  module _ (z : accepted ≡ first_refusal (counter_tests t s js)) where
    low : (j : ℕ) → j < m → bad_counter t s is j ≡ false
    unfolding AllPass
    low j h =
        let pass = tests_exact.passed.0 (sym z) in
        sym (taken_counter t s is m j (omega arith)) ∙ pass.0 j (omega (arith, long))

    -- 12 stops the stretch, or nothing does
    pub counters_pass : Stretch t s is (record { refused = then_some (ltb m (length is)) BadEntry; steps = m })
    unfolding tree_of
    counters_pass = by (ltb m (length is)) refl
      where
        by : (b : Bool) → ltb m (length is) ≡ b → Stretch t s is (record { refused = then_some b BadEntry; steps = m })
        by true e =
            record {
              within = L.within;
              known = known;
              low = low;
              goes_on = λ z. absurd (reason_numbered BadEntry z);
              stops = λ _. ltb-true m (length is) e;
              refuses = λ _ k d. number_12 t (after_first t s is m) (get_or is m 0) k d (leb-true w.threads (get_or is m 0) (L.fails (ltb-true m (length is) e)));
            }
        by false e =
            record {
              within = L.within;
              known = known;
              low = low;
              goes_on = λ _. omega (arith, L.within, ltb-false m (length is) e);
              stops = λ n. absurd (n refl);
              refuses = λ n k d. absurd (n refl);
            }
