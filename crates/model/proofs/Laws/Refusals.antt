-- REFUSALS. The answer is number n at place p exactly if every earlier test passes, p is bad and no lower place is.
use mathlib.Core.Path.{◌≡◌, refl, sym, ap, ◌∙◌}
use mathlib.Core.Bool.{Bool, true, false}
use mathlib.Core.List.{List, [], ◌∷◌}
use mathlib.Core.Logic.{◌⊎◌, inl, inr}
use Prim.Native.Nat.{ℕ, zero, suc, ◌+◌, ◌<◌}
use native.Mathlib.Nat.{add-zero}
use native.Mathlib.Omega.{arith}
use native.Mathlib.Decide.{ℕ_discrete}
use Rattle.model.specs.declared.LockState.{LockState}
use Rattle.model.specs.Trees.{Tree}
use Rattle.model.specs.Refusals.{Refusal, refusal, accepted, Test, lowest_bad, first_refusal, tree_tests, step_tests, run_tests_before_19, run_tests, has_number}
use Rattle.model.specs.Laws.{Refuses, here, later, AllPass, Numbered, RefusesExactly, RefusalLaw, CallRefusalLaw}
use Rattle.model.proofs.Refusing.{test_skipped, numbered}

-- the answer is the lowest bad place p among those tested
pub lowest_hit :
    (n : ℕ) (f : ℕ → Bool) (k p j : ℕ) (r : Refusal) → j < k → f (p + j) ≡ true → ((q : ℕ) → q < j → f (p + q) ≡ false) →
    lowest_bad n f k p r ≡ refusal n (p + j)
unfolding lowest_bad
lowest_hit n f zero p j r h b l = absurd (omega arith)
lowest_hit n f (suc k) p zero r h b l = let z : f p ≡ true = rw add-zero at b in rw (z, add-zero)
lowest_hit n f (suc k) p (suc j) r h b l =
    let z : f p ≡ false = rw add-zero at (l 0 (omega arith)) in
    let e : p + suc j ≡ suc p + j = omega arith in
    rw (z, e) (lowest_hit n f k (suc p) j r (omega arith) (rw (← e) b) (λ q m. let y : suc p + q ≡ p + suc q = omega arith in rw y (l (suc q) (omega arith))))

-- a test passes, or has a lowest bad place
pub record Lowest (f : ℕ → Bool) (k : ℕ) : Type 0 where
  pub place : ℕ
  pub within : place < k
  pub bad : f place ≡ true
  pub none_below : (q : ℕ) → q < place → f q ≡ false

pub lowest : (f : ℕ → Bool) (k : ℕ) → ((q : ℕ) → q < k → f q ≡ false) ⊎ Lowest f k
lowest f zero = inl (λ q h. absurd (omega arith))
lowest f (suc k) =
    elim (lowest f k) [
      | inl none ↦ by (f k) refl none
      | inr l ↦ inr (record { place = l.place; within = omega (arith, l.within); bad = l.bad; none_below = l.none_below })
    ]
  where
    by : (b : Bool) → f k ≡ b → ((q : ℕ) → q < k → f q ≡ false) → ((q : ℕ) → q < suc k → f q ≡ false) ⊎ Lowest f (suc k)
    by true e none = inr (record { place = k; within = omega arith; bad = e; none_below = none })
    by false e none = inl (λ q h. elim (ℕ_discrete q k) [ yes z ↦ rw z e | no z ↦ none q (omega arith) ])

test_hit : (x : Test) (xs : List Test) (l : Lowest x.bad x.places) → first_refusal (x ∷ xs) ≡ refusal x.number l.place
unfolding first_refusal
test_hit x xs l =
    let z : (q : ℕ) → 0 + q ≡ q = λ q. omega arith in
    let hit =
    lowest_hit x.number x.bad x.places 0 l.place (first_refusal xs) l.within (rw (z l.place) l.bad)
    (λ q h. rw (z q) (l.none_below q h)) in
    rw (z l.place) at hit

-- from refusals to answers; and every list of tests passes or refuses
refuses_answer : (xs : List Test) (n p : ℕ) → Refuses xs n p → first_refusal xs ≡ refusal n p
refuses_answer xs n p (here x ys k h b l) = test_hit x ys (record { place = k; within = h; bad = b; none_below = l })
refuses_answer xs n p (later x ys m k g r) = test_skipped x ys g ∙ refuses_answer ys m k r

pass_answer : (xs : List Test) → AllPass xs → first_refusal xs ≡ accepted
unfolding AllPass first_refusal
pass_answer [] h = refl
pass_answer (x ∷ xs) h = test_skipped x xs h.0 ∙ pass_answer xs h.1

pub data Outcome (xs : List Test) : Type 0 where
  all_pass : AllPass xs → Outcome xs
  refuses : (n p : ℕ) → 0 < n → Refuses xs n p → Outcome xs

pub outcome : (xs : List Test) → Numbered xs → Outcome xs
unfolding AllPass Numbered
outcome [] h = all_pass tt
outcome (x ∷ xs) h =
    elim (lowest x.bad x.places) [
      | inl none ↦
          elim (outcome xs h.1) [
            | all_pass g ↦ all_pass (none, g)
            | refuses n p z r ↦ refuses n p z (later x xs n p none r)
          ]
      | inr l ↦ refuses x.number l.place h.0 (here x xs l.place l.within l.bad l.none_below)
    ]

-- the number and the place of an answer
number_of : (n p : ℕ) → (refusal n p).number ≡ n
unfolding refusal
number_of n p = refl

place_of : (n p : ℕ) → (refusal n p).place ≡ p
unfolding refusal
place_of n p = refl

pub accepted_number : accepted.number ≡ 0
unfolding accepted refusal
accepted_number = refl

pub same_number : (n p m q : ℕ) → refusal n p ≡ refusal m q → n ≡ m
same_number n p m q e = sym (number_of n p) ∙ ap (λ r. r.number) e ∙ number_of m q

pub same_place : (n p m q : ℕ) → refusal n p ≡ refusal m q → p ≡ q
same_place n p m q e = sym (place_of n p) ∙ ap (λ r. r.place) e ∙ place_of m q

not_accepted : (n p : ℕ) (r : Refusal) → 0 < n → r ≡ refusal n p → r.number ≡ 0 → ⊥
not_accepted n p r h e z = let m = ap (λ x. x.number) e ∙ number_of n p in omega arith

refused_so : (xs : List Test) → Outcome xs → (n p : ℕ) → 0 < n → first_refusal xs ≡ refusal n p → Refuses xs n p
refused_so xs (all_pass g) n p h e = absurd (not_accepted n p (first_refusal xs) h e (ap (λ r. r.number) (pass_answer xs g) ∙ accepted_number))
refused_so xs (refuses m q z r) n p h e =
    let f = sym (refuses_answer xs m q r) ∙ e in
    rw (same_number m q n p f, same_place m q n p f) at r

passed_so : (xs : List Test) → Outcome xs → (first_refusal xs).number ≡ 0 → AllPass xs
passed_so xs (all_pass g) e = g
passed_so xs (refuses m q z r) e = absurd (not_accepted m q (first_refusal xs) z (refuses_answer xs m q r) e)

pub refusal_law : RefusalLaw
unfolding RefusalLaw
refusal_law xs h =
    let o = outcome xs h in
    record {
      refused = λ n p z. (refused_so xs o n p z, refuses_answer xs n p);
      passed = (λ e. passed_so xs o (ap (λ r. r.number) e ∙ accepted_number), pass_answer xs);
      zero_accepted = λ e. pass_answer xs (passed_so xs o e);
    }

-- THE CALLS' TESTS are numbered, so the law applies to each call
pub tree_numbered : (t : Tree) → Numbered (tree_tests t)
unfolding has_number tree_tests
tree_numbered t = numbered (tree_tests t) refl

pub tree_refuses_exactly : (t : Tree) → RefusesExactly (tree_tests t)
unfolding RefusalLaw
tree_refuses_exactly t = refusal_law (tree_tests t) (tree_numbered t)

pub step_refuses_exactly : (t : Tree) (s : LockState) (i : ℕ) → RefusesExactly (step_tests t s i)
unfolding RefusalLaw has_number tree_tests step_tests
step_refuses_exactly t s i = refusal_law (step_tests t s i) (numbered (step_tests t s i) refl)

pub run_refuses_exactly : (t : Tree) (s : LockState) (is : List ℕ) (room : ℕ) → RefusesExactly (run_tests t s is room)
unfolding RefusalLaw has_number tree_tests run_tests
run_refuses_exactly t s is room = refusal_law (run_tests t s is room) (numbered (run_tests t s is room) refl)

pub run_numbered_before_19 : (t : Tree) (s : LockState) (is : List ℕ) (room : ℕ) → Numbered (run_tests_before_19 t s is room)
unfolding has_number tree_tests
run_numbered_before_19 t s is room = numbered (run_tests_before_19 t s is room) refl

pub call_refusal_law : CallRefusalLaw
unfolding CallRefusalLaw
call_refusal_law t = record { of_fresh = tree_refuses_exactly t; of_step = step_refuses_exactly t; of_run = run_refuses_exactly t }
