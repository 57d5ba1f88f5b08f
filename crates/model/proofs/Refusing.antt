-- Tests in order: what an answer implies about them.
use mathlib.Core.Path.{◌≡◌, refl, ap, ◌∙◌}
use mathlib.Core.Bool.{Bool, true, false, cond}
use mathlib.Core.List.{List, [], ◌∷◌, ◌++◌}
use Prim.Native.Nat.{ℕ, zero, suc, ◌+◌, ◌<◌}
use native.Mathlib.Nat.{add-zero}
use native.Mathlib.Omega.{arith}
use lib.Dec.{eqb}
use borrow.Author.Tests.{eqb-false}
use Rattle.model.specs.Refusals.{Refusal, refusal, accepted, Test, lowest_bad, first_refusal, has_number}
use Rattle.model.specs.Laws.{Numbered}
use Rattle.model.proofs.Tests.{or_neither}

-- if a test finds no bad place, the answer is that of the tests after it
pub lowest_none : (n : ℕ) (f : ℕ → Bool) (k p : ℕ) (r : Refusal) → ((j : ℕ) → j < k → f (p + j) ≡ false) → lowest_bad n f k p r ≡ r
unfolding lowest_bad
lowest_none n f zero p r h = refl
lowest_none n f (suc k) p r h =
    let here : f p ≡ false = rw add-zero at (h 0 (omega arith)) in
    rw here (lowest_none n f k (suc p) r (λ j l. let z : suc p + j ≡ p + suc j = omega arith in rw z (h (suc j) (omega arith))))

-- if the answer has number 0, no place is bad, and the later tests answer 0
pub lowest_passes :
    (n : ℕ) (f : ℕ → Bool) (k p : ℕ) (r : Refusal) → 0 < n → (lowest_bad n f k p r).number ≡ 0 →
    ((j : ℕ) → j < k → f (p + j) ≡ false) × (r.number ≡ 0)
unfolding lowest_bad refusal
lowest_passes n f zero p r h e = (λ j l. absurd (omega arith), e)
lowest_passes n f (suc k) p r h e = by (f p) refl e (λ e. lowest_passes n f k (suc p) r h e)
  where
    at : f p ≡ false → (j : ℕ) → j < suc k → ((j : ℕ) → j < k → f (suc p + j) ≡ false) → f (p + j) ≡ false
    at q zero l g = rw add-zero q
    at q (suc j) l g = let z : suc p + j ≡ p + suc j = omega arith in rw z at (g j (omega arith))

    by :
        (b : Bool) → f p ≡ b → (cond b (refusal n p) (lowest_bad n f k (suc p) r)).number ≡ 0 →
        ((lowest_bad n f k (suc p) r).number ≡ 0 → ((j : ℕ) → j < k → f (suc p + j) ≡ false) × (r.number ≡ 0)) →
        ((j : ℕ) → j < suc k → f (p + j) ≡ false) × (r.number ≡ 0)
    by true q e g = absurd (omega arith)
    by false q e g = let rest = g e in (λ j l. at q j l rest.0, rest.1)

-- a list of tests with answer 0: the first passes, and the others answer 0
pub tests_pass :
    (x : Test) (xs : List Test) → 0 < x.number → (first_refusal (x ∷ xs)).number ≡ 0 →
    ((p : ℕ) → p < x.places → x.bad p ≡ false) × ((first_refusal xs).number ≡ 0)
unfolding first_refusal
tests_pass x xs h e =
    let r = lowest_passes x.number x.bad x.places 0 (first_refusal xs) h e in
    (λ p l. let z : 0 + p ≡ p = omega arith in rw z at (r.0 p l), r.1)

-- if the first test of a list passes, the others give the answer
pub test_skipped : (x : Test) (xs : List Test) → ((p : ℕ) → p < x.places → x.bad p ≡ false) → first_refusal (x ∷ xs) ≡ first_refusal xs
unfolding first_refusal
test_skipped x xs h =
    lowest_none x.number x.bad x.places 0 (first_refusal xs) (λ p l. let z : 0 + p ≡ p = omega arith in rw z (h p l))

-- a list whose numbers are not 0, by computation
pub numbered : (xs : List Test) → has_number xs 0 ≡ false → Numbered xs
unfolding has_number Numbered
numbered [] e = tt
numbered (x ∷ xs) e =
    let both = or_neither (eqb x.number 0) (has_number xs 0) e in
    let n = eqb-false x.number 0 both.0 in
    (omega arith, numbered xs both.1)

-- if two joined lists refuse nothing, the first refuses nothing
pub first_passes : (xs ys : List Test) → Numbered xs → (first_refusal (xs ++ ys)).number ≡ 0 → (first_refusal xs).number ≡ 0
unfolding Numbered first_refusal accepted refusal
first_passes [] ys n e = refl
first_passes (x ∷ xs) ys n e =
    let both = tests_pass x (xs ++ ys) n.0 e in
    ap (λ r. r.number) (test_skipped x xs both.0) ∙ first_passes xs ys n.1 both.1
