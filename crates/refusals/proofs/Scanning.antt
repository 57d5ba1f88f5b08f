-- Scans: one more place, and how the lowest bad place decides a list of tests.
use mathlib.Core.Path.{◌≡◌, refl, sym, ◌∙◌}
use mathlib.Core.Bool.{Bool, true, false, ◌&&◌}
use mathlib.Core.List.{List, ◌∷◌}
use Prim.Native.Nat.{ℕ, zero, suc, ◌+◌, ◌≤◌, ◌<◌}
use native.Mathlib.Omega.{arith}
use native.Mathlib.Decide.{ℕ_discrete}
use Rattle.model.specs.Scans.{all_below}
use Rattle.model.specs.Refusals.{refusal, Test, first_refusal}
use Rattle.model.proofs.Refusing.{test_skipped}
use Rattle.model.proofs.Laws.Refusals.{lowest_hit}
use Rattle.refusals.specs.Lowest.{Lowest}

-- what holds below d and at d holds below d + 1
pub one_more : (f : ℕ → Bool) (b : Bool) (d : ℕ) → ((j : ℕ) → j < d → f j ≡ b) → f d ≡ b → (j : ℕ) → j < d + 1 → f j ≡ b
one_more f b d h e j l = elim (ℕ_discrete j d) [ yes p ↦ rw p e | no p ↦ h j (omega arith) ]

-- a scan has reached place d of n and found none bad
abbrev pub Scanned : (n : ℕ) (bad : ℕ → Bool) (d : ℕ) → Type 0
Scanned n bad d = (d ≤ n) × ((j : ℕ) → j < d → bad j ≡ false)

pub scan_begun : (n : ℕ) (bad : ℕ → Bool) → Scanned n bad 0
scan_begun n bad = (omega arith, λ j l. absurd (omega arith))

pub scan_goes_on : (n : ℕ) (bad : ℕ → Bool) (d : ℕ) → Scanned n bad d → d < n → bad d ≡ false → Scanned n bad (d + 1)
scan_goes_on n bad d s l e = (omega arith, one_more bad false d s.1 e)

-- the lowest bad place is the first that the scan finds, and n if it finds none
pub scan_found : (n : ℕ) (bad : ℕ → Bool) (d : ℕ) → Scanned n bad d → bad d ≡ true → Lowest n bad d
scan_found n bad d s e = record { within = s.0; passed = s.1; fails = λ _. e }

pub scan_ended : (n : ℕ) (bad : ℕ → Bool) (d : ℕ) → Scanned n bad d → n ≤ d → Lowest n bad d
scan_ended n bad d s l = record { within = s.0; passed = s.1; fails = λ h. absurd (omega arith) }

-- if one place fails, not all pass
pub all_fails : (n : ℕ) (f : ℕ → Bool) (j : ℕ) → j < n → f j ≡ false → all_below n f ≡ false
unfolding all_below
all_fails zero f j l e = absurd (omega arith)
all_fails (suc n) f j l e =
    elim (ℕ_discrete j n) [ yes p ↦ rw (sym (rw p at e)) (and_false (all_below n f) (f n) (rw p at e)) | no p ↦ rw (all_fails n f j (omega arith) e) ]
  where
    and_false : (a b : Bool) → b ≡ false → a && b ≡ b
    and_false true b q = refl
    and_false false b q = sym q

-- a test refuses with its lowest bad place, or is skipped if there is none
pub test_hit : (x : Test) (xs : List Test) (p : ℕ) → Lowest x.places x.bad p → p < x.places → first_refusal (x ∷ xs) ≡ refusal x.number p
unfolding first_refusal
test_hit x xs p L h =
    let z : (q : ℕ) → 0 + q ≡ q = λ q. omega arith in
    rw (z p) at (lowest_hit x.number x.bad x.places 0 p (first_refusal xs) h (rw (z p) (L.fails h)) (λ q m. rw (z q) (L.passed q m)))

pub test_missed : (x : Test) (xs : List Test) (p : ℕ) → Lowest x.places x.bad p → x.places ≤ p → first_refusal (x ∷ xs) ≡ first_refusal xs
test_missed x xs p L h = test_skipped x xs (λ j l. L.passed j (omega arith))

-- a test of one place
pub single : (f : ℕ → Bool) (b : Bool) → f 0 ≡ b → (p : ℕ) → p < 1 → f p ≡ b
single f b e p l = let z : p ≡ 0 = omega arith in rw z e

pub single_hit : (x : Test) (xs : List Test) → x.places ≡ 1 → x.bad 0 ≡ true → first_refusal (x ∷ xs) ≡ refusal x.number 0
single_hit x xs e h = test_hit x xs 0 (record { within = omega arith; passed = λ j l. absurd (omega arith); fails = λ _. h }) (omega arith)

pub single_missed : (x : Test) (xs : List Test) → x.places ≡ 1 → x.bad 0 ≡ false → first_refusal (x ∷ xs) ≡ first_refusal xs
single_missed x xs e h = test_skipped x xs (λ p l. single x.bad false h p (omega arith))

-- the value of a test, from the answer of the function that computes it
pub by_answer : (r : Bool) {x : Bool} (b : Bool) → r ≡ x → r ≡ b → x ≡ b
by_answer r b p q = sym p ∙ q
