-- From tests to facts: connectives and scans.
use mathlib.Core.Path.{◌≡◌, refl, sym}
use mathlib.Core.List.{[], ◌∷◌}
use mathlib.Core.Bool.{Bool, true, false, ◌&&◌, ◌||◌, cond, false≢true, true≢false}
use mathlib.Core.Logic.{◌≢◌, ◌⊎◌, inl, inr}
use Prim.Native.Nat.{ℕ, zero, suc, ◌≤◌, ◌<◌}
use native.Mathlib.Omega.{arith}
use native.Mathlib.Decide.{ℕ_discrete}
use Rattle.model.specs.Scans.{any_below, all_below, largest_below, filter_below}

pub and_both : (a b : Bool) → a && b ≡ true → (a ≡ true) × (b ≡ true)
and_both true b e = (refl, e)
and_both false b e = absurd (false≢true e)

pub or_cases : (a b : Bool) → a || b ≡ true → (a ≡ true) ⊎ (b ≡ true)
or_cases true b e = inl refl
or_cases false b e = inr e

pub or_neither : (a b : Bool) → a || b ≡ false → (a ≡ false) × (b ≡ false)
or_neither true b e = absurd (true≢false e)
or_neither false b e = (refl, e)

pub or_right : (a b : Bool) → b ≡ true → a || b ≡ true
or_right true b e = refl
or_right false b e = e

pub and_true : (a : Bool) → a && true ≡ a
and_true true = refl
and_true false = refl

pub and_false : (a : Bool) → a && false ≡ false
and_false true = refl
and_false false = refl

pub or_true : (a : Bool) → a || true ≡ true
or_true true = refl
or_true false = refl

pub or_false : (a : Bool) → a || false ≡ a
or_false true = refl
or_false false = refl

pub or_none : (a b : Bool) → b ≡ false → a || b ≡ a
or_none true b e = refl
or_none false b e = e

pub and_grouped : (a b c : Bool) → a && (b && c) ≡ (a && b) && c
and_grouped true b c = refl
and_grouped false b c = refl

pub false_by : (a : Bool) → (a ≡ true → ⊥) → a ≡ false
false_by true n = absurd (n refl)
false_by false n = refl

-- SCANS
pub any_none : (n : ℕ) (f : ℕ → Bool) → any_below n f ≡ false → (j : ℕ) → j < n → f j ≡ false
unfolding any_below
any_none zero f e j h = absurd (omega arith)
any_none (suc n) f e j h =
    let both = or_neither (any_below n f) (f n) e in
    elim (ℕ_discrete j n) [ yes p ↦ rw p both.1 | no p ↦ any_none n f both.0 j (omega arith) ]

pub any_nowhere : (n : ℕ) (f : ℕ → Bool) → ((j : ℕ) → j < n → f j ≡ false) → any_below n f ≡ false
unfolding any_below
any_nowhere zero f h = refl
any_nowhere (suc n) f h = rw (any_nowhere n f (λ j l. h j (omega arith)), h n (omega arith))

pub any_found : (n : ℕ) (f : ℕ → Bool) (j : ℕ) → j < n → f j ≡ true → any_below n f ≡ true
unfolding any_below
any_found zero f j h e = absurd (omega arith)
any_found (suc n) f j h e =
    elim (ℕ_discrete j n) [
      | yes p ↦ or_right (any_below n f) (f n) (rw p at e)
      | no p ↦ let r = any_found n f j (omega arith) e in rw r
    ]

pub any_same : (n : ℕ) (f g : ℕ → Bool) → ((j : ℕ) → j < n → f j ≡ g j) → any_below n f ≡ any_below n g
unfolding any_below
any_same zero f g h = refl
any_same (suc n) f g h = rw (any_same n f g (λ j l. h j (omega arith)), h n (omega arith))

pub record Found (n : ℕ) (f : ℕ → Bool) : Type 0 where
  pub index : ℕ
  pub below : index < n
  pub holds : f index ≡ true

pub any_one : (n : ℕ) (f : ℕ → Bool) → any_below n f ≡ true → Found n f
unfolding any_below
any_one zero f e = absurd (false≢true e)
any_one (suc n) f e =
    elim (or_cases (any_below n f) (f n) e) [
      | inl p ↦ let r = any_one n f p in record { index = r.index; below = omega arith; holds = r.holds }
      | inr p ↦ record { index = n; below = omega arith; holds = p }
    ]

pub largest_ge : (n : ℕ) (f : ℕ → ℕ) (j : ℕ) → j < n → f j ≤ largest_below n f
unfolding largest_below
largest_ge zero f j h = absurd (omega arith)
largest_ge (suc n) f j h =
    elim (ℕ_discrete j n) [ yes p ↦ rw p (omega arith) | no p ↦ omega (arith, largest_ge n f j (omega arith)) ]

pub largest_same : (n : ℕ) (f g : ℕ → ℕ) → ((j : ℕ) → j < n → f j ≡ g j) → largest_below n f ≡ largest_below n g
unfolding largest_below
largest_same zero f g h = refl
largest_same (suc n) f g h = rw (largest_same n f g (λ j l. h j (omega arith)), h n (omega arith))

pub all_same : (n : ℕ) (f g : ℕ → Bool) → ((j : ℕ) → j < n → f j ≡ g j) → all_below n f ≡ all_below n g
unfolding all_below
all_same zero f g h = refl
all_same (suc n) f g h = rw (all_same n f g (λ j l. h j (omega arith)), h n (omega arith))

pub all_each : (n : ℕ) (f : ℕ → Bool) → all_below n f ≡ true → (j : ℕ) → j < n → f j ≡ true
unfolding all_below
all_each zero f e j h = absurd (omega arith)
all_each (suc n) f e j h =
    let both = and_both (all_below n f) (f n) e in
    elim (ℕ_discrete j n) [ yes p ↦ rw p both.1 | no p ↦ all_each n f both.0 j (omega arith) ]

pub all_true : (n : ℕ) (f : ℕ → Bool) → ((j : ℕ) → j < n → f j ≡ true) → all_below n f ≡ true
unfolding all_below
all_true zero f h = refl
all_true (suc n) f h = rw (all_true n f (λ j l. h j (omega arith)), h n (omega arith))

-- a choice by a test, by cases on the test
pub by_test : {A : Type 0} (P : A → Type 0) (b : Bool) (x y : A) → (b ≡ true → P x) → (b ≡ false → P y) → P (cond b x y)
by_test P true x y f g = f refl
by_test P false x y f g = g refl

-- the numbers that pass: none of them, or one
pub filter_none : (n : ℕ) (f : ℕ → Bool) → ((j : ℕ) → j < n → f j ≡ false) → filter_below n f ≡ []
unfolding filter_below
filter_none zero f h = refl
filter_none (suc n) f h = rw (filter_none n f (λ j b. h j (omega arith)), h n (omega arith))

pub filter_one :
    (n : ℕ) (f : ℕ → Bool) (k : ℕ) → k < n → f k ≡ true → ((j : ℕ) → j < n → j ≢ k → f j ≡ false) → filter_below n f ≡ k ∷ []
unfolding filter_below
filter_one zero f k b e h = absurd (omega arith)
filter_one (suc n) f k b e h =
    elim (ℕ_discrete k n) [
      | yes z ↦ let e' : f n ≡ true = rw z at e in rw (filter_none n f (λ j c. h j (omega arith) (λ y. omega arith)), e', z)
      | no z ↦ rw (filter_one n f k (omega arith) e (λ j c. h j (omega arith)), h n (omega arith) (λ y. z (sym y)))
    ]
