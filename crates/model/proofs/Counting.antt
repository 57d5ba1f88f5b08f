-- The count of threads at Inside is at most 1 exactly if any two threads at Inside are the same thread.
use mathlib.Core.Path.{◌≡◌, refl, ◌∙◌}
use mathlib.Core.Bool.{Bool, true, false, cond, false≢true}
use mathlib.Core.Logic.{◌≢◌}
use Prim.Native.Nat.{ℕ, zero, suc, ◌+◌, ◌≤◌, ◌<◌}
use native.Mathlib.Omega.{arith}
use native.Mathlib.Decide.{ℕ_discrete}
use Rattle.model.specs.declared.Place.{Place}
use Rattle.model.specs.declared.Place.TheVariants.{Idle, Prep, Swap, Link, Wait, Inside, Check, Help, Cas, Linger, Grant, Draw, Watch, Raise, Invalid}
use Rattle.model.specs.declared.State.{State}
use Rattle.model.specs.Places.{is_inside}
use Rattle.model.specs.States.{place, inside_below, inside_count}
use Rattle.model.specs.Meanings.{InsideCountLaw}

-- only Inside passes the test
is_inside_only : (p : Place) → is_inside p ≡ true → p ≡ Inside
unfolding is_inside
is_inside_only Idle e = absurd (false≢true e)
is_inside_only (Prep l) e = absurd (false≢true e)
is_inside_only (Swap l) e = absurd (false≢true e)
is_inside_only (Link l p) e = absurd (false≢true e)
is_inside_only (Wait l) e = absurd (false≢true e)
is_inside_only Inside e = refl
is_inside_only (Check l) e = absurd (false≢true e)
is_inside_only (Help l) e = absurd (false≢true e)
is_inside_only (Cas l) e = absurd (false≢true e)
is_inside_only (Linger l) e = absurd (false≢true e)
is_inside_only (Grant l r w) e = absurd (false≢true e)
is_inside_only Draw e = absurd (false≢true e)
is_inside_only Watch e = absurd (false≢true e)
is_inside_only Raise e = absurd (false≢true e)
is_inside_only Invalid e = absurd (false≢true e)

nobody_inside : (n : ℕ) (s : State) → ((j : ℕ) → j < n → place s j ≢ Inside) → inside_below n s ≡ 0
unfolding inside_below
nobody_inside zero s h = refl
nobody_inside (suc n) s h = by (is_inside (place s n)) refl (nobody_inside n s (λ j b. h j (omega arith)))
  where
    by : (b : Bool) → is_inside (place s n) ≡ b → inside_below n s ≡ 0 → inside_below n s + cond (is_inside (place s n)) 1 0 ≡ 0
    by true e r = absurd (h n (omega arith) (is_inside_only (place s n) e))
    by false e r = rw e (omega arith)

one_at_most : (n : ℕ) (s : State) → ((i j : ℕ) → i < n → j < n → place s i ≡ Inside → place s j ≡ Inside → i ≡ j) → inside_below n s ≤ 1
unfolding inside_below
one_at_most zero s h = omega arith
one_at_most (suc n) s h = by (is_inside (place s n)) refl (one_at_most n s (λ i j a b. h i j (omega arith) (omega arith)))
  where
    by : (b : Bool) → is_inside (place s n) ≡ b → inside_below n s ≤ 1 → inside_below n s + cond (is_inside (place s n)) 1 0 ≤ 1
    by true e r =
        let nobody = nobody_inside n s (λ j b p. let z = h j n (omega arith) (omega arith) p (is_inside_only (place s n) e) in omega arith) in
        rw e (omega arith)
    by false e r = rw e (omega arith)

-- a thread at Inside is counted
inside_counted : (n : ℕ) (s : State) (i : ℕ) → i < n → place s i ≡ Inside → 1 ≤ inside_below n s
unfolding inside_below is_inside
inside_counted zero s i h e = absurd (omega arith)
inside_counted (suc n) s i h e =
    elim (ℕ_discrete i n) [ yes p ↦ rw (rw p at e) (omega arith) | no p ↦ let r = inside_counted n s i (omega arith) e in omega arith ]

-- if thread n is Inside and the count up to it is at most 1, no lower thread is Inside
last_alone : (n : ℕ) (s : State) → inside_below (suc n) s ≤ 1 → place s n ≡ Inside → (j : ℕ) → j < suc n → place s j ≡ Inside → n ≡ j
unfolding inside_below is_inside
last_alone n s c e j l z =
    elim (ℕ_discrete j n) [
      | yes p ↦ omega arith
      | no p ↦ absurd (let r = inside_counted n s j (omega arith) z in let d = rw e at c in omega arith)
    ]

same_inside : (n : ℕ) (s : State) → inside_below n s ≤ 1 → (i j : ℕ) → i < n → j < n → place s i ≡ Inside → place s j ≡ Inside → i ≡ j
unfolding inside_below
same_inside zero s c i j h l e z = absurd (omega arith)
same_inside (suc n) s c i j h l e z =
    elim (ℕ_discrete i n) [
      | yes p ↦ p ∙ last_alone n s c (rw p at e) j l z
      | no p ↦ elim (ℕ_discrete j n) [
        | yes q ↦ absurd (let r = last_alone n s c (rw q at z) i h e in omega arith)
        | no q ↦ same_inside n s (omega arith) i j (omega arith) (omega arith) e z
      ]
    ]

pub inside_count_law : InsideCountLaw
unfolding InsideCountLaw inside_count
inside_count_law s = (same_inside 256 s, one_at_most 256 s)
