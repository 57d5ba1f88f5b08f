-- Counts of threads: the only one of those below a bound that pass a test.
use mathlib.Core.Path.{◌≡◌, refl}
use mathlib.Core.Bool.{Bool, true, false, cond}
use mathlib.Core.List.{List, [], ◌∷◌, ◌++◌, append-nil}
use Prim.Native.Nat.{ℕ, zero, suc, ◌+◌, ◌<◌}
use native.Mathlib.Omega.{arith}
use Rattle.model.specs.Scans.{filter_below}
use Rattle.chain_call.specs.declared.tables.Count.{Count}
use Rattle.chain_call.specs.declared.tables.Count.TheVariants.{Nobody, Only, Several}
use Rattle.chain_call.specs.Tables.{more, more_if, count_below}

-- the list is empty, has one element below the bound, or several
pub data Counted (n : ℕ) : List ℕ → Count → Type 0 where
  none : Counted n [] Nobody
  one : (j : ℕ) → j < n → Counted n (j ∷ []) (Only j)
  several : (j k : ℕ) (js : List ℕ) → Counted n (j ∷ k ∷ js) Several

counted_more : (n : ℕ) (xs : List ℕ) (x : Count) → Counted n xs x → Counted (suc n) (xs ++ (n ∷ [])) (more x n)
counted_more n _ _ none = one n (omega arith)
counted_more n _ _ (one j h) = several j n []
counted_more n _ _ (several j k js) = several j k (js ++ (n ∷ []))

counted_wider : (n : ℕ) (xs : List ℕ) (x : Count) → Counted n xs x → Counted (suc n) xs x
counted_wider n _ _ none = none
counted_wider n _ _ (one j h) = one j (omega arith)
counted_wider n _ _ (several j k js) = several j k js

pub counted : (n : ℕ) (f : ℕ → Bool) → Counted n (filter_below n f) (count_below n f)
unfolding filter_below count_below
counted zero f = none
counted (suc n) f = by (counted n f) (f n) refl
  where
    by : Counted n (filter_below n f) (count_below n f) → (c : Bool) → f n ≡ c → Counted (suc n) (filter_below n f ++ cond (f n) (n ∷ []) []) (more_if (f n) (count_below n f) n)
    by r true e = rw e (counted_more n (filter_below n f) (count_below n f) r)
    by r false e = rw (e, append-nil (filter_below n f)) (counted_wider n (filter_below n f) (count_below n f) r)

pub count_same : (n : ℕ) (f g : ℕ → Bool) → ((j : ℕ) → j < n → f j ≡ g j) → count_below n f ≡ count_below n g
unfolding count_below
count_same zero f g h = refl
count_same (suc n) f g h = rw (h n (omega arith), count_same n f g (λ j b. h j (omega arith))) refl

-- one more thread
pub count_next : (n : ℕ) (f : ℕ → Bool) (x : Count) → x ≡ more_if (f n) (count_below n f) n → x ≡ count_below (n + 1) f
unfolding count_below
count_next n f x e = let z : n + 1 ≡ suc n = omega arith in rw z e

pub count_first : (f : ℕ → Bool) → Nobody ≡ count_below 0 f
unfolding count_below
count_first f = refl
