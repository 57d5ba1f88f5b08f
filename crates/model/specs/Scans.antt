-- Tests over all numbers below a bound, and over a list.
use Rattle.std.specs.Prelude.{Bool, true, false, ◌&&◌, ◌||◌, cond, List, [], ◌∷◌, ◌++◌, ℕ, zero, suc, max}

-- some number below n passes
unfoldable pub any_below : ℕ → (ℕ → Bool) → Bool
any_below zero f = false
any_below (suc n) f = any_below n f || f n

-- every number below n passes
unfoldable pub all_below : ℕ → (ℕ → Bool) → Bool
all_below zero f = true
all_below (suc n) f = all_below n f && f n

-- the largest value for a number below n; 0 if n is 0
unfoldable pub largest_below : ℕ → (ℕ → ℕ) → ℕ
largest_below zero f = 0
largest_below (suc n) f = max (largest_below n f) (f n)

-- the numbers below n that pass, in order
unfoldable pub filter_below : ℕ → (ℕ → Bool) → List ℕ
filter_below zero f = []
filter_below (suc n) f = filter_below n f ++ cond (f n) (n ∷ []) []

-- every test of a list passes
abbrev pub all : List Bool → Bool
all [] = true
all (b ∷ bs) = b && all bs
