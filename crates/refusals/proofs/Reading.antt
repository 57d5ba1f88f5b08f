-- A tree given by its arrays: a word that is read is the array's.
use mathlib.Core.Path.{◌≡◌, refl}
use mathlib.Core.Bool.{Bool, true, false, not}
use mathlib.Core.List.{List}
use Prim.Native.Nat.{ℕ, ◌<◌}
use native.Mathlib.Omega.{arith}
use native.Mathlib.Nat.{mod-eq_of_lt}
use lib.ListN.{get_or}
use Rattle.model.specs.declared.TreeWords.{TreeWords}
use Rattle.model.specs.Trees.{tree_of}
use Rattle.model.proofs.Trees.Reading.{read_in}
use Rattle.refusals.specs.Arrays.{words_in, tree_in}

module _ (w : TreeWords) where
  pub parent_of : (d : ℕ) → 0 < d → d < w.domains → (tree_of w).parent d ≡ get_or w.parents d 0
  unfolding tree_of
  parent_of d p q = read_in 1 w.domains w.parents d (omega arith) q

  pub threshold_of : (d : ℕ) → 0 < d → d < w.domains → get_or w.thresholds d 0 < 65536 → (tree_of w).threshold d ≡ get_or w.thresholds d 0
  unfolding tree_of
  threshold_of d p q f = rw (read_in 1 w.domains w.thresholds d (omega arith) q) (mod-eq_of_lt f)

  pub home_of : (i : ℕ) → i < w.threads → (tree_of w).home i ≡ get_or w.homes i 0
  unfolding tree_of
  home_of i q = read_in 0 w.threads w.homes i (omega arith) q

-- the same for a tree that is given by its arrays
module _ (n m : ℕ) (ps ts hs : List ℕ) where
  pub parent_in : (d : ℕ) → 0 < d → d < n → (tree_in n m ps ts hs).parent d ≡ get_or ps d 0
  parent_in = parent_of (words_in n m ps ts hs)

  pub threshold_in : (d : ℕ) → 0 < d → d < n → get_or ts d 0 < 65536 → (tree_in n m ps ts hs).threshold d ≡ get_or ts d 0
  threshold_in = threshold_of (words_in n m ps ts hs)

  pub home_in : (i : ℕ) → i < m → (tree_in n m ps ts hs).home i ≡ get_or hs i 0
  home_in = home_of (words_in n m ps ts hs)

pub not_not : (b : Bool) → not (not b) ≡ b
not_not true = refl
not_not false = refl
