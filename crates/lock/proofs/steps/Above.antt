-- Counters within their limits, domain by domain.
use mathlib.Core.Path.{◌≡◌}
use mathlib.Core.Bool.{true, false}
use mathlib.Core.List.{List}
use Prim.Native.Nat.{ℕ, ◌+◌, ◌≤◌, ◌<◌}
use native.Mathlib.Omega.{arith}
use native.Mathlib.Decide.{ℕ_discrete}
use lib.ListN.{get_or}
use lib.Bits.{bit_or, or_add_and, and_le_l, and_le_r}
use Rattle.model.specs.Counters.{count_above, any_above}
use Rattle.model.proofs.Tests.{any_found, any_nowhere}
use Rattle.model.specs.declared.Counters.{Counters}

-- the OR of two numbers is at least each of them
pub or_above_left : (a b : ℕ) → a ≤ bit_or a b
or_above_left a b = omega (arith, or_add_and a b, and_le_r a b)

pub or_above_right : (a b : ℕ) → b ≤ bit_or a b
or_above_right a b = omega (arith, or_add_and a b, and_le_l a b)

-- a bound on the numbers so far and on the next one is a bound on all of them
pub one_more_below : (vs : List ℕ) (d m n : ℕ) → ((j : ℕ) → j < d → get_or vs j 0 ≤ m) → m ≤ n → get_or vs d 0 ≤ n → (j : ℕ) → j < d + 1 → get_or vs j 0 ≤ n
one_more_below vs d m n h g l j b = elim (ℕ_discrete j d) [ yes z ↦ rw z l | no z ↦ omega (arith, h j (omega arith)) ]

module _ (c : Counters) where
  pub some_above : (d : ℕ) → d < 64 → count_above c d ≡ true → any_above c ≡ true
  unfolding any_above
  some_above d h e = any_found 64 (count_above c) d h e

  pub none_above : ((j : ℕ) → j < 64 → count_above c j ≡ false) → any_above c ≡ false
  unfolding any_above
  none_above h = any_nowhere 64 (count_above c) h
