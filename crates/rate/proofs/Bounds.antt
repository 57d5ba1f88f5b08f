-- Bounds of whole numbers: the products of 16-bit numbers fit in 32 bits and are exact as floats.
use Prim.Native.Nat.{ℕ, ◌-◌, ◌*◌, ◌^◌, ◌≤◌, ◌<◌}
use native.Mathlib.Nat.{le_trans, lt_of_le_of_lt, mul-le-mul}
use native.Mathlib.Omega.{arith}
use lib.Dec.{lit≤, lit<}

-- the largest product
pub product_at_most : (a b : ℕ) → a < 2 ^ 16 → b < 2 ^ 16 → a * b ≤ 4294836225
product_at_most a b h k = le_trans (mul-le-mul (at_most a h) (at_most b k)) (lit≤ tt)
  where
    at_most : (c : ℕ) → c < 2 ^ 16 → c ≤ 65535
    at_most c h = omega arith

pub product_fits : (a b : ℕ) → a < 2 ^ 16 → b < 2 ^ 16 → a * b < 2 ^ 32
product_fits a b h k = lt_of_le_of_lt (product_at_most a b h k) (lit< tt)

pub one_less : (a : ℕ) → a < 2 ^ 16 → a - 1 < 2 ^ 16
one_less a h = omega arith
