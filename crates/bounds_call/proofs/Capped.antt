-- Sums and products of capped numbers.
use mathlib.Core.Path.{◌≡◌, refl, ap, ◌∙◌}
use mathlib.Core.Bool.{Bool, true, false, cond}
use Rattle.std.specs.Int.{from_bool}
use Prim.Native.Nat.{ℕ, zero, suc, ◌+◌, ◌*◌}
use native.Mathlib.Omega.{arith}
use native.Mathlib.Nat.{mul_comm}
use Rattle.bounds.specs.Answers.{capped}
use Rattle.bounds_call.proofs.Filling.{capped_times}

pub capped_sum : (a b : ℕ) → capped (capped a + capped b) ≡ capped (a + b)
unfolding capped
capped_sum a b = omega arith

-- with one capped summand
pub capped_left : (a b : ℕ) → capped (capped a + b) ≡ capped (a + b)
unfolding capped
capped_left a b = omega arith

pub capped_front : (a b : ℕ) → capped (a + capped b) ≡ capped (a + b)
unfolding capped
capped_front a b = omega arith

-- with one capped factor
pub capped_right : (a b : ℕ) → capped (a * capped b) ≡ capped (a * b)
unfolding capped
capped_right zero b = let z : 0 * capped b ≡ 0 * b = omega arith in ap capped z
capped_right (suc a) b = capped_times (suc a) b (omega arith)

pub capped_first : (a b : ℕ) → capped (capped a * b) ≡ capped (a * b)
capped_first a b = ap capped (mul_comm (capped a) b) ∙ capped_right b a ∙ ap capped (mul_comm b a)

-- a Boolean as a number
pub one_if : (b : Bool) → from_bool b ≡ cond b 1 0
one_if true = refl
one_if false = refl
