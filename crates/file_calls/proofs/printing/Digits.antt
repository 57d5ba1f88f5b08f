-- How many digits a numeral has, from the power of ten that is not above its value.
use Rattle.std.proofs.Common.{◌≡◌, ℕ, zero, suc, ◌+◌, ◌*◌, ◌/◌, ◌^◌, ◌<◌, ◌≤◌, Option, Some, None, length, arith, pow-suc}
use Rattle.std.specs.Prelude.{IfSome, IfNone, unwrap_or}
use Rattle.lock_file.specs.PrintedListing.Listing.{numeral}
use Rattle.lock_file.proofs.printed_listing.Numerals.{length_small, length_large}

length_powers : (k v : ℕ) → 10 ^ k ≤ v → v < 10 * 10 ^ k → length (numeral v) ≡ suc k
length_powers zero v h g = length_small v g
length_powers (suc k) v h g =
    let next = pow-suc 10 k in
    let shorter = length_powers k (v / 10) (omega (arith, h, g, next)) (omega (arith, h, g, next)) in
    omega (arith, shorter, length_large v (omega (arith, h, g, next)))

pub length_logarithm :
    (v : ℕ) (o : Option ℕ) → IfNone o (v ≡ 0) → IfSome o (λ k. 10 ^ k ≤ v) → IfSome o (λ k. v < 10 * 10 ^ k) →
    unwrap_or o 0 + 1 ≡ length (numeral v)
length_logarithm v (Some k) z h g = omega (arith, length_powers k v h g)
length_logarithm v None z h g = omega (arith, length_small v (omega (arith, z)))
