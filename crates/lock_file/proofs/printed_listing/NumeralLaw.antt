-- NUMERALS consist of digits, read back as their value, and have no leading zero.
use mathlib.Core.Path.{◌≡◌, refl}
use mathlib.Core.Bool.{Bool, true, false}
use mathlib.Core.List.{List, [], ◌∷◌, ◌++◌}
use Prim.Native.Nat.{ℕ, zero, suc, ◌+◌, ◌*◌, ◌-◌, ◌/◌, ◌%◌, ◌≤◌, ◌<◌}
use native.Mathlib.Omega.{arith}
use native.Mathlib.Decide.{ℕ_discrete}
use lib.Dec.{ltb}
use lib.ListN.{length, get_or, length-append, get_or-append}
use lib.Seq.{get_or-append_seam}
use borrow.Author.Tests.{ltb-true, ltb-false}
use Rattle.lock_file.specs.PrintedListing.Listing.{digit, numeral}
use Rattle.lock_file.specs.PrintedListing.ListingLaws.{value_from, Decimal, NumeralLaw}
use Rattle.lock_file.proofs.printed_listing.Numerals.{numeral_small, numeral_large}

pub value_last : (v : ℕ) (xs : List ℕ) (b : ℕ) → value_from v (xs ++ (b ∷ [])) ≡ 10 * value_from v xs + (b - 48)
unfolding value_from
value_last v [] b = refl
value_last v (x ∷ xs) b = value_last (10 * v + (x - 48)) xs b

one_digit : (v : ℕ) → v < 10 → Decimal v (digit v ∷ [])
unfolding value_from
one_digit v h =
    record {
      not_empty = omega arith;
      reads_back = omega arith;
      digits_only = only;
      no_leading_zero = λ n e. n (omega arith);
    }
  where
    only : (k : ℕ) → k < 1 → (48 ≤ get_or (digit v ∷ []) k 0) × (get_or (digit v ∷ []) k 0 ≤ 57)
    only zero l = (omega arith, omega arith)
    only (suc k) l = absurd (omega arith)

last_after : (v : ℕ) (xs : List ℕ) → 10 ≤ v → Decimal (v / 10) xs → Decimal v (xs ++ (digit (v % 10) ∷ []))
last_after v xs h d =
    let long = length-append xs (digit (v % 10) ∷ []) in
    record {
      not_empty = omega arith;
      reads_back = rw (value_last 0 xs (digit (v % 10)), d.reads_back) (omega arith);
      digits_only =
          λ k l.
          elim (ℕ_discrete k (length xs)) [
            | yes z ↦ rw (z, get_or-append_seam xs (digit (v % 10)) [] 0) (omega arith, omega arith)
            | no z ↦ rw (get_or-append xs (digit (v % 10) ∷ []) 0 k (omega arith)) (d.digits_only k (omega arith))
          ];
      no_leading_zero = λ n. rw (get_or-append xs (digit (v % 10) ∷ []) 0 0 d.not_empty) (d.no_leading_zero (λ e. omega arith));
    }

-- by induction on a bound of the value
decimal : (k v : ℕ) → v ≤ k → Decimal v (numeral v)
decimal zero v h = rw (numeral_small v (omega arith)) (one_digit v (omega arith))
decimal (suc k) v h = by (ltb v 10) refl (λ l. decimal k (v / 10) (omega arith))
  where
    by : (b : Bool) → ltb v 10 ≡ b → (10 ≤ v → Decimal (v / 10) (numeral (v / 10))) → Decimal v (numeral v)
    by true e f = rw (numeral_small v (ltb-true v 10 e)) (one_digit v (ltb-true v 10 e))
    by false e f =
        let l = ltb-false v 10 e in
        rw (numeral_large v l) (last_after v (numeral (v / 10)) l (f l))

pub numeral_law : NumeralLaw
unfolding NumeralLaw
numeral_law v = decimal v v (omega arith)
