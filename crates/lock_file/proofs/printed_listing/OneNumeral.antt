-- THE ONLY NUMERAL of a value above 0: decimal bytes with this value are its numeral.
use mathlib.Core.Path.{◌≡◌, refl, sym, ◌∙◌, ap}
use mathlib.Core.List.{List, [], ◌∷◌, ◌++◌}
use mathlib.Core.Logic.{◌≢◌}
use Prim.Native.Nat.{ℕ, zero, suc, ◌+◌, ◌*◌, ◌-◌, ◌/◌, ◌%◌, ◌≤◌}
use native.Mathlib.Omega.{arith}
use lib.ListN.{length, length-append, get_or-append}
use lib.Seq.{get_or-append_seam}
use Rattle.lock_file.specs.PrintedListing.Listing.{digit, numeral}
use Rattle.lock_file.specs.PrintedListing.ListingLaws.{value_from, Decimal, OneNumeralLaw}
use Rattle.lock_file.proofs.printed_listing.Numerals.{numeral_small, numeral_large}
use Rattle.lock_file.proofs.printed_listing.NumeralLaw.{value_last}

-- the last byte and those before it
record LastOf (bytes : List ℕ) : Type 0 where
  pub front : List ℕ
  pub last : ℕ
  pub there : bytes ≡ front ++ (last ∷ [])

last_of : (b : ℕ) (bs : List ℕ) → LastOf (b ∷ bs)
last_of b [] = record { front = []; last = b; there = refl }
last_of b (c ∷ cs) = let x = last_of c cs in record { front = b ∷ x.front; last = x.last; there = ap (λ l. b ∷ l) x.there }

-- further digits do not make the value smaller
at_least : (v : ℕ) (bs : List ℕ) → v ≤ value_from v bs
unfolding value_from
at_least v [] = omega arith
at_least v (b ∷ bs) = let m = at_least (10 * v + (b - 48)) bs in omega arith

-- the last digit is the value's remainder by ten
record Ends (v : ℕ) (front : List ℕ) (last : ℕ) : Type 0 where
  pub by_ten : value_from 0 front ≡ v / 10
  pub is_digit : last ≡ digit (v % 10)

ends : (v : ℕ) (xs : List ℕ) (b : ℕ) → Decimal v (xs ++ (b ∷ [])) → Ends v xs b
ends v xs b d =
    let sum : 10 * value_from 0 xs + (b - 48) ≡ v = sym (value_last 0 xs b) ∙ d.reads_back in
    let long = length-append xs (b ∷ []) in
    let limits : (48 ≤ b) × (b ≤ 57) = rw (get_or-append_seam xs b [] 0) at (d.digits_only (length xs) (omega arith)) in
    let low = limits.0 in
    let high = limits.1 in
    record { by_ten = omega arith; is_digit = omega arith }

-- a first digit that is not 0 makes a value that is not 0
starts : (v x : ℕ) (xs : List ℕ) (b : ℕ) → v ≢ 0 → Decimal v ((x ∷ xs) ++ (b ∷ [])) → 1 ≤ value_from 0 (x ∷ xs)
unfolding value_from
starts v x xs b n d =
    let long = length-append xs (b ∷ []) in
    let limits = d.digits_only 0 (omega arith) in
    let low : 48 ≤ x = limits.0 in
    let no_zero : x ≢ 48 = d.no_leading_zero n in
    let more = at_least (10 * 0 + (x - 48)) xs in
    omega arith

-- the digits before the last are those of a tenth of the value
shorter : (v x : ℕ) (xs : List ℕ) (b : ℕ) → v ≢ 0 → Decimal v ((x ∷ xs) ++ (b ∷ [])) → Decimal (v / 10) (x ∷ xs)
shorter v x xs b n d =
    let long = length-append (x ∷ xs) (b ∷ []) in
    record {
      not_empty = omega arith;
      reads_back = (ends v (x ∷ xs) b d).by_ten;
      digits_only = λ k l. rw (get_or-append (x ∷ xs) (b ∷ []) 0 k l) at (d.digits_only k (omega arith));
      no_leading_zero = λ m. d.no_leading_zero n;
    }

by_last :
    (v : ℕ) (xs : List ℕ) (b : ℕ) → v ≢ 0 → Decimal v (xs ++ (b ∷ [])) → (v / 10 ≢ 0 → Decimal (v / 10) xs → xs ≡ numeral (v / 10)) →
    xs ++ (b ∷ []) ≡ numeral v
unfolding value_from
by_last v [] b n d before =
    let e = ends v [] b d in
    let tenth : 0 ≡ v / 10 = e.by_ten in
    let digit_of : b ≡ digit v = e.is_digit ∙ omega arith in
    rw (numeral_small v (omega arith), digit_of)
by_last v (x ∷ xs) b n d before =
    let e = ends v (x ∷ xs) b d in
    let some = starts v x xs b n d in
    let tenth = e.by_ten in
    rw (numeral_large v (omega arith), ← before (λ z. omega arith) (shorter v x xs b n d), ← e.is_digit)

-- by induction on a bound of the value
one : (k v : ℕ) (bytes : List ℕ) → v ≤ k → v ≢ 0 → Decimal v bytes → bytes ≡ numeral v
one zero v bytes h n d = absurd (n (omega arith))
one (suc k) v [] h n d = absurd (let l = d.not_empty in omega arith)
one (suc k) v (b ∷ bs) h n d =
    let x = last_of b bs in
    rw x.there (by_last v x.front x.last n (rw x.there at d) (λ m f. one k (v / 10) x.front (omega arith) m f))

pub one_numeral_law : OneNumeralLaw
unfolding OneNumeralLaw
one_numeral_law v bytes n d = one v v bytes (omega arith) n d
