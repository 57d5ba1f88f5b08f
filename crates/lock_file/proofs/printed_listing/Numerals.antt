-- Decimal numerals: one digit, or a numeral followed by a last digit; their lengths.
use mathlib.Core.Path.{◌≡◌, refl, ◌∙◌}
use mathlib.Core.Bool.{Bool, true, false, cond}
use mathlib.Core.List.{List, [], ◌∷◌, ◌++◌}
use Prim.Native.Nat.{ℕ, zero, suc, ◌+◌, ◌*◌, ◌/◌, ◌%◌, ◌≤◌, ◌<◌}
use native.Mathlib.Omega.{arith}
use native.Mathlib.Numerals.{add-one}
use lib.Dec.{ltb}
use lib.ListN.{length, length-append, drop, get_or, drop_of_length-le}
use lib.Seq.{drop-cons}
use borrow.Author.Tests.{ltb-true, ltb-false, lt-ltb, le-ltb}
use Rattle.lock_file.specs.PrintedListing.Listing.{digit, digits, numeral, number_then, trace_lines, spaced, count_numbers, first_line, refusal_line}
use Rattle.model.specs.declared.Counts.{Counts}

-- fuel of at least the value makes no difference
digits_same : (k j v : ℕ) → v ≤ k → v ≤ j → digits k v ≡ digits j v
unfolding digits
digits_same zero zero v h g = refl
digits_same zero (suc j) v h g = rw (lt-ltb v 10 (omega arith))
digits_same (suc k) zero v h g = rw (lt-ltb v 10 (omega arith))
digits_same (suc k) (suc j) v h g = by (ltb v 10) refl (λ p. digits_same k j (v / 10) (omega arith) (omega arith))
  where
    by :
        (b : Bool) → ltb v 10 ≡ b → (10 ≤ v → digits k (v / 10) ≡ digits j (v / 10)) →
        cond (ltb v 10) (digit v ∷ []) (digits k (v / 10) ++ (digit (v % 10) ∷ []))
        ≡ cond (ltb v 10) (digit v ∷ []) (digits j (v / 10) ++ (digit (v % 10) ∷ []))
    by true e f = rw e
    by false e f = rw (f (ltb-false v 10 e))

pub numeral_small : (v : ℕ) → v < 10 → numeral v ≡ digit v ∷ []
unfolding numeral digits
numeral_small zero h = refl
numeral_small (suc k) h = rw (lt-ltb (suc k) 10 h)

pub numeral_large : (v : ℕ) → 10 ≤ v → numeral v ≡ numeral (v / 10) ++ (digit (v % 10) ∷ [])
unfolding numeral digits
numeral_large zero h = absurd (omega arith)
numeral_large (suc k) h =
    rw (le-ltb (suc k) 10 h, digits_same k (suc k / 10) (suc k / 10) (omega arith) (omega arith))

pub length_small : (v : ℕ) → v < 10 → length (numeral v) ≡ 1
length_small v h = rw (numeral_small v h)

pub length_large : (v : ℕ) → 10 ≤ v → length (numeral v) ≡ length (numeral (v / 10)) + 1
length_large v h = rw (numeral_large v h, length-append)

abbrev pub power_of_ten : ℕ → ℕ
power_of_ten zero = 1
power_of_ten (suc k) = 10 * power_of_ten k

-- a value below 10 to the power k + 1 has at most k + 1 digits
pub length_below : (k v : ℕ) → v < power_of_ten (suc k) → length (numeral v) ≤ suc k
length_below zero v h = omega (arith, length_small v (omega arith))
length_below (suc k) v h = by (ltb v 10) refl (length_below k (v / 10) (omega arith))
  where
    by : (b : Bool) → ltb v 10 ≡ b → length (numeral (v / 10)) ≤ suc k → length (numeral v) ≤ suc (suc k)
    by true e f = omega (arith, length_small v (ltb-true v 10 e))
    by false e f = omega (arith, length_large v (ltb-false v 10 e))

-- a 32-bit number has at most ten digits
pub length_word : (v : ℕ) → v < 4294967296 → length (numeral v) ≤ 10
length_word v h = length_below 9 v (omega arith)

pub length_positive : (v : ℕ) → 1 ≤ length (numeral v)
length_positive v = by (ltb v 10) refl
  where
    by : (b : Bool) → ltb v 10 ≡ b → 1 ≤ length (numeral v)
    by true e = omega (arith, length_small v (ltb-true v 10 e))
    by false e = omega (arith, length_large v (ltb-false v 10 e))

pub length_number : (v b : ℕ) → length (number_then v b) ≡ length (numeral v) + 1
unfolding number_then
length_number v b = rw length-append

-- the spaced numbers from k on: the next, or only the line feed
pub spaced_next : (ns : List ℕ) (k : ℕ) → k < length ns → spaced (drop k ns) ≡ (32 ∷ numeral (get_or ns k 0)) ++ spaced (drop (k + 1) ns)
unfolding spaced
spaced_next ns k h = rw (drop-cons ns k 0 h, add-one)

pub spaced_over : (ns : List ℕ) (k : ℕ) → length ns ≤ k → spaced (drop k ns) ≡ 10 ∷ []
unfolding spaced
spaced_over ns k h = rw (drop_of_length-le ns h)

pub spaced_length_next :
    (ns : List ℕ) (k : ℕ) → k < length ns → length (spaced (drop k ns)) ≡ length (numeral (get_or ns k 0)) + 1 + length (spaced (drop (k + 1) ns))
spaced_length_next ns k h = rw (spaced_next ns k h) (length-append (32 ∷ numeral (get_or ns k 0)) (spaced (drop (k + 1) ns)) ∙ omega arith)

pub length_first_line : (x : Counts) → length (first_line x) ≡ 2 + length (spaced (count_numbers x))
unfolding first_line
length_first_line x = length-append (111 ∷ 107 ∷ []) (spaced (count_numbers x))

pub length_refusal_line : (n p : ℕ) → length (refusal_line n p) ≡ 7 + length (spaced (n ∷ p ∷ []))
unfolding refusal_line
length_refusal_line n p = length-append (114 ∷ 101 ∷ 102 ∷ 117 ∷ 115 ∷ 101 ∷ 100 ∷ []) (spaced (n ∷ p ∷ []))

-- the trace lines from k on: the next, or none
pub trace_lines_next :
    (is : List ℕ) (k : ℕ) → k < length is → trace_lines (drop k is) ≡ number_then (get_or is k 0) 10 ++ trace_lines (drop (k + 1) is)
unfolding trace_lines
trace_lines_next is k h = rw (drop-cons is k 0 h, add-one)

pub trace_lines_over : (is : List ℕ) (k : ℕ) → length is ≤ k → trace_lines (drop k is) ≡ []
unfolding trace_lines
trace_lines_over is k h = rw (drop_of_length-le is h)

pub trace_length_next :
    (is : List ℕ) (k : ℕ) → k < length is →
    length (trace_lines (drop k is)) ≡ length (numeral (get_or is k 0)) + 1 + length (trace_lines (drop (k + 1) is))
trace_length_next is k h = rw (trace_lines_next is k h, length-append, length_number)
