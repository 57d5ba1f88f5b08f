-- The length of a listing, and its maximum.
use mathlib.Core.Path.{◌≡◌, ◌∙◌}
use mathlib.Core.List.{List, [], ◌∷◌}
use Prim.Native.Nat.{ℕ, suc, ◌+◌, ◌*◌, ◌≤◌, ◌<◌}
use native.Mathlib.Omega.{arith}
use lib.ListN.{length, get_or, length-append}
use Rattle.model.specs.declared.Counts.{Counts}
use Rattle.lock_file.specs.PrintedListing.Listing.{numeral, space, number_then, trace_lines, spaced, first_line, listing}
use Rattle.lock_file.specs.PrintedListing.ListingLaws.{FiveDigits, LengthLaw}
use Rattle.lock_file.proofs.printed_listing.Numerals.{length_below, length_number, length_first_line}

pub length_listing :
    (x : Counts) (is : List ℕ) → length (listing x is) ≡ length (first_line x) + length (trace_lines is)
unfolding listing
length_listing x is = rw length-append

-- one more number after a space
spaced_more : (n : ℕ) (ns : List ℕ) → length (spaced (n ∷ ns)) ≡ length (numeral n) + 1 + length (spaced ns)
unfolding spaced
spaced_more n ns = length-append (space ∷ numeral n) (spaced ns) ∙ omega arith

spaced_five : (n : ℕ) (ns : List ℕ) → n < 100000 → length (spaced (n ∷ ns)) ≤ 6 + length (spaced ns)
spaced_five n ns h = omega (arith, spaced_more n ns, length_below 4 n h)

first_line_short : (c : Counts) → FiveDigits c → length (first_line c) ≤ 39
unfolding spaced
first_line_short c f =
    let a = spaced_five c.crossed [] f.crossed in
    let b = spaced_five c.passed (c.crossed ∷ []) f.passed in
    let d = spaced_five c.root (c.passed ∷ c.crossed ∷ []) f.root in
    let e = spaced_five c.stays (c.root ∷ c.passed ∷ c.crossed ∷ []) f.stays in
    let g = spaced_five c.entries (c.stays ∷ c.root ∷ c.passed ∷ c.crossed ∷ []) f.entries in
    let h = spaced_five c.steps (c.entries ∷ c.stays ∷ c.root ∷ c.passed ∷ c.crossed ∷ []) f.steps in
    omega (arith, length_first_line c)

trace_short : (is : List ℕ) → ((k : ℕ) → get_or is k 0 < 1000) → length (trace_lines is) ≤ 4 * length is
unfolding trace_lines
trace_short [] h = omega arith
trace_short (i ∷ is) h =
    let more = length-append (number_then i 10) (trace_lines is) in
    omega (arith, more, length_number i 10, length_below 2 i (h 0), trace_short is (λ k. h (suc k)))

pub length_law : LengthLaw
unfolding LengthLaw
length_law c is f h = omega (arith, length_listing c is, first_line_short c f, trace_short is h)
