-- The parts of a listing stored in order in a buffer.
use mathlib.Core.Path.{◌≡◌, sym}
use mathlib.Core.List.{List}
use Prim.Native.Nat.{ℕ, suc, ◌+◌, ◌/◌, ◌%◌, ◌≤◌, ◌<◌}
use native.Mathlib.Omega.{arith}
use lib.ListN.{length, set, get_or, drop}
use lib.Seq.{sets}
use Rattle.model.proofs.Storing.{sets_append, sets_last}
use Rattle.lock_file.specs.PrintedListing.Listing.{digit, numeral, number_then, trace_lines, spaced}
use Rattle.lock_file.proofs.printed_listing.Numerals.{numeral_small, numeral_large, trace_lines_next, spaced_next}

-- a numeral's last digit may be stored first; so may its only one
pub last_digit :
    (l : List ℕ) (at v k : ℕ) → 10 ≤ v → k ≡ length (numeral (v / 10)) →
    sets (set l (at + k) (digit (v % 10))) at (numeral (v / 10)) ≡ sets l at (numeral v)
last_digit l at v k h e = rw (e, numeral_large v h) (sym (sets_last l at (numeral (v / 10)) (digit (v % 10))))

pub only_digit : (l : List ℕ) (at v : ℕ) → v < 10 → set l at (digit v) ≡ sets l at (numeral v)
only_digit l at v h = rw (numeral_small v h)

-- the next spaced number, and those after it
pub spaced_written :
    (l : List ℕ) (at : ℕ) (ns : List ℕ) (k : ℕ) → k < length ns →
    sets l at (spaced (drop k ns))
    ≡ sets (sets (set l at 32) (at + 1) (numeral (get_or ns k 0))) (at + 1 + length (numeral (get_or ns k 0))) (spaced (drop (k + 1) ns))
spaced_written l at ns k h =
    let e : at + 1 ≡ suc at = omega arith in
    rw (spaced_next ns k h, e) (sets_append (set l at 32) (suc at) (numeral (get_or ns k 0)) (spaced (drop (k + 1) ns)))

-- the next line of a trace, and those after it
pub trace_written :
    (l : List ℕ) (at : ℕ) (is : List ℕ) (k : ℕ) → k < length is →
    sets l at (trace_lines (drop k is))
    ≡ sets (sets l at (number_then (get_or is k 0) 10)) (at + length (number_then (get_or is k 0) 10)) (trace_lines (drop (k + 1) is))
trace_written l at is k h =
    rw (trace_lines_next is k h) (sets_append l at (number_then (get_or is k 0) 10) (trace_lines (drop (k + 1) is)))
