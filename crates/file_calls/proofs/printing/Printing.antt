-- A text printed at the front of a buffer, or not at all.
use mathlib.Core.Path.{◌≡◌, refl, sym, ◌∙◌}
use mathlib.Core.Bool.{Bool, true, false, cond}
use lib.Dec.{ltb}
use Rattle.std.specs.Prelude.{Option, Some, None, unwrap_or}
use mathlib.Core.List.{List, ◌++◌}
use Prim.Native.Nat.{ℕ, ◌+◌, ◌≤◌, ◌<◌}
use native.Mathlib.Omega.{arith}
use lib.ListN.{length, drop}
use lib.Seq.{sets}
use borrow.Author.Tests.{lt-ltb, le-ltb, ltb-true, ltb-false}
use Rattle.model.specs.declared.Counts.{Counts}
use Rattle.model.proofs.Storing.{sets_append, sets_front}
use Rattle.lock_file.specs.PrintedListing.Listing.{spaced, first_line, trace_lines, listing, printed, printed_length, fitted}

pub length_short : (ls : List ℕ) (room : ℕ) → room < length ls → printed_length ls room ≡ 0
unfolding printed_length
length_short ls room h = rw (lt-ltb room (length ls) h)

pub length_fits : (ls : List ℕ) (room : ℕ) → length ls ≤ room → printed_length ls room ≡ length ls
unfolding printed_length
length_fits ls room h = rw (le-ltb room (length ls) h)

pub fitted_short : (ls : List ℕ) (room : ℕ) → room < length ls → fitted ls room ≡ None
unfolding fitted
fitted_short ls room h = rw (lt-ltb room (length ls) h)

pub fitted_fits : (ls : List ℕ) (room : ℕ) → length ls ≤ room → fitted ls room ≡ Some (length ls)
unfolding fitted
fitted_fits ls room h = rw (le-ltb room (length ls) h)

pub fitted_or_none : (ls : List ℕ) (room : ℕ) → unwrap_or (fitted ls room) 0 ≡ printed_length ls room
unfolding fitted printed_length
fitted_or_none ls room = go (ltb room (length ls))
  where
    go : (b : Bool) → unwrap_or (cond b None (Some (length ls))) 0 ≡ cond b 0 (length ls)
    go true = refl
    go false = refl

-- what the length says: the text fits, and this is its length; without a length, it does not fit
abbrev FittedSays : (text : List ℕ) → (room : ℕ) → Option ℕ → Type 0
FittedSays ls room (Some n) = (length ls ≤ room) × (n ≡ length ls)
FittedSays ls room None = room < length ls

pub fitted_says : (ls : List ℕ) (room : ℕ) (o : Option ℕ) → o ≡ fitted ls room → FittedSays ls room o
unfolding fitted
fitted_says ls room o e = go (ltb room (length ls)) refl (e)
  where
    go : (b : Bool) → ltb room (length ls) ≡ b → o ≡ cond b None (Some (length ls)) → FittedSays ls room o
    go true h z = rw z (ltb-true room (length ls) h)
    go false h z = rw z (ltb-false room (length ls) h, refl)

pub printed_short : (ls b : List ℕ) → length b < length ls → printed ls b ≡ b
unfolding printed
printed_short ls b h = rw (lt-ltb (length b) (length ls) h)

pub printed_fits : (ls b : List ℕ) → length ls ≤ length b → printed ls b ≡ ls ++ drop (length ls) b
unfolding printed
printed_fits ls b h = rw (le-ltb (length b) (length ls) h)

-- the first line and then the trace: the listing at the front of the buffer
pub listing_written :
    (out : List ℕ) (x : Counts) (is : List ℕ) → length (listing x is) ≤ length out →
    sets (sets out 0 (first_line x)) (length (first_line x)) (trace_lines is)
    ≡ listing x is ++ drop (length (listing x is)) out
unfolding listing
listing_written out x is h =
    let line = first_line x in
    let z : 0 + length line ≡ length line = omega arith in
    rw z at (sym (sets_append out 0 line (trace_lines is))) ∙ sets_front out (line ++ trace_lines is) h

-- a word and then spaced numbers, at the front of the buffer
pub line_written :
    (out word ns : List ℕ) → length (word ++ spaced ns) ≤ length out →
    sets (sets out 0 word) (length word) (spaced ns) ≡ (word ++ spaced ns) ++ drop (length (word ++ spaced ns)) out
line_written out word ns h =
    let z : 0 + length word ≡ length word = omega arith in
    rw z at (sym (sets_append out 0 word (spaced ns))) ∙ sets_front out (word ++ spaced ns) h
