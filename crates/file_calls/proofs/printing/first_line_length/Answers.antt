-- `file_calls::printing::first_line_length` meets its contract: the word, and the length of the counts.
use mathlib.Core.Path.{ap}
use native.Mathlib.Omega.{arith}
use lib.ListN.{length}
use Rattle.lock_file.specs.PrintedListing.Listing.{spaced}
use Rattle.lock_file.proofs.printed_listing.Numerals.{length_first_line}
use Rattle.file_calls.proofs.printing.first_line_length.Goals as goal

pub returns : goal.returns
returns c = let whole = length_first_line c.args.counts in
    let n = ap (λ v. length (spaced v)) c.numbers_of-numbers.ensures in
    record { value = omega arith; upper_bound = omega arith }
