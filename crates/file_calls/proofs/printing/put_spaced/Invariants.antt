-- At each turn of the loop, what remains to write gives the result of the whole.
use Rattle.std.proofs.Common.{◌≡◌, ◌+◌, length, drop}
use Rattle.std.proofs.lemmas.List.Edits.{sets}
use Rattle.lock_file.specs.PrintedListing.Listing.{spaced}
use Rattle.file_calls.proofs.printing.put_spaced.Given as goal

abbrev pub invariant-loop-n : goal.invariant-loop-n
invariant-loop-n l =
    (l.at + length (spaced (drop l.n-index l.numbers)) ≡ l.start + length (spaced l.numbers))
    × (sets l.output l.at (spaced (drop l.n-index l.numbers)) ≡ sets l.initial.output l.start (spaced l.numbers))
