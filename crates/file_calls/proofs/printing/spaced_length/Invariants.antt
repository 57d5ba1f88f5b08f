-- At each turn of the loop, what remains to write gives the result of the whole.
use Rattle.std.proofs.Common.{◌≡◌, ◌≤◌, ◌+◌, ◌*◌, length, drop}
use Rattle.lock_file.specs.PrintedListing.Listing.{spaced}
use Rattle.file_calls.proofs.printing.spaced_length.Given as goal

abbrev pub invariant-loop-n : goal.invariant-loop-n
invariant-loop-n l =
    (l.total + length (spaced (drop l.n-index l.numbers)) ≡ length (spaced l.numbers) + 1) × (l.total ≤ 1 + 11 * l.n-index)
