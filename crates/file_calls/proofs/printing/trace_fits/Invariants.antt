-- At each turn of the loop, what remains to write gives the result of the whole.
use Rattle.std.proofs.Common.{◌≡◌, ◌≤◌, ◌+◌, length, drop}
use Rattle.lock_file.specs.PrintedListing.Listing.{trace_lines}
use Rattle.file_calls.proofs.printing.trace_fits.Given as goal

abbrev pub invariant-loop-i : goal.invariant-loop-i
invariant-loop-i l =
    (l.left ≤ l.room) × (length (trace_lines l.trace) + l.left ≡ l.room + length (trace_lines (drop l.i-index l.trace)))
