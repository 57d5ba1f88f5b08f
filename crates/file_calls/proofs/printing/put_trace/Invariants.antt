-- At each turn of the loop, what remains to write gives the result of the whole.
use Rattle.std.proofs.Common.{◌≡◌, ◌≤◌, ◌+◌, ◌*◌, length, drop}
use Rattle.std.proofs.lemmas.List.Edits.{sets}
use Rattle.lock_file.specs.PrintedListing.Listing.{trace_lines}
use Rattle.file_calls.proofs.printing.put_trace.Given as goal

abbrev pub invariant-loop-i : goal.invariant-loop-i
invariant-loop-i l =
    (l.at + length (trace_lines (drop l.i-index l.trace)) ≡ l.start + length (trace_lines l.trace))
    × (sets l.output l.at (trace_lines (drop l.i-index l.trace)) ≡ sets l.initial.output l.start (trace_lines l.trace))
    × (l.at ≤ l.start + 11 * l.i-index)
