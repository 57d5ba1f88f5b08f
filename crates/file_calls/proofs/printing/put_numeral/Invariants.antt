-- `file_calls::printing::put_numeral` meets its contract: at each turn of the loop, what remains to write gives the result of the whole.
use mathlib.Core.Path.{◌≡◌}
use Prim.Native.Nat.{◌+◌, ◌≤◌}
use lib.ListN.{length}
use lib.Seq.{sets}
use Rattle.lock_file.specs.PrintedListing.Listing.{numeral}
use Rattle.file_calls.proofs.printing.put_numeral.Given as goal

abbrev pub invariant-loop-rest : goal.invariant-loop-rest
invariant-loop-rest l = (l.left ≡ length (numeral l.rest)) × (length l.output ≡ length l.initial.output)
    × (sets l.output l.at (numeral l.rest) ≡ sets l.initial.output l.at (numeral l.value)) × (l.at + l.left ≤ length l.initial.output)

abbrev pub decreases-loop-rest : goal.decreases-loop-rest
decreases-loop-rest l = l.rest
