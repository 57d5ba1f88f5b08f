-- The state so far at the reader's position; each turn moves the reader on.
use mathlib.Core.Path.{◌≡◌}
use Prim.Native.Nat.{◌-◌}
use lib.ListN.{length}
use Rattle.journal_call.specs.Journals.{SoFar}
use Rattle.journal_call.proofs.journals.check_entries.Given as goal

abbrev pub invariant-loop-reader : goal.invariant-loop-reader
invariant-loop-reader l = (l.reader.journal.now ≡ l.journal) × SoFar l.tree l.journal l.state.words l.reader.position l.reader.before

abbrev pub decreases-loop-reader : goal.decreases-loop-reader
decreases-loop-reader l = length l.journal - l.reader.position
