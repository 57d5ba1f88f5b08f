-- `journal_call::reader::position_after` meets its contract: the position after the entries left is the same at every turn.
use mathlib.Core.Path.{◌≡◌}
use Prim.Native.Nat.{◌-◌}
use Rattle.journal_call.specs.Reader.Stretches.{position_after}
use Rattle.journal_call.proofs.reader.position_after.Given as goal

abbrev pub invariant-loop-passed : goal.invariant-loop-passed
invariant-loop-passed l = position_after (l.count - l._passed) l.reader.journal.now l.at l.last ≡ position_after l.count l.reader.journal.now l.reader.position l.reader.before
