-- `journal_call::pieces::read_piece` meets its contract: four entries at once or up to thirty-two one by one, until the arrays are full or reading stops.
use mathlib.Core.Path.{◌≡◌}
use Prim.Native.Nat.{◌-◌, ◌<◌, ◌≤◌}
use Rattle.journal_call.specs.Reader.Stretches.{ReadOn}
use Rattle.journal_call.proofs.pieces.read_piece.Given as goal

abbrev pub invariant-loop-count : goal.invariant-loop-count
invariant-loop-count l = (0 < l.wanted) × (l.wanted ≤ 32) × (l.at.journal.now ≡ l.reader.journal.now) × ReadOn l.known l.reader.journal.now l.reader.position l.reader.before l.initial.threads l.initial.kinds 0 l.threads l.kinds l.count l.at.position l.at.before

abbrev pub decreases-loop-count : goal.decreases-loop-count
decreases-loop-count l = l.room - l.count
