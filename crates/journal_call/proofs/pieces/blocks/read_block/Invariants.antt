-- `journal_call::pieces::blocks::read_block` meets its contract: each entry is complete, since no entry has more than four bytes, and its size is in the table.
use Prim.Native.Nat.{◌+◌, ◌*◌, ◌≤◌}
use Rattle.journal_call.specs.Reader.Stretches.{ReadOn}
use Rattle.journal_call.proofs.pieces.blocks.read_block.Given as goal

abbrev pub invariant-loop-count : goal.invariant-loop-count
invariant-loop-count l = (l.passed + 4 * l.from ≤ 4 * l.count) × ReadOn l.known l.journal l.position l.before l.initial.threads l.initial.kinds l.from l.threads l.kinds l.count (l.position + l.passed) l.last
