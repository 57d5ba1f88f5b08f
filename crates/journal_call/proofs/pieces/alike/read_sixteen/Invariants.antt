-- `journal_call::pieces::alike::read_sixteen` meets its contract: each entry has the thread before and the kind after its bit map.
use Prim.Native.Nat.{◌+◌, ◌*◌}
use Rattle.journal_call.specs.Reader.Stretches.{ReadOn}
use Rattle.journal_call.proofs.pieces.alike.read_sixteen.Given as goal

abbrev pub invariant-loop-k : goal.invariant-loop-k
invariant-loop-k l = ReadOn l.known l.journal l.position l.before l.initial.threads l.initial.kinds l.count l.threads l.kinds (l.count + l.k) (l.position + 2 * l.k) l.before
