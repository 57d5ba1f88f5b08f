-- `journal_call::reader::read_some` meets its contract: entries are read in order.
use Rattle.journal_call.specs.Reader.Stretches.{ReadOn}
use Rattle.journal_call.proofs.reader.read_some.Given as goal

abbrev pub invariant-loop-count : goal.invariant-loop-count
invariant-loop-count l = ReadOn l.known l.reader.journal.now l.reader.position l.reader.before l.initial.threads l.initial.kinds l.from l.threads l.kinds l.count l.at l.last
