-- `journal_call::pieces::alike::read_alike` meets its contract: sixteen entries, or the result for four.
use native.Mathlib.Omega.{arith}
use Rattle.journal_call.proofs.reader.Stretching.{again}
use Rattle.journal_call.proofs.pieces.alike.read_alike.Goals as goal

pub returns : goal.returns
returns c = again _ _ _ _ _ _ _ _ _ _ _ _ c.read_many-many.ensures (omega (arith, c.if-count-many.false)) _ _ _ _ _ c.read_four.ensures
