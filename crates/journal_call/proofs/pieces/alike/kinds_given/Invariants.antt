-- `journal_call::pieces::alike::kinds_given` meets its contract: it continues only after a bit map for a kind only.
use Rattle.journal_call.specs.Pieces.Pieces.{KindsGiven}
use Rattle.journal_call.proofs.pieces.alike.kinds_given.Given as goal

abbrev pub invariant-loop-k : goal.invariant-loop-k
invariant-loop-k l = KindsGiven l.k l.journal l.position
