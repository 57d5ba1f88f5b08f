-- `journal_call::pieces::blocks::sizes_from` meets its contract: the sizes for the bytes so far are in the table.
use Rattle.journal_call.specs.Pieces.Pieces.{SizesFrom}
use Rattle.journal_call.proofs.pieces.blocks.sizes_from.Given as goal

abbrev pub invariant-loop-k : goal.invariant-loop-k
invariant-loop-k l = SizesFrom l.journal l.position l.k l.sizes
