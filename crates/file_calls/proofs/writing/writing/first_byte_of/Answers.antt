-- `file_calls::writing::writing::first_byte_of` meets its contract: at most 64 domains, plus 128, fit in a byte.
use native.Mathlib.Omega.{arith}
use borrow.Author.Tests.{eq-eqb, ne_eqb}
use Rattle.model.specs.Trees.{tree_of}
use Rattle.lock_file.specs.FileWriter.Writing.{first_byte}
use Rattle.file_calls.proofs.writing.writing.first_byte_of.Goals as goal

pub returns-then-tree-eq0 : goal.returns-then-tree-eq0
unfolding first_byte tree_of
returns-then-tree-eq0 c = rw (eq-eqb _ _ c.if-tree-eq0.true) (omega arith)

pub returns-else-tree-eq0 : goal.returns-else-tree-eq0
unfolding first_byte tree_of
returns-else-tree-eq0 c = rw (ne_eqb _ _ c.if-tree-eq0.false) (omega arith)
