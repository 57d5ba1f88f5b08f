-- A child's parent is the word that the tree reads.
use native.Mathlib.Omega.{arith}
use borrow.Author.Tests.{eq-eqb, ne_eqb}
use Rattle.model.specs.Trees.{is_child}
use Rattle.model.proofs.Trees.Reading.{parent_read}
use Rattle.bounds_call.proofs.accepted_tree.is_child.Goals as goal

pub returns-then-c-ne0 : goal.returns-then-c-ne0
unfolding is_child
returns-then-c-ne0 c = rw (c.from.ensures, ne_eqb _ _ c.if-c-ne0.true, parent_read c.args.tree.now.words.now c.args.c (omega (arith, c.if-c-ne0.true)) c.requires)

pub returns-else-c-ne0 : goal.returns-else-c-ne0
unfolding is_child
returns-else-c-ne0 c = rw (eq-eqb _ _ c.if-c-ne0.false)
