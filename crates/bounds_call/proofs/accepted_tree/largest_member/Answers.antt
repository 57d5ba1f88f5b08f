-- The largest word of the children so far.
use mathlib.Core.Path.{refl, sym, ◌∙◌}
use native.Mathlib.Omega.{arith}
use Rattle.model.specs.Scans.{largest_below}
use Rattle.model.specs.Trees.{tree_of, is_leaf}
use Rattle.bounds_call.proofs.Filling.{largest_next, largest_all}
use Rattle.bounds_call.proofs.accepted_tree.largest_member.Goals.{then-is_child, else-is_child}
use Rattle.bounds_call.proofs.accepted_tree.largest_member.Goals as goal

pub returns-then-not-has_child : goal.returns-then-not-has_child
unfolding is_leaf tree_of
returns-then-not-has_child c = rw (sym c.has_child.ensures ∙ c.if-not-has_child.true)

pub loop-c-init : goal.loop-c-init
unfolding largest_below
loop-c-init c = refl

pub loop-c-preserved : goal.loop-c-preserved
loop-c-preserved c = elim c.if-is_child.branch [
  | then-is_child w ↦ largest_next _ _ _ _ _ c.loop-c.invariant (rw (sym c.is_child.ensures ∙ w.if-is_child.true)) (w.most-is ∙ w.max-most.ensures)
  | else-is_child w ↦ largest_next _ _ _ 0 _ c.loop-c.invariant (rw (sym c.is_child.ensures ∙ w.if-is_child.false)) (omega (arith, w.most-is))
]

pub returns : goal.returns
unfolding is_leaf tree_of
returns c = rw (sym c.has_child.ensures ∙ c.if-not-has_child.false) (largest_all _ _ _ _ (omega (arith, c.loop-c-test.false, c.loop-c.auto.c-end)) c.loop-c.invariant)
