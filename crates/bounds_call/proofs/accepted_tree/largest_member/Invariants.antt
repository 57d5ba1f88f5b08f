-- The largest word of the children so far.
use mathlib.Core.Path.{◌≡◌}
use mathlib.Core.Bool.{cond}
use lib.ListN.{get_or}
use Rattle.model.specs.Scans.{largest_below}
use Rattle.model.specs.Trees.{tree_of, is_child}
use Rattle.bounds_call.proofs.accepted_tree.largest_member.Given as goal

abbrev pub invariant-loop-c : goal.invariant-loop-c
invariant-loop-c l = l.most ≡ largest_below l.c (λ j. cond (is_child (tree_of l.tree.words.now) l.d j) (get_or l.words j 0) 0)
