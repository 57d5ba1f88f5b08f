-- What the domains so far add.
use Rattle.model.specs.Trees.{tree_of}
use Rattle.bounds_call.specs.Waits.{Above}
use Rattle.bounds_call.proofs.members.Members.all_added_above.Given as goal

abbrev pub invariant-loop-d : goal.invariant-loop-d
invariant-loop-d l = Above (tree_of l.self.tree.words.now) l.d l.above
