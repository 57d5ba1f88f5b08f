-- The owner of a thread's record is its home, that of a domain's record its parent.
use native.Mathlib.Omega.{arith}
use Rattle.bounds_call.proofs.WaitWords.{owner_thread, owner_domain, owner_nobody}
use Rattle.bounds_call.proofs.accepted_tree.owner.Goals.{else-m-gt256-via-then-m-gt256+else-m-tree-2, else-m-gt256-via-else-m-gt256}
use Rattle.bounds_call.proofs.accepted_tree.owner.Goals as goal

pub returns-then-m-tree : goal.returns-then-m-tree
returns-then-m-tree c = owner_thread _ c.args.tree.now.accepted _ _ c.if-m-tree.true c.from.ensures

pub returns-then-m-tree-2 : goal.returns-then-m-tree-2
returns-then-m-tree-2 c = owner_domain _ c.args.tree.now.accepted _ _ c.if-m-gt256.true c.if-m-tree-2.true c.from-then-m-tree-2.ensures

pub returns : goal.returns
returns c =
    owner_nobody _ c.args.tree.now.accepted _ c.if-m-tree.false
    (elim c.else-m-gt256.branch [ else-m-gt256-via-then-m-gt256+else-m-tree-2 w ↦ λ h. w.if-m-tree-2.false | else-m-gt256-via-else-m-gt256 w ↦ λ h. absurd (omega (arith, w.if-m-gt256.false)) ])
