-- `refusals::of_runs::states::Thread::passes` meets its contract: the levels that are left and the domain reached give the same answer as the whole search.
use mathlib.Core.Path.{◌≡◌, sym, ◌∙◌}
use Prim.Native.Nat.{◌+◌, ◌-◌}
use native.Mathlib.Omega.{arith}
use Rattle.refusals.proofs.Meeting.{meets_here, meets_root, meets_up, meets_end}
use Rattle.refusals.proofs.of_runs.Passing.{parent_of, shape_of}
use Rattle.refusals.proofs.of_runs.states.Thread.passes.Goals as goal

pub returns-then-c-d : goal.returns-then-c-d
returns-then-c-d c = sym (meets_here _ _ _ _ c.if-c-d.true) ∙ c.loop-level.invariant.1

pub returns-then-c-eq0 : goal.returns-then-c-eq0
returns-then-c-eq0 c = sym (meets_root _ _ _ _ c.if-c-d.false c.if-c-eq0.true) ∙ c.loop-level.invariant.1

pub bounds-tree-from : goal.bounds-tree-from
bounds-tree-from c =
    let few = (shape_of c.args.self.now.tree.now c.args.self.now.accepted).few_domains in
    omega (arith, few, c.loop-level.invariant.0, c.from.ensures)

pub loop-level-preserved : goal.loop-level-preserved
loop-level-preserved c =
    let w = c.args.self.now.tree.now in
    let i = c.loop-level.invariant in
    let low = (shape_of w c.args.self.now.accepted).low.lower c.loop-level.c (omega arith) i.0 in
    let fewer : 6 - (c.loop-level._level + 1) ≡ 6 - c.loop-level._level - 1 = omega arith in
    let up = parent_of w c.args.self.now.accepted c.loop-level.c (omega arith) i.0 in
    rw (c.from.ensures, fewer) (omega (arith, low, i.0), sym (meets_up _ _ _ _ _ up (omega arith) c.if-c-d.false c.if-c-eq0.false) ∙ i.1)

pub returns : goal.returns
returns c = sym (meets_end _ _ _ _ (omega arith)) ∙ c.loop-level.invariant.1
