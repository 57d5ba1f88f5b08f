-- The members among the records so far.
use mathlib.Core.Path.{sym, ap, ◌∙◌}
use native.Mathlib.Omega.{arith}
use Prim.Native.Nat.{◌+◌}
use lib.ListN.{get_or, set}
use Rattle.bounds_call.proofs.Filling.{capped_small}
use Rattle.bounds_call.proofs.WaitSums.{summed_none, summed_next, summed_few, counted_all}
use Rattle.bounds_call.proofs.members.count_members.Goals.{in-Some, in_default}
use Rattle.bounds_call.proofs.members.count_members.Goals as goal

pub loop-m-init : goal.loop-m-init
loop-m-init c = summed_none _ _

pub overflow_add-counts : goal.overflow_add-counts
overflow_add-counts c = let few = summed_few _ _ c.in-Some.d _ c.loop-m.invariant (c.owner.ensures.within _ c.in-Some.is) in omega (arith, few, c.loop-m-test.true)

pub loop-m-preserved : goal.loop-m-preserved
loop-m-preserved c = elim c.match-owner.branch [
  | in-Some w ↦
      let few = summed_few _ _ w.in-Some.d _ c.loop-m.invariant (c.owner.ensures.within _ w.in-Some.is) in
      let fits = capped_small (get_or c.loop-m.counts w.in-Some.d 0 + 1) (omega (arith, few, c.loop-m-test.true)) in
      summed_next _ _ _ _ _ 1 _ _ (omega arith) c.loop-m.invariant w.in-Some.ensures (λ d h e. sym (capped_small 1 (omega arith))) (w.counts-is ∙ ap (λ x. set c.loop-m.counts w.in-Some.d x) (sym fits))
  | in_default w ↦ summed_next _ _ _ _ _ 1 _ _ (omega arith) c.loop-m.invariant w.in_default.ensures (λ d h e. sym (capped_small 1 (omega arith))) w.counts-is
]

pub returns : goal.returns
returns c = counted_all _ _ _ (omega (arith, c.loop-m-test.false, c.loop-m.auto.m-end)) c.loop-m.invariant
