-- The words from domain d on are the passes.
use mathlib.Core.Path.{refl, ap, ◌∙◌}
use Prim.Native.Nat.{◌*◌}
use native.Mathlib.Omega.{arith}
use lib.ListN.{length-set}
use Rattle.model.specs.Trees.{tree_of}
use Rattle.model.proofs.Trees.Accepted.{accepted}
use Rattle.bounds.specs.Answers.{capped}
use Rattle.bounds_call.proofs.WaitWords.{passes_none, passes_more, passes_all}
use Rattle.bounds_call.proofs.members.passes_of.Goals as goal

pub loop-d-init : goal.loop-d-init
unfolding tree_of
loop-d-init c = let ok = c.args.tree.now.accepted in ((accepted (tree_of c.args.tree.now.words.now) ok).some_domain, passes_none _ ok, refl)

pub loop-d-preserved : goal.loop-d-preserved
unfolding capped
loop-d-preserved c = let v = c.loop-d.invariant in (
  omega (arith, c.loop-d-test.true),
  passes_more _ c.args.tree.now.accepted _ _ _ _ _ _ (omega (arith, c.loop-d-test.true)) (omega (arith, c.loop-d-test.true)) c.loop-d.auto.d v.2 v.1
      c.largest_member-most.ensures _ _ c.requires c.threshold.ensures.is c.effective_of-threshold.ensures (c.saturating_mul.ensures ∙ ap (λ h. capped (h * c.largest_member-most.result)) c.from.ensures),
  length-set c.loop-d.words _ _ ∙ v.2,
)

pub returns : goal.returns
returns c = let v = c.loop-d.invariant in passes_all _ c.args.tree.now.accepted _ _ (omega (arith, v.0, c.loop-d-test.false)) v.1
