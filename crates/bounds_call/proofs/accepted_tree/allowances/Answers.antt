-- The words from domain d on are their allowances.
use mathlib.Core.Path.{refl, ap, ◌∙◌}
use Prim.Native.Nat.{◌*◌}
use native.Mathlib.Omega.{arith}
use lib.ListN.{length-set}
use Rattle.model.specs.Trees.{tree_of}
use Rattle.model.proofs.Trees.Accepted.{accepted}
use Rattle.model.proofs.Trees.Reading.{few_domains}
use Rattle.bounds.specs.Answers.{capped}
use Rattle.bounds_call.proofs.Filling.{filled_none}
use Rattle.bounds_call.proofs.Words.{filled_more, filled_done}
use Rattle.bounds_call.proofs.accepted_tree.allowances.Goals as goal

pub loop-d-init : goal.loop-d-init
unfolding tree_of
loop-d-init c = let valid = accepted (tree_of c.args.tree.now.words.now) c.args.tree.now.accepted in (valid.some_domain, filled_none (tree_of c.args.tree.now.words.now) valid.few_domains, refl)

pub loop-d-preserved : goal.loop-d-preserved
unfolding capped
loop-d-preserved c = let v = c.loop-d.invariant in
    let few = few_domains _ c.args.tree.now.accepted in (
      omega (arith, c.loop-d-test.true),
      filled_more _ c.args.tree.now.accepted _ _ _ _ _ _ (omega (arith, c.loop-d-test.true)) (omega (arith, c.loop-d-test.true)) c.loop-d.auto.d few v.2 v.1
          c.largest_member-most.ensures c.threshold.ensures.is (c.saturating_mul.ensures ∙ ap (λ h. capped (h * c.largest_member-most.result)) c.from.ensures),
      length-set c.loop-d.words _ _ ∙ v.2,
    )

pub returns : goal.returns
returns c = let v = c.loop-d.invariant in filled_done _ _ _ (omega (arith, v.0, c.loop-d-test.false)) v.1 v.2
