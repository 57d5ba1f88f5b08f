-- From the last record down, the passes of the others in its domain.
use mathlib.Core.Path.{refl, ap}
use native.Mathlib.Omega.{arith}
use lib.ListN.{set}
use Rattle.bounds.specs.Answers.{capped}
use Rattle.bounds_call.proofs.WaitWords.{passes_word}
use Rattle.bounds_call.proofs.WaitSums.{no_owner, rest_none, rest_down, others_none, others_down, others_skip, others_all}
use Rattle.bounds_call.proofs.members.sums_of_others.Goals as goal

pub loop-m-init : goal.loop-m-init
loop-m-init c = (rest_none _, others_none _)

pub loop-m-preserved-in-Some : goal.loop-m-preserved-in-Some
unfolding capped
loop-m-preserved-in-Some c = let v = c.loop-m.invariant in (
  rest_down _ _ _ _ _ _ _ (omega (arith, c.loop-m-test.true)) (omega (arith, c.loop-m-test.true, c.loop-m.auto.m)) v.0 c.in-Some.ensures (passes_word _ c.args.tree.now.accepted _ c.requires.allowed _ _ c.word_of.ensures) (ap (λ x. set c.loop-m.sums c.in-Some.d x) c.saturating_add-in-Some.ensures),
  others_down _ _ _ _ _ _ _ _ _ (omega (arith, c.loop-m-test.true)) (omega (arith, c.loop-m-test.true, c.loop-m.auto.m)) v.1 c.requires.before v.0 c.in-Some.ensures refl c.saturating_add.ensures,
)

pub loop-m-preserved : goal.loop-m-preserved
loop-m-preserved c = let v = c.loop-m.invariant in (
  rest_down _ _ _ _ 0 _ _ (omega (arith, c.loop-m-test.true)) (omega (arith, c.loop-m-test.true, c.loop-m.auto.m)) v.0 c.in_default.ensures (λ d h e. absurd (no_owner _ _ _ c.in_default.ensures h e)) refl,
  others_skip _ _ _ _ (omega (arith, c.loop-m-test.true)) v.1 c.in_default.ensures,
)

pub returns : goal.returns
returns c = others_all _ _ _ (omega (arith, c.loop-m-test.false)) c.loop-m.invariant.1
