-- For the records so far, the passes of those before each in its domain.
use mathlib.Core.Path.{refl, ◌∙◌, ap}
use native.Mathlib.Omega.{arith}
use lib.ListN.{set}
use Rattle.bounds.specs.Answers.{capped}
use Rattle.bounds_call.proofs.WaitWords.{passes_word}
use Rattle.bounds_call.proofs.WaitSums.{summed_none, summed_next, before_none, before_next, before_skip, before_all, no_owner}
use Rattle.bounds_call.proofs.members.sums_before.Goals.{in-Some, in_default}
use Rattle.bounds_call.proofs.members.sums_before.Goals as goal

pub loop-m-init : goal.loop-m-init
loop-m-init c = (summed_none _ _, before_none _)

pub loop-m-preserved : goal.loop-m-preserved
unfolding capped
loop-m-preserved c = let v = c.loop-m.invariant in elim c.match-owner.branch [
  | in-Some w ↦ (
    summed_next _ _ _ _ _ _ _ _ (omega arith) v.0 w.in-Some.ensures (passes_word _ c.args.tree.now.accepted _ c.requires _ _ w.word_of.ensures) (w.sums-is ∙ ap (λ x. set c.loop-m.sums w.in-Some.d x) w.saturating_add.ensures),
    rw w.before-is (before_next _ _ _ _ _ _ _ (omega arith) c.loop-m-test.true v.1 v.0 w.in-Some.ensures refl),
  )
  | in_default w ↦ (
    summed_next _ _ _ _ _ 0 _ _ (omega arith) v.0 w.in_default.ensures (λ d h e. absurd (no_owner _ _ _ w.in_default.ensures h e)) w.sums-is,
    rw w.before-is (before_skip _ _ _ _ (omega arith) v.1 w.in_default.ensures),
  )
]

pub returns : goal.returns
returns c = before_all _ _ _ (omega (arith, c.loop-m-test.false, c.loop-m.auto.m-end)) c.loop-m.invariant.1
