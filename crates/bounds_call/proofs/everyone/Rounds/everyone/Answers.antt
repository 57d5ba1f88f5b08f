-- The largest of the rounds of the threads so far.
use mathlib.Core.Path.{refl}
use native.Mathlib.Omega.{arith}
use Rattle.model.specs.Scans.{largest_below}
use Rattle.bounds_call.proofs.Filling.{largest_next}
use Rattle.bounds_call.proofs.RoundWords.{everyone_word}
use Rattle.bounds_call.proofs.everyone.Rounds.everyone.Goals as goal

pub loop-i-init : goal.loop-i-init
unfolding largest_below
loop-i-init c = refl

pub loop-i-preserved : goal.loop-i-preserved
loop-i-preserved c = largest_next _ _ _ _ _ c.loop-i.invariant c.thread.ensures c.max-most.ensures

pub returns : goal.returns
returns c = everyone_word _ c.args.self.now.members.tree.accepted _ _ (omega (arith, c.loop-i-test.false, c.loop-i.auto.i-end)) c.loop-i.invariant
