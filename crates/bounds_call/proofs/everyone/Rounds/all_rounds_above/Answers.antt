-- The words of the domains so far are the rounds above them.
use mathlib.Core.Path.{refl}
use native.Mathlib.Omega.{arith}
use Rattle.bounds_call.proofs.RoundWords.{above_next, above_all}
use Rattle.bounds_call.proofs.everyone.Rounds.all_rounds_above.Goals as goal

pub loop-d-init : goal.loop-d-init
loop-d-init c = record { above = λ c h. absurd (omega arith); room = refl }

pub loop-d-preserved : goal.loop-d-preserved
loop-d-preserved c = above_next _ c.args.self.now.members.tree.accepted _ _ _ _ refl c.loop-d-test.true c.loop-d.invariant c.rounds_above.ensures

pub returns : goal.returns
returns c = above_all _ _ _ _ (omega (arith, c.loop-d-test.false, c.loop-d.auto.d-end)) c.loop-d.invariant
