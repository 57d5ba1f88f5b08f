-- What the domains so far add.
use mathlib.Core.Path.{refl}
use native.Mathlib.Omega.{arith}
use Rattle.bounds_call.proofs.WaitWords.{above_next, above_all}
use Rattle.bounds_call.proofs.members.Members.all_added_above.Goals as goal

pub loop-d-init : goal.loop-d-init
loop-d-init c = record { above = λ d h. absurd (omega arith); room = refl }

pub loop-d-preserved : goal.loop-d-preserved
loop-d-preserved c = above_next _ c.args.self.now.tree.accepted _ _ _ _ refl c.loop-d-test.true c.loop-d.invariant c.added_above.ensures

pub returns : goal.returns
returns c = above_all _ c.args.self.now.tree.accepted _ _ (omega (arith, c.loop-d-test.false, c.loop-d.auto.d-end)) c.loop-d.invariant
