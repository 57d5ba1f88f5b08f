-- W of the threads so far.
use mathlib.Core.Path.{refl}
use native.Mathlib.Omega.{arith}
use Rattle.model.proofs.Trees.Reading.{few_domains}
use Rattle.bounds.specs.Answers.{capped}
use Rattle.bounds_call.proofs.WaitWords.{home_small, thread_wait, waits_none, waits_next, waits_all}
use Rattle.bounds_call.proofs.members.Members.waits.Goals as goal

pub loop-i-init : goal.loop-i-init
loop-i-init c = waits_none _ c.args.self.now.tree.accepted

pub bounds-above-home : goal.bounds-above-home
bounds-above-home c =
    let home = home_small _ c.args.self.now.tree.accepted _ _ c.loop-i-test.true c.from-home.ensures in
    let few = few_domains _ c.args.self.now.tree.accepted in
    omega (arith, home.0)

pub loop-i-preserved : goal.loop-i-preserved
unfolding capped
loop-i-preserved c =
    waits_next _ c.args.self.now.tree.accepted _ _ _ _ refl c.loop-i-test.true c.loop-i.invariant
    (thread_wait _ c.args.self.now.tree.accepted _ _ _ _ _ c.loop-i-test.true c.from-home.ensures c.args.self.now.summed c.all_added_above-above.ensures c.saturating_add.ensures)

pub returns : goal.returns
returns c = waits_all _ c.args.self.now.tree.accepted _ _ (omega (arith, c.loop-i-test.false, c.loop-i.auto.i-end)) c.loop-i.invariant
