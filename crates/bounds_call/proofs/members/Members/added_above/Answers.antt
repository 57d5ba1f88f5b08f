-- Nothing at the root, elsewhere W of the own record for each tenure.
use mathlib.Core.Path.{refl}
use native.Mathlib.Omega.{arith}
use Rattle.model.proofs.Trees.Reading.{few_domains}
use Rattle.bounds.specs.Answers.{capped}
use Rattle.bounds_call.proofs.WaitWords.{above_none, above_some, parent_small, count_few}
use Rattle.bounds_call.proofs.members.Members.added_above.Goals as goal

pub returns-then-d-eq0 : goal.returns-then-d-eq0
returns-then-d-eq0 c = above_none _ c.args.self.now.tree.accepted _ c.if-d-eq0.true

pub bounds-above-parent : goal.bounds-above-parent
bounds-above-parent c = let few = few_domains _ c.args.self.now.tree.accepted in
    let up = parent_small _ c.args.self.now.tree.accepted _ _ (omega (arith, c.if-d-eq0.false)) c.requires.d_lt_domains c.from-parent.ensures in
    omega (arith, up.0, c.requires.d_lt_domains)

pub tenures_of-requires-clause-members_bound : goal.tenures_of-requires-clause-members_bound
tenures_of-requires-clause-members_bound c = let few = few_domains _ c.args.self.now.tree.accepted in
    count_few _ c.args.self.now.tree.accepted _ _ _ (omega (arith, c.requires.d_lt_domains)) c.args.self.now.counted refl

pub returns : goal.returns
unfolding capped
returns c =
    above_some _ c.args.self.now.tree.accepted _ _ _ _ _ _ _ _ _ _ c.if-d-eq0.false c.requires.d_lt_domains c.from-parent.ensures c.args.self.now.counted c.args.self.now.summed c.requires.above
    c.saturating_add-own.ensures refl c.threshold.ensures.is c.tenures_of.ensures c.saturating_mul.ensures
