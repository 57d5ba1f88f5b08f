-- One round at the root, elsewhere the rounds of the own record.
use native.Mathlib.Omega.{arith}
use Rattle.model.proofs.Trees.Reading.{few_domains}
use Rattle.bounds_call.proofs.RoundWords.{parent_below, above_root, above_inner}
use Rattle.bounds_call.proofs.everyone.Rounds.rounds_above.Goals as goal

pub returns-then-d-eq0 : goal.returns-then-d-eq0
returns-then-d-eq0 c = above_root _ c.args.self.now.members.tree.accepted _ c.if-d-eq0.true

pub bounds-above-parent : goal.bounds-above-parent
bounds-above-parent c = let few = few_domains _ c.args.self.now.members.tree.accepted in
    let low = parent_below _ c.args.self.now.members.tree.accepted _ _ (omega (arith, c.if-d-eq0.false)) c.requires.d_lt_domains c.from-parent.ensures in
    omega (arith, c.requires.d_lt_domains)

pub acquire-requires : goal.acquire-requires
acquire-requires c =
    let low = parent_below _ c.args.self.now.members.tree.accepted _ _ (omega (arith, c.if-d-eq0.false)) c.requires.d_lt_domains c.from-parent.ensures in
    omega (arith, c.requires.d_lt_domains)

pub returns : goal.returns
returns c =
    above_inner _ c.args.self.now.members.tree.accepted _ _ _ _ _ c.if-d-eq0.false c.requires.d_lt_domains c.from-parent.ensures
    c.args.self.now.members.summed
    c.requires.rounds_above
    c.acquire.ensures
