-- 1 at the root, elsewhere the effective threshold.
use mathlib.Core.Path.{refl}
use Rattle.bounds_call.proofs.RoundWords.{length_root, length_inner}
use Rattle.bounds_call.proofs.everyone.Rounds.tenure_length.Goals as goal

pub returns-then-d-eq0 : goal.returns-then-d-eq0
returns-then-d-eq0 c = length_root _ c.args.self.now.members.tree.accepted _ c.requires c.if-d-eq0.true

pub returns : goal.returns
returns c = length_inner _ c.args.self.now.members.tree.accepted _ _ _ _ _ c.args.self.now.members.counted c.if-d-eq0.false c.requires c.threshold.ensures.is refl c.effective_of.ensures
