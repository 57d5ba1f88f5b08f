-- The definition's sums and products in order; capped one by one, they give the capped whole.
use mathlib.Core.Path.{refl, ◌∙◌}
use native.Mathlib.Omega.{arith}
use Rattle.model.proofs.Trees.Reading.{few_domains}
use Rattle.bounds.specs.Answers.{capped}
use Rattle.bounds_call.proofs.Capped.{one_if}
use Rattle.bounds_call.proofs.WaitWords.{count_few}
use Rattle.bounds_call.proofs.RoundWords.{counts_few, acquire_word}
use Rattle.bounds_call.proofs.everyone.Rounds.acquire.Goals as goal

pub tenures_of-all-requires-clause-members_bound : goal.tenures_of-all-requires-clause-members_bound
tenures_of-all-requires-clause-members_bound c = let few = few_domains _ c.args.self.now.members.tree.accepted in
    count_few _ c.args.self.now.members.tree.accepted _ _ _ (omega (arith, c.requires)) c.args.self.now.members.counted refl

pub tenures_of-others-requires-clause-members_bound : goal.tenures_of-others-requires-clause-members_bound
tenures_of-others-requires-clause-members_bound c = counts_few _ c.args.self.now.members.tree.accepted _ _ _ c.args.self.now.members.counted c.requires c.saturating_sub.ensures

pub returns : goal.returns
unfolding capped
returns c =
    acquire_word _ c.args.self.now.members.tree.accepted _ _ _ _ _ _ _ _ _ _ _ _ _ _ _ _ _ _ _ c.args.self.now.members.counted c.requires c.args.self.now.deepest_value c.level-level.ensures.0
    c.tenure_length-length.ensures.0
    refl
    c.tenures_of-all.ensures
    c.saturating_sub.ensures
    c.tenures_of-others.ensures
    (c.from-links.ensures ∙ one_if _)
    c.saturating_mul.ensures
    c.saturating_add-acquired.ensures
    c.saturating_mul-2.ensures
    c.saturating_add-released.ensures
    c.saturating_mul-3.ensures
    c.saturating_add-standing.ensures
    c.saturating_add.ensures
