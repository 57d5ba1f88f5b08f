-- The rounds times the threads, capped.
use mathlib.Core.Path.{ap, ◌∙◌}
use Rattle.model.specs.Trees.{tree_of}
use Rattle.bounds.specs.StarvationFreedom.Bounds.{everyone_bound}
use Rattle.bounds.specs.Answers.{capped}
use Rattle.bounds_call.proofs.Answers.{turns_capped}
use Rattle.bounds_call.proofs.rounds_of.Goals as goal

pub returns-clause-turns : goal.returns-clause-turns
unfolding capped
returns-clause-turns c = turns_capped _ _ _ _ _ c.saturating_mul-turns.ensures (c.everyone-everyone.ensures ∙ ap (λ w. capped (everyone_bound (tree_of w))) (c.of-2.ensures ∙ c.of-members.ensures ∙ c.in_ok-of.ensures.words)) c.from.ensures
