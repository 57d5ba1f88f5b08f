-- The tree's refusal, or the allowances.
use mathlib.Core.Path.{ap, ◌∙◌}
use Rattle.model.specs.Trees.{tree_of}
use Rattle.refusals.proofs.Refusing.{error_passed}
use Rattle.bounds.specs.Answers.{allowances_answer, allowances_left, words_from, allowance_word}
use Rattle.bounds_call.proofs.Answers.{left_refused, left_accepted}
use Rattle.bounds_call.proofs.allowances.Goals as goal

pub returns-in_err-of-clause-value : goal.returns-in_err-of-clause-value
unfolding allowances_answer
returns-in_err-of-clause-value c = error_passed _ _ c.from_residual.ensures.1 c.in_err-of.ensures.refused

pub returns-in_err-of-clause-buffer_after : goal.returns-in_err-of-clause-buffer_after
unfolding allowances_left allowances_answer
returns-in_err-of-clause-buffer_after c = left_refused _ _ _ _ c.in_err-of.ensures.refused

pub returns-clause-value : goal.returns-clause-value
unfolding allowances_answer
returns-clause-value c = c.in_ok-of.ensures.refused

pub returns-clause-buffer_after : goal.returns-clause-buffer_after
unfolding allowances_left allowances_answer
returns-clause-buffer_after c = left_accepted _ _ _ _ c.in_ok-of.ensures.refused (c.allowances.ensures ∙ ap (λ w. words_from (allowance_word (tree_of w)) 64 0) c.in_ok-of.ensures.words)
