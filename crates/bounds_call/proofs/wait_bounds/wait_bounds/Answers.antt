-- The tree's refusal, or W of every thread.
use mathlib.Core.Path.{ap, ◌∙◌}
use Rattle.model.specs.Trees.{tree_of}
use Rattle.refusals.proofs.Refusing.{error_passed}
use Rattle.bounds.specs.Answers.{wait_bounds_answer, wait_bounds_left, words_from, wait_word}
use Rattle.bounds_call.proofs.Answers.{left_refused, left_accepted}
use Rattle.bounds_call.proofs.wait_bounds.wait_bounds.Goals as goal

pub returns-in_err-of-clause-value : goal.returns-in_err-of-clause-value
unfolding wait_bounds_answer
returns-in_err-of-clause-value c = error_passed _ _ c.from_residual.ensures.1 c.in_err-of.ensures.refused

pub returns-in_err-of-clause-buffer_after : goal.returns-in_err-of-clause-buffer_after
unfolding wait_bounds_left wait_bounds_answer
returns-in_err-of-clause-buffer_after c = left_refused _ _ _ _ c.in_err-of.ensures.refused

pub returns-clause-value : goal.returns-clause-value
unfolding wait_bounds_answer
returns-clause-value c = c.in_ok-of.ensures.refused

pub returns-clause-buffer_after : goal.returns-clause-buffer_after
unfolding wait_bounds_left wait_bounds_answer
returns-clause-buffer_after c = left_accepted _ _ _ _ c.in_ok-of.ensures.refused (c.waits.ensures ∙ ap (λ w. words_from (wait_word (tree_of w)) 256 0) (c.of-members.ensures ∙ c.in_ok-of.ensures.words))
