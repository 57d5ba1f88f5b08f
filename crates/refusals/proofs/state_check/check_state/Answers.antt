-- `refusals::state_check::check_state` meets its contract: the tests of a run of an empty schedule refuse nothing more.
use mathlib.Core.Path.{◌∙◌}
use Rattle.model.specs.Trees.{tree_of}
use Rattle.refusals.specs.StateCheck.Answers.{check_answer}
use Rattle.refusals.proofs.state_check.Checking.{empty_early}
use Rattle.refusals.proofs.state_check.check_state.Goals as goal

pub returns : goal.returns
unfolding check_answer
returns c = c.lent_refusal_of.ensures ∙ empty_early (tree_of c.args.tree.now) c.args.state.now 0
