-- The outcome of the text decides.
use Rattle.std.proofs.Common.{◌∙◌, sym, ap}
use Rattle.text_tree.specs.Answers.{outcome_reply, text_answer}
use Rattle.text_tree_call.proofs.read_text.Goals as goal

pub returns-in-Ok : goal.returns-in-Ok
unfolding text_answer outcome_reply
returns-in-Ok c = c.tree_reply.ensures ∙ sym (ap outcome_reply c.in-Ok.ensures)

pub returns-in-Err : goal.returns-in-Err
unfolding text_answer outcome_reply
returns-in-Err c = c.refusal_reply.ensures ∙ sym (ap outcome_reply c.in-Err.ensures)
