-- `text_tree_call::refusal_reply` meets its contract: number and place as given, with the words of no tree.
use Rattle.text_tree.specs.Answers.{refused_by}
use Rattle.text_tree_call.proofs.refusal_reply.Goals as goal

pub returns : goal.returns
unfolding refused_by
returns c = rw (c.number.ensures, c.no_tree.ensures)
