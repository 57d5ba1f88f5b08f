-- Every word of the tree is 0.
use Rattle.model.specs.Refusals.{refusal}
use Rattle.lock_file.specs.Answers.{reading_reply}
use Rattle.lock_file.proofs.answering.refused_by.Goals as goal

pub returns : goal.returns
unfolding reading_reply refusal
returns c = rw (c.number.ensures, c.no_tree.ensures)
