-- One domain, and otherwise the words of no tree.
use Rattle.text_tree.specs.Words.{no_words, root_words}
use Rattle.text_tree_call.proofs.tree.root_tree.Goals as goal

pub returns : goal.returns
unfolding root_words no_words
returns c = rw c.no_tree.ensures
