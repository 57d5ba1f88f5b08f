-- `text_tree_call::tree::no_tree` meets its contract: its words are the definition's, all 0.
use mathlib.Core.Path.{refl}
use Rattle.text_tree.specs.Words.{no_words}
use Rattle.text_tree_call.proofs.tree.no_tree.Goals as goal

pub returns : goal.returns
unfolding no_words
returns c = refl
