-- From 64 domains on no word is stored; below 64, parent and threshold are stored at the new domain's index.
use borrow.Author.Tests.{le-leb, lt-leb}
use Rattle.text_tree.specs.Words.{domain_added}
use Rattle.text_tree_call.proofs.tree.add_domain.Goals as goal

pub returns-then-tree-ge64 : goal.returns-then-tree-ge64
unfolding domain_added
returns-then-tree-ge64 c = rw (le-leb _ _ c.if-tree-ge64.true)

pub returns : goal.returns
unfolding domain_added
returns c = rw (lt-leb _ _ c.if-tree-ge64.false)
