-- `text_tree_call::tree_reply` meets its contract: its two tests are 4 and 5, in order.
use borrow.Author.Tests.{lt-ltb, le-ltb}
use Rattle.text_tree.specs.Answers.{counted_reply, accepted_reply}
use Rattle.text_tree_call.proofs.tree_reply.Goals as goal

pub returns-then-read-gt64 : goal.returns-then-read-gt64
unfolding counted_reply
returns-then-read-gt64 c = rw (c.refusal_reply.ensures, lt-ltb _ _ c.if-read-gt64.true)

pub returns-then-read-gt256 : goal.returns-then-read-gt256
unfolding counted_reply
returns-then-read-gt256 c = rw (c.refusal_reply-then-read-gt256.ensures, le-ltb _ _ c.if-read-gt64.false, lt-ltb _ _ c.if-read-gt256.true)

pub returns : goal.returns
unfolding counted_reply accepted_reply
returns c = rw (le-ltb _ _ c.if-read-gt64.false, le-ltb _ _ c.if-read-gt256.false)
