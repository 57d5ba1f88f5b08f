-- A thread's record has one pass.
use borrow.Author.Tests.{lt-ltb, le-ltb}
use Rattle.bounds_call.specs.Waits.{word_of}
use Rattle.bounds_call.proofs.members.word_of.Goals as goal

pub returns-then-m-lt256 : goal.returns-then-m-lt256
unfolding word_of
returns-then-m-lt256 c = rw (lt-ltb _ _ c.if-m-lt256.true)

pub returns-else-m-lt256 : goal.returns-else-m-lt256
unfolding word_of
returns-else-m-lt256 c = rw (le-ltb _ _ c.if-m-lt256.false)
