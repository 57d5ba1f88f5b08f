-- `lock::steps::fresh_state` meets its contract: its arrays are the definition's, and both counters are the number given.
use Rattle.model.specs.States.{fresh_words}
use borrow.Author.Rules.{rules}
use Rattle.lock.proofs.steps.fresh_state.Goals as goal

pub returns : goal.returns
unfolding fresh_words
returns c = search rules
