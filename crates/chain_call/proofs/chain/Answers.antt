-- The refusal with length 0, or the length of the chain.
use Rattle.chain_call.proofs.Answering.{reply_refused, replied}
use Rattle.chain_call.proofs.chain.Goals as goal

pub returns-in-Ok-clause-value : goal.returns-in-Ok-clause-value
returns-in-Ok-clause-value c = replied c.args.tree.now c.args.state.now c.args.thread c.args.buffer.now _ c.in-Ok.ensures.refused c.in-Ok.ensures.length

pub returns-in-Err-clause-value : goal.returns-in-Err-clause-value
returns-in-Err-clause-value c = rw c.number.ensures (reply_refused c.args.tree.now c.args.state.now c.args.thread c.args.buffer.now _ c.in-Err.ensures.refused)
