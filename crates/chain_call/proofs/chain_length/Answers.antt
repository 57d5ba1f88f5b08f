-- Refused, or the chain at the front of the buffer.
use Rattle.refusals.proofs.Refusing.{error_passed}
use Rattle.chain_call.proofs.Answering.{early_refused, buffer_refused, answered_20, tree_good, form_good, thread_good, answered_21, answered, buffer_answered}
use Rattle.chain_call.proofs.chain_length.Goals as goal

pub returns-in_err-lent_refusal_of-clause-refused : goal.returns-in_err-lent_refusal_of-clause-refused
returns-in_err-lent_refusal_of-clause-refused c = error_passed _ _ c.from_residual.ensures.1 (early_refused c.args.tree.now c.args.state.now c.args.thread c.args.buffer.now _ c.in_err-lent_refusal_of.ensures)

pub returns-in_err-lent_refusal_of-clause-buffer_after : goal.returns-in_err-lent_refusal_of-clause-buffer_after
returns-in_err-lent_refusal_of-clause-buffer_after c = buffer_refused c.args.tree.now c.args.state.now c.args.thread c.args.buffer.now _ (early_refused c.args.tree.now c.args.state.now c.args.thread c.args.buffer.now _ c.in_err-lent_refusal_of.ensures)

pub returns-then-buffer-tree-clause-refused : goal.returns-then-buffer-tree-clause-refused
returns-then-buffer-tree-clause-refused c = rw c.at.ensures (answered_20 c.args.tree.now c.args.state.now c.args.thread c.args.buffer.now c.in_ok-lent_refusal_of.ensures c.if-buffer-tree.true)

pub returns-then-buffer-tree-clause-buffer_after : goal.returns-then-buffer-tree-clause-buffer_after
returns-then-buffer-tree-clause-buffer_after c = buffer_refused c.args.tree.now c.args.state.now c.args.thread c.args.buffer.now c.at.result (rw c.at.ensures (answered_20 c.args.tree.now c.args.state.now c.args.thread c.args.buffer.now c.in_ok-lent_refusal_of.ensures c.if-buffer-tree.true))

pub invariant_of-lock : goal.invariant_of-lock
invariant_of-lock c = record { accepted = tree_good c.args.tree.now c.args.state.now c.args.thread c.args.buffer.now c.in_ok-lent_refusal_of.ensures; formed = form_good c.args.tree.now c.args.state.now c.args.thread c.args.buffer.now c.in_ok-lent_refusal_of.ensures }

pub follow-requires-clause-thread_lt_threads : goal.follow-requires-clause-thread_lt_threads
follow-requires-clause-thread_lt_threads c = thread_good c.args.tree.now c.args.state.now c.args.thread c.args.buffer.now c.in_ok-lent_refusal_of.ensures

pub returns-in-Some-clause-refused : goal.returns-in-Some-clause-refused
returns-in-Some-clause-refused c = answered c.args.tree.now c.args.state.now c.args.thread c.args.buffer.now c.in_ok-lent_refusal_of.ensures c.if-buffer-tree.false _ _ c.follow.ensures _ c.in-Some.is

pub returns-in-Some-clause-buffer_after : goal.returns-in-Some-clause-buffer_after
returns-in-Some-clause-buffer_after c = rw c.copy_from_slice.ensures.after (buffer_answered c.args.tree.now c.args.state.now c.args.thread c.args.buffer.now c.in_ok-lent_refusal_of.ensures c.if-buffer-tree.false _ _ c.follow.ensures _ c.in-Some.is)

pub returns-in-None-clause-refused : goal.returns-in-None-clause-refused
returns-in-None-clause-refused c = rw c.at-in-None.ensures (answered_21 c.args.tree.now c.args.state.now c.args.thread c.args.buffer.now c.in_ok-lent_refusal_of.ensures c.if-buffer-tree.false _ _ c.follow.ensures c.in-None.is)

pub returns-in-None-clause-buffer_after : goal.returns-in-None-clause-buffer_after
returns-in-None-clause-buffer_after c = buffer_refused c.args.tree.now c.args.state.now c.args.thread c.args.buffer.now c.at-in-None.result (rw c.at-in-None.ensures (answered_21 c.args.tree.now c.args.state.now c.args.thread c.args.buffer.now c.in_ok-lent_refusal_of.ensures c.if-buffer-tree.false _ _ c.follow.ensures c.in-None.is))
