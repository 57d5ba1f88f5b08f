-- `runs_call::with_waits::run_waits_on` meets its contract: the run in pieces, on its own state.
use native.Mathlib.Omega.{arith}
use Rattle.model.specs.Trees.{tree_of}
use Rattle.waits.specs.Answers.{refused_on}
use Rattle.refusals.proofs.Refusing.{ok_numbered}
use Rattle.runs_call.proofs.with_waits.Waited.{reply_refused, reply_accepted, waits_threads_few}
use Rattle.runs_call.proofs.with_waits.run_waits_on.Goals as goal

pub overflow_add-result : goal.overflow_add-result
unfolding tree_of refused_on
overflow_add-result c = let a = c.args in omega (arith, waits_threads_few a.tree.now a.state a.schedule.now a.trace.now a.rows.now a.under_way.now (ok_numbered c.in-Ok.ensures.refused))

pub returns-in-Ok-clause-value : goal.returns-in-Ok-clause-value
unfolding tree_of refused_on
returns-in-Ok-clause-value c = let a = c.args in reply_accepted a.tree.now a.state a.schedule.now a.trace.now a.rows.now a.under_way.now (ok_numbered c.in-Ok.ensures.refused) _ _ c.in-Ok.ensures.counts c.waits_tested.ensures.state_after

pub returns-in-Err-clause-value : goal.returns-in-Err-clause-value
returns-in-Err-clause-value c = let a = c.args in rw (c.number.ensures, c.no_counts.ensures) (reply_refused a.tree.now a.state a.schedule.now a.trace.now a.rows.now a.under_way.now _ c.in-Err.ensures.refused _ c.waits_tested.ensures.state_after)
