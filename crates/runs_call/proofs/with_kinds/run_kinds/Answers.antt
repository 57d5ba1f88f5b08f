-- `runs_call::with_kinds::run_kinds` meets its contract: the reported run, on its own state.
use Rattle.refusals.proofs.Refusing.{ok_numbered}
use Rattle.runs_call.proofs.with_kinds.Answering.{reply_refused, reply_accepted, steps_counted}
use Rattle.runs_call.proofs.with_kinds.run_kinds.Goals as goal

pub returns-in-Ok-clause-value : goal.returns-in-Ok-clause-value
returns-in-Ok-clause-value c = let a = c.args in
    let z = ok_numbered c.in-Ok.ensures.refused in
    reply_accepted _ _ _ a.trace.now a.rows.now z _ _ _ c.in-Ok.ensures.counts (steps_counted _ _ _ a.trace.now a.rows.now z _ c.in-Ok.ensures.counts) c.run_reported.ensures.state_after

pub returns-in-Err-clause-value : goal.returns-in-Err-clause-value
returns-in-Err-clause-value c = rw (c.number.ensures, c.no_counts.ensures) (reply_refused _ _ _ c.args.trace.now c.args.rows.now _ c.in-Err.ensures.refused _ c.run_reported.ensures.state_after)
