-- `runs_call::with_kinds::reporting::run_reported` meets its contract: refused, or run, with two numbers for each reported step.
use Rattle.lock.proofs.steps.Answering.{early_passes, kinds_few, counts_run}
use Rattle.refusals.proofs.Refusing.{error_numbered, ok_numbered}
use Rattle.runs_call.proofs.with_kinds.Answering.{kept_state, kept_trace, kept_rows, as_run, codes_fit, threads_fit, rows_reported, passed_trace, passed_state}
use Rattle.runs_call.proofs.with_kinds.reporting.run_reported.Goals as goal

pub returns-in_err-refusal_of-clause-state_after : goal.returns-in_err-refusal_of-clause-state_after
returns-in_err-refusal_of-clause-state_after c = kept_state _ _ _ c.args.trace.now c.args.rows.now (error_numbered _ c.in_err-refusal_of.ensures)

pub returns-in_err-refusal_of-clause-trace_after : goal.returns-in_err-refusal_of-clause-trace_after
returns-in_err-refusal_of-clause-trace_after c = kept_trace _ _ _ _ c.args.rows.now (error_numbered _ c.in_err-refusal_of.ensures)

pub returns-in_err-refusal_of-clause-rows_after : goal.returns-in_err-refusal_of-clause-rows_after
returns-in_err-refusal_of-clause-rows_after c = kept_rows _ _ _ c.args.trace.now _ (error_numbered _ c.in_err-refusal_of.ensures)

pub run_lent-requires : goal.run_lent-requires
run_lent-requires c = let a = c.args in early_passes _ _ a.schedule.now a.trace.now (as_run _ _ _ a.trace.now a.rows.now (ok_numbered c.in_ok-refusal_of.ensures))

pub spread-requires-clause-schedule_in_bounds : goal.spread-requires-clause-schedule_in_bounds
spread-requires-clause-schedule_in_bounds c = let a = c.args in codes_fit _ _ a.schedule.now a.trace.now a.rows.now (ok_numbered c.in_ok-refusal_of.ensures) _ c.run_lent.ensures.codes_after

pub spread-requires-clause-threads_fit : goal.spread-requires-clause-threads_fit
spread-requires-clause-threads_fit c = let a = c.args in threads_fit _ _ a.schedule.now a.trace.now a.rows.now (ok_numbered c.in_ok-refusal_of.ensures)

pub counts_of-requires : goal.counts_of-requires
counts_of-requires c = let a = c.args in
    kinds_few _ _ a.schedule.now a.trace.now (as_run _ _ _ a.trace.now a.rows.now (ok_numbered c.in_ok-refusal_of.ensures)) _ c.run_lent.ensures.kinds_after

pub returns-clause-counts : goal.returns-clause-counts
returns-clause-counts c = counts_run c.args.tree.now c.args.state.now c.args.schedule.now _ _ c.run_lent.ensures.kinds_after c.counts_of.ensures

pub returns-clause-state_after : goal.returns-clause-state_after
returns-clause-state_after c = let a = c.args in passed_state _ _ _ a.trace.now a.rows.now (ok_numbered c.in_ok-refusal_of.ensures) _ c.run_lent.ensures.words_after c.run_lent.ensures.counters_after

pub returns-clause-trace_after : goal.returns-clause-trace_after
returns-clause-trace_after c = let a = c.args in passed_trace _ _ _ _ a.rows.now (ok_numbered c.in_ok-refusal_of.ensures) _ c.run_lent.ensures.trace_after

pub returns-clause-rows_after : goal.returns-clause-rows_after
returns-clause-rows_after c = let a = c.args in rows_reported _ _ a.schedule.now a.trace.now a.rows.now (ok_numbered c.in_ok-refusal_of.ensures) c.run_lent.ensures.typed _ _ c.run_lent.ensures.codes_after c.spread.ensures
