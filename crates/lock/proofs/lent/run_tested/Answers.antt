-- `lock::lent::run_tested` meets its contract: refused, or run.
use Rattle.refusals.proofs.Refusing.{error_numbered, ok_numbered}
use Rattle.lock.proofs.steps.Answering.{refused_state, refused_trace, early_passes, kinds_few, passed_state, passed_trace, counts_run, passed_counts}
use Rattle.lock.proofs.lent.run_tested.Goals as goal

pub returns-in_err-refusal_of-clause-state_after : goal.returns-in_err-refusal_of-clause-state_after
returns-in_err-refusal_of-clause-state_after c = refused_state _ _ _ c.args.trace.now (error_numbered _ c.in_err-refusal_of.ensures)

pub returns-in_err-refusal_of-clause-trace_after : goal.returns-in_err-refusal_of-clause-trace_after
returns-in_err-refusal_of-clause-trace_after c = refused_trace _ _ _ _ (error_numbered _ c.in_err-refusal_of.ensures)

pub run_lent-requires : goal.run_lent-requires
run_lent-requires c = early_passes _ _ _ c.args.trace.now (ok_numbered c.in_ok-refusal_of.ensures)

pub counts_of-requires : goal.counts_of-requires
counts_of-requires c = kinds_few _ _ _ c.args.trace.now (ok_numbered c.in_ok-refusal_of.ensures) _ c.run_lent.ensures.kinds_after

pub returns-clause-counts : goal.returns-clause-counts
returns-clause-counts c = passed_counts _ _ _ c.args.trace.now (ok_numbered c.in_ok-refusal_of.ensures) _ (counts_run c.args.tree.now c.args.state.now c.args.schedule.now _ _ c.run_lent.ensures.kinds_after c.counts_of.ensures)

pub returns-clause-state_after : goal.returns-clause-state_after
returns-clause-state_after c = passed_state _ _ _ c.args.trace.now (ok_numbered c.in_ok-refusal_of.ensures) _ c.run_lent.ensures.words_after c.run_lent.ensures.counters_after

pub returns-clause-trace_after : goal.returns-clause-trace_after
returns-clause-trace_after c = passed_trace _ _ _ _ (ok_numbered c.in_ok-refusal_of.ensures) _ c.run_lent.ensures.trace_after
