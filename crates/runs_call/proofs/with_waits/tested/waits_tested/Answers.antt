-- `runs_call::with_waits::tested::waits_tested` meets its contract: refused, or run in pieces.
use Rattle.lock.proofs.steps.Answering.{counts_run}
use Rattle.refusals.proofs.Refusing.{error_passed, error_numbered, ok_numbered}
use Rattle.waits.specs.Answers.{refused_on}
use Rattle.runs_call.proofs.with_waits.Waited.{waits_refuse, waits_pass, waits_kinds_few, waits_answered}
use Rattle.runs_call.proofs.with_waits.tested.waits_tested.Goals as goal

pub returns-in_err-refusal_of-clause-refused : goal.returns-in_err-refusal_of-clause-refused
unfolding refused_on
returns-in_err-refusal_of-clause-refused c = error_passed c.from_residual.result _ c.from_residual.ensures.1 c.in_err-refusal_of.ensures

pub returns-in_err-refusal_of-clause-state_after : goal.returns-in_err-refusal_of-clause-state_after
returns-in_err-refusal_of-clause-state_after c = let a = c.args in (waits_refuse a.tree.now a.state.now a.schedule.now a.trace.now a.rows.now a.under_way.now (error_numbered _ c.in_err-refusal_of.ensures)).0

pub returns-in_err-refusal_of-clause-trace_after : goal.returns-in_err-refusal_of-clause-trace_after
returns-in_err-refusal_of-clause-trace_after c = let a = c.args in (waits_refuse a.tree.now a.state.now a.schedule.now a.trace.now a.rows.now a.under_way.now (error_numbered _ c.in_err-refusal_of.ensures)).1.0

pub returns-in_err-refusal_of-clause-rows_after : goal.returns-in_err-refusal_of-clause-rows_after
returns-in_err-refusal_of-clause-rows_after c = let a = c.args in (waits_refuse a.tree.now a.state.now a.schedule.now a.trace.now a.rows.now a.under_way.now (error_numbered _ c.in_err-refusal_of.ensures)).1.1.0

pub returns-in_err-refusal_of-clause-under_way_after : goal.returns-in_err-refusal_of-clause-under_way_after
returns-in_err-refusal_of-clause-under_way_after c = let a = c.args in (waits_refuse a.tree.now a.state.now a.schedule.now a.trace.now a.rows.now a.under_way.now (error_numbered _ c.in_err-refusal_of.ensures)).1.1.1

pub run_counted-requires-clause-trace_value : goal.run_counted-requires-clause-trace_value
run_counted-requires-clause-trace_value c = let a = c.args in (waits_pass a.tree.now a.state.now a.schedule.now a.trace.now a.rows.now a.under_way.now (ok_numbered c.in_ok-refusal_of.ensures)).0

pub run_counted-requires-clause-tree_in_bounds : goal.run_counted-requires-clause-tree_in_bounds
run_counted-requires-clause-tree_in_bounds c = let a = c.args in (waits_pass a.tree.now a.state.now a.schedule.now a.trace.now a.rows.now a.under_way.now (ok_numbered c.in_ok-refusal_of.ensures)).1.0

pub run_counted-requires-clause-handed_in : goal.run_counted-requires-clause-handed_in
run_counted-requires-clause-handed_in c = let a = c.args in (waits_pass a.tree.now a.state.now a.schedule.now a.trace.now a.rows.now a.under_way.now (ok_numbered c.in_ok-refusal_of.ensures)).1.1

pub counts_of-requires : goal.counts_of-requires
counts_of-requires c = let a = c.args in waits_kinds_few a.tree.now a.state.now a.schedule.now a.trace.now a.rows.now a.under_way.now (ok_numbered c.in_ok-refusal_of.ensures) _ c.run_counted.ensures.kinds_after

pub returns-clause-refused : goal.returns-clause-refused
unfolding refused_on
returns-clause-refused c = c.in_ok-refusal_of.ensures

pub returns-clause-counts : goal.returns-clause-counts
returns-clause-counts c = let a = c.args in counts_run a.tree.now a.state.now a.schedule.now _ _ c.run_counted.ensures.kinds_after c.counts_of.ensures

pub returns-clause-state_after : goal.returns-clause-state_after
returns-clause-state_after c = let a = c.args in (waits_answered a.tree.now a.state.now a.schedule.now a.trace.now a.rows.now a.under_way.now (ok_numbered c.in_ok-refusal_of.ensures) _ _ _ _ c.run_counted.ensures.words_after c.run_counted.ensures.trace_after c.run_counted.ensures.rows_after c.run_counted.ensures.under_way_after c.run_counted.ensures.counters_after).0

pub returns-clause-trace_after : goal.returns-clause-trace_after
returns-clause-trace_after c = let a = c.args in (waits_answered a.tree.now a.state.now a.schedule.now a.trace.now a.rows.now a.under_way.now (ok_numbered c.in_ok-refusal_of.ensures) _ _ _ _ c.run_counted.ensures.words_after c.run_counted.ensures.trace_after c.run_counted.ensures.rows_after c.run_counted.ensures.under_way_after c.run_counted.ensures.counters_after).1.0

pub returns-clause-rows_after : goal.returns-clause-rows_after
returns-clause-rows_after c = let a = c.args in (waits_answered a.tree.now a.state.now a.schedule.now a.trace.now a.rows.now a.under_way.now (ok_numbered c.in_ok-refusal_of.ensures) _ _ _ _ c.run_counted.ensures.words_after c.run_counted.ensures.trace_after c.run_counted.ensures.rows_after c.run_counted.ensures.under_way_after c.run_counted.ensures.counters_after).1.1.0

pub returns-clause-under_way_after : goal.returns-clause-under_way_after
returns-clause-under_way_after c = let a = c.args in (waits_answered a.tree.now a.state.now a.schedule.now a.trace.now a.rows.now a.under_way.now (ok_numbered c.in_ok-refusal_of.ensures) _ _ _ _ c.run_counted.ensures.words_after c.run_counted.ensures.trace_after c.run_counted.ensures.rows_after c.run_counted.ensures.under_way_after c.run_counted.ensures.counters_after).1.1.1
