-- `runs_call::many_schedules::run_many` meets its contract: refused as a whole, or every row.
use Rattle.model.proofs.Trees.Reading.{few_domains, few_threads}
use Rattle.runs_call.proofs.many_schedules.Storing.{call_refuses, rows_kept, call_good, call_replies, call_answered}
use Rattle.runs_call.proofs.many_schedules.run_many.Goals as goal

pub invariant_of-accepted : goal.invariant_of-accepted
invariant_of-accepted c =
    let a = c.args in
    let ok = (call_good a.tree.now a.lengths.now a.entries.now a.rows.now c.in-Ok.ensures).tree in
    record { accepted = ok; few_domains = few_domains _ ok; few_threads = few_threads _ ok }

pub run_rows-requires-clause-lengths_value : goal.run_rows-requires-clause-lengths_value
run_rows-requires-clause-lengths_value c = let a = c.args in (call_good a.tree.now a.lengths.now a.entries.now a.rows.now c.in-Ok.ensures).adds_up

pub run_rows-requires-clause-lengths_in_bounds : goal.run_rows-requires-clause-lengths_in_bounds
run_rows-requires-clause-lengths_in_bounds c = let a = c.args in (call_good a.tree.now a.lengths.now a.entries.now a.rows.now c.in-Ok.ensures).fits

pub returns-in-Ok-clause-value : goal.returns-in-Ok-clause-value
returns-in-Ok-clause-value c = let a = c.args in call_replies a.tree.now a.lengths.now a.entries.now a.rows.now c.in-Ok.ensures

pub returns-in-Ok-clause-rows_after : goal.returns-in-Ok-clause-rows_after
returns-in-Ok-clause-rows_after c = let a = c.args in call_answered a.tree.now a.lengths.now a.entries.now a.rows.now c.in-Ok.ensures _ c.run_rows.ensures

pub returns-in-Err-clause-value : goal.returns-in-Err-clause-value
returns-in-Err-clause-value c = let a = c.args in rw c.number.ensures (call_refuses a.tree.now a.lengths.now a.entries.now a.rows.now _ c.in-Err.ensures)

pub returns-in-Err-clause-rows_after : goal.returns-in-Err-clause-rows_after
returns-in-Err-clause-rows_after c = let a = c.args in rows_kept a.tree.now a.lengths.now a.entries.now a.rows.now _ c.in-Err.ensures
