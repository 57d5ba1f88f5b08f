-- `runs_call::many_schedules::many::run_row` meets its contract: it runs one schedule from a fresh lock, and writes its row.
use mathlib.Core.Path.{ap, ◌∙◌}
use native.Mathlib.Omega.{arith}
use lib.Seq.{sets}
use Rattle.lock.proofs.steps.Starting.{fresh_from_zero, fresh_is_lock}
use Rattle.runs_call.proofs.many_schedules.FreshRow.{row_refuses, steps_pass, kinds_of_row, row_answered}
use Rattle.runs_call.proofs.many_schedules.many.run_row.Goals as goal

pub run_lent-requires : goal.run_lent-requires
run_lent-requires c = rw (c.fresh-state.ensures, fresh_is_lock) (steps_pass c.args.tree.now.words.now c.args.tree.now.accepted c.args.schedule.now c.in-Ok.ensures _ (omega (arith, c.requires.trace_len)))

pub counts_of-requires : goal.counts_of-requires
counts_of-requires c = kinds_of_row c.args.tree.now.words.now c.args.tree.now.accepted c.args.schedule.now c.in-Ok.ensures _ (rw (c.fresh-state.ensures, fresh_from_zero) at c.run_lent.ensures.kinds_after)

pub returns-in-Ok : goal.returns-in-Ok
returns-in-Ok c = c.put_row.ensures ∙ ap (sets c.args.rows.now c.args.at) (row_answered c.args.tree.now.words.now c.args.tree.now.accepted c.args.schedule.now c.in-Ok.ensures _ (rw (c.fresh-state.ensures, fresh_from_zero) at c.run_lent.ensures.kinds_after) _ c.counts_of.ensures)

pub returns-in-Err : goal.returns-in-Err
returns-in-Err c = rw (c.number.ensures, c.no_counts.ensures) at c.put_row-in-Err.ensures
    ∙ ap (sets c.args.rows.now c.args.at) (row_refuses c.args.tree.now.words.now c.args.tree.now.accepted c.args.schedule.now _ c.in-Err.ensures)
