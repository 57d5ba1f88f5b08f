-- `runs_call::with_waits::waiting::run_counted` meets its contract: the pieces so far are run and counted.
use native.Mathlib.Omega.{arith}
use Rattle.model.specs.Trees.{tree_of}
use Rattle.model.proofs.Laws.Calls.{run_facts}
use Rattle.runs_call.proofs.with_waits.Pieces.{pieces_start, part_room, from_first, entered_small, attempts_table, marks_fit, state_ends, counters_end, kinds_end, trace_ends, rows_are, numbers_are, piece_runs, kinds_fit, countable, pieces_turn, threads_few}
use Rattle.runs_call.proofs.with_waits.waiting.run_counted.Goals as goal

pub new-tally-requires : goal.new-tally-requires
new-tally-requires c = c.requires.handed_in

pub loop-from-init : goal.loop-from-init
loop-from-init c = let e = c.new-tally.ensures in
    pieces_start _ _ _ _ _ _ _ c.requires.handed_in e.marks e.attempts e.totals e.longest (record { typed = c.fits_its_type.ensures; form = (run_facts _ _ _ _ c.requires.trace_value).form })

pub overflow_sub-written : goal.overflow_sub-written
overflow_sub-written c = from_first _ _ _ _ _ _ _ _ _ _ _ _ _ c.loop-from.invariant c.requires.trace_value

pub offset_bounds-schedule-from : goal.offset_bounds-schedule-from
offset_bounds-schedule-from c = omega (arith, c.loop-from-test.true, (run_facts _ _ _ _ c.requires.trace_value).short)

pub offset_bounds-trace-written : goal.offset_bounds-trace-written
offset_bounds-trace-written c = omega (arith, entered_small _ _ _ _ _ _ _ _ _ _ _ _ _ c.loop-from.invariant c.requires.trace_value)

pub slice_bounds-run_lent-count-in-loop-from : goal.slice_bounds-run_lent-count-in-loop-from
slice_bounds-run_lent-count-in-loop-from c = part_room _ _ _ _ _ _ _ _ _ _ _ _ _ c.loop-from.invariant c.requires.trace_value

pub slice_bounds-run_lent-start-in-loop-from : goal.slice_bounds-run_lent-start-in-loop-from
slice_bounds-run_lent-start-in-loop-from c = part_room _ _ _ _ _ _ _ _ _ _ _ _ _ c.loop-from.invariant c.requires.trace_value

pub run_lent-requires : goal.run_lent-requires
run_lent-requires c = let e = c.piece_end-end.ensures in piece_runs _ _ _ _ _ _ _ _ _ _ _ _ _ c.loop-from.invariant c.requires.trace_value _ e.0 e.1.0 e.1.1

pub add_kinds-requires : goal.add_kinds-requires
add_kinds-requires c = let e = c.piece_end-end.ensures in
    kinds_fit _ _ _ _ _ _ _ _ _ _ _ _ _ c.loop-from.invariant c.requires.trace_value _ e.0 e.1.0 e.1.1 _ c.run_lent.ensures.kinds_after

pub offset_bounds-schedule-from-in-loop-from : goal.offset_bounds-schedule-from-in-loop-from
offset_bounds-schedule-from-in-loop-from c = omega (arith, c.loop-from-test.true, (run_facts _ _ _ _ c.requires.trace_value).short)

pub count_piece-entered-requires : goal.count_piece-entered-requires
count_piece-entered-requires c = let e = c.piece_end-end.ensures in
    countable _ _ _ _ _ _ _ _ _ _ _ _ _ c.loop-from.invariant c.requires.trace_value _ e.0 e.1.0 e.1.1 _ c.run_lent.ensures.codes_after

pub loop-from-smaller : goal.loop-from-smaller
loop-from-smaller c = let e = c.piece_end-end.ensures in omega (arith, e.0, e.1.0)

pub loop-from-preserved : goal.loop-from-preserved
loop-from-preserved c = let e = c.piece_end-end.ensures in
    pieces_turn _ _ _ _ _ _ _ _ _ _ _ _ _ c.loop-from.invariant c.requires.trace_value _ e.0 e.1.0 e.1.1 _ c.run_lent.ensures.codes_after _ _ c.run_lent.ensures.words_after c.run_lent.ensures.counters_after _ c.run_lent.ensures.trace_after _ _ c.run_lent.ensures.kinds_after
    c.add_kinds.ensures _ _ c.count_piece-entered.ensures

pub put_rows-requires : goal.put_rows-requires
unfolding tree_of
put_rows-requires c = record { threads_bound = threads_few c.args.tree.now (run_facts _ _ _ _ c.requires.trace_value).tree; threads_in_bounds = c.requires.tree_in_bounds; small = attempts_table _ _ _ _ _ _ _ _ _ _ _ _ _ c.loop-from.invariant c.requires.trace_value }

pub numbers-requires : goal.numbers-requires
unfolding tree_of
numbers-requires c = record { threads_bound = threads_few c.args.tree.now (run_facts _ _ _ _ c.requires.trace_value).tree; marks_fit = marks_fit _ _ _ _ _ _ _ _ _ _ _ _ _ c.loop-from.invariant c.requires.trace_value }

pub returns : goal.returns
unfolding tree_of
returns c = let e = c.loop-from-test.false in
    let ok = c.requires.trace_value in
    let g = c.loop-from.invariant in
    let few = threads_few c.args.tree.now (run_facts _ _ _ _ ok).tree in record { words_after = state_ends _ _ _ _ _ _ _ _ _ _ _ _ _ g ok e; trace_after = trace_ends _ _ _ _ _ _ _ _ _ _ _ _ _ g ok e; kinds_after = kinds_end _ _ _ _ _ _ _ _ _ _ _ _ _ g ok e; rows_after = rows_are _ _ _ _ _ _ _ _ _ _ _ _ _ g ok e few _ _ c.put_rows.ensures; under_way_after = numbers_are _ _ _ _ _ _ _ _ _ _ _ _ _ g ok e few _ _ c.numbers.ensures; counters_after = counters_end _ _ _ _ _ _ _ _ _ _ _ _ _ g ok e }
