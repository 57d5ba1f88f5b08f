-- At each turn of the loop, what remains to write gives the result of the whole.
use Rattle.std.proofs.Common.{◌+◌, ap, get_or, drop, rules, arith}
use Rattle.lock_file.specs.FileWriter.Writing.{low_first_bytes, written_schedule}
use Rattle.lock_file.proofs.file_writer.Lengths.{schedule_length}
use Rattle.file_calls.proofs.writing.Stored.{schedule_next, schedule_over}
use Rattle.file_calls.proofs.writing.Writers.{room_first, rest_after, none_left}
use Rattle.file_calls.proofs.writing.writing.put_schedule.Goals as goal

pub put_two_bytes-requires : goal.put_two_bytes-requires
put_two_bytes-requires c =
    let is = c.args.schedule.now in
    room_first _ _ _ _ (low_first_bytes (get_or is c.loop-i.i-index 0)) (written_schedule (drop (c.loop-i.i-index + 1) is)) (schedule_next is c.loop-i.i-index c.loop-i-test.true) c.loop-i.invariant (omega (arith, schedule_length is, c.requires))

pub loop-i-preserved : goal.loop-i-preserved
loop-i-preserved c =
    let is = c.args.schedule.now in
    rest_after _ _ _ _ (low_first_bytes (get_or is c.loop-i.i-index 0)) (written_schedule (drop (c.loop-i.i-index + 1) is)) (schedule_next c.args.schedule.now c.loop-i.i-index c.loop-i-test.true) c.loop-i.invariant c.put_two_bytes.ensures

pub returns : goal.returns
returns c =
    let done = none_left _ _ _ (schedule_over c.args.schedule.now c.loop-i.i-index c.loop-i-test.false) c.loop-i.invariant in
    let name = ap (λ w. w.buffer.ghost_name) done in
    let last = ap (λ w. w.buffer.now) done in
    search (rules, name, last)
