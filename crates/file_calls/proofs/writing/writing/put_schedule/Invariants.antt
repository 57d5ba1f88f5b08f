-- At each turn of the loop, what remains to write gives the result of the whole.
use Rattle.std.proofs.Common.{◌≡◌, drop}
use Rattle.lock_file.specs.FileWriter.Writing.{written_schedule}
use Rattle.file_calls.specs.Writers.{written}
use Rattle.file_calls.proofs.writing.writing.put_schedule.Given as goal

abbrev pub invariant-loop-i : goal.invariant-loop-i
invariant-loop-i l = written l.writer (written_schedule (drop l.i-index l.schedule)) ≡ written l.initial.writer (written_schedule l.schedule)
