-- At each turn of the loop, the remaining entries give the result of the whole.
use Rattle.std.proofs.Common.{◌≡◌, ◌-◌}
use Rattle.lock_file.specs.Reading.{threads_from}
use Rattle.lock_file.proofs.reading.read_threads.Given as goal

abbrev pub invariant-loop-i : goal.invariant-loop-i
invariant-loop-i l =
    threads_from l.file (l.threads - l.i) l.i l.home l.at l.homes ≡ threads_from l.file l.threads 0 0 l.start l.initial.homes
