-- At each turn of the loop, the remaining stores give the result of the whole.
use Rattle.std.proofs.Common.{◌≡◌, ◌+◌, ◌*◌, ◌-◌}
use Rattle.std.proofs.lemmas.List.Edits.{sets}
use Rattle.lock_file.specs.Reading.{entries_from}
use Rattle.lock_file.proofs.reading.read_entries.Given as goal

abbrev pub invariant-loop-k : goal.invariant-loop-k
invariant-loop-k l =
    sets l.schedule l.k (entries_from l.file (l.entries - l.k) (l.start + 2 * l.k)) ≡ sets l.initial.schedule 0 (entries_from l.file l.entries l.start)
