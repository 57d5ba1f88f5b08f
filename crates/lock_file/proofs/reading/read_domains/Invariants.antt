-- At each turn of the loop, the remaining entries give the result of the whole.
use Rattle.std.proofs.Common.{◌≡◌, ◌-◌}
use Rattle.lock_file.specs.Reading.{domains_from}
use Rattle.lock_file.proofs.reading.read_domains.Given as goal

abbrev pub invariant-loop-d : goal.invariant-loop-d
invariant-loop-d l =
    domains_from l.file (l.domains - l.d) l.d l.at l.parents l.thresholds ≡ domains_from l.file (l.domains - 1) 1 1 l.initial.parents l.initial.thresholds
