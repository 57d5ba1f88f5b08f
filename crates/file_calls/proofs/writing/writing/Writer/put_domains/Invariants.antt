-- At each turn of the loop, what remains to write gives the result of the whole.
use Rattle.std.proofs.Common.{◌≡◌, ◌-◌}
use Rattle.model.specs.Trees.{tree_of}
use Rattle.lock_file.specs.FileWriter.Writing.{written_domains, domains_of}
use Rattle.file_calls.specs.Writers.{written}
use Rattle.file_calls.proofs.writing.writing.Writer.put_domains.Given as goal

abbrev pub invariant-loop-d : goal.invariant-loop-d
invariant-loop-d l =
    let t = tree_of l.tree in
    written l.self (written_domains t.parent t.threshold (l.tree.domains - l.d) l.d) ≡ written l.initial.self (domains_of t)
