-- At each turn of the loop, what remains to write gives the result of the whole.
use Rattle.std.proofs.Common.{◌≡◌, ◌-◌}
use Rattle.model.specs.Trees.{tree_of}
use Rattle.lock_file.specs.FileWriter.Writing.{written_threads, threads_of}
use Rattle.file_calls.specs.Writers.{written}
use Rattle.file_calls.proofs.writing.writing.Writer.put_threads.Given as goal

abbrev pub invariant-loop-i : goal.invariant-loop-i
invariant-loop-i l =
    let t = tree_of l.tree in
    written l.self (written_threads t.home (l.tree.threads - l.i) l.i l.before) ≡ written l.initial.self (threads_of t)
