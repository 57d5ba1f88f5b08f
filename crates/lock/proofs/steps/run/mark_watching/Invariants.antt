-- `lock::steps::run::mark_watching` meets its contract: the threads so far have marked their domains.
use Prim.Native.Nat.{◌+◌}
use Rattle.model.specs.States.{wrap}
use Rattle.lock.specs.Steps.Counting.{Marked}
use Rattle.lock.proofs.steps.run.mark_watching.Given as goal

abbrev pub invariant-loop-other : goal.invariant-loop-other
invariant-loop-other l = Marked l.tree.domains l.tree.parents l.tree.homes l.words.statuses l.words.places (wrap (l.words.grant + 1)) l.other l.shown
