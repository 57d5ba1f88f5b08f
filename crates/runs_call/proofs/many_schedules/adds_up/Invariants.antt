-- `runs_call::many_schedules::adds_up` meets its contract: at each turn, the entries left and the lengths left.
use mathlib.Core.Path.{◌≡◌}
use Prim.Native.Nat.{◌+◌}
use lib.ListN.{drop}
use Rattle.schedules.specs.Rows.{total}
use Rattle.runs_call.proofs.many_schedules.adds_up.Given as goal

abbrev pub invariant-loop-n : goal.invariant-loop-n
invariant-loop-n l = total l.lengths + l.left ≡ l.entries + total (drop l.n-index l.lengths)
