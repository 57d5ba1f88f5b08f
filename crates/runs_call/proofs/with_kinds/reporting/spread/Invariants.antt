-- `runs_call::with_kinds::reporting::spread` meets its contract: the steps from a given one on have two numbers each.
use Prim.Native.Nat.{◌≤◌}
use lib.ListN.{length}
use Rattle.runs_call.specs.WithKinds.Spreading.{Spread}
use Rattle.runs_call.proofs.with_kinds.reporting.spread.Given as goal

abbrev pub invariant-loop-k : goal.invariant-loop-k
invariant-loop-k l = (l.k ≤ length l.schedule) × Spread l.homes l.schedule l.initial.rows l.k l.rows
