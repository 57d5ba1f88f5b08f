-- `lock::steps::limits::has_room` meets its contract: no counter so far is above the OR of all of them.
use Prim.Native.Nat.{ℕ, ◌≤◌, ◌<◌}
use lib.ListN.{get_or}
use Rattle.lock.proofs.steps.limits.has_room.Given as goal

abbrev pub invariant-loop-d : goal.invariant-loop-d
invariant-loop-d l = ((j : ℕ) → j < l.d → get_or l.counters.entries j 0 ≤ l.all) × ((j : ℕ) → j < l.d → get_or l.counters.tenures j 0 ≤ l.all)
