-- `lock::steps::limits::is_above` meets its contract: none of the counters so far is above 2^63.
use mathlib.Core.Path.{◌≡◌}
use mathlib.Core.Bool.{false}
use Prim.Native.Nat.{ℕ, ◌<◌}
use Rattle.model.specs.Counters.{count_above}
use Rattle.lock.proofs.steps.limits.is_above.Given as goal

abbrev pub invariant-loop-d : goal.invariant-loop-d
invariant-loop-d l = (j : ℕ) → j < l.d → count_above l.counters j ≡ false
