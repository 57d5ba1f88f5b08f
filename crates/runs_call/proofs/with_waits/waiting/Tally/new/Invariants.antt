-- `runs_call::with_waits::waiting::Tally::new` meets its contract: the marks so far are those of their numbers.
use mathlib.Core.Path.{◌≡◌}
use mathlib.Core.List.{List}
use Prim.Native.Nat.{ℕ, ◌<◌}
use lib.ListN.{length, get_or, replicate}
use Rattle.runs_call.specs.declared.with_waits.waiting.ThreadTally.{ThreadTally}
use Rattle.runs_call.specs.WithWaits.Waiting.{marks_of, attempts_of, totals_of, longest_of}
use Rattle.runs_call.specs.WithWaits.Tallies.{mark_of}
use Rattle.runs_call.proofs.with_waits.waiting.Tally.new.Given as goal

-- the first k marks are set, and nothing is counted
pub record SetSoFar (us : List ℕ) (K : List ThreadTally) (k : ℕ) : Type 0 where
  pub long : length K ≡ 256
  pub each : (i : ℕ) → i < k → get_or (marks_of K) i 0 ≡ mark_of (get_or us i 0)
  pub attempts : attempts_of K ≡ replicate 256 0
  pub totals : totals_of K ≡ replicate 256 0
  pub longest : longest_of K ≡ replicate 256 0

abbrev pub invariant-loop-k : goal.invariant-loop-k
invariant-loop-k l = SetSoFar l.under_way l.threads l.k
