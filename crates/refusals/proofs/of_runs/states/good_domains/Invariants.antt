-- `refusals::of_runs::states::good_domains` meets its contract: the words of all domains so far are good.
use mathlib.Core.Path.{◌≡◌}
use mathlib.Core.Bool.{true}
use Prim.Native.Nat.{ℕ, ◌+◌, ◌<◌}
use lib.ListN.{get_or}
use Rattle.refusals.specs.OfRuns.Tables.{tail_and_next_in}
use Rattle.refusals.proofs.of_runs.states.good_domains.Given as goal

abbrev pub invariant-loop-d : goal.invariant-loop-d
invariant-loop-d l = (j : ℕ) → j < l.d → tail_and_next_in l.owners j (get_or l.words.tails j 0) (get_or l.words.nexts (256 + j) 0) ≡ true
