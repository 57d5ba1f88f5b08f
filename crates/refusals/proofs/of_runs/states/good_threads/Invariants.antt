-- `refusals::of_runs::states::good_threads` meets its contract: all threads so far have good records and places.
use mathlib.Core.Path.{◌≡◌}
use mathlib.Core.Bool.{true}
use Prim.Native.Nat.{ℕ, ◌<◌}
use lib.ListN.{get_or}
use Rattle.model.specs.States.{numbers_at}
use Rattle.model.specs.Trees.{tree_of}
use Rattle.refusals.specs.OfRuns.Tables.{used_in}
use Rattle.refusals.proofs.of_runs.states.good_threads.Given as goal

abbrev pub invariant-loop-i : goal.invariant-loop-i
invariant-loop-i l =
    (j : ℕ) → j < l.i →
    used_in (tree_of l.tree.words.now) l.owners l.words.statuses j (numbers_at l.words.places j) (get_or l.words.nexts j 0) ≡ true
