-- `rows::common::counting::count_shown` meets its contract: the domains so far are counted where they are marked.
use Rattle.std.proofs.Common.{◌≡◌, ℕ, ◌≤◌, get_or}
use Rattle.rows.specs.Common.Counting.{CountedShown}
use Rattle.rows.proofs.common.counting.count_shown.Given as goal

abbrev pub invariant-loop-d : goal.invariant-loop-d
invariant-loop-d l = CountedShown l.shown l.d l.initial.counters l.counters × (l.counters.entries ≡ l.initial.counters.entries) × ((j : ℕ) → l.d ≤ j → get_or l.counters.tenures j 0 ≡ get_or l.initial.counters.tenures j 0)
