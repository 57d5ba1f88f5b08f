-- `refusals::lowest_bad_entry` meets its contract: `position` finds the lowest entry that names no thread.
use Rattle.std.proofs.Common.{ℕ, Option, Some, None, ◌<◌, ◌≤◌, List, length, rules, tests, arith}
use Rattle.std.specs.Option.{MatchOption}
use Rattle.std.specs.List.{AllWithin, HoldsAt}
use Rattle.std.proofs.lemmas.Iterator.{IsFirst-from_position, YieldsList-from_slice}
use borrow.Author.Tests.{le-leb, lt-leb}
use Rattle.model.specs.Trees.{tree_of}
use Rattle.model.specs.Refusals.{bad_entry}
use Rattle.refusals.specs.Arrays.{threads_in}
use Rattle.refusals.specs.Lowest.{FindsLowest}
use Rattle.refusals.proofs.lowest_bad_entry.Goals as goal

first_is_lowest :
    (m : ℕ) (is : List ℕ) (found : Option ℕ) →
    MatchOption found (AllWithin (λ i. i < m) is 0 (length is)) (λ k. (k < length is) × HoldsAt (λ i. m ≤ i) is k × AllWithin (λ i. i < m) is 0 k) →
    FindsLowest (length is) (bad_entry (threads_in m) is) found
unfolding bad_entry tree_of
first_is_lowest m is None h =
    (record { within = omega arith; passed = λ j l. lt-leb _ _ (h j 0 (omega arith) l); fails = λ l. absurd (omega arith) }, tt)
first_is_lowest m is (Some k) h =
    (record { within = omega (arith, h.0); passed = λ j l. lt-leb _ _ (h.2 j 0 (omega arith) l); fails = λ _. le-leb _ _ (h.1 0) }, h.0)

pub returns : goal.returns
returns c =
    first_is_lowest _ _ _
    (IsFirst-from_position _ _ _ (λ i. c.args.threads ≤ i) (λ i. i < c.args.threads) c.position.ensures.ran (YieldsList-from_slice c.args.schedule.now cc)
    (λ x q k. search (rules, tests)) (λ x q k. search (rules, tests)))
