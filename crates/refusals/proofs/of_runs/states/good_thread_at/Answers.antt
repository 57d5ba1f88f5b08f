-- `refusals::of_runs::states::good_thread_at` meets its contract: a place without a mark rests, and is good.
use mathlib.Core.Path.{sym, ◌∙◌}
use Rattle.model.specs.States.{numbers_at}
use Rattle.model.specs.Trees.{tree_of}
use Rattle.refusals.specs.OfRuns.Tables.{resting_row}
use Rattle.refusals.proofs.of_runs.Resting.{rests_good}
use Rattle.refusals.proofs.of_runs.states.good_thread_at.Goals as goal

pub returns-then-marks-at-eq0 : goal.returns-then-marks-at-eq0
returns-then-marks-at-eq0 c =
    let t = tree_of c.args.tree.now.words.now in
    let i = c.args.i in
    let q = numbers_at c.args.words.now.places i in
    let there = c.requires.thread_there in
    let next = rw c.from-at.ensures at (sym c.good_next_at.ensures ∙ c.if-not-good_next_at.false) in
    let rests = c.requires.marks_there.rests i there (rw c.from-at.ensures at c.if-marks-at-eq0.true) in
    let good = rests_good t c.args.owners.now c.args.words.now.statuses i _ q (resting_row t) (c.requires.homes_there.rest i there) rests in
    rw (next, good)
