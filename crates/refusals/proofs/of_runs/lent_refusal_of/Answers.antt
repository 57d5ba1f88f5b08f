-- `refusals::of_runs::lent_refusal_of` meets its contract: the tests of the tree, of the state's counters and of its words, then the schedule's.
use mathlib.Core.Path.{sym, ◌∙◌}
use Rattle.refusals.proofs.Refusing.{error_passed}
use Rattle.refusals.proofs.of_runs.StateTests.{tree_refuses, counts_refuse, words_refuse, schedule_answers}
use Rattle.refusals.proofs.of_runs.lent_refusal_of.Goals as goal

pub returns-in_err-accepted : goal.returns-in_err-accepted
returns-in_err-accepted c = error_passed c.from_residual.result _ c.from_residual.ensures.1 (tree_refuses c.args.tree.now c.args.state.now _ _ _ c.in_err-accepted.ensures.refused)

pub returns-then-not-good_counts : goal.returns-then-not-good_counts
returns-then-not-good_counts c = rw c.at.ensures (counts_refuse c.args.tree.now c.args.state.now _ _ c.in_ok-accepted.ensures.refused (sym c.if-not-good_counts.ensures))

pub returns-then-not-is_well_formed : goal.returns-then-not-is_well_formed
returns-then-not-is_well_formed c = rw c.at-then-not-is_well_formed.ensures (words_refuse c.args.tree.now c.args.state.now _ _ c.in_ok-accepted.ensures.refused (rw c.in_ok-accepted.ensures.words at (sym c.if-not-is_well_formed.ensures)))

pub returns : goal.returns
returns c = c.schedule_refusal_of.ensures
    ∙ schedule_answers c.args.tree.now c.args.state.now _ _ c.in_ok-accepted.ensures.refused (sym c.if-not-good_counts.ensures) (rw c.in_ok-accepted.ensures.words at (sym c.if-not-is_well_formed.ensures))
