-- `refusals::tree_refusal_of` meets its contract: counts and domains, then the homes.
use mathlib.Core.Path.{sym}
use Rattle.refusals.proofs.Refusing.{error_passed, ok_numbered}
use Rattle.refusals.proofs.TreeTests.{shape_refused}
use Rattle.refusals.proofs.Occupying.{leaves_pass}
use Rattle.refusals.proofs.tree_refusal_of.Goals as goal

pub returns-in_err-counted : goal.returns-in_err-counted
returns-in_err-counted c = error_passed c.from_residual.result _ c.from_residual.ensures.1 (shape_refused c.args.tree.now _ c.in_err-counted.ensures.refused)

pub returns-then-homes_are_leaves : goal.returns-then-homes_are_leaves
returns-then-homes_are_leaves c =
    sym (leaves_pass c.args.tree.now (ok_numbered c.in_ok-counted.ensures.refused) _ (rw c.in_ok-counted.ensures.words at c.homes_are_leaves.ensures) c.if-homes_are_leaves.true)

pub homes_refusal-requires : goal.homes_refusal-requires
homes_refusal-requires c = rw c.in_ok-counted.ensures.words (ok_numbered c.in_ok-counted.ensures.refused)

pub returns : goal.returns
returns c = rw c.in_ok-counted.ensures.words at c.homes_refusal.ensures
