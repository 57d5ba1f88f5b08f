-- `refusals::shaped_tree` meets its contract: the counts, then the domains.
use mathlib.Core.Path.{sym, ◌∙◌}
use Rattle.refusals.proofs.Refusing.{error_passed}
use Rattle.refusals.proofs.TreeTests.{counts_refused, domains_decide}
use Rattle.refusals.proofs.shaped_tree.Goals as goal

pub returns-in_err-counted-clause-refused : goal.returns-in_err-counted-clause-refused
returns-in_err-counted-clause-refused c = error_passed c.from_residual.result _ c.from_residual.ensures.1 (counts_refused c.args.tree.now _ c.in_err-counted.ensures.refused)

pub returns-in_err-domains_refusal-clause-refused : goal.returns-in_err-domains_refusal-clause-refused
returns-in_err-domains_refusal-clause-refused c =
    error_passed c.from_residual-in_err-domains_refusal.result _ c.from_residual-in_err-domains_refusal.ensures.1
    ((rw c.in_ok-counted.ensures.words at c.in_err-domains_refusal.ensures) ∙ sym (domains_decide c.args.tree.now c.in_ok-counted.ensures.refused))

pub returns-clause-refused : goal.returns-clause-refused
returns-clause-refused c = (rw c.in_ok-counted.ensures.words at c.in_ok-domains_refusal.ensures) ∙ sym (domains_decide c.args.tree.now c.in_ok-counted.ensures.refused)
