-- `journal_call::step_check::check_steps` meets its contract: refused before the steps, or checked piece by piece from a state that fits its type.
use mathlib.Core.Path.{sym, ap, ◌∙◌}
use Rattle.lock.proofs.steps.Typing.{typed}
use Rattle.journal_call.specs.StepCheck.Stretches.{refused_number}
use Rattle.journal_call.proofs.step_check.Answering.{refused_answered, ready, kinds_long, domains_long, stop_answered, end_answered}
use Rattle.journal_call.proofs.step_check.check_steps.Goals as goal

pub returns-in-Err : goal.returns-in-Err
returns-in-Err c = let a = c.args in rw c.number.ensures (refused_answered _ _ a.threads.now a.kinds.now a.domains.now c.in-Err.refusal c.in-Err.ensures)

pub check_all-found-requires-clause-ready : goal.check_all-found-requires-clause-ready
check_all-found-requires-clause-ready c = let a = c.args in
    let g = c.well_formed.1.0.1.1.0.1.1 in
    let q = g.1.1.1.0.1.1 in
    let ty = typed a.state.words _ _ _ _ _ _ _ _ _ g.0 g.1.0 g.1.1.0 q.0 q.1.0 q.1.1.0 q.1.1.1.0 g.1.1.1.1.0 g.1.1.1.1.1.0 in
    ready _ _ a.threads.now a.kinds.now a.domains.now c.in_default.ensures ty

pub invariant_of-named-clause-kinds_long : goal.invariant_of-named-clause-kinds_long
invariant_of-named-clause-kinds_long c = let a = c.args in kinds_long _ _ a.threads.now a.kinds.now a.domains.now c.in_default.ensures

pub invariant_of-named-clause-domains_long : goal.invariant_of-named-clause-domains_long
invariant_of-named-clause-domains_long c = let a = c.args in domains_long _ _ a.threads.now a.kinds.now a.domains.now c.in_default.ensures

pub returns-in-Some : goal.returns-in-Some
returns-in-Some c = let a = c.args in
    let found = c.check_all-found.ensures in
    let number = ap refused_number (sym c.in-Some.is) ∙ found.number in
    rw c.number-in-Some.ensures (stop_answered _ _ a.threads.now a.kinds.now a.domains.now c.in_default.ensures c.in-Some.reason _ _ (record { number = number; steps = found.steps; state = found.state_after }))

pub returns-in-None : goal.returns-in-None
returns-in-None c = let a = c.args in
    let found = c.check_all-found.ensures in
    let number = ap refused_number (sym c.in-None.is) ∙ found.number in
    end_answered _ _ a.threads.now a.kinds.now a.domains.now c.in_default.ensures _ _ (record { number = number; steps = found.steps; state = found.state_after })
