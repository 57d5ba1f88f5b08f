-- `journal_call::step_check::early_refusal_of` meets its contract: the state's check refuses, or 30 does, or nothing.
use Rattle.refusals.proofs.Refusing.{error_passed, error_numbered}
use Rattle.journal_call.proofs.step_check.Answering.{state_answered, kinds_answered, domains_answered, lengths_answered}
use Rattle.journal_call.proofs.step_check.early_refusal_of.Goals as goal
use Rattle.journal_call.proofs.step_check.early_refusal_of.Goals.{then-kinds-threads-via-then-kinds-threads, then-kinds-threads-via-else-kinds-threads+then-domains-threads}

pub returns-in_err-check_state : goal.returns-in_err-check_state
returns-in_err-check_state c = error_passed c.from_residual.result _ c.from_residual.ensures.1 (state_answered _ _ c.args.threads.now c.args.kinds.now c.args.domains.now _ c.in_err-check_state.ensures (error_numbered _ c.in_err-check_state.ensures))

pub returns-then-kinds-threads : goal.returns-then-kinds-threads
returns-then-kinds-threads c = let a = c.args in
    rw c.at.ensures (elim c.then-kinds-threads.branch [
      | then-kinds-threads-via-then-kinds-threads w ↦ kinds_answered _ _ a.threads.now a.kinds.now a.domains.now c.in_ok-check_state.ensures w.if-kinds-threads.true
      | then-kinds-threads-via-else-kinds-threads+then-domains-threads w ↦ domains_answered _ _ a.threads.now a.kinds.now a.domains.now c.in_ok-check_state.ensures w.if-kinds-threads.false w.if-domains-threads.true
    ])

pub returns : goal.returns
returns c = let a = c.args in lengths_answered _ _ a.threads.now a.kinds.now a.domains.now c.in_ok-check_state.ensures c.if-kinds-threads.false c.if-domains-threads.false
