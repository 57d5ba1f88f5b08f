-- `lock::step_in_place` meets its contract: the run of one entry.
use mathlib.Core.Path.{refl, ◌∙◌}
use mathlib.Core.List.{[], ◌∷◌}
use Rattle.refusals.proofs.Refusing.{error_passed}
use Rattle.refusals.proofs.Refusing.{ok_numbered}
use Rattle.lock.proofs.steps.Answering.{step_refusal_is, step_state_is, thread_small, taken_is}
use Rattle.lock.proofs.step_in_place.Goals as goal

pub returns-in_err-run_tested-clause-refused : goal.returns-in_err-run_tested-clause-refused
returns-in_err-run_tested-clause-refused c = error_passed c.from_residual.result _ c.from_residual.ensures.1 (step_refusal_is c.args.tree.now c.args.state.now c.args.thread (0 ∷ []) refl _ c.in_err-run_tested.ensures.refused)

pub returns-in_err-run_tested-clause-state_after : goal.returns-in_err-run_tested-clause-state_after
returns-in_err-run_tested-clause-state_after c = c.run_tested.ensures.state_after ∙ step_state_is c.args.tree.now c.args.state.now c.args.thread (0 ∷ []) refl

pub bounds-tree-from : goal.bounds-tree-from
bounds-tree-from c = rw c.from.ensures (thread_small c.args.tree.now c.args.state.now c.args.thread _ (ok_numbered c.in_ok-run_tested.ensures.refused))

pub returns-clause-taken : goal.returns-clause-taken
returns-clause-taken c = taken_is c.args.tree.now c.args.state.now c.args.thread _ (ok_numbered c.in_ok-run_tested.ensures.refused) (0 ∷ []) _ refl c.in_ok-run_tested.ensures.codes_after record { kind = c.kind_of_code.result; domain = c.from-2.result }
    c.kind_of_code.ensures (rw (c.from-2.ensures, c.domain_of_code.ensures, c.from-home.ensures, c.from.ensures) refl)

pub returns-clause-refused : goal.returns-clause-refused
returns-clause-refused c = step_refusal_is c.args.tree.now c.args.state.now c.args.thread (0 ∷ []) refl _ c.in_ok-run_tested.ensures.refused

pub returns-clause-state_after : goal.returns-clause-state_after
returns-clause-state_after c = c.run_tested.ensures.state_after ∙ step_state_is c.args.tree.now c.args.state.now c.args.thread (0 ∷ []) refl
