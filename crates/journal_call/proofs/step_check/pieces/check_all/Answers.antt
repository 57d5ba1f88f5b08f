-- `journal_call::step_check::pieces::check_all` meets its contract: piece by piece, up to the first that has a wrong step, or the end.
use mathlib.Core.Path.{sym, ◌∙◌}
use Prim.Native.Nat.{◌+◌}
use native.Mathlib.Omega.{arith}
use Rattle.journal_call.proofs.step_check.Piecing.{some_refused, none_refused}
use Rattle.journal_call.proofs.step_check.Wholes.{stops, goes_on, ends, steps_few}
use Rattle.journal_call.proofs.step_check.pieces.check_all.Goals as goal

pub overflow_add-result : goal.overflow_add-result
overflow_add-result c = let a = c.args.named.now in
    let g = c.loop-at.invariant.1.1 in
    omega (arith, steps_few _ _ a.threads.now a.kinds.now a.domains.now a.kinds_long a.domains_long _ c.loop-at.at (c.loop-at.at + c.min.result) g (omega arith) (omega (arith, g.within, c.min.ensures)) _ c.check_piece-found.ensures.steps, c.loop-at.auto.at-fits)

pub returns-then-is_some : goal.returns-then-is_some
returns-then-is_some c = let a = c.args.named.now in
    let g = c.loop-at.invariant.1.1 in
    let found = c.check_piece-found.ensures in
    let some = some_refused c.check_piece-found.result.refused (sym c.is_some.ensures ∙ c.if-is_some.true) in
    let says = stops _ _ a.threads.now a.kinds.now a.domains.now a.kinds_long a.domains_long _ c.loop-at.at (c.loop-at.at + c.min.result) g (omega arith) (omega (arith, g.within, c.min.ensures)) (λ z. some (found.number ∙ z)) in
    record { number = found.number ∙ says.number; steps = rw found.steps says.steps; state_after = found.state_after ∙ says.state }

pub loop-at-preserved : goal.loop-at-preserved
loop-at-preserved c = let a = c.args.named.now in
    let g = c.loop-at.invariant.1.1 in
    let found = c.check_piece-found.ensures in
    let none = none_refused c.check_piece-found.result.refused (sym c.is_some.ensures ∙ c.if-is_some.false) in
    (found.trace_len_unchanged ∙ c.loop-at.invariant.0, (found.codes_len_unchanged ∙ c.loop-at.invariant.1.0, goes_on _ _ a.threads.now a.kinds.now a.domains.now a.kinds_long a.domains_long _ c.loop-at.at (c.loop-at.at + c.min.result) g (omega arith) (omega (arith, g.within, c.min.ensures)) (sym found.number ∙ none) _ found.state_after))

pub returns : goal.returns
returns c = let a = c.args.named.now in
    let says = ends _ _ a.threads.now a.kinds.now a.domains.now a.kinds_long a.domains_long _ _ c.loop-at.invariant.1.1 c.loop-at-test.false in
    record { number = says.number; steps = says.steps; state_after = says.state }
