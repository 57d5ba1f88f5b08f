-- The state so far at the reader's position; each turn moves the reader on.
use mathlib.Core.Path.{refl, ap, ◌∙◌}
use native.Mathlib.Omega.{arith}
use Rattle.journal_call.proofs.Journaling.{start, ends, refusal_passed}
use Rattle.journal_call.proofs.journals.check_entries.Goals as goal

pub loop-reader-init : goal.loop-reader-init
loop-reader-init c = (refl, start _ _ c.requires _ (ap (λ x. x.words) c.fresh-state.ensures))

pub returns-in_err-check_piece : goal.returns-in_err-check_piece
returns-in_err-check_piece c = let inv = c.loop-reader.invariant in
    refusal_passed c.from_residual.result _ c.from_residual.ensures.1 (rw inv.0 at c.in_err-check_piece.ensures.turned)

pub loop-reader-preserved : goal.loop-reader-preserved
loop-reader-preserved c = let inv = c.loop-reader.invariant in
    (c.in_ok-check_piece.ensures.journal_unchanged ∙ inv.0, rw inv.0 at c.in_ok-check_piece.ensures.turned.1)

pub returns : goal.returns
returns c = ends _ _ c.requires _ _ _ c.loop-reader.invariant.1 (omega (arith, c.loop-reader-test.false))

pub loop-reader-smaller : goal.loop-reader-smaller
loop-reader-smaller c = let inv = c.loop-reader.invariant in
    let test = c.loop-reader-test.true in
    let turned = rw inv.0 at c.in_ok-check_piece.ensures.turned in
    omega (arith, (turned.0 test).0, test)
