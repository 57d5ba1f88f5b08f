-- `journal_call::pieces::alike::read_same` meets its contract: four entries of two bytes, four of one, or none.
use native.Mathlib.Omega.{arith}
use Rattle.journal_call.proofs.reader.Stretching.{nothing}
use Rattle.journal_call.proofs.pieces.Fours.{four_read, four_moves, four_stays}
use Rattle.journal_call.proofs.pieces.alike.read_same.Goals as goal

pub returns-then-all_are : goal.returns-then-all_are
returns-then-all_are c = let a = c.args in
    let same = rw c.four_at.ensures at (c.all_are.ensures c.if-all_are.true) in
    rw c.stopped.ensures
    (four_read _ _ _ _ _ _ _ c.requires.fits.threads_left c.requires.fits.kinds_left c.put_four.ensures c.put_four-then-all_are.ensures
    (four_moves a.reader.now.journal.now a.reader.now.position a.reader.now.before _ c.requires.before_lt_known (omega (arith, c.requires.fits.bytes_left)) same))

pub returns-then-all_are-2 : goal.returns-then-all_are-2
returns-then-all_are-2 c = let a = c.args in
    let same = rw c.four_at-2.ensures at (c.all_are-2.ensures c.if-all_are-2.true) in
    rw c.stopped-then-all_are-2.ensures
    (four_read _ _ _ _ _ _ _ c.requires.fits.threads_left c.requires.fits.kinds_left c.put_four-then-all_are-2.ensures c.put_four-then-all_are-2-2.ensures
    (four_stays a.reader.now.journal.now a.reader.now.position a.reader.now.before _ c.requires.before_lt_known (omega (arith, c.requires.fits.bytes_left)) same))

pub returns : goal.returns
returns c = rw c.stopped-2.ensures (nothing _ _ _ _ _ _ _ (omega (arith, c.requires.fits.threads_left)) (omega (arith, c.requires.fits.kinds_left)))
