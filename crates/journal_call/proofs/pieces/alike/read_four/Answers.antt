-- `journal_call::pieces::alike::read_four` meets its contract: four entries of one kind or the other, or none.
use native.Mathlib.Omega.{arith}
use Rattle.journal_call.proofs.reader.Stretching.{nothing, again}
use Rattle.journal_call.proofs.pieces.alike.read_four.Goals as goal

pub returns-then-not-fits : goal.returns-then-not-fits
returns-then-not-fits c = rw c.stopped.ensures (nothing _ _ _ _ _ _ _ c.requires.count_in_bounds c.requires.count_in_bounds_2)

pub read_same-same-requires : goal.read_same-same-requires
read_same-same-requires c = record { fits = c.fits.ensures.fits c.if-not-fits.false; before_lt_known = c.fits.ensures.before_lt_known c.if-not-fits.false }

pub read_others-requires : goal.read_others-requires
read_others-requires c = let room = c.fits.ensures.fits c.if-not-fits.false in
    record { bytes_left = room.bytes_left; threads_left = omega (arith, room.threads_left, c.read_same-same.auto.threads); kinds_left = omega (arith, room.kinds_left, c.read_same-same.auto.kinds) }

pub returns : goal.returns
returns c = again _ _ _ _ _ _ _ _ _ _ _ _ c.read_same-same.ensures (omega (arith, c.if-count-same.false)) _ _ _ _ _ c.read_others.ensures
