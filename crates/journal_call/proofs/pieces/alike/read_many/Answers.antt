-- `journal_call::pieces::alike::read_many` meets its contract: sixteen are read if they fit, otherwise none.
use Rattle.journal_call.proofs.reader.Stretching.{nothing}
use Rattle.journal_call.proofs.pieces.alike.read_many.Goals as goal

pub returns-then-not-fits : goal.returns-then-not-fits
returns-then-not-fits c = rw c.stopped.ensures (nothing _ _ _ _ _ _ _ c.requires.count_in_bounds c.requires.count_in_bounds_2)

pub read_sixteen-requires : goal.read_sixteen-requires
read_sixteen-requires c = record { fits = c.fits.ensures.fits c.if-not-fits.false; before_lt_known = c.fits.ensures.before_lt_known c.if-not-fits.false }
