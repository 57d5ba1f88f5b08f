-- `journal_call::pieces::read_piece` meets its contract: four entries at once or up to thirty-two one by one, until the arrays are full or reading stops.
use mathlib.Core.Path.{refl, sym, ◌∙◌}
use native.Mathlib.Omega.{arith}
use Rattle.journal_call.specs.Reader.Stretches.{for_room}
use Rattle.journal_call.proofs.reader.Stretching.{nothing, more, again, threads_long, kinds_long}
use Rattle.journal_call.proofs.pieces.Fronts.{piece, given, not_given}
use Rattle.journal_call.proofs.pieces.read_piece.Goals as goal

pub loop-count-init : goal.loop-count-init
loop-count-init c = (omega arith, omega arith, refl, nothing _ _ _ _ _ _ _ (omega arith) (omega arith))

pub read_alike-alike-requires : goal.read_alike-alike-requires
read_alike-alike-requires c = let inv = c.loop-count.invariant.3 in
    record { count_in_bounds = omega (arith, inv.threads_fit, threads_long _ _ _ _ _ _ _ _ _ _ _ _ (inv)); count_in_bounds_2 = omega (arith, inv.kinds_fit, kinds_long _ _ _ _ _ _ _ _ _ _ _ _ (inv)) }

pub loop-count-smaller-then-count-alike : goal.loop-count-smaller-then-count-alike
loop-count-smaller-then-count-alike c = omega (arith, c.if-count-alike.true, c.loop-count-test.true)

pub loop-count-preserved-then-count-alike : goal.loop-count-preserved-then-count-alike
loop-count-preserved-then-count-alike c = (omega arith, omega arith, c.loop-count.invariant.2, more _ _ _ _ _ _ _ _ _ _ _ _ c.loop-count.invariant.3 _ _ _ _ _ (rw c.loop-count.invariant.2 at c.read_alike-alike.ensures))

pub block_end-end-requires : goal.block_end-end-requires
block_end-end-requires c = record { count_lt_room = c.loop-count-test.true; wanted_nonzero = (c.loop-count.invariant.0, c.loop-count.invariant.1) }

pub read_next-some-requires : goal.read_next-some-requires
read_next-some-requires c = let inv = c.loop-count.invariant.3 in
    let room = c.min-room.ensures in
    record { from_le_end = (omega (arith, c.block_end-end.ensures.lower_bound.0), omega (arith, c.block_end-end.ensures.lower_bound.1)); end_in_bounds = omega (arith, c.block_end-end.ensures.upper_bound, room, threads_long _ _ _ _ _ _ _ _ _ _ _ _ (inv), c.read_alike-alike.auto.threads); end_in_bounds_2 = omega (arith, c.block_end-end.ensures.upper_bound, room, kinds_long _ _ _ _ _ _ _ _ _ _ _ _ (inv), c.read_alike-alike.auto.kinds) }

pub returns-then-is_some : goal.returns-then-is_some
returns-then-is_some c = piece _ _ _ _ _ _ _ _ c.read_next-some.result
    (more _ _ _ _ _ _ _ _ _ _ _ _ c.loop-count.invariant.3 _ _ _ _ _
    (again _ _ _ _ _ _ _ _ _ _ _ _ (rw c.loop-count.invariant.2 at c.read_alike-alike.ensures) c.if-count-alike.false _ _ _ _ _ (rw c.loop-count.invariant.2 at c.read_next-some.ensures.read_on)))
    (rw c.loop-count.invariant.2 at c.read_next-some.ensures.stopped_before.stops) (λ z. absurd (given _ (sym c.is_some.ensures ∙ c.if-is_some.true) z))

pub returns-then-reader-some : goal.returns-then-reader-some
returns-then-reader-some c = piece _ _ _ _ _ _ _ _ c.read_next-some.result
    (more _ _ _ _ _ _ _ _ _ _ _ _ c.loop-count.invariant.3 _ _ _ _ _
    (again _ _ _ _ _ _ _ _ _ _ _ _ (rw c.loop-count.invariant.2 at c.read_alike-alike.ensures) c.if-count-alike.false _ _ _ _ _ (rw c.loop-count.invariant.2 at c.read_next-some.ensures.read_on)))
    (rw c.loop-count.invariant.2 at c.read_next-some.ensures.stopped_before.stops) (λ z l. absurd (omega (arith, l, c.if-reader-some.true)))

pub loop-count-smaller : goal.loop-count-smaller
loop-count-smaller c = let full = (rw c.loop-count.invariant.2 at c.read_next-some.ensures.stopped_before).full (not_given _ (sym c.is_some.ensures ∙ c.if-is_some.false)) c.if-reader-some.false in
    omega (arith, full, c.block_end-end.ensures.lower_bound.0, c.loop-count-test.true)

pub loop-count-preserved : goal.loop-count-preserved
loop-count-preserved c = (
  omega arith,
  omega arith,
  c.loop-count.invariant.2,
  more _ _ _ _ _ _ _ _ _ _ _ _ c.loop-count.invariant.3 _ _ _ _ _
      (again _ _ _ _ _ _ _ _ _ _ _ _ (rw c.loop-count.invariant.2 at c.read_alike-alike.ensures) c.if-count-alike.false _ _ _ _ _ (rw c.loop-count.invariant.2 at c.read_next-some.ensures.read_on)),
)

pub returns : goal.returns
returns c = let inv = c.loop-count.invariant.3 in
    rw c.stopped.ensures
    (piece _ _ _ _ _ _ _ _ _ inv for_room
    (λ z l room f g. omega (arith, c.loop-count-test.false, c.min-room.ensures, f, g, threads_long _ _ _ _ _ _ _ _ _ _ _ _ (inv), kinds_long _ _ _ _ _ _ _ _ _ _ _ _ (inv))))
