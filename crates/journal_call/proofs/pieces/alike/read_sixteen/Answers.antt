-- `journal_call::pieces::alike::read_sixteen` meets its contract: each entry has the thread before and the kind after its bit map.
use mathlib.Core.Path.{◌≡◌, refl, sym, ap}
use Prim.Native.Nat.{◌+◌, ◌*◌}
use native.Mathlib.Omega.{arith}
use lib.Dec.{lit≤}
use lib.ListN.{get_or}
use Rattle.journal_call.proofs.reader.Stretching.{nothing, one, more, threads_long, kinds_long}
use Rattle.journal_call.proofs.pieces.Sizes.{entry_read}
use Rattle.journal_call.proofs.pieces.alike.read_sixteen.Goals as goal

pub returns-then-not-kinds_given : goal.returns-then-not-kinds_given
returns-then-not-kinds_given c = let fits = c.requires.fits in
    rw c.stopped.ensures (nothing _ _ _ _ _ _ _ (omega (arith, fits.threads_left)) (omega (arith, fits.kinds_left)))

pub loop-k-init : goal.loop-k-init
loop-k-init c = let no_entry : c.args.count + 0 ≡ c.args.count = omega arith in
    let no_byte : c.args.reader.now.position + 2 * 0 ≡ c.args.reader.now.position = omega arith in
    rw (no_entry, no_byte) (nothing _ _ _ _ _ _ _ (omega (arith, c.requires.fits.threads_left)) (omega (arith, c.requires.fits.kinds_left)))

pub loop-k-preserved : goal.loop-k-preserved
loop-k-preserved c = let bits : get_or c.args.reader.now.journal.now (c.args.reader.now.position + 2 * c.loop-k.k) 0 ≡ 2 = c.kinds_given.ensures c.if-not-kinds_given.false c.loop-k.k (omega arith) in
    let next : c.args.count + (c.loop-k.k + 1) ≡ c.args.count + c.loop-k.k + 1 = omega arith in
    rw next
    (more _ _ _ _ _ _ _ _ _ _ _ _ c.loop-k.invariant _ _ _ _ _
    (one _ _ _ _ _ _ _ _ _ _ (omega (arith, c.requires.fits.threads_left, threads_long _ _ _ _ _ _ _ _ _ _ _ _ c.loop-k.invariant)) (omega (arith, c.requires.fits.kinds_left, kinds_long _ _ _ _ _ _ _ _ _ _ _ _ c.loop-k.invariant))
    (entry_read c.args.reader.now.journal.now (c.args.reader.now.position + 2 * c.loop-k.k) c.args.reader.now.before 2 (omega (arith, c.requires.fits.bytes_left)) (sym bits) _ _ _ (lit≤ tt) refl (ap (λ q. get_or c.args.reader.now.journal.now q 0) (omega arith)) (omega arith))
    c.requires.before_lt_known))
