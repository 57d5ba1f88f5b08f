-- `journal_call::pieces::alike::fits` meets its contract: a position below the end of the bytes, and what is left after it.
use mathlib.Core.Path.{sym, ◌∙◌}
use mathlib.Core.Bool.{false≢true}
use Prim.Native.Nat.{◌-◌, ◌≤◌}
use native.Mathlib.Omega.{arith}
use lib.ListN.{length}
use borrow.Author.Tests.{leb-true, ltb-true}
use Rattle.journal_call.proofs.pieces.alike.fits.Goals.{then-from-known, else-from-known, then-saturating_sub, else-saturating_sub}
use Rattle.journal_call.proofs.pieces.alike.fits.Goals as goal

pub returns-then-threads-count-clause-fits : goal.returns-then-threads-count-clause-fits
returns-then-threads-count-clause-fits g c e = elim c.if-saturating_sub.branch [
  | then-saturating_sub w ↦ elim c.if-from-known.branch [
    | then-from-known v ↦
        let bytes : g.row.BYTES ≤ v.saturating_sub.result = leb-true _ _ (sym v.value-is ∙ w.if-saturating_sub.true) in
        let threads : g.row.ENTRIES ≤ length c.args.threads.now - c.args.count = leb-true _ _ (sym w.value-is ∙ c.if-threads-count.true) in
        let kinds : g.row.ENTRIES ≤ length c.args.kinds.now - c.args.count = leb-true _ _ e in
        record { bytes_left = omega (arith, bytes, v.saturating_sub.ensures, c.requires); threads_left = omega (arith, threads, c.requires); kinds_left = omega (arith, kinds, c.requires) }
    | else-from-known v ↦ absurd (omega (arith, ltb-true _ _ (sym v.value-is ∙ w.if-saturating_sub.true), v.if-from-known.false))
  ]
  | else-saturating_sub w ↦ absurd (false≢true (sym w.if-saturating_sub.false ∙ sym w.value-is ∙ c.if-threads-count.true))
]
