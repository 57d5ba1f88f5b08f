-- One of four kinds of entries.
use Rattle.std.proofs.Common.{refl, ap, length, [], ◌∷◌, arith}
use Rattle.lock_file.specs.FileWriter.Writing.{low_first_bytes}
use Rattle.lock_file.proofs.file_writer.Entries.{domain_none, domain_threshold, domain_parent, domain_both}
use Rattle.file_calls.proofs.writing.Writers.{room_after, written_both}
use Rattle.file_calls.proofs.writing.writing.Writer.put_domain.Goals as goal

pub put_byte-requires : goal.put_byte-requires
put_byte-requires c = omega (arith, ap length (domain_none _ _ c.if-parent-eq0.true c.if-threshold-eq-ABSENT_THRESHOLD.true), c.requires)

pub returns-then-threshold-eq-ABSENT_THRESHOLD : goal.returns-then-threshold-eq-ABSENT_THRESHOLD
returns-then-threshold-eq-ABSENT_THRESHOLD c = rw (domain_none _ _ c.if-parent-eq0.true c.if-threshold-eq-ABSENT_THRESHOLD.true) c.put_byte.ensures

pub put_byte-requires-then-parent-eq0 : goal.put_byte-requires-then-parent-eq0
put_byte-requires-then-parent-eq0 c = omega (arith, ap length (domain_threshold _ _ c.if-parent-eq0.true c.if-threshold-eq-ABSENT_THRESHOLD.false), c.requires)

pub put_two_bytes-requires : goal.put_two_bytes-requires
put_two_bytes-requires c = room_after _ _ _ (2 ∷ []) (low_first_bytes c.args.threshold) (domain_threshold _ _ c.if-parent-eq0.true c.if-threshold-eq-ABSENT_THRESHOLD.false) c.put_byte-then-parent-eq0.ensures c.requires

pub returns-then-parent-eq0 : goal.returns-then-parent-eq0
returns-then-parent-eq0 c = written_both _ _ _ (2 ∷ []) (low_first_bytes c.args.threshold) (domain_threshold _ _ c.if-parent-eq0.true c.if-threshold-eq-ABSENT_THRESHOLD.false) c.put_byte-then-parent-eq0.ensures _ c.put_two_bytes.ensures

pub put_byte-requires-then-threshold-eq-ABSENT_THRESHOLD-2 : goal.put_byte-requires-then-threshold-eq-ABSENT_THRESHOLD-2
put_byte-requires-then-threshold-eq-ABSENT_THRESHOLD-2 c = omega (arith, ap length (domain_parent _ _ c.if-parent-eq0.false c.if-threshold-eq-ABSENT_THRESHOLD-2.true), c.requires)

pub put_byte-requires-then-threshold-eq-ABSENT_THRESHOLD-2-2 : goal.put_byte-requires-then-threshold-eq-ABSENT_THRESHOLD-2-2
put_byte-requires-then-threshold-eq-ABSENT_THRESHOLD-2-2 c = room_after _ _ _ (1 ∷ []) (c.args.parent ∷ []) (domain_parent _ _ c.if-parent-eq0.false c.if-threshold-eq-ABSENT_THRESHOLD-2.true) c.put_byte-then-threshold-eq-ABSENT_THRESHOLD-2.ensures c.requires

pub returns-then-threshold-eq-ABSENT_THRESHOLD-2 : goal.returns-then-threshold-eq-ABSENT_THRESHOLD-2
returns-then-threshold-eq-ABSENT_THRESHOLD-2 c = written_both _ _ _ (1 ∷ []) (c.args.parent ∷ []) (domain_parent _ _ c.if-parent-eq0.false c.if-threshold-eq-ABSENT_THRESHOLD-2.true) c.put_byte-then-threshold-eq-ABSENT_THRESHOLD-2.ensures _ c.put_byte-then-threshold-eq-ABSENT_THRESHOLD-2-2.ensures

pub put_byte-requires-2 : goal.put_byte-requires-2
put_byte-requires-2 c = omega (arith, ap length (domain_both _ _ c.if-parent-eq0.false c.if-threshold-eq-ABSENT_THRESHOLD-2.false), c.requires)

pub put_byte-requires-3 : goal.put_byte-requires-3
put_byte-requires-3 c =
    let more = room_after _ _ _ (3 ∷ []) (c.args.parent ∷ low_first_bytes c.args.threshold) (domain_both _ _ c.if-parent-eq0.false c.if-threshold-eq-ABSENT_THRESHOLD-2.false) c.put_byte-2.ensures c.requires in
    omega (arith, more)

pub put_two_bytes-requires-2 : goal.put_two_bytes-requires-2
put_two_bytes-requires-2 c =
    let more = room_after _ _ _ (3 ∷ []) (c.args.parent ∷ low_first_bytes c.args.threshold) (domain_both _ _ c.if-parent-eq0.false c.if-threshold-eq-ABSENT_THRESHOLD-2.false) c.put_byte-2.ensures c.requires in
    room_after _ _ (c.args.parent ∷ low_first_bytes c.args.threshold) (c.args.parent ∷ []) (low_first_bytes c.args.threshold) refl c.put_byte-3.ensures more

pub returns : goal.returns
returns c =
    let after = written_both _ _ (c.args.parent ∷ low_first_bytes c.args.threshold) (c.args.parent ∷ []) (low_first_bytes c.args.threshold) refl c.put_byte-3.ensures _ c.put_two_bytes-2.ensures in
    written_both _ _ _ (3 ∷ []) (c.args.parent ∷ low_first_bytes c.args.threshold) (domain_both _ _ c.if-parent-eq0.false c.if-threshold-eq-ABSENT_THRESHOLD-2.false) c.put_byte-2.ensures _ after
