-- `journal_call::pieces::blocks::read_block` meets its contract: each entry is complete, since no entry has more than four bytes, and its size is in the table.
use mathlib.Core.Path.{◌≡◌, refl, sym, ap, ◌∙◌}
use Prim.Native.Nat.{◌+◌, ◌≤◌, ◌<◌}
use native.Mathlib.Omega.{arith}
use lib.ListN.{length}
use Rattle.journal.specs.Reading.{entry_size}
use Rattle.journal_call.proofs.reader.Stretching.{nothing, one, more, threads_long, kinds_long, broken, unknown, reached}
use Rattle.journal_call.proofs.pieces.Sizes.{entry_read, no_entry}
use Rattle.journal_call.proofs.pieces.blocks.read_block.Goals as goal

pub loop-count-init : goal.loop-count-init
loop-count-init c = let none : c.args.reader.now.position + 0 ≡ c.args.reader.now.position = omega arith in
    (omega arith, rw none (nothing _ _ _ _ _ _ _ (omega (arith, c.requires)) (omega (arith, c.requires))))

pub returns-then-bits-gt3 : goal.returns-then-bits-gt3
returns-then-bits-gt3 c = rw c.stopped.ensures (record { read_on = c.loop-count.invariant.1; stopped_before = broken _ _ _ _ _ _ (no_entry c.args.reader.now.journal.now (c.args.reader.now.position + c.loop-count.passed) c.loop-count.last _ (omega (arith, c.loop-count.invariant, c.requires)) refl c.if-bits-gt3.true) })

pub returns-then-known-from : goal.returns-then-known-from
returns-then-known-from c = rw c.stopped-then-known-from.ensures (record { read_on = c.loop-count.invariant.1; stopped_before = unknown _ _ _ _ _ _ _ _ _ (entry_read c.args.reader.now.journal.now (c.args.reader.now.position + c.loop-count.passed) c.loop-count.last c.from-map.result (omega (arith, c.loop-count.invariant, c.requires)) c.from-map.ensures _ _ _ (omega (arith, c.if-bits-gt3.false, c.from-map.ensures)) c.thread_at-thread.ensures refl refl) (omega (arith, c.if-known-from.true, c.from.ensures)) })

pub loop-count-preserved : goal.loop-count-preserved
loop-count-preserved c = let few : c.from-map.result ≤ 3 = omega (arith, c.if-bits-gt3.false, c.from-map.ensures) in
    let left : c.args.reader.now.position + c.loop-count.passed + 4 ≤ length c.args.reader.now.journal.now = omega (arith, c.loop-count.invariant, c.requires) in
    let within : c.loop-count.passed < 128 = omega (arith, c.loop-count.invariant, c.requires) in
    let size : c.from-passed.result ≡ entry_size c.from-map.result =
    c.from-passed.ensures ∙ c.sizes_from-sizes.ensures.size c.loop-count.passed within (omega (arith, few, c.from-map.ensures)) ∙ ap entry_size (sym c.from-map.ensures) in (
      omega (arith, c.loop-count.invariant, size, few),
      more _ _ _ _ _ _ _ _ _ _ _ _ c.loop-count.invariant.1 _ _ _ _ _
          (one _ _ _ _ _ _ _ _ _ _ (omega (arith, threads_long _ _ _ _ _ _ _ _ _ _ _ _ c.loop-count.invariant.1, c.requires)) (omega (arith, kinds_long _ _ _ _ _ _ _ _ _ _ _ _ c.loop-count.invariant.1, c.requires))
          (entry_read c.args.reader.now.journal.now (c.args.reader.now.position + c.loop-count.passed) c.loop-count.last c.from-map.result left c.from-map.ensures _ _ _ few c.thread_at-thread.ensures c.kind_at.ensures (omega (arith, size)))
          (omega (arith, c.if-known-from.false, c.from.ensures))),
    )

pub returns : goal.returns
returns c = let all : c.loop-count.count ≡ c.args.end = omega arith in
    rw c.stopped-2.ensures (record { read_on = rw all at c.loop-count.invariant.1; stopped_before = reached _ _ _ _ _ _ (omega arith) })
