-- `journal_call::reader::read_some` meets its contract: entries are read in order.
use mathlib.Core.Path.{◌≡◌, sym, ◌∙◌}
use native.Mathlib.Omega.{arith}
use Rattle.journal_call.proofs.reader.Stretching.{nothing, one, more, threads_long, kinds_long, ended, broken, unknown, reached}
use Rattle.journal_call.proofs.reader.read_some.Goals as goal

pub loop-count-init : goal.loop-count-init
loop-count-init c = nothing _ _ _ _ _ _ _ (omega (arith, c.requires)) (omega (arith, c.requires))

pub returns-then-known-from : goal.returns-then-known-from
returns-then-known-from c = rw c.stopped.ensures (record { read_on = c.loop-count.invariant; stopped_before = unknown _ _ _ _ _ _ _ _ _ (sym c.read_entry.ensures ∙ c.in-Named.is) (omega (arith, c.if-known-from.true, c.from.ensures)) })

pub loop-count-preserved : goal.loop-count-preserved
loop-count-preserved c = let long_threads = threads_long _ _ _ _ _ _ _ _ _ _ _ _ c.loop-count.invariant in
    let long_kinds = kinds_long _ _ _ _ _ _ _ _ _ _ _ _ c.loop-count.invariant in
    more _ _ _ _ _ _ _ _ _ _ _ _ c.loop-count.invariant _ _ _ _ _
    (one _ _ _ _ _ _ _ _ _ _ (omega (arith, long_threads, c.requires)) (omega (arith, long_kinds, c.requires)) (sym c.read_entry.ensures ∙ c.in-Named.is) (omega (arith, c.if-known-from.false, c.from.ensures)))

pub returns-in-Broken : goal.returns-in-Broken
returns-in-Broken c = rw c.stopped-in-Broken.ensures (record { read_on = c.loop-count.invariant; stopped_before = broken _ _ _ _ _ _ (sym c.read_entry.ensures ∙ c.in-Broken.is) })

pub returns-in-End : goal.returns-in-End
returns-in-End c = rw c.stopped-in-End.ensures (record { read_on = c.loop-count.invariant; stopped_before = ended _ _ _ _ _ _ (sym c.read_entry.ensures ∙ c.in-End.is) })

pub returns : goal.returns
returns c = let all : c.loop-count.count ≡ c.args.end = omega arith in
    rw c.stopped-2.ensures (record { read_on = rw all at c.loop-count.invariant; stopped_before = reached _ _ _ _ _ _ (omega arith) })
