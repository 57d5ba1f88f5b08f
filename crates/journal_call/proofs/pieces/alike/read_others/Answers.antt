-- `journal_call::pieces::alike::read_others` meets its contract: four entries of three bytes, or none.
use native.Mathlib.Omega.{arith}
use Rattle.journal_call.proofs.reader.Stretching.{nothing}
use Rattle.journal_call.proofs.pieces.Fours.{four_read, four_others}
use Rattle.journal_call.proofs.pieces.alike.read_others.Goals as goal

pub returns-then-all_known : goal.returns-then-all_known
returns-then-all_known c = let a = c.args in
    let same = rw c.four_at.ensures at (c.all_are.ensures c.if-all_are.true) in
    let first = c.two_bytes-a.ensures in
    let second = c.two_bytes-b.ensures in
    let third = c.two_bytes-c.ensures in
    let fourth = c.two_bytes-d.ensures in
    let known = c.all_known.ensures c.if-all_known.true in
    rw c.stopped.ensures
    (four_read _ _ _ _ _ _ _ c.requires.threads_left c.requires.kinds_left c.put_four.ensures c.put_four-then-all_known.ensures
    (four_others a.reader.now.journal.now a.reader.now.position a.reader.now.before _ c.requires.bytes_left same _ _ _ _ first second third fourth known))

pub returns : goal.returns
returns c = rw c.stopped-2.ensures (nothing _ _ _ _ _ _ _ (omega (arith, c.requires.threads_left)) (omega (arith, c.requires.kinds_left)))
