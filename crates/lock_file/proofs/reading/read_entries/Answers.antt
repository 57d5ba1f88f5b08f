-- At each turn of the loop, the remaining stores give the result of the whole.
use Rattle.std.proofs.Common.{◌≡◌, ◌+◌, ◌*◌, sym, ◌∙◌, get_or, arith}
use Rattle.lock_file.specs.Reading.{two_bytes}
use Rattle.lock_file.proofs.Positions.{schedule_next, schedule_over}
use Rattle.lock_file.proofs.reading.read_entries.Goals as goal

pub loop-k-preserved : goal.loop-k-preserved
loop-k-preserved c =
    let at = c.args.start + 2 * c.loop-k.k in
    let next : c.args.start + 2 * (c.loop-k.k + 1) ≡ at + 2 = omega arith in
    let word : get_or c.args.file.now at 0 + get_or c.args.file.now (at + 1) 0 * 256 ≡ two_bytes c.args.file.now at = omega arith in
    rw (next, c.from_le_bytes.ensures, word) (sym (schedule_next _ _ _ _ _ c.loop-k-test.true) ∙ c.loop-k.invariant)

pub returns : goal.returns
returns c = sym (schedule_over _ _ _ _ _ c.loop-k-test.false) ∙ c.loop-k.invariant
