-- The length so far and the rest add up to the whole.
use Rattle.std.proofs.Common.{ap, length, arith}
use Rattle.lock_file.proofs.printed_listing.Numerals.{spaced_length_next, spaced_over}
use Rattle.file_calls.proofs.printing.spaced_length.Goals as goal

pub loop-n-preserved : goal.loop-n-preserved
loop-n-preserved c =
    let next = spaced_length_next c.args.numbers.now c.loop-n.n-index c.loop-n-test.true in
    (omega (arith, c.number_length-total.ensures.value), omega (arith, c.number_length-total.ensures.upper_bound))

pub returns : goal.returns
returns c =
    let over = ap length (spaced_over c.args.numbers.now c.loop-n.n-index c.loop-n-test.false) in
    record { value = omega arith; upper_bound = omega (arith, c.loop-n.auto.n-index-end) }
