-- At each turn of the loop, what remains to write gives the result of the whole.
use Rattle.std.proofs.Common.{ap, sym, ◌∙◌, length, arith}
use lib.ListN.{length-set}
use Rattle.file_calls.proofs.printing.Writing.{spaced_written}
use Rattle.lock_file.proofs.printed_listing.Numerals.{spaced_length_next, spaced_over}
use Rattle.file_calls.proofs.printing.put_spaced.Goals as goal

pub bounds-output-at : goal.bounds-output-at
bounds-output-at c = let next = spaced_length_next c.args.numbers.now c.loop-n.n-index c.loop-n-test.true in omega (arith, c.loop-n.auto.output)

pub put_numeral-at-requires : goal.put_numeral-at-requires
put_numeral-at-requires c =
    let next = spaced_length_next c.args.numbers.now c.loop-n.n-index c.loop-n-test.true in simp length-set (omega (arith, c.loop-n.auto.output))

pub loop-n-preserved : goal.loop-n-preserved
loop-n-preserved c =
    let ns = c.args.numbers.now in
    let next = spaced_length_next ns c.loop-n.n-index c.loop-n-test.true in (
      omega (arith, c.put_numeral-at.ensures.value),
      rw (c.put_numeral-at.ensures.output_after, c.put_numeral-at.ensures.value) (sym (spaced_written c.loop-n.output c.loop-n.at ns c.loop-n.n-index c.loop-n-test.true) ∙ c.loop-n.invariant.1),
    )

pub bounds-output-at-2 : goal.bounds-output-at-2
bounds-output-at-2 c =
    let over = ap length (spaced_over c.args.numbers.now c.loop-n.n-index c.loop-n-test.false) in omega (arith, c.loop-n.auto.output)

pub returns : goal.returns
returns c =
    let over = spaced_over c.args.numbers.now c.loop-n.n-index c.loop-n-test.false in
    record { value = omega (arith, ap length over); output_after = rw over at c.loop-n.invariant.1 }
