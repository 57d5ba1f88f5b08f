-- At each turn of the loop, what remains to write gives the result of the whole.
use Rattle.std.proofs.Common.{ap, sym, ◌∙◌, length, arith}
use Rattle.lock_file.specs.PrintedListing.Listing.{numeral}
use Rattle.file_calls.proofs.printing.Writing.{trace_written}
use Rattle.lock_file.proofs.printed_listing.Numerals.{length_number, length_word, trace_length_next, trace_lines_over}
use Rattle.file_calls.proofs.printing.put_trace.Goals as goal

pub put_number-at-requires : goal.put_number-at-requires
put_number-at-requires c =
    let next = trace_length_next c.args.trace.now c.loop-i.i-index c.loop-i-test.true in
    omega (arith, length_number c.from.result 10, ap (λ v. length (numeral v)) c.from.ensures, c.loop-i.auto.output)

pub loop-i-preserved : goal.loop-i-preserved
loop-i-preserved c =
    let a = c.args in
    let t = c.loop-i-test.true in
    let next = trace_length_next a.trace.now c.loop-i.i-index t in
    let long = length_number c.from.result 10 in (
      omega (arith, c.put_number-at.ensures.value, long, ap (λ v. length (numeral v)) c.from.ensures),
      rw (c.put_number-at.ensures.output_after, c.put_number-at.ensures.value, c.from.ensures) (sym (trace_written c.loop-i.output c.loop-i.at a.trace.now c.loop-i.i-index t) ∙ c.loop-i.invariant.1),
      omega (arith, c.put_number-at.ensures.value, long, length_word c.from.result c.from.type_inv),
    )

pub returns : goal.returns
returns c =
    let over = trace_lines_over c.args.trace.now c.loop-i.i-index c.loop-i-test.false in
    record { value = omega (arith, ap length over); upper_bound = omega (arith, c.loop-i.auto.i-index-end); output_after = rw over at c.loop-i.invariant.1 }
