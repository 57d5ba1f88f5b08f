-- The space left, and the lines left.
use Rattle.std.proofs.Common.{ap, sym, length, ◌≤◌, ◌<◌, arith}
use borrow.Author.Tests.{lt-leb, le-leb}
use Rattle.lock_file.specs.PrintedListing.Listing.{numeral, trace_lines}
use Rattle.lock_file.proofs.printed_listing.Numerals.{trace_length_next, trace_lines_over}
use Rattle.file_calls.proofs.printing.trace_fits.Goals as goal

pub returns-in-None : goal.returns-in-None
returns-in-None c =
    let is = c.args.trace.now in
    let next = trace_length_next is c.loop-i.i-index c.loop-i-test.true in
    let long = ap (λ v. length (numeral v)) c.from.ensures in
    let more : c.args.room < length (trace_lines is) = omega (arith, c.number_length.ensures.value, c.in-None.ensures) in
    sym (lt-leb _ _ more)

pub loop-i-preserved : goal.loop-i-preserved
loop-i-preserved c =
    let next = trace_length_next c.args.trace.now c.loop-i.i-index c.loop-i-test.true in
    let long = ap (λ v. length (numeral v)) c.from.ensures in
    (omega (arith, c.in-Some.ensures.0, c.in-Some.ensures.1), omega (arith, c.number_length.ensures.value, c.in-Some.ensures.0, c.in-Some.ensures.1))

pub returns : goal.returns
returns c =
    let over = ap length (trace_lines_over c.args.trace.now c.loop-i.i-index c.loop-i-test.false) in
    let fits : length (trace_lines c.args.trace.now) ≤ c.args.room = omega arith in
    sym (le-leb _ _ fits)
