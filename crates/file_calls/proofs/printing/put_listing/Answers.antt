-- The listing is measured first; then the first line is written, and the trace after it.
use Rattle.std.proofs.Common.{◌≡◌, sym, ◌∙◌, ap, ◌-◌, ◌≤◌, ◌<◌, length, Some, arith}
use borrow.Author.Tests.{leb-true, leb-false}
use Rattle.lock_file.specs.PrintedListing.Listing.{listing, trace_lines}
use Rattle.lock_file.proofs.printed_listing.Lengths.{length_listing}
use Rattle.file_calls.proofs.printing.Printing.{fitted_short, fitted_fits, printed_short, printed_fits, listing_written}
use Rattle.file_calls.proofs.printing.put_listing.Goals as goal
use Rattle.file_calls.proofs.printing.put_listing.Goals.{then-output-line-via-then-output-line, then-output-line-via-else-output-line+then-not-trace_fits}

short : (c : goal.Joined-then-output-line) → length c.args.output.now < length (listing c.args.counts c.args.trace.now)
short c =
    let long = length_listing c.args.counts c.args.trace.now in
    elim c.then-output-line.branch [
      | then-output-line-via-then-output-line w ↦ omega (arith, long, c.first_line_length-line.ensures.value, w.if-output-line.true)
      | then-output-line-via-else-output-line+then-not-trace_fits w ↦
          let more = leb-false (length (trace_lines c.args.trace.now)) (length c.args.output.now - c.first_line_length-line.result) (sym w.trace_fits.ensures ∙ w.if-not-trace_fits.true) in
          omega (arith, long, c.first_line_length-line.ensures.value, more)
    ]

pub returns-then-output-line-clause-value : goal.returns-then-output-line-clause-value
returns-then-output-line-clause-value c = sym (fitted_short _ _ (short c))

pub returns-then-output-line-clause-output_after : goal.returns-then-output-line-clause-output_after
returns-then-output-line-clause-output_after c = sym (printed_short _ _ (short c))

pub returns : goal.returns
returns c =
    let ls = listing c.args.counts c.args.trace.now in
    let line = c.first_line_length-line.ensures in
    let rest = leb-true (length (trace_lines c.args.trace.now)) (length c.args.output.now - c.first_line_length-line.result) (sym c.trace_fits.ensures ∙ c.if-not-trace_fits.false) in
    let long = length_listing c.args.counts c.args.trace.now in
    let fits : length ls ≤ length c.args.output.now = omega (arith, long, line.value, rest, c.if-output-line.false) in
    let end : c.put_trace.result ≡ length ls = omega (arith, long, c.put_trace.ensures.value, c.put_first_line-at.ensures.value) in
    record {
      value = ap Some end ∙ sym (fitted_fits ls _ fits);
      upper_bound = omega (arith, c.put_trace.ensures.upper_bound, c.put_first_line-at.ensures.value, line.value, line.upper_bound);
      output_after =
          rw (printed_fits ls _ fits, c.put_trace.ensures.output_after, c.put_first_line-at.ensures.output_after, c.put_first_line-at.ensures.value) (listing_written c.args.output.now c.args.counts c.args.trace.now fits);
    }
