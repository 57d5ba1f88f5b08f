-- `file_calls::printing::write_refusal` meets its contract: the line is measured first; then the word is written, and number and place after it.
use Rattle.std.proofs.Common.{rules}
use Rattle.file_calls.proofs.Copying.{copied_front}
use mathlib.Core.Path.{◌≡◌, sym, ◌∙◌}
use Prim.Native.Nat.{◌≤◌, ◌<◌}
use mathlib.Core.List.{[], ◌∷◌}
use native.Mathlib.Omega.{arith}
use lib.ListN.{length}
use Rattle.lock_file.specs.PrintedListing.Listing.{refusal_line}
use Rattle.file_calls.proofs.printing.Printing.{length_short, length_fits, printed_short, printed_fits, line_written}
use Rattle.lock_file.proofs.printed_listing.Numerals.{length_refusal_line}
use Rattle.file_calls.proofs.printing.write_refusal.Goals as goal

pub returns-then-output-total : goal.returns-then-output-total
returns-then-output-total c = let a = c.args in
    let line = refusal_line a.number a.place in
    let long = length_refusal_line a.number a.place in
    let short : length a.output.now < length line = omega arith in
    record { value = sym (length_short line _ short); output_after = sym (printed_short line _ short) }

pub returns : goal.returns
unfolding refusal_line
returns c = let a = c.args in
    let line = refusal_line a.number a.place in
    let long = length_refusal_line a.number a.place in
    let fits : length line ≤ length a.output.now = omega arith in
    let refused : c.copy_from_slice.new.self ≡ 114 ∷ 101 ∷ 102 ∷ 117 ∷ 115 ∷ 101 ∷ 100 ∷ [] = search rules in
    let front = copied_front a.output.now _ (114 ∷ 101 ∷ 102 ∷ 117 ∷ 115 ∷ 101 ∷ 100 ∷ []) refused (omega (arith, long, fits)) in
    record {
      value = rw (length_fits line _ fits) (omega (arith, c.put_spaced.ensures.value));
      output_after = rw (printed_fits line _ fits)
          (c.put_spaced.ensures.output_after ∙ rw front (line_written a.output.now (114 ∷ 101 ∷ 102 ∷ 117 ∷ 115 ∷ 101 ∷ 100 ∷ []) (a.number ∷ a.place ∷ []) fits));
    }
