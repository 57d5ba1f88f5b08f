-- The word, and the counts after it.
use Rattle.std.proofs.Common.{◌≡◌, sym, ap, ◌∙◌, [], ◌∷◌, length, rules, arith}
use lib.Seq.{length-take-le}
use Rattle.lock_file.specs.PrintedListing.Listing.{spaced, count_numbers, first_line}
use Rattle.model.proofs.Storing.{sets_append}
use Rattle.lock_file.proofs.printed_listing.Numerals.{length_first_line}
use lib.ListN.{length-set}
use Rattle.file_calls.proofs.Copying.{copied_front}
use Rattle.file_calls.proofs.printing.put_first_line.Goals as goal

pub slice_bounds-copy_from_slice-end : goal.slice_bounds-copy_from_slice-end
slice_bounds-copy_from_slice-end c = omega (arith, length_first_line c.args.counts, c.requires)

pub slice_bounds-copy_from_slice-end-2 : goal.slice_bounds-copy_from_slice-end-2
slice_bounds-copy_from_slice-end-2 c = sym (length-take-le 2 c.args.output.now (omega (arith, length_first_line c.args.counts, c.requires)))

pub copy_from_slice-requires : goal.copy_from_slice-requires
copy_from_slice-requires c = length-take-le 2 c.args.output.now (omega (arith, length_first_line c.args.counts, c.requires))

pub put_spaced-requires : goal.put_spaced-requires
put_spaced-requires c =
    let ok : c.copy_from_slice.new.self ≡ 111 ∷ 107 ∷ [] = search rules in
    let front = copied_front c.args.output.now _ (111 ∷ 107 ∷ []) ok (omega (arith, length_first_line c.args.counts, c.requires)) in
    rw front (simp length-set (omega (arith, length_first_line c.args.counts, ap (λ v. length (spaced v)) c.numbers_of-numbers.ensures, c.requires)))

pub returns : goal.returns
unfolding first_line
returns c =
    let x = c.args.counts in
    let n = c.numbers_of-numbers.ensures in
    let ok : c.copy_from_slice.new.self ≡ 111 ∷ 107 ∷ [] = search rules in
    let front = copied_front c.args.output.now _ (111 ∷ 107 ∷ []) ok (omega (arith, length_first_line x, c.requires)) in
    record {
      value = omega (arith, c.put_spaced.ensures.value, length_first_line x, ap (λ v. length (spaced v)) n);
      output_after = c.put_spaced.ensures.output_after ∙ rw (front, n) (sym (sets_append c.args.output.now 0 (111 ∷ 107 ∷ []) (spaced (count_numbers x))));
    }
