-- `file_calls::printing::put_number` meets its contract: writing the numeral and then the byte after it writes both as one list.
use mathlib.Core.List.{[], ◌∷◌}
use mathlib.Core.Path.{sym}
use native.Mathlib.Omega.{arith}
use borrow.Author.Rules.{rules}
use Rattle.lock_file.specs.PrintedListing.Listing.{numeral, number_then}
use Rattle.model.proofs.Storing.{sets_append}
use Rattle.lock_file.proofs.printed_listing.Numerals.{length_number}
use Rattle.file_calls.proofs.printing.put_number.Goals as goal

pub put_numeral-end-requires : goal.put_numeral-end-requires
put_numeral-end-requires c = let a = c.args in omega (arith, length_number a.value a.following)

pub bounds-output-end : goal.bounds-output-end
bounds-output-end c = let a = c.args in omega (arith, length_number a.value a.following)

pub overflow_add-result : goal.overflow_add-result
overflow_add-result c = let a = c.args in search (rules, length_number a.value a.following)

pub returns : goal.returns
unfolding number_then
returns c = let a = c.args in
    record { value = omega (arith, length_number a.value a.following); output_after = rw (c.put_numeral-end.ensures.output_after, c.put_numeral-end.ensures.value) (sym (sets_append a.output.now a.at (numeral a.value) (a.following ∷ []))) }
