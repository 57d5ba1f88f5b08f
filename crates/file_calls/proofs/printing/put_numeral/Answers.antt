-- `file_calls::printing::put_numeral` meets its contract: at each turn of the loop, what remains to write gives the result of the whole.
use mathlib.Core.Path.{◌≡◌, refl, ◌∙◌}
use Prim.Native.Nat.{◌-◌, ◌/◌}
use native.Mathlib.Omega.{arith}
use lib.ListN.{length, length-set}
use Rattle.lock_file.specs.PrintedListing.Listing.{numeral}
use Rattle.file_calls.proofs.printing.Writing.{last_digit, only_digit}
use Rattle.lock_file.proofs.printed_listing.Numerals.{length_large, length_positive}
use Rattle.file_calls.proofs.printing.put_numeral.Goals as goal

pub loop-rest-init : goal.loop-rest-init
loop-rest-init c = (c.digit_count-count.ensures.value, refl, refl, omega (arith, c.digit_count-count.ensures.value))

pub overflow_sub-left : goal.overflow_sub-left
overflow_sub-left c = omega (arith, length_positive c.loop-rest.rest)

pub bounds-output-at : goal.bounds-output-at
bounds-output-at c = omega (arith, length_positive c.loop-rest.rest)

pub loop-rest-preserved : goal.loop-rest-preserved
loop-rest-preserved c = let ten = c.loop-rest-test.true in
    let shorter : c.loop-rest.left - 1 ≡ length (numeral (c.loop-rest.rest / 10)) = omega (arith, length_large c.loop-rest.rest ten) in (
      shorter,
      simp length-set c.loop-rest.invariant.1,
      last_digit c.loop-rest.output _ c.loop-rest.rest _ ten shorter ∙ c.loop-rest.invariant.2,
      omega arith,
    )

pub bounds-output-at-2 : goal.bounds-output-at-2
bounds-output-at-2 c = omega (arith, length_positive c.loop-rest.rest)

pub returns : goal.returns
returns c = record { value = omega (arith, c.digit_count-count.ensures.value); output_after = only_digit c.loop-rest.output _ c.loop-rest.rest c.loop-rest-test.false ∙ c.loop-rest.invariant.2 }
