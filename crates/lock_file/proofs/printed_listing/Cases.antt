-- The cases hold, by computation.
use mathlib.Core.Path.{◌≡◌, refl}
use mathlib.Core.Bool.{true}
use Rattle.model.specs.Scans.{all}
use Rattle.model.specs.Cases.Marked.{same_numbers}
use Rattle.lock_file.specs.PrintedListing.Listing.{digits, numeral, number_then, trace_lines, spaced, first_line, listing, refusal_line, printed}
use Rattle.lock_file.specs.Cases.PrintedListing.{cases}

pub cases_hold : all cases ≡ true
unfolding same_numbers digits numeral number_then trace_lines spaced first_line listing refusal_line printed cases
cases_hold = refl
