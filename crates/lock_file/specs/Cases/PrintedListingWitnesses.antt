-- WITNESSES: counts and a trace that meet the conditions of the law about a listing's length; docs/WITNESSES.md lists them.
use Rattle.std.specs.Prelude.{List, [], ◌∷◌, ℕ, ◌<◌, get_or}
use Rattle.model.specs.declared.Counts.{Counts}
use Rattle.lock_file.specs.PrintedListing.ListingLaws.{FiveDigits}

-- the counts of the printed example
unfoldable pub example_counts : Counts
example_counts = record { steps = 22; entries = 3; stays = 1; root = 2; passed = 1; crossed = 0 }

-- the trace of the printed example
abbrev pub example_trace : List ℕ
example_trace = 0 ∷ 1 ∷ 2 ∷ []

-- they meet the conditions of the law
pub record Witnesses : Type 0 where
  pub counts : FiveDigits example_counts
  pub trace : (k : ℕ) → get_or example_trace k 0 < 1000
