-- Cases of numerals, the listing and the refusal line, in one list.
use Rattle.std.specs.Prelude.{Bool, List, [], ◌∷◌, ◌++◌, ℕ, replicate}
use Rattle.model.specs.declared.Counts.{Counts}
use Rattle.model.specs.Cases.Marked.{same_numbers}
use Rattle.lock_file.specs.PrintedListing.Listing.{numeral, listing, refusal_line, printed}

-- "ok 22 3 1 2 1 0", then 0, 1 and 2
abbrev pub example_listing : List ℕ
example_listing = 111 ∷ 107 ∷ 32 ∷ 50 ∷ 50 ∷ 32 ∷ 51 ∷ 32 ∷ 49 ∷ 32 ∷ 50 ∷ 32 ∷ 49 ∷ 32 ∷ 48 ∷ 10 ∷ 48 ∷ 10 ∷ 49 ∷ 10 ∷ 50 ∷ 10 ∷ []

-- the counts of the printed example
abbrev pub example_counts : Counts
example_counts = record { steps = 22; entries = 3; stays = 1; root = 2; passed = 1; crossed = 0 }

-- the cases
unfoldable pub cases : List Bool
cases =
    -- the printed example; in a buffer that is longer, and in one that is one byte too short
    same_numbers (listing example_counts (0 ∷ 1 ∷ 2 ∷ [])) example_listing
    ∷ same_numbers (printed example_listing (replicate 25 7)) (example_listing ++ (7 ∷ 7 ∷ 7 ∷ []))
    ∷ same_numbers (printed example_listing (replicate 21 7)) (replicate 21 7)
    -- "refused 8 1"
    ∷ same_numbers (refusal_line 8 1) (114 ∷ 101 ∷ 102 ∷ 117 ∷ 115 ∷ 101 ∷ 100 ∷ 32 ∷ 56 ∷ 32 ∷ 49 ∷ 10 ∷ [])
    ∷ same_numbers (numeral 65535) (54 ∷ 53 ∷ 53 ∷ 51 ∷ 53 ∷ []) ∷ same_numbers (numeral 10) (49 ∷ 48 ∷ []) ∷ []
