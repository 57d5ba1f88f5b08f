-- The numbers that the code stores for a row.
use Rattle.std.specs.Prelude.{List, [], ◌∷◌, ℕ}
use Rattle.model.specs.declared.Counts.{Counts}

-- the numbers of a row, from number, place and counts
abbrev pub row_numbers : (number place : ℕ) → Counts → List ℕ
row_numbers n p c = n ∷ p ∷ c.steps ∷ c.entries ∷ c.stays ∷ c.root ∷ c.passed ∷ c.crossed ∷ []
