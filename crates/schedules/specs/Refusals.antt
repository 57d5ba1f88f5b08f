-- Document 02, (xi): what refuses the whole call: 4 to 9 and 16, then 22, then 23.
use Rattle.std.specs.Prelude.{Bool, not, List, [], ◌∷◌, ◌++◌, ℕ, ◌/◌, ltb, eqb, length}
use Rattle.model.specs.Trees.{Tree}
use Rattle.model.specs.Refusals.{Refusal, Test, test, first_refusal, tree_tests}
use Rattle.schedules.specs.Rows.{total}

-- 22: the sum of the lengths is not the number of entries
unfoldable pub bad_total : (lengths : List ℕ) → (entries : ℕ) → ℕ → Bool
bad_total ns n p = not (eqb (total ns) n)

-- 23: the row buffer is too short for one row per schedule. A row is eight numbers
unfoldable pub bad_row_room : (lengths : List ℕ) → (room : ℕ) → ℕ → Bool
bad_row_room ns room p = ltb (room / 8) (length ns)

-- the test of the sum
abbrev pub total_tests : (lengths : List ℕ) → (entries : ℕ) → List Test
total_tests ns n = test 22 1 (bad_total ns n) ∷ []

-- the test of the row buffer
abbrev pub row_room_tests : (lengths : List ℕ) → (room : ℕ) → List Test
row_room_tests ns room = test 23 1 (bad_row_room ns room) ∷ []

-- the tests of the call
unfoldable pub many_tests : Tree → (lengths : List ℕ) → (entries room : ℕ) → List Test
many_tests t ns n room = tree_tests t ++ (total_tests ns n ++ row_room_tests ns room)

-- the refusal of the call
unfoldable pub many_refusal : Tree → (lengths : List ℕ) → (entries room : ℕ) → Refusal
many_refusal t ns n room = first_refusal (many_tests t ns n room)
