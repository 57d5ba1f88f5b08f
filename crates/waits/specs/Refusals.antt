-- Document 02, (vi): what refuses a run with waits: 4 to 9, 16 and 10 to 13, then 18, and 19 last; for a run that continues, 27 before 19.
use Rattle.std.specs.Prelude.{Bool, ◌&&◌, ◌||◌, not, List, [], ◌∷◌, ◌++◌, ℕ, ◌+◌, ◌/◌, eqb, ltb, leb, get_or}
use Rattle.model.specs.declared.LockState.{LockState}
use Rattle.model.specs.Trees.{Tree}
use Rattle.model.specs.Counters.{most_counted}
use Rattle.model.specs.Refusals.{Refusal, Test, test, first_refusal, counter_tests, run_tests_before_19}

-- 18: the row buffer is too short for one row per thread and one more. A row is five numbers
unfoldable pub bad_row_room : Tree → (row_room : ℕ) → ℕ → Bool
bad_row_room t n p = ltb (n / 5) (t.threads + 1)

-- the test of the row buffer
abbrev pub row_room_tests : Tree → (row_room : ℕ) → List Test
row_room_tests t n = test 18 1 (bad_row_room t n) ∷ []

-- the tests of the run except 19, then 18
abbrev pub waits_tests_before_19 : Tree → LockState → (schedule : List ℕ) → (room row_room : ℕ) → List Test
waits_tests_before_19 t s is room n = run_tests_before_19 t s is room ++ row_room_tests t n

-- the tests of a run with waits
unfoldable pub waits_tests : Tree → LockState → (schedule : List ℕ) → (room row_room : ℕ) → List Test
waits_tests t s is room n = waits_tests_before_19 t s is room n ++ counter_tests t s is

-- the refusal of a run with waits
unfoldable pub waits_refusal : Tree → LockState → (schedule : List ℕ) → (room row_room : ℕ) → Refusal
waits_refusal t s is room n = first_refusal (waits_tests t s is room n)

-- 27: of the 256 numbers of attempts under way, one is above 2^63, or one in an unused slot is not 0
unfoldable pub bad_under_way : Tree → (under_way : List ℕ) → (thread : ℕ) → Bool
bad_under_way t us i = ltb most_counted (get_or us i 0) || (leb t.threads i && not (eqb (get_or us i 0) 0))

-- the test of these numbers
abbrev pub under_way_tests : Tree → (under_way : List ℕ) → List Test
under_way_tests t us = test 27 256 (bad_under_way t us) ∷ []

-- the tests of a run that continues, before 19: 27 comes last
abbrev pub waits_on_tests_before_19 : Tree → LockState → (schedule : List ℕ) → (room row_room : ℕ) → (under_way : List ℕ) → List Test
waits_on_tests_before_19 t s is room n us = waits_tests_before_19 t s is room n ++ under_way_tests t us

-- the tests of a run that continues
unfoldable pub waits_on_tests : Tree → LockState → (schedule : List ℕ) → (room row_room : ℕ) → (under_way : List ℕ) → List Test
waits_on_tests t s is room n us = waits_on_tests_before_19 t s is room n us ++ counter_tests t s is

-- the refusal of a run that continues
unfoldable pub waits_on_refusal : Tree → LockState → (schedule : List ℕ) → (room row_room : ℕ) → (under_way : List ℕ) → Refusal
waits_on_refusal t s is room n us = first_refusal (waits_on_tests t s is room n us)
