-- Document 02, (v): what refuses the call: 4 to 9 and 16, then 11 and 12, then 1, then 17.
use Rattle.std.specs.Prelude.{Bool, List, [], ◌∷◌, ◌++◌, ℕ, ltb, length}
use Rattle.model.specs.Trees.{Tree}
use Rattle.model.specs.Refusals.{Refusal, Test, test, first_refusal, schedule_tests, tree_tests}
use Rattle.lock_file.specs.FileWriter.Writing.{written_file}

-- 1: the file would have more than 65,536 bytes
unfoldable pub bad_file_length : Tree → (schedule : List ℕ) → ℕ → Bool
bad_file_length t is p = ltb 65536 (length (written_file t is))

-- 17: the file does not fit into the buffer
unfoldable pub bad_file_room : Tree → (schedule : List ℕ) → (room : ℕ) → ℕ → Bool
bad_file_room t is room p = ltb room (length (written_file t is))

-- the test of the file's length
abbrev pub file_length_tests : Tree → (schedule : List ℕ) → List Test
file_length_tests t is = test 1 1 (bad_file_length t is) ∷ []

-- the test of the buffer's length
abbrev pub file_room_tests : Tree → (schedule : List ℕ) → (room : ℕ) → List Test
file_room_tests t is room = test 17 1 (bad_file_room t is room) ∷ []

-- the file's length is tested before the buffer's
abbrev pub file_tests : Tree → (schedule : List ℕ) → (room : ℕ) → List Test
file_tests t is room = file_length_tests t is ++ file_room_tests t is room

-- the tests of the call
unfoldable pub write_tests : Tree → (schedule : List ℕ) → (room : ℕ) → List Test
write_tests t is room = tree_tests t ++ (schedule_tests t is ++ file_tests t is room)

-- the refusal of the call
unfoldable pub write_refusal : Tree → (schedule : List ℕ) → (room : ℕ) → Refusal
write_refusal t is room = first_refusal (write_tests t is room)
