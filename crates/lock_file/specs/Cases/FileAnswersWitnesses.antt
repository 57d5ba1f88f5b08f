-- A file for each number that the file call can answer.
use Rattle.std.specs.Prelude.{◌≡◌, List, [], ◌∷◌, map, ℕ, replicate}
use Rattle.lock_file.specs.Cases.Reading.{pairs, example}
use Rattle.lock_file.specs.FileAnswers.FileAnswers.{file_answer}
use Rattle.lock_file.specs.FileAnswers.FileLaws.{possible_numbers}

-- the files
unfoldable pub numbered_files : List (List ℕ)
numbered_files =
    -- the printed example, whose listing has 22 bytes
    example 2
    -- too long; cut off; a bit without a meaning
    ∷ replicate 65537 0
    ∷ []
    ∷ (2 ∷ 4 ∷ [])
    -- no domain; no thread
    ∷ (0 ∷ 0 ∷ 0 ∷ [])
    ∷ (1 ∷ 0 ∷ 0 ∷ [])
    -- a domain that is its own parent; a chain of 7; threshold 0
    ∷ (2 ∷ 1 ∷ 1 ∷ 1 ∷ 0 ∷ 1 ∷ 1 ∷ [])
    ∷ (7 ∷ 0 ∷ 1 ∷ 1 ∷ 1 ∷ 2 ∷ 1 ∷ 3 ∷ 1 ∷ 4 ∷ 1 ∷ 5 ∷ 1 ∷ 0 ∷ 1 ∷ 6 ∷ [])
    ∷ (2 ∷ 2 ∷ 0 ∷ 0 ∷ 1 ∷ 0 ∷ 1 ∷ 1 ∷ [])
    -- a home that is no domain; a leaf without threads
    ∷ (1 ∷ 1 ∷ 0 ∷ 1 ∷ 9 ∷ [])
    ∷ (3 ∷ 0 ∷ 0 ∷ 1 ∷ 0 ∷ 1 ∷ 1 ∷ [])
    -- an entry that is no thread; a listing of 24 bytes
    ∷ (1 ∷ 1 ∷ 0 ∷ 0 ∷ 9 ∷ 0 ∷ [])
    ∷ (1 ∷ 1 ∷ 0 ∷ 0 ∷ pairs (replicate 20 0)) ∷ []

-- with an output buffer of 22 bytes, each file gets its number
unfoldable pub NumbersOccur : Type 0
NumbersOccur = map (λ bytes. (file_answer bytes (replicate 22 0)).number) numbered_files ≡ possible_numbers
