-- Cases of the file call, in one list: the printed example, 1, 4 and 5, 9, 16, 12 and 14 at their places.
use Rattle.std.specs.Prelude.{◌≡◌, Bool, true, false, ◌&&◌, List, [], ◌∷◌, ◌++◌, ℕ, ◌+◌, ◌*◌, eqb, replicate}
use Rattle.model.specs.Cases.Marked.{same_numbers}
use Rattle.lock_file.specs.Cases.Reading.{pairs, example, plain}
use Rattle.lock_file.specs.declared.file_answers.FileReply.{FileReply}
use Rattle.lock_file.specs.Cases.PrintedListing.{example_listing}
use Rattle.lock_file.specs.FileAnswers.FileAnswers.{file_answer, output_answer}
use Rattle.lock_file.specs.FileAnswers.FileLaws.{listing_room}

-- a reply has this number, place and length
abbrev pub replies : (number place length : ℕ) → FileReply → Bool
replies n p l r = eqb r.number n && eqb r.place p && eqb r.length l

-- the cases
unfoldable pub cases : List Bool
cases =
    -- the printed example is listed, and the buffer after the listing is unchanged
    replies 0 0 22 (file_answer (example 2) (replicate 22 7))
    ∷ same_numbers (output_answer (example 2) (replicate 25 7)) (example_listing ++ (7 ∷ 7 ∷ 7 ∷ []))
    -- one byte too few for the listing
    ∷ replies 14 0 0 (file_answer (example 2) (replicate 21 7))
    ∷ same_numbers (output_answer (example 2) (replicate 21 7)) (replicate 21 7)
    ∷ replies 12 21 0 (file_answer (example 3) (replicate 22 7))
    -- more domains or threads than the arrays hold; 2 and 3 come before 4 and 5
    ∷ replies 2 65 0 (file_answer (65 ∷ replicate 64 0) [])
    ∷ replies 4 0 0 (file_answer (plain 64 1 0 1) [])
    ∷ replies 5 0 0 (file_answer (plain 0 1 1 257) [])
    ∷ replies 3 259 0 (file_answer (plain 0 1 1 256 ++ (2 ∷ [])) [])
    -- with a ticket root, D is the first byte minus 128
    ∷ replies 4 0 0 (file_answer (128 ∷ 0 ∷ 0 ∷ []) [])
    ∷ replies 4 0 0 (file_answer ((193 ∷ replicate 64 0) ++ (1 ∷ 0 ∷ 0 ∷ [])) [])
    -- two threads at a ticket root, whose counters start at 0: "ok 8 2 3 2 0 0", then 0 and 1
    ∷ same_numbers (output_answer (129 ∷ 2 ∷ 0 ∷ 0 ∷ 0 ∷ pairs (0 ∷ 1 ∷ 1 ∷ 1 ∷ 1 ∷ 0 ∷ 0 ∷ 1 ∷ [])) (replicate 19 0))
    (111 ∷ 107 ∷ 32 ∷ 56 ∷ 32 ∷ 50 ∷ 32 ∷ 51 ∷ 32 ∷ 50 ∷ 32 ∷ 48 ∷ 32 ∷ 48 ∷ 10 ∷ 48 ∷ 10 ∷ 49 ∷ 10 ∷ [])
    -- with D of 0 or 1 there is no domain entry; without threads, the rest is the schedule
    ∷ replies 4 0 0 (file_answer (0 ∷ 0 ∷ 0 ∷ []) [])
    ∷ replies 5 0 0 (file_answer (1 ∷ 0 ∷ 0 ∷ 0 ∷ 0 ∷ []) [])
    -- the first home that is no domain
    ∷ replies 9 1 0 (file_answer (1 ∷ 3 ∷ 0 ∷ 0 ∷ 1 ∷ 9 ∷ 0 ∷ []) [])
    -- a leaf without threads, also if a schedule entry is no thread
    ∷ replies 16 2 0 (file_answer (3 ∷ 0 ∷ 0 ∷ 1 ∷ 0 ∷ 1 ∷ 1 ∷ 9 ∷ 0 ∷ []) [])
    -- the listing of an empty schedule, "ok 0 0 0 0 0 0"
    ∷ same_numbers (output_answer (1 ∷ 1 ∷ 0 ∷ 0 ∷ []) (replicate 15 0)) (111 ∷ 107 ∷ 32 ∷ 48 ∷ 32 ∷ 48 ∷ 32 ∷ 48 ∷ 32 ∷ 48 ∷ 32 ∷ 48 ∷ 32 ∷ 48 ∷ 10 ∷ [])
    -- one byte more than a lock file may have: 1 comes before 4
    ∷ replies 1 0 0 (file_answer (replicate 65537 0) [])
    -- the buffer length that is always enough, as hmcs.h states it: 39 bytes for the first line and 4 for each of 32,768 entries
    ∷ eqb listing_room (39 + 4 * 32768) ∷ []

-- EVERY PART MATTERS: the right reply, and replies that are wrong only in the number, the place or the length. A reply with these parts
abbrev pub reply : (number place length : ℕ) → FileReply
reply n p l = record { number = n; place = p; length = l }

-- whether each of them has the parts expected
unfoldable pub parts : List Bool
parts = replies 14 3 5 (reply 14 3 5) ∷ replies 14 3 5 (reply 12 3 5) ∷ replies 14 3 5 (reply 14 4 5) ∷ replies 14 3 5 (reply 14 3 0) ∷ []

-- only the right one does
unfoldable pub EveryPart : Type 0
EveryPart = parts ≡ true ∷ replicate 3 false
