-- Cases of reading, in one list: the bytes of the printed example, kinds of root, defaults, and 2 and 3 at their places.
use Rattle.std.specs.Prelude.{◌≡◌, Bool, true, false, ◌&&◌, List, [], ◌∷◌, ◌++◌, ℕ, suc, eqb, replicate, get_or}
use Rattle.model.specs.declared.TreeWords.{TreeWords}
use Rattle.model.specs.Cases.Marked.{same_numbers}
use Rattle.lock_file.specs.declared.ReadReply.{ReadReply}
use Rattle.lock_file.specs.Reading.{Reading, refused, described, file_read}
use Rattle.lock_file.specs.Answers.{read_answer, schedule_answer}

-- a reading refused with this number and place
abbrev pub refuses : (number place : ℕ) → Reading → Bool
refuses n p (refused r) = eqb r.number n && eqb r.place p
refuses n p (described w is) = false

-- a reading with this tree and schedule
abbrev pub gives : (domains root threads : ℕ) → (parents thresholds homes schedule : List ℕ) → Reading → Bool
gives d k t ps hs ms js (refused r) = false
gives d k t ps hs ms js (described w is) =
    eqb w.domains d && eqb w.ticket_root k && eqb w.threads t && same_numbers w.parents ps && same_numbers w.thresholds hs && same_numbers w.homes ms && same_numbers is js

-- a reply's number, place and length, and the domains, threads and homes of threads 0 and 2 of its tree
abbrev pub replies : (number place length domains threads home_0 home_2 : ℕ) → ReadReply → Bool
replies n p l d t h g r =
    eqb r.number n && eqb r.place p && eqb r.length l && eqb r.tree.domains d && eqb r.tree.threads t && eqb (get_or r.tree.homes 0 9) h
    && eqb (get_or r.tree.homes 2 9) g

-- schedule entries below 256 as bytes, two each
abbrev pub pairs : List ℕ → List ℕ
pairs [] = []
pairs (i ∷ is) = i ∷ 0 ∷ pairs is

-- the bytes of the printed example's tree
abbrev pub example_tree : List ℕ
example_tree = 3 ∷ 2 ∷ 2 ∷ 0 ∷ 0 ∷ 3 ∷ 0 ∷ 1 ∷ 1 ∷ 0 ∷ 1 ∷ 2 ∷ []

-- its schedule without the last entry
abbrev pub example_schedule : List ℕ
example_schedule = 0 ∷ 0 ∷ 0 ∷ 0 ∷ 1 ∷ 1 ∷ 1 ∷ 1 ∷ 0 ∷ 0 ∷ 0 ∷ 1 ∷ 2 ∷ 2 ∷ 2 ∷ 2 ∷ 2 ∷ 1 ∷ 1 ∷ 1 ∷ 1 ∷ []

-- the printed example with this last entry
abbrev pub example : (last : ℕ) → List ℕ
example l = example_tree ++ pairs (example_schedule ++ (l ∷ []))

-- domains and threads without fields, and an empty schedule
abbrev pub plain : (domains threads_low threads_high threads : ℕ) → List ℕ
plain d l h t = (suc d ∷ replicate d 0) ++ (l ∷ h ∷ replicate t 0)

-- the cases
unfoldable pub cases : List Bool
cases =
    -- the printed example
    gives 3 0 3 (replicate 64 0) (0 ∷ 2 ∷ 16 ∷ replicate 61 0) (1 ∷ 1 ∷ 2 ∷ replicate 253 0) (example_schedule ++ (2 ∷ [])) (file_read (example 2))
    -- the file ends too early: empty, inside a threshold, before T, inside T, before a home, with half a schedule entry
    ∷ refuses 2 0 (file_read [])
    ∷ refuses 2 3 (file_read (3 ∷ 2 ∷ 2 ∷ []))
    ∷ refuses 2 1 (file_read (1 ∷ []))
    ∷ refuses 2 2 (file_read (1 ∷ 1 ∷ []))
    ∷ refuses 2 4 (file_read (1 ∷ 1 ∷ 0 ∷ 1 ∷ []))
    ∷ refuses 2 5 (file_read (1 ∷ 1 ∷ 0 ∷ 0 ∷ 0 ∷ []))
    -- a bit without a meaning: in the last byte, in a domain's map, in a thread's map; the first error from the left counts
    ∷ refuses 3 1 (file_read (2 ∷ 4 ∷ []))
    ∷ refuses 3 2 (file_read (3 ∷ 0 ∷ 255 ∷ []))
    ∷ refuses 3 4 (file_read (1 ∷ 2 ∷ 0 ∷ 0 ∷ 2 ∷ 0 ∷ []))
    ∷ refuses 2 4 (file_read (2 ∷ 3 ∷ 0 ∷ 1 ∷ []))
    -- more domains or threads than the arrays hold are read to the end
    ∷ refuses 2 65 (file_read (65 ∷ replicate 64 0))
    ∷ refuses 3 259 (file_read (plain 0 1 1 256 ++ (2 ∷ [])))
    ∷ gives 127 0 0 (replicate 64 0) (0 ∷ replicate 63 16) (replicate 256 0) (258 ∷ []) (file_read (plain 126 0 0 0 ++ (2 ∷ 1 ∷ [])))
    -- 128 more in the first byte: a ticket root, and D is the rest
    ∷ gives 127 1 0 (replicate 64 0) (0 ∷ replicate 63 16) (replicate 256 0) (258 ∷ []) (file_read ((255 ∷ replicate 126 0) ++ (0 ∷ 0 ∷ 2 ∷ 1 ∷ [])))
    ∷ gives 2 1 1 (replicate 64 0) (0 ∷ 16 ∷ replicate 62 0) (1 ∷ replicate 255 0) [] (file_read (130 ∷ 0 ∷ 1 ∷ 0 ∷ 1 ∷ 1 ∷ []))
    -- the home of the thread before, even one that is no domain
    ∷ gives 1 0 3 (replicate 64 0) (replicate 64 0) (0 ∷ 9 ∷ 9 ∷ replicate 253 0) [] (file_read (1 ∷ 3 ∷ 0 ∷ 0 ∷ 1 ∷ 9 ∷ 0 ∷ []))
    -- read without a run: the printed example, with a schedule buffer one element too long and one too short
    ∷ replies 0 0 22 3 3 1 2 (read_answer (example 2))
    ∷ same_numbers (schedule_answer (example 2) (replicate 23 7)) (example_schedule ++ (2 ∷ 7 ∷ []))
    ∷ same_numbers (schedule_answer (example 2) (replicate 21 7)) (replicate 21 7)
    -- refused: nothing of what was read is returned
    ∷ replies 2 13 0 0 0 0 0 (read_answer (example_tree ++ (0 ∷ [])))
    ∷ same_numbers (schedule_answer (example_tree ++ (0 ∷ [])) (replicate 3 7)) (replicate 3 7) ∷ []

-- EVERY PART MATTERS: a reading, and readings that differ from it only in the domains, kind of root, threads, parents, thresholds, homes or schedule. A tree with these words
abbrev pub words : (domains root threads : ℕ) → (parents thresholds homes : List ℕ) → TreeWords
words d k t ps hs ms = record { domains = d; threads = t; parents = ps; thresholds = hs; homes = ms; ticket_root = k }

-- whether a reading is the expected one
abbrev pub expected : Reading → Bool
expected = gives 2 1 3 (0 ∷ 1 ∷ []) (0 ∷ 2 ∷ []) (4 ∷ 5 ∷ []) (6 ∷ [])

-- whether each of them is
unfoldable pub parts : List Bool
parts =
    expected (described (words 2 1 3 (0 ∷ 1 ∷ []) (0 ∷ 2 ∷ []) (4 ∷ 5 ∷ [])) (6 ∷ []))
    ∷ expected (described (words 7 1 3 (0 ∷ 1 ∷ []) (0 ∷ 2 ∷ []) (4 ∷ 5 ∷ [])) (6 ∷ []))
    ∷ expected (described (words 2 7 3 (0 ∷ 1 ∷ []) (0 ∷ 2 ∷ []) (4 ∷ 5 ∷ [])) (6 ∷ []))
    ∷ expected (described (words 2 1 7 (0 ∷ 1 ∷ []) (0 ∷ 2 ∷ []) (4 ∷ 5 ∷ [])) (6 ∷ []))
    ∷ expected (described (words 2 1 3 (0 ∷ 7 ∷ []) (0 ∷ 2 ∷ []) (4 ∷ 5 ∷ [])) (6 ∷ []))
    ∷ expected (described (words 2 1 3 (0 ∷ 1 ∷ []) (0 ∷ 7 ∷ []) (4 ∷ 5 ∷ [])) (6 ∷ []))
    ∷ expected (described (words 2 1 3 (0 ∷ 1 ∷ []) (0 ∷ 2 ∷ []) (4 ∷ 7 ∷ [])) (6 ∷ []))
    ∷ expected (described (words 2 1 3 (0 ∷ 1 ∷ []) (0 ∷ 2 ∷ []) (4 ∷ 5 ∷ [])) (7 ∷ [])) ∷ []

-- only the first is
unfoldable pub EveryPart : Type 0
EveryPart = parts ≡ true ∷ replicate 7 false
