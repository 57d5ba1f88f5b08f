-- Cases of writing the lock file, in one list: the printed example byte by byte, values at and next to each default, both kinds of root, words that are not read, refusals in their order, buffers.
use Rattle.std.specs.Prelude.{◌≡◌, Bool, true, false, ◌&&◌, List, [], ◌∷◌, ◌++◌, ℕ, ◌+◌, ◌*◌, ◌≤◌, ◌<◌, eqb, length, replicate}
use Rattle.model.specs.declared.TreeWords.{TreeWords}
use Rattle.model.specs.Trees.{tree_of}
use Rattle.model.specs.Refusals.{refusal, accepted}
use Rattle.model.specs.Cases.Marked.{tree, at_ticket_root, two_homes, first_entries, root_alone, two_in_root, same_numbers}
use Rattle.lock_file.specs.Cases.Reading.{example}
use Rattle.lock_file.specs.declared.file_writer.WriteReply.{WriteReply}
use Rattle.lock_file.specs.FileWriter.Writing.{written_file}
use Rattle.lock_file.specs.FileWriter.Refusals.{write_refusal}
use Rattle.lock_file.specs.FileWriter.Answers.{write_answer, file_buffer_answer}

-- a call, the number, place and length expected, and the buffer expected after it
pub record Case : Type 0 where
  pub words : TreeWords
  pub schedule : List ℕ
  pub buffer : List ℕ
  pub number : ℕ
  pub place : ℕ
  pub long : ℕ
  pub after : List ℕ

-- accepted, with this file at the front of a buffer of sevens and a given number of bytes after it
unfoldable pub writes : TreeWords → (schedule file : List ℕ) → (extra : ℕ) → Case
writes w is bs n =
    record {
      words = w;
      schedule = is;
      buffer = replicate (length bs) 7 ++ replicate n 7;
      number = 0;
      place = 0;
      long = length bs;
      after = bs ++ replicate n 7;
    }

-- refused: length 0, the buffer unchanged
unfoldable pub refuses : (number place : ℕ) → TreeWords → (schedule : List ℕ) → (room : ℕ) → Case
refuses n p w is room =
    record { words = w; schedule = is; buffer = replicate room 7; number = n; place = p; long = 0; after = replicate room 7 }

-- leaves 2 and 5 below the root, 3 and 4 below domain 1; thresholds near the default, and one with the same low byte as the default
unfoldable pub edges : TreeWords
edges = tree 6 4 (0 ∷ 0 ∷ 0 ∷ 1 ∷ 1 ∷ 0 ∷ []) (0 ∷ 15 ∷ 16 ∷ 16 ∷ 17 ∷ 272 ∷ []) (2 ∷ 3 ∷ 4 ∷ 5 ∷ [])

-- the tree of the printed example with other words for the root and in unused slots, and a number for the kind of root
unfoldable pub unread : (root : ℕ) → TreeWords
unread k =
    record {
      domains = 3;
      threads = 3;
      parents = 9 ∷ 0 ∷ 0 ∷ 5 ∷ replicate 60 0;
      thresholds = 9 ∷ 2 ∷ 16 ∷ 5 ∷ replicate 60 0;
      homes = 1 ∷ 1 ∷ 2 ∷ 5 ∷ replicate 252 0;
      ticket_root = k;
    }

-- the second leaf has no thread
unfoldable pub empty_leaf : TreeWords
empty_leaf = tree 3 1 (0 ∷ 0 ∷ 0 ∷ []) (0 ∷ 2 ∷ 16 ∷ []) (1 ∷ [])

-- the cases
unfoldable pub cases : List Case
cases =
    -- the printed example, byte by byte; with two bytes after it; and one byte too few
    writes two_homes (first_entries ++ (2 ∷ [])) (example 2) 0
    ∷ writes two_homes (first_entries ++ (2 ∷ [])) (example 2) 2
    ∷ refuses 17 0 two_homes (first_entries ++ (2 ∷ [])) 55
    -- one domain and one thread, with an empty schedule; home 0 of the first thread is a default
    ∷ writes root_alone [] (1 ∷ 1 ∷ 0 ∷ 0 ∷ []) 0
    ∷ refuses 17 0 root_alone [] 3
    -- parents 0 and 1; thresholds 15, 16, 17 and 272, whose low byte is 16; homes that differ from the thread before
    ∷ writes edges [] (6 ∷ 2 ∷ 15 ∷ 0 ∷ 0 ∷ 1 ∷ 1 ∷ 3 ∷ 1 ∷ 17 ∷ 0 ∷ 2 ∷ 16 ∷ 1 ∷ 4 ∷ 0 ∷ 1 ∷ 2 ∷ 1 ∷ 3 ∷ 1 ∷ 4 ∷ 1 ∷ 5 ∷ []) 0
    -- homes equal to the thread before: 1 1 2 2 1
    ∷ writes (tree 3 5 (0 ∷ 0 ∷ 0 ∷ []) (0 ∷ 16 ∷ 16 ∷ []) (1 ∷ 1 ∷ 2 ∷ 2 ∷ 1 ∷ [])) (4 ∷ []) (3 ∷ 0 ∷ 0 ∷ 5 ∷ 0 ∷ 1 ∷ 1 ∷ 0 ∷ 1 ∷ 2 ∷ 0 ∷ 1 ∷ 1 ∷ 4 ∷ 0 ∷ []) 0
    -- 128 more for a ticket root, whatever its number
    ∷ writes (at_ticket_root two_in_root) (1 ∷ 0 ∷ []) (129 ∷ 2 ∷ 0 ∷ 0 ∷ 0 ∷ 1 ∷ 0 ∷ 0 ∷ 0 ∷ []) 0
    ∷ writes (unread 0) [] (3 ∷ 2 ∷ 2 ∷ 0 ∷ 0 ∷ 3 ∷ 0 ∷ 1 ∷ 1 ∷ 0 ∷ 1 ∷ 2 ∷ []) 0
    ∷ writes (unread 4294967295) [] (131 ∷ 2 ∷ 2 ∷ 0 ∷ 0 ∷ 3 ∷ 0 ∷ 1 ∷ 1 ∷ 0 ∷ 1 ∷ 2 ∷ []) 0
    -- 256 threads: T in two bytes
    ∷ writes (tree 1 256 [] [] []) (255 ∷ []) ((1 ∷ 0 ∷ 1 ∷ []) ++ (replicate 256 0 ++ (255 ∷ 0 ∷ []))) 0
    -- 12 comes before 17, and the tests of the tree before both
    ∷ refuses 12 1 root_alone (0 ∷ 1 ∷ []) 3
    ∷ refuses 16 2 empty_leaf (9 ∷ []) 0
    ∷ refuses 4 0 (tree 0 1 [] [] []) [] 9
    ∷ refuses 5 0 (tree 1 0 [] [] []) [] 0 ∷ []

-- WHEN A LINE HOLDS: the reply and the buffer after it
abbrev pub answered : WriteReply → (left : List ℕ) → Case → Bool
answered r xs c =
    (eqb r.number c.number && (eqb r.place c.place && eqb r.length c.long))
    && same_numbers xs c.after

-- whether a case holds
unfoldable pub holds : Case → Bool
holds c = answered (write_answer c.words c.schedule c.buffer) (file_buffer_answer c.words c.schedule c.buffer) c

-- whether every case of a list holds
unfoldable pub all_hold : List Case → Bool
all_hold [] = true
all_hold (c ∷ cs) = holds c && all_hold cs

-- EVERY PART MATTERS: the right answer to a case, and answers that are wrong only in the number, the place, the length or the buffer. A reply with these parts
abbrev pub reply : (number place length : ℕ) → WriteReply
reply n p l = record { number = n; place = p; length = l }

-- whether each of them is accepted for the case
unfoldable pub parts : List Bool
parts =
    let c = writes root_alone [] (1 ∷ 1 ∷ 0 ∷ 0 ∷ []) 1 in
    answered (reply 0 0 4) (1 ∷ 1 ∷ 0 ∷ 0 ∷ 7 ∷ []) c
    ∷ answered (reply 1 0 4) (1 ∷ 1 ∷ 0 ∷ 0 ∷ 7 ∷ []) c
    ∷ answered (reply 0 1 4) (1 ∷ 1 ∷ 0 ∷ 0 ∷ 7 ∷ []) c
    ∷ answered (reply 0 0 5) (1 ∷ 1 ∷ 0 ∷ 0 ∷ 7 ∷ []) c
    ∷ answered (reply 0 0 4) (1 ∷ 1 ∷ 0 ∷ 0 ∷ 0 ∷ []) c ∷ []

-- only the right answer is
unfoldable pub EveryPart : Type 0
EveryPart = parts ≡ true ∷ replicate 4 false

-- THE LONGEST FILE. One domain and one thread with n steps give 4 bytes and two per entry: 32,766 entries give exactly 65,536 bytes; with one entry more, 1 refuses, whatever the buffer's length
abbrev pub steps_of_one : (n : ℕ) → List ℕ
steps_of_one n = replicate n 0

-- the file and the answer for n steps of one thread
pub record OneThread (n room : ℕ) : Type 0 where
  pub long : length (written_file (tree_of root_alone) (steps_of_one n)) ≡ 4 + 2 * n
  pub written : n ≤ 32766 → 4 + 2 * n ≤ room → write_refusal (tree_of root_alone) (steps_of_one n) room ≡ accepted
  pub no_room : n ≤ 32766 → room < 4 + 2 * n → write_refusal (tree_of root_alone) (steps_of_one n) room ≡ refusal 17 0
  pub too_long : 32766 < n → write_refusal (tree_of root_alone) (steps_of_one n) room ≡ refusal 1 0

-- for every n up to 65,536 and every buffer length
unfoldable pub LongestLaw : Type 0
LongestLaw = (n room : ℕ) → n ≤ 65536 → OneThread n room
