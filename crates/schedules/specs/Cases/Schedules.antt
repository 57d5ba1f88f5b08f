-- Cases of many schedules in one call, in one list: rows, refused rows, refusals of the call and their order, lengths near 2^32, buffers.
use Rattle.std.specs.Prelude.{Bool, true, ◌&&◌, List, [], ◌∷◌, ◌++◌, ℕ, eqb, replicate}
use Rattle.model.specs.declared.TreeWords.{TreeWords}
use Rattle.model.specs.Cases.Marked.{tree, at_ticket_root, two_homes, first_entries, two_in_root, three_levels, same_numbers}
use Rattle.schedules.specs.Answers.{many_answer, rows_answer}

-- a call, the number and place expected, and the row buffer expected after it
pub record Case : Type 0 where
  pub words : TreeWords
  pub lengths : List ℕ
  pub entries : List ℕ
  pub buffer : List ℕ
  pub number : ℕ
  pub place : ℕ
  pub after : List ℕ

-- accepted, with these rows at the front of a buffer of sevens and a given number of elements after them
unfoldable pub rows_given : TreeWords → (lengths entries rows : List ℕ) → (front extra : ℕ) → Case
rows_given w ns es xs n m =
    record { words = w; lengths = ns; entries = es; buffer = replicate n 7 ++ replicate m 7; number = 0; place = 0; after = xs ++ replicate m 7 }

-- the whole call is refused, and the buffer is unchanged
unfoldable pub refused_by : (number place : ℕ) → TreeWords → (lengths entries : List ℕ) → (room : ℕ) → Case
refused_by n p w ns es room =
    record { words = w; lengths = ns; entries = es; buffer = replicate room 7; number = n; place = p; after = replicate room 7 }

-- the row of an empty schedule
unfoldable pub no_steps : List ℕ
no_steps = replicate 8 0

-- the row of one entry that moves
unfoldable pub one_move : List ℕ
one_move = 0 ∷ 0 ∷ 1 ∷ replicate 5 0

-- the row of two entries with which a lone thread enters
unfoldable pub one_entry : List ℕ
one_entry = 0 ∷ 0 ∷ 2 ∷ 1 ∷ 0 ∷ 1 ∷ 0 ∷ 0 ∷ []

-- the row of the printed example
unfoldable pub example_row : List ℕ
example_row = 0 ∷ 0 ∷ 22 ∷ 3 ∷ 1 ∷ 2 ∷ 1 ∷ 0 ∷ []

-- the row of a schedule with an entry that is no thread
unfoldable pub no_thread_at : (position : ℕ) → List ℕ
no_thread_at p = 12 ∷ p ∷ replicate 6 0

-- the second leaf has no thread
unfoldable pub empty_leaf : TreeWords
empty_leaf = tree 3 1 (0 ∷ 0 ∷ 0 ∷ []) (0 ∷ 2 ∷ 16 ∷ []) (1 ∷ [])

-- the cases
unfoldable pub cases : List Case
cases =
    -- the printed example; an empty schedule; a schedule refused at its entry that is no thread, by its position in that schedule; and one after it that still runs. Three numbers follow the rows
    rows_given two_homes (22 ∷ 0 ∷ 2 ∷ 1 ∷ []) (first_entries ++ (2 ∷ 0 ∷ 3 ∷ 0 ∷ [])) (example_row ++ no_steps ++ no_thread_at 1 ++ one_move) 32 3
    -- a crossed entry; with the row above, no two columns are equal in both
    ∷ rows_given three_levels (17 ∷ []) (replicate 6 0 ++ replicate 6 1 ++ replicate 4 0 ++ 1 ∷ []) (0 ∷ 0 ∷ 17 ∷ 2 ∷ 1 ∷ 1 ∷ 0 ∷ 1 ∷ []) 8 0
    -- each schedule starts from its own fresh lock: the second does not find the first one's thread inside
    ∷ rows_given two_in_root (2 ∷ 2 ∷ []) (0 ∷ 0 ∷ 1 ∷ 1 ∷ []) (one_entry ++ one_entry) 16 0
    -- the same with a ticket lock at the root: the second finds both counters at 0 again
    ∷ rows_given (at_ticket_root two_in_root) (6 ∷ 1 ∷ []) (0 ∷ 1 ∷ 1 ∷ 0 ∷ 0 ∷ 1 ∷ 1 ∷ []) (0 ∷ 0 ∷ 6 ∷ 2 ∷ 1 ∷ 2 ∷ 0 ∷ 0 ∷ 0 ∷ 0 ∷ 1 ∷ 1 ∷ 0 ∷ 1 ∷ 0 ∷ 0 ∷ []) 16 0
    -- two refused rows, with places counted within each schedule
    ∷ rows_given two_in_root (1 ∷ 2 ∷ 1 ∷ []) (2 ∷ 0 ∷ 9 ∷ 0 ∷ []) (no_thread_at 0 ++ no_thread_at 1 ++ one_move) 24 0
    -- empty schedules, and no schedules
    ∷ rows_given two_in_root (0 ∷ 0 ∷ []) [] (no_steps ++ no_steps) 16 0
    ∷ rows_given two_in_root [] [] [] 0 9
    ∷ rows_given two_in_root [] [] [] 0 0
    -- one entry too few, one too many, entries without a length
    ∷ refused_by 22 0 two_in_root (1 ∷ 1 ∷ []) (0 ∷ []) 16
    ∷ refused_by 22 0 two_in_root (1 ∷ 1 ∷ []) (0 ∷ 0 ∷ 0 ∷ []) 16
    ∷ refused_by 22 0 two_in_root [] (0 ∷ []) 16
    -- sums that are right only modulo 2^32
    ∷ refused_by 22 0 two_in_root (4294967295 ∷ 1 ∷ []) [] 16
    ∷ refused_by 22 0 two_in_root (1 ∷ 4294967295 ∷ 1 ∷ []) (0 ∷ []) 24
    -- one number too few for the last row, and an empty buffer
    ∷ refused_by 23 0 two_in_root (1 ∷ 1 ∷ []) (0 ∷ 0 ∷ []) 15
    ∷ refused_by 23 0 two_in_root (0 ∷ []) [] 0
    -- 22 comes before 23, and the tests of the tree before both
    ∷ refused_by 22 0 two_in_root (1 ∷ 1 ∷ []) [] 15
    ∷ refused_by 16 2 empty_leaf (1 ∷ 1 ∷ []) [] 15
    ∷ refused_by 5 0 (tree 1 0 (0 ∷ []) (0 ∷ []) []) [] [] 0 ∷ []

-- whether a case holds
unfoldable pub holds : Case → Bool
holds c =
    let r = many_answer c.words c.lengths c.entries c.buffer in
    (eqb r.number c.number && eqb r.place c.place) && same_numbers (rows_answer c.words c.lengths c.entries c.buffer) c.after

-- whether every case of a list holds
unfoldable pub all_hold : List Case → Bool
all_hold [] = true
all_hold (c ∷ cs) = holds c && all_hold cs
