-- Cases of a run that reports its steps, in one list: rows worked out by hand at both kinds of root, refusals and their order.
use Rattle.std.specs.Prelude.{Bool, true, ◌&&◌, ◌||◌, List, [], ◌∷◌, ◌++◌, ℕ, eqb, length, replicate, set}
use Rattle.model.specs.declared.TreeWords.{TreeWords}
use Rattle.model.specs.declared.State.{State}
use Rattle.model.specs.declared.LockState.{LockState}
use Rattle.model.specs.Trees.{tree_of}
use Rattle.model.specs.States.{fresh_words}
use Rattle.model.specs.Runs.{run}
use Rattle.model.specs.Counters.{lock_state, fresh_lock, most_counted}
use Rattle.model.specs.Cases.Marked.{tree, at_ticket_root, two_homes, two_in_root, three_levels, same_numbers, same_counts, same_lock, uncounted}
use Rattle.model.specs.Answers.{no_counts}
use Rattle.kinds.specs.declared.KindsReply.{KindsReply}
use Rattle.kinds.specs.Answers.{kinds_answer, kinds_trace, kinds_rows}

-- a call; the number, place and count of rows expected; and the buffer of kinds expected after it
pub record Case : Type 0 where
  pub words : TreeWords
  pub state : LockState
  pub schedule : List ℕ
  pub trace : List ℕ
  pub rows : List ℕ
  pub number : ℕ
  pub place : ℕ
  pub written : ℕ
  pub after : List ℕ

-- accepted from a state with these words, with these rows at the front of a buffer of sevens and three numbers after them
unfoldable pub accepted_with : TreeWords → State → (schedule rows : List ℕ) → Case
accepted_with w s is xs =
    record {
      words = w;
      state = uncounted s;
      schedule = is;
      trace = replicate 64 9;
      rows = replicate 3 7 ++ replicate (length xs) 7;
      number = 0;
      place = 0;
      written = length is;
      after = xs ++ replicate 3 7;
    }

-- refused: everything is unchanged
unfoldable pub refused_from : LockState → (number place : ℕ) → TreeWords → (schedule : List ℕ) → (room row_room : ℕ) → Case
refused_from s n p w is room m =
    record { words = w; state = s; schedule = is; trace = replicate room 9; rows = replicate m 7; number = n; place = p; written = 0; after = replicate m 7 }

-- refused from a fresh lock, at place 0
unfoldable pub refused_with : (number : ℕ) → TreeWords → (schedule : List ℕ) → (room row_room : ℕ) → Case
refused_with n w is room m = refused_from fresh_lock n 0 w is room m

-- fresh words, and all counters 0 except the entries of domain 1, which have the largest value
unfoldable pub full_entries : LockState
full_entries = lock_state fresh_words (record { entries = set (replicate 64 0) 1 most_counted; tenures = replicate 64 0; longest = replicate 64 0 })

-- the cases
unfoldable pub cases : List Case
cases =
    -- thread 0 enters through its home and the root, thread 1 waits after it at home, 0 passes the lock on, and 1 enters and leaves
    accepted_with two_homes fresh_words (replicate 4 0 ++ replicate 4 1 ++ replicate 3 0 ++ replicate 2 1)
    (1 ∷ 1 ∷ 1 ∷ 1 ∷ 1 ∷ 0 ∷ 2 ∷ 0 ∷ 1 ∷ 1 ∷ 1 ∷ 1 ∷ 1 ∷ 1 ∷ 0 ∷ 1 ∷ 5 ∷ 1 ∷ 1 ∷ 1 ∷ 1 ∷ 1 ∷ 3 ∷ 1 ∷ 5 ∷ 1 ∷ [])
    -- a crossed entry is at the domain between home and root; leaving is at home
    ∷ accepted_with three_levels (run (tree_of three_levels) (replicate 6 0 ++ replicate 6 1 ++ replicate 4 0) fresh_words).state (1 ∷ 1 ∷ []) (4 ∷ 1 ∷ 5 ∷ 3 ∷ [])
    -- at a ticket root that is not home, Draw, Watch and Raise are at domain 0
    ∷ accepted_with (at_ticket_root two_homes) fresh_words (0 ∷ 0 ∷ 0 ∷ 2 ∷ 2 ∷ 2 ∷ 2 ∷ []) (1 ∷ 1 ∷ 1 ∷ 1 ∷ 2 ∷ 0 ∷ 1 ∷ 2 ∷ 1 ∷ 2 ∷ 1 ∷ 0 ∷ 0 ∷ 0 ∷ [])
    -- an empty schedule
    ∷ accepted_with two_in_root fresh_words [] []
    -- 28: one number too few, a buffer only as long as the schedule, and an empty one
    ∷ refused_with 28 two_in_root (0 ∷ 0 ∷ []) 2 3
    ∷ refused_with 28 two_in_root (0 ∷ 0 ∷ []) 2 2
    ∷ refused_with 28 two_in_root (0 ∷ []) 1 0
    -- 12 and 13 come before 28, and the tests of the tree before them
    ∷ refused_with 13 two_in_root (0 ∷ 0 ∷ []) 1 0
    ∷ refused_from fresh_lock 12 1 two_in_root (0 ∷ 2 ∷ []) 0 0
    ∷ refused_with 5 (tree 1 0 (0 ∷ []) (0 ∷ []) []) [] 0 0
    -- an entry would raise a counter above 2^63: 28 comes before 19; 19 has the entry's position if the buffer is long enough
    ∷ refused_from full_entries 28 0 two_homes (replicate 4 0) 4 7
    ∷ refused_from full_entries 19 3 two_homes (replicate 4 0) 4 8 ∷ []

-- WHEN A LINE HOLDS: the reply and both buffers after it. If refused: all counts 0, state and trace unchanged
abbrev pub nothing_done : KindsReply → (traced : List ℕ) → Case → Bool
nothing_done r tr c = (same_counts r.counts no_counts && same_lock r.state c.state) && same_numbers tr c.trace

-- number, place and rows are as expected, and a refused call has changed nothing
abbrev pub answered : KindsReply → (traced rows : List ℕ) → Case → Bool
answered r tr xs c =
    ((eqb r.number c.number && eqb r.place c.place) && (eqb r.rows c.written && (eqb r.number 0 || nothing_done r tr c)))
    && same_numbers xs c.after

-- whether a case holds
unfoldable pub holds : Case → Bool
holds c =
    answered (kinds_answer c.words c.state c.schedule c.trace c.rows) (kinds_trace c.words c.state c.schedule c.trace c.rows)
    (kinds_rows c.words c.state c.schedule c.trace c.rows) c

-- whether every case of a list holds
unfoldable pub all_hold : List Case → Bool
all_hold [] = true
all_hold (c ∷ cs) = holds c && all_hold cs
