-- Cases of the check of a journal, in one list: accepted journals, each number and its place, their order, both kinds of root.
use Rattle.std.specs.Prelude.{Bool, true, ◌&&◌, List, [], ◌∷◌, ◌++◌, ℕ, eqb}
use Rattle.model.specs.declared.TreeWords.{TreeWords}
use Rattle.model.specs.Cases.Marked.{tree, at_ticket_root, two_homes, two_in_root, three_levels}
use Rattle.journal.specs.Answers.{journal_answer}

-- a tree, a journal, and the number and place expected
pub record Case : Type 0 where
  pub words : TreeWords
  pub bytes : List ℕ
  pub number : ℕ
  pub place : ℕ

-- a case with these parts
abbrev pub answers : (number place : ℕ) → TreeWords → (bytes : List ℕ) → Case
answers n p w bs = record { words = w; bytes = bs; number = n; place = p }

-- the second leaf has no thread
unfoldable pub empty_leaf : TreeWords
empty_leaf = tree 3 1 (0 ∷ 0 ∷ 0 ∷ []) (0 ∷ 2 ∷ 16 ∷ []) (1 ∷ [])

-- thread 0 enters alone; both fields of each entry are written
unfoldable pub enters_written_out : List ℕ
enters_written_out = 3 ∷ 0 ∷ 0 ∷ 1 ∷ 3 ∷ 0 ∷ 0 ∷ 2 ∷ []

-- the same, with fields left to their defaults
unfoldable pub enters_by_default : List ℕ
enters_by_default = 2 ∷ 1 ∷ 2 ∷ 2 ∷ []

-- threads 0 and 1 at one root: 0 enters, 1 waits, 0 leaves and grants, 1 enters. The kinds are 1 2, 1 1 1, 0, 5 1 1, 2
unfoldable pub handed_over : List ℕ
handed_over = enters_by_default ++ (3 ∷ 1 ∷ 0 ∷ 1 ∷ 2 ∷ 1 ∷ 2 ∷ 1 ∷ 0 ∷ []) ++ (3 ∷ 0 ∷ 0 ∷ 5 ∷ 2 ∷ 1 ∷ 2 ∷ 1 ∷ []) ++ (3 ∷ 1 ∷ 0 ∷ 2 ∷ [])

-- two threads on three levels, up to the step with which the second one enters between home and root
unfoldable pub crosses : List ℕ
crosses =
    2 ∷ 1 ∷ 2 ∷ 1 ∷ 2 ∷ 1 ∷ 2 ∷ 1 ∷ 2 ∷ 1 ∷ 2 ∷ 2 ∷ 3 ∷ 1 ∷ 0 ∷ 1 ∷ 2 ∷ 1 ∷ 2 ∷ 1 ∷ 2 ∷ 1 ∷ 2 ∷ 1 ∷ 0 ∷ 3 ∷ 0 ∷ 0 ∷ 5 ∷ 2 ∷ 1 ∷ 2 ∷ 1 ∷ 2 ∷ 1 ∷ []

-- the cases
unfoldable pub cases : List Case
cases =
    -- an empty journal, and a thread that enters
    answers 0 0 two_in_root []
    ∷ answers 0 0 two_in_root enters_written_out
    ∷ answers 0 0 two_in_root enters_by_default
    -- a stay is an entry of one byte; kind 0 may be written, and so may the thread of the entry before
    ∷ answers 0 0 two_in_root handed_over
    ∷ answers 0 0 two_in_root (enters_by_default ++ (3 ∷ 1 ∷ 0 ∷ 1 ∷ 2 ∷ 1 ∷ 2 ∷ 1 ∷ 2 ∷ 0 ∷ 3 ∷ 1 ∷ 0 ∷ 0 ∷ 1 ∷ 1 ∷ 0 ∷ []))
    -- at a ticket root the draw enters at once, from a start of 0
    ∷ answers 0 0 (at_ticket_root two_in_root) (2 ∷ 2 ∷ 3 ∷ 1 ∷ 0 ∷ 1 ∷ 0 ∷ [])
    ∷ answers 26 0 (at_ticket_root two_in_root) enters_by_default
    -- 25: cut off after the bit map, in the thread, before the kind; the place is the entry's first byte
    ∷ answers 25 4 two_in_root (enters_by_default ++ (1 ∷ []))
    ∷ answers 25 4 two_in_root (enters_by_default ++ (1 ∷ 0 ∷ []))
    ∷ answers 25 4 two_in_root (enters_by_default ++ (2 ∷ []))
    ∷ answers 25 4 two_in_root (enters_by_default ++ (3 ∷ 0 ∷ 0 ∷ []))
    -- 25: another bit is set, with enough bytes after it
    ∷ answers 25 2 two_in_root (2 ∷ 1 ∷ 4 ∷ 0 ∷ 0 ∷ 0 ∷ 0 ∷ 0 ∷ [])
    ∷ answers 25 0 two_in_root (128 ∷ [])
    ∷ answers 25 0 two_in_root (7 ∷ 0 ∷ 0 ∷ 1 ∷ [])
    -- 12: a thread that is not in the tree; the low byte comes first
    ∷ answers 12 2 two_in_root (2 ∷ 1 ∷ 3 ∷ 2 ∷ 0 ∷ 1 ∷ [])
    ∷ answers 12 0 two_in_root (3 ∷ 0 ∷ 1 ∷ 1 ∷ [])
    -- 12 comes before 26 in one entry; a wrong kind comes before an unknown thread in a later entry
    ∷ answers 12 0 two_in_root (3 ∷ 2 ∷ 0 ∷ 9 ∷ [])
    ∷ answers 26 0 two_in_root (0 ∷ 3 ∷ 2 ∷ 0 ∷ 9 ∷ [])
    ∷ answers 26 0 two_in_root (0 ∷ 4 ∷ [])
    -- 26: a kind that is not the step's, one left out, one above 5; the second entry names the thread of the entry before, not 0
    ∷ answers 26 2 two_in_root (2 ∷ 1 ∷ 2 ∷ 1 ∷ [])
    ∷ answers 26 2 two_in_root (2 ∷ 1 ∷ 0 ∷ [])
    ∷ answers 26 2 two_in_root (2 ∷ 1 ∷ 2 ∷ 6 ∷ [])
    ∷ answers 26 0 two_in_root (2 ∷ 9 ∷ [])
    ∷ answers 0 0 two_in_root (3 ∷ 1 ∷ 0 ∷ 1 ∷ 2 ∷ 2 ∷ [])
    -- a passed entry is not a crossed one
    ∷ answers 0 0 two_homes (2 ∷ 1 ∷ 2 ∷ 1 ∷ 2 ∷ 1 ∷ 2 ∷ 2 ∷ 3 ∷ 1 ∷ 0 ∷ 1 ∷ 2 ∷ 1 ∷ 2 ∷ 1 ∷ 0 ∷ 3 ∷ 0 ∷ 0 ∷ 5 ∷ 2 ∷ 1 ∷ 2 ∷ 1 ∷ 3 ∷ 1 ∷ 0 ∷ 3 ∷ [])
    ∷ answers 26 25 two_homes (2 ∷ 1 ∷ 2 ∷ 1 ∷ 2 ∷ 1 ∷ 2 ∷ 2 ∷ 3 ∷ 1 ∷ 0 ∷ 1 ∷ 2 ∷ 1 ∷ 2 ∷ 1 ∷ 0 ∷ 3 ∷ 0 ∷ 0 ∷ 5 ∷ 2 ∷ 1 ∷ 2 ∷ 1 ∷ 3 ∷ 1 ∷ 0 ∷ 4 ∷ [])
    ∷ answers 0 0 three_levels (crosses ++ (3 ∷ 1 ∷ 0 ∷ 4 ∷ []))
    ∷ answers 26 35 three_levels (crosses ++ (3 ∷ 1 ∷ 0 ∷ 3 ∷ []))
    -- the tests of the tree come before every entry
    ∷ answers 16 2 empty_leaf (128 ∷ [])
    ∷ answers 5 0 (tree 1 0 (0 ∷ []) (0 ∷ []) []) (128 ∷ []) ∷ []

-- whether a case holds
unfoldable pub holds : Case → Bool
holds c =
    let r = journal_answer c.words c.bytes in
    eqb r.number c.number && eqb r.place c.place

-- whether every case of a list holds
unfoldable pub all_hold : List Case → Bool
all_hold [] = true
all_hold (c ∷ cs) = holds c && all_hold cs
