-- Cases of the check of a state, in one list: accepted states, 10 for words and for counters, and a tree that is refused before the state.
use Rattle.std.specs.Prelude.{Bool, true, ◌&&◌, List, [], ◌∷◌, ℕ, eqb}
use Rattle.model.specs.declared.TreeWords.{TreeWords}
use Rattle.model.specs.declared.LockState.{LockState}
use Rattle.model.specs.declared.Place.TheVariants.{Inside, Check}
use Rattle.model.specs.Trees.{tree_of}
use Rattle.model.specs.States.{fresh_words, with_place}
use Rattle.model.specs.Runs.{run}
use Rattle.model.specs.Counters.{lock_state}
use Rattle.model.specs.Cases.Marked.{tree, at_ticket_root, uncounted, two_homes, first_entries, root_alone}
use Rattle.model.specs.Cases.Counters.{counters, limit}
use Rattle.refusals.specs.StateCheck.Answers.{check_answer}

-- a tree, a state, and the number and place expected
pub record Case : Type 0 where
  pub words : TreeWords
  pub state : LockState
  pub number : ℕ
  pub place : ℕ

-- a case with these parts
abbrev pub answers : (number place : ℕ) → TreeWords → LockState → Case
answers n p w s = record { words = w; state = s; number = n; place = p }

-- the second leaf has no thread
unfoldable pub empty_leaf : TreeWords
empty_leaf = tree 3 1 (0 ∷ 0 ∷ 0 ∷ []) (0 ∷ 2 ∷ 16 ∷ []) (1 ∷ [])

-- the cases
unfoldable pub cases : List Case
cases =
    -- a fresh lock, at both kinds of root, and one after 21 steps
    answers 0 0 two_homes (uncounted fresh_words)
    ∷ answers 0 0 (at_ticket_root two_homes) (uncounted fresh_words)
    ∷ answers 0 0 two_homes (uncounted (run (tree_of two_homes) first_entries fresh_words).state)
    -- counters at 2^63, from which 19 may refuse a step
    ∷ answers 0 0 two_homes (lock_state fresh_words (counters (0 ∷ limit ∷ []) (0 ∷ limit ∷ []) (0 ∷ 2 ∷ [])))
    -- 10: Check at the root; Inside in an unused slot; a longest tenure above the threshold; a counter of the root
    ∷ answers 10 0 root_alone (uncounted (with_place 0 (Check 0) fresh_words))
    ∷ answers 10 0 root_alone (uncounted (with_place 1 Inside fresh_words))
    ∷ answers 10 0 two_homes (lock_state fresh_words (counters [] [] (0 ∷ 3 ∷ [])))
    ∷ answers 10 0 two_homes (lock_state fresh_words (counters (1 ∷ []) [] []))
    -- the tree is tested before the state: 16 before 10, and 4
    ∷ answers 16 2 empty_leaf (uncounted (with_place 0 (Check 0) fresh_words))
    ∷ answers 16 2 empty_leaf (uncounted fresh_words)
    ∷ answers 4 0 (tree 0 1 [] [] (0 ∷ [])) (uncounted (with_place 0 (Check 0) fresh_words)) ∷ []

-- whether a case holds
unfoldable pub holds : Case → Bool
holds c =
    let r = check_answer c.words c.state in
    eqb r.number c.number && eqb r.place c.place

-- whether every case of a list holds
unfoldable pub all_hold : List Case → Bool
all_hold [] = true
all_hold (c ∷ cs) = holds c && all_hold cs
