-- Cases of the check of steps, in one list: traces that are accepted, each number and its place, their order, and the state that is returned.
use Rattle.std.specs.Prelude.{Bool, true, ◌&&◌, List, [], ◌∷◌, ◌++◌, ℕ, eqb, replicate, set, take}
use Rattle.model.specs.declared.TreeWords.{TreeWords}
use Rattle.model.specs.declared.LockState.{LockState}
use Rattle.model.specs.declared.Place.TheVariants.{Check}
use Rattle.model.specs.Trees.{tree_of}
use Rattle.model.specs.States.{fresh_words, with_place}
use Rattle.model.specs.Runs.{steps}
use Rattle.model.specs.Counters.{lock_state, fresh_lock, lock_after, most_counted}
use Rattle.model.specs.Cases.Marked.{tree, at_ticket_root, uncounted, two_homes, one_home, two_in_root, same_lock}
use Rattle.journal.specs.StepCheck.Answers.{steps_answer}

-- a call, the number and place expected, and how many steps are right; the state after these is returned
pub record Case : Type 0 where
  pub words : TreeWords
  pub state : LockState
  pub threads : List ℕ
  pub kinds : List ℕ
  pub domains : List ℕ
  pub number : ℕ
  pub place : ℕ
  pub right : ℕ

-- a case with these parts
abbrev pub answers : (number place right : ℕ) → TreeWords → LockState → (threads kinds domains : List ℕ) → Case
answers n p r w s is ks ds = record { words = w; state = s; threads = is; kinds = ks; domains = ds; number = n; place = p; right = r }

-- thread 0 enters through its home and the root, thread 1 waits after it at home, 0 passes the lock on, 1 enters
unfoldable pub passing : List ℕ
passing = replicate 4 0 ++ replicate 4 1 ++ replicate 3 0 ++ 1 ∷ []

-- the kinds of these steps
unfoldable pub passing_kinds : List ℕ
passing_kinds = 1 ∷ 1 ∷ 1 ∷ 2 ∷ 1 ∷ 1 ∷ 1 ∷ 0 ∷ 5 ∷ 1 ∷ 1 ∷ 3 ∷ []

-- the domains of these steps
unfoldable pub passing_domains : List ℕ
passing_domains = 1 ∷ 1 ∷ 0 ∷ 0 ∷ 1 ∷ 1 ∷ 1 ∷ 1 ∷ 1 ∷ 1 ∷ 1 ∷ 1 ∷ []

-- a leaf below the root with threads 0 and 1, threshold 1, so that the root is released before the leaf is handed on
unfoldable pub one_pass : TreeWords
one_pass = tree 2 2 (0 ∷ 0 ∷ []) (0 ∷ 1 ∷ []) (1 ∷ 1 ∷ [])

-- 0 enters, 1 links itself after it, 0 leaves, checks, and helps at the root
unfoldable pub releasing : List ℕ
releasing = replicate 4 0 ++ replicate 3 1 ++ replicate 3 0

-- the kinds of these steps
unfoldable pub releasing_kinds : List ℕ
releasing_kinds = 1 ∷ 1 ∷ 1 ∷ 2 ∷ 1 ∷ 1 ∷ 1 ∷ 5 ∷ 1 ∷ 1 ∷ []

-- the domains of these steps
unfoldable pub releasing_domains : List ℕ
releasing_domains = 1 ∷ 1 ∷ 0 ∷ 0 ∷ 1 ∷ 1 ∷ 1 ∷ 1 ∷ 1 ∷ 0 ∷ []

-- fresh words, and all counters 0 except the entries of domain 1, which have the largest value
unfoldable pub full_entries : LockState
full_entries = lock_state fresh_words (record { entries = set (replicate 64 0) 1 most_counted; tenures = replicate 64 0; longest = replicate 64 0 })

-- the second leaf has no thread
unfoldable pub empty_leaf : TreeWords
empty_leaf = tree 3 1 (0 ∷ 0 ∷ 0 ∷ []) (0 ∷ 2 ∷ 16 ∷ []) (1 ∷ [])

-- the cases
unfoldable pub cases : List Case
cases =
    -- no steps, the whole trace, and its second part from the state after the first
    answers 0 0 0 two_homes fresh_lock [] [] []
    ∷ answers 0 0 12 two_homes fresh_lock passing passing_kinds passing_domains
    ∷ answers 0 0 1 two_homes (lock_after (tree_of two_homes) fresh_lock (steps (tree_of two_homes) (take 11 passing) fresh_words)) (1 ∷ []) (3 ∷ []) (1 ∷ [])
    -- at a ticket root the draw enters at once
    ∷ answers 0 0 2 (at_ticket_root two_in_root) fresh_lock (0 ∷ 1 ∷ []) (2 ∷ 1 ∷ []) (0 ∷ 0 ∷ [])
    -- 12, whatever kind and domain are named, and after right steps
    ∷ answers 12 0 0 two_homes fresh_lock (3 ∷ []) (9 ∷ []) (9 ∷ [])
    ∷ answers 12 1 1 two_homes fresh_lock (0 ∷ 3 ∷ []) (1 ∷ 1 ∷ []) (1 ∷ 1 ∷ [])
    -- 19 at the step that would enter, before 26 and 29
    ∷ answers 19 3 3 two_homes full_entries (replicate 4 0) (1 ∷ 1 ∷ 1 ∷ 9 ∷ []) (1 ∷ 1 ∷ 0 ∷ 9 ∷ [])
    -- 26 for the first kind that is not the step's, also for one above 5, before 29
    ∷ answers 26 3 3 two_homes fresh_lock (replicate 4 0) (1 ∷ 1 ∷ 1 ∷ 1 ∷ []) (1 ∷ 1 ∷ 0 ∷ 0 ∷ [])
    ∷ answers 26 0 0 two_homes fresh_lock (0 ∷ 3 ∷ []) (9 ∷ 1 ∷ []) (9 ∷ 9 ∷ [])
    -- 29 if the kinds agree
    ∷ answers 29 2 2 two_homes fresh_lock (replicate 4 0) (1 ∷ 1 ∷ 1 ∷ 2 ∷ []) (1 ∷ 1 ∷ 1 ∷ 0 ∷ [])
    -- the leaf is handed on before the root is released: every kind agrees, but a domain does not
    ∷ answers 0 0 10 one_pass fresh_lock releasing releasing_kinds releasing_domains
    ∷ answers 29 9 9 one_pass fresh_lock releasing releasing_kinds (take 9 releasing_domains ++ 1 ∷ [])
    -- 30 comes before every step; 10 and the tests of the tree come before 30
    ∷ answers 30 0 0 two_homes fresh_lock (3 ∷ []) [] (1 ∷ [])
    ∷ answers 30 0 0 two_homes fresh_lock (3 ∷ []) (1 ∷ []) []
    ∷ answers 10 0 0 one_home (uncounted (with_place 0 (Check 0) fresh_words)) (0 ∷ []) [] []
    ∷ answers 16 2 0 empty_leaf (uncounted (with_place 0 (Check 0) fresh_words)) (0 ∷ []) [] [] ∷ []

-- whether a case holds
unfoldable pub holds : Case → Bool
holds c =
    let r = steps_answer c.words c.state c.threads c.kinds c.domains in
    let after = lock_after (tree_of c.words) c.state (steps (tree_of c.words) (take c.right c.threads) c.state.words) in
    (eqb r.number c.number && eqb r.place c.place) && (eqb r.checked c.right && same_lock r.state after)

-- whether every case of a list holds
unfoldable pub all_hold : List Case → Bool
all_hold [] = true
all_hold (c ∷ cs) = holds c && all_hold cs
