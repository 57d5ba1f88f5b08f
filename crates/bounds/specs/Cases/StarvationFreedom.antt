-- COMPUTED CASES: values of the bounds; rounds in which a thread enters late; and the stalled releaser of document 01: as long as it has no turn, another thread can enter any number of times, and the thread after it never enters.
use Rattle.std.specs.Prelude.{◌≡◌, Bool, true, ◌&&◌, List, [], ◌∷◌, ◌++◌, ℕ, zero, suc, eqb, ltb, length, replicate}
use Rattle.model.specs.declared.TreeWords.{TreeWords}
use Rattle.model.specs.Scans.{all_below}
use Rattle.model.specs.Trees.{Tree, tree_of}
use Rattle.model.specs.States.{fresh_state}
use Rattle.model.specs.Runs.{run, occurrences}
use Rattle.model.specs.Cases.Marked.{tree, at_ticket_root, two_homes, two_in_root}
use Rattle.bounds.specs.StarvationFreedom.Bounds.{acquire_bound, release_bound, everyone_bound, allowance_everyone_bound}
use Rattle.bounds.specs.StarvationFreedom.Laws.{Rounds}

-- THE BOUNDS of a thread
pub record BoundCase : Type 0 where
  pub words : TreeWords
  pub thread : ℕ
  pub acquire : ℕ
  pub release : ℕ

-- a case with these parts
abbrev pub bound_case : TreeWords → (thread acquire release : ℕ) → BoundCase
bound_case w i b r = record { words = w; thread = i; acquire = b; release = r }

-- whether a case holds
unfoldable pub bound_holds : BoundCase → Bool
bound_holds c =
    let t = tree_of c.words in
    eqb (acquire_bound t c.thread) c.acquire && eqb (release_bound t c.thread) c.release

-- whether every case of a list holds
unfoldable pub all_bounds : List BoundCase → Bool
all_bounds [] = true
all_bounds (c ∷ cs) = bound_holds c && all_bounds cs

-- one leaf below the root, threshold 1, with threads 0 and 1
unfoldable pub one_leaf : TreeWords
one_leaf = tree 2 2 (0 ∷ 0 ∷ []) (0 ∷ 1 ∷ []) (1 ∷ 1 ∷ [])

-- two leaves below the root with one thread each, thresholds 16
unfoldable pub two_lone : TreeWords
two_lone = tree 3 2 (0 ∷ 0 ∷ 0 ∷ []) (0 ∷ 16 ∷ 16 ∷ []) (1 ∷ 2 ∷ [])

-- one leaf below the root with three threads and the given threshold
unfoldable pub leaf_of_three : (threshold : ℕ) → TreeWords
leaf_of_three h = tree 2 3 (0 ∷ 0 ∷ []) (0 ∷ h ∷ []) (1 ∷ 1 ∷ 1 ∷ [])

-- below the root, domain 1 with the given threshold and a leaf with one thread; below domain 1, two leaves with one thread each
unfoldable pub two_below_one : (threshold : ℕ) → TreeWords
two_below_one h = tree 5 3 (0 ∷ 0 ∷ 0 ∷ 1 ∷ 1 ∷ []) (0 ∷ h ∷ 1 ∷ 1 ∷ 1 ∷ []) (3 ∷ 4 ∷ 2 ∷ [])

-- the cases of the bounds
unfoldable pub bound_cases : List BoundCase
bound_cases =
    -- two threads in the root, of either kind
    bound_case two_in_root 0 13 6
    ∷ bound_case (at_ticket_root two_in_root) 1 13 6
    ∷ bound_case one_leaf 0 25 12
    -- a leaf with two threads and threshold 2, and one with one thread and threshold 16: one tenure is enough for the two
    ∷ bound_case two_homes 0 32 12
    ∷ bound_case two_homes 2 21 12
    -- three threads in three tenures, in two and in one
    ∷ bound_case (leaf_of_three 1) 0 43 12
    ∷ bound_case (leaf_of_three 2) 0 30 12
    ∷ bound_case (leaf_of_three 3) 0 26 12
    -- an inner domain with two leaves of one thread each: two tenures, and one
    ∷ bound_case (two_below_one 1) 0 51 18
    ∷ bound_case (two_below_one 2) 0 37 18
    -- two leaves with one thread each: their thresholds of 16 have no effect
    ∷ bound_case two_lone 0 17 12
    ∷ []

-- ROUNDS. Every entry of a schedule is a thread of the tree
unfoldable pub all_threads : Tree → (schedule : List ℕ) → Bool
all_threads t [] = true
all_threads t (i ∷ is) = ltb i t.threads && all_threads t is

-- each list is a round
unfoldable pub are_rounds : Tree → List (List ℕ) → Bool
are_rounds t [] = true
are_rounds t (r ∷ rs) = all_threads t r && (all_below t.threads (λ i. ltb 0 (occurrences i r)) && are_rounds t rs)

-- the lists joined in order
unfoldable pub joined : List (List ℕ) → List ℕ
joined [] = []
joined (r ∷ rs) = r ++ joined rs

-- lists that pass are rounds as in the laws
unfoldable pub DecidesRounds : Type 0
DecidesRounds = (t : Tree) (rs : List (List ℕ)) → are_rounds t rs ≡ true → Rounds t (length rs) (joined rs)

-- a tree, the start of its fresh lock, rounds from fresh, and how often a thread enters in them
pub record RoundCase : Type 0 where
  pub words : TreeWords
  pub start : ℕ
  pub rounds : List (List ℕ)
  pub thread : ℕ
  pub entries : ℕ

-- a case with these parts
abbrev pub round_case : TreeWords → (start : ℕ) → List (List ℕ) → (thread entries : ℕ) → RoundCase
round_case w v rs i n = record { words = w; start = v; rounds = rs; thread = i; entries = n }

-- whether a case holds
unfoldable pub round_holds : RoundCase → Bool
round_holds c =
    let t = tree_of c.words in
    let x = run t (joined c.rounds) (fresh_state t c.start) in
    are_rounds t c.rounds && eqb (occurrences c.thread x.trace) c.entries

-- whether every case of a list holds
unfoldable pub all_rounds : List RoundCase → Bool
all_rounds [] = true
all_rounds (c ∷ cs) = round_holds c && all_rounds cs

-- a round of two threads
abbrev pub forth : List ℕ
forth = 0 ∷ 1 ∷ []

-- the same round in the other order
abbrev pub back : List ℕ
back = 1 ∷ 0 ∷ []

-- the cases of rounds
unfoldable pub round_cases : List RoundCase
round_cases =
    -- in the root, thread 1 swaps before thread 0 and lingers for its link: thread 0 enters in the seventh round, not in the first six
    round_case two_in_root 0 (forth ∷ back ∷ (1 ∷ 1 ∷ 0 ∷ []) ∷ replicate 3 forth) 0 0
    ∷ round_case two_in_root 0 (forth ∷ back ∷ (1 ∷ 1 ∷ 0 ∷ []) ∷ replicate 4 forth) 0 1
    -- below the root twelve rounds are not enough, thirteen are
    ∷ round_case one_leaf 0 (forth ∷ back ∷ replicate 10 forth) 0 0
    ∷ round_case one_leaf 0 (forth ∷ back ∷ replicate 11 forth) 0 1
    -- at a ticket root
    ∷ round_case (at_ticket_root one_leaf) 65535 (forth ∷ back ∷ replicate 11 forth) 0 1
    ∷ []

-- THE STALLED RELEASER. Below the root, leaf 1 with threads 0 and 1 and leaf 2 with thread 2; thresholds 1
unfoldable pub stalled_tree : Tree
stalled_tree = tree_of (tree 3 3 (0 ∷ 0 ∷ 0 ∷ []) (0 ∷ 1 ∷ 1 ∷ []) (1 ∷ 1 ∷ 2 ∷ []))

-- thread 0 enters, and thread 1 stands after it in the leaf; thread 0 leaves and has released the root, and its next step is Help at home
unfoldable pub until_stalled : List ℕ
until_stalled = replicate 4 0 ++ replicate 3 1 ++ replicate 4 0

-- thread 2 enters and becomes Idle again, and thread 1 takes a turn: only thread 0 does not
unfoldable pub without_releaser : List ℕ
without_releaser = replicate 10 2 ++ (1 ∷ [])

-- a list repeated
unfoldable pub times : ℕ → List ℕ → List ℕ
times zero is = []
times (suc n) is = is ++ times n is

-- after n repetitions thread 2 has entered n times, and thread 1 never
unfoldable pub StarvesWithoutRounds : Type 0
StarvesWithoutRounds =
    (n : ℕ) →
    (occurrences 2 (run stalled_tree (until_stalled ++ times n without_releaser) (fresh_state stalled_tree 0)).trace ≡ n)
    × (occurrences 1 (run stalled_tree (until_stalled ++ times n without_releaser) (fresh_state stalled_tree 0)).trace ≡ 0)

-- all cases hold
pub record CasesHold : Type 0 where
  pub bounds : all_bounds bound_cases ≡ true
  -- 44 rounds, 132 turns, are enough for the three threads
  pub everyone : everyone_bound (tree_of two_homes) ≡ 44
  -- 29 rounds are enough for the two; the bound by allowances is 89
  pub lone : everyone_bound (tree_of two_lone) ≡ 29
  pub lone_by_allowances : allowance_everyone_bound (tree_of two_lone) ≡ 89
  pub rounds : all_rounds round_cases ≡ true
  pub rounds_decided : DecidesRounds
  pub without_rounds : StarvesWithoutRounds
