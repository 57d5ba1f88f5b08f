-- COMPUTED CASES of entries, tenures and the longest tenure, at both kinds of root: where the bounds of the laws are reached, and where no length is reported.
use Rattle.std.specs.Prelude.{◌≡◌, Bool, true, ◌&&◌, List, [], ◌∷◌, ◌++◌, ℕ, eqb, replicate}
use Rattle.model.specs.declared.TreeWords.{TreeWords}
use Rattle.model.specs.Trees.{tree_of}
use Rattle.model.specs.States.{fresh_state}
use Rattle.model.specs.Runs.{steps}
use Rattle.model.specs.Tenures.{domain_entries, domain_tenures, longest_tenure}
use Rattle.model.specs.Cases.Marked.{tree, at_ticket_root}

-- a tree, the start of its fresh lock, a schedule, and what its steps give for a domain: entries, tenures, longest tenure
pub record Case : Type 0 where
  pub tree_words : TreeWords
  pub start : ℕ
  pub schedule : List ℕ
  pub domain : ℕ
  pub entries : ℕ
  pub tenures : ℕ
  pub longest : ℕ

-- a case with these parts
abbrev pub case : TreeWords → (start : ℕ) → (schedule : List ℕ) → (domain entries tenures longest : ℕ) → Case
case w v is d e n l = record { tree_words = w; start = v; schedule = is; domain = d; entries = e; tenures = n; longest = l }

-- whether a case holds
unfoldable pub holds : Case → Bool
holds c =
    let t = tree_of c.tree_words in
    let xs = steps t c.schedule (fresh_state t c.start) in
    eqb (domain_entries t c.domain xs) c.entries && (eqb (domain_tenures t c.domain xs) c.tenures && eqb (longest_tenure t c.domain xs) c.longest)

-- whether every case of a list holds
unfoldable pub all_counted : List Case → Bool
all_counted [] = true
all_counted (c ∷ cs) = holds c && all_counted cs

-- a leaf below the root, threshold 3, with threads 0 and 1
unfoldable pub two_threads : TreeWords
two_threads = tree 2 2 (0 ∷ 0 ∷ []) (0 ∷ 3 ∷ []) (1 ∷ 1 ∷ [])

-- a leaf below the root, threshold 2, with three threads
unfoldable pub three_threads : TreeWords
three_threads = tree 2 3 (0 ∷ 0 ∷ []) (0 ∷ 2 ∷ []) (1 ∷ 1 ∷ 1 ∷ [])

-- domain 1 below the root, and below it leaf 2 with thread 0; thresholds 2
unfoldable pub three_levels : TreeWords
three_levels = tree 3 1 (0 ∷ 0 ∷ 1 ∷ []) (0 ∷ 2 ∷ 2 ∷ []) (2 ∷ [])

-- the leaves 1 and 2 below the root, thresholds 2, with threads 0 and 1
unfoldable pub two_leaves : TreeWords
two_leaves = tree 3 2 (0 ∷ 0 ∷ 0 ∷ []) (0 ∷ 2 ∷ 2 ∷ []) (1 ∷ 2 ∷ [])

-- thread 0 is Inside and thread 1 waits in its leaf
unfoldable pub one_after : List ℕ
one_after = replicate 4 0 ++ replicate 3 1

-- the cases
unfoldable pub cases : List Case
cases =
    -- no tenure until the leaf's record first gets the lock above; if it finds no tail there, one of length 1
    case two_threads 0 (replicate 3 0) 1 0 0 0
    ∷ case two_threads 0 one_after 1 1 1 1
    -- a Check that finds a successor reports at once the length that its Grant will give; the successor's entry belongs to the same tenure
    ∷ case two_threads 0 (one_after ++ replicate 2 0) 1 1 1 2
    ∷ case two_threads 0 (one_after ++ replicate 3 0 ++ (1 ∷ [])) 1 2 1 2
    -- a Check that finds no successor reports no length, and neither does one at the threshold
    ∷ case two_threads 0 (replicate 6 0) 1 1 1 1
    ∷ case three_threads 0 (one_after ++ replicate 3 2 ++ replicate 3 0 ++ replicate 3 1) 1 2 1 2
    -- a leaf's tenure starts before its thread enters, that of the inner domain with the entry
    ∷ case three_levels 0 (replicate 5 0) 2 0 1 1
    ∷ case three_levels 0 (replicate 5 0) 1 0 0 0
    ∷ case three_levels 0 (replicate 6 0) 1 1 1 1
    -- a record that stands in the parent's queue has no tenure until it is granted
    ∷ case two_leaves 0 (replicate 4 0 ++ replicate 5 1 ++ replicate 3 0) 2 0 0 0
    ∷ case two_leaves 0 (replicate 4 0 ++ replicate 5 1 ++ replicate 4 0) 2 0 1 1
    -- at a ticket root: by a draw that goes Inside, and by the raise that shows its ticket
    ∷ case (at_ticket_root two_leaves) 65535 (replicate 3 0) 1 1 1 1
    ∷ case (at_ticket_root two_leaves) 65535 (replicate 3 0 ++ replicate 3 1 ++ replicate 2 0) 2 0 0 0
    ∷ case (at_ticket_root two_leaves) 65535 (replicate 3 0 ++ replicate 3 1 ++ replicate 3 0) 2 0 1 1
    -- nothing is counted for the root
    ∷ case two_threads 0 one_after 0 0 0 0
    ∷ []

-- all cases hold
unfoldable pub CasesHold : Type 0
CasesHold = all_counted cases ≡ true
