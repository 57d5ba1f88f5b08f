-- A tree, given by the arrays that a test reads, and what earlier tests have shown about them.
use Rattle.std.specs.Prelude.{◌≡◌, Bool, true, false, ◌||◌, not, List, [], ◌++◌, ℕ, ◌<◌, eqb, leb, get_or, length}
use Rattle.model.specs.declared.LockState.{LockState}
use Rattle.model.specs.declared.PlaceArrays.{PlaceArrays}
use Rattle.model.specs.declared.State.{State}
use Rattle.model.specs.declared.TreeWords.{TreeWords}
use Rattle.model.specs.Scans.{any_below}
use Rattle.model.specs.Trees.{Tree, tree_of, is_leaf}
use Rattle.model.proofs.Trees.Index.{ancestor}
use Rattle.model.specs.Refusals.{accepted, Test, first_refusal, count_tests, domain_tests, state_tests, schedule_tests, room_tests, tree_tests}

-- tree words with these arrays. The kind of root is 0: no test of a tree reads it
abbrev pub words_in : (domains threads : ℕ) → (parents thresholds homes : List ℕ) → TreeWords
words_in n m ps ts hs = record { domains = n; threads = m; parents = ps; thresholds = ts; homes = hs; ticket_root = 0 }

-- the tree with these arrays
abbrev pub tree_in : (domains threads : ℕ) → (parents thresholds homes : List ℕ) → Tree
tree_in n m ps ts hs = tree_of (words_in n m ps ts hs)

-- the same for a test that reads only parents
abbrev pub parents_in : (domains : ℕ) → (parents : List ℕ) → Tree
parents_in n ps = tree_in n 0 ps [] []

-- the parent of each domain except the root has a lower number
pub record Lower (domains : ℕ) (parents : List ℕ) : Type 0 where
  pub lower : (d : ℕ) → 0 < d → d < domains → get_or parents d 0 < d

-- the tests of counts and domains, which do not read homes
abbrev pub shape_tests : Tree → List Test
shape_tests t = count_tests t ++ domain_tests t

-- the answer is true only if every domain of the tree passes its tests
pub record DomainsPass (t : Tree) (answer : Bool) : Type 0 where
  pub sound : answer ≡ true → first_refusal (domain_tests t) ≡ accepted

-- the byte is not a valid home: it is not a domain of the tree, or has child domains
abbrev pub no_home_in : (domains : ℕ) → (parents : List ℕ) → ℕ → Bool
no_home_in n ps x = leb n x || not (is_leaf (parents_in n ps) x)

-- for each byte, whether it is not a valid home
pub record UnfitHomes (domains : ℕ) (parents : List ℕ) (table : List Bool) : Type 0 where
  pub no_home : (x : ℕ) → x < 256 → get_or table x false ≡ no_home_in domains parents x

-- the byte is the home of some thread
abbrev pub is_home_in : (threads : ℕ) → (homes : List ℕ) → ℕ → Bool
is_home_in m hs x = any_below m (λ i. eqb (get_or hs i 0) x)

-- for each byte, whether it is the home of some thread
pub record MarkedHomes (threads : ℕ) (homes : List ℕ) (table : List Bool) : Type 0 where
  pub byte : (i : ℕ) → i < threads → get_or homes i 0 < 256
  pub room : length table ≡ 256
  pub home : (x : ℕ) → x < 256 → get_or table x false ≡ is_home_in threads homes x

-- the answer is true only if the homes are exactly the leaves of the tree
pub record HomesAreLeaves (domains threads : ℕ) (parents homes : List ℕ) (answer : Bool) : Type 0 where
  pub leaf : answer ≡ true → (i : ℕ) → i < threads → no_home_in domains parents (get_or homes i 0) ≡ false
  pub home : answer ≡ true → (d : ℕ) → d < domains → no_home_in domains parents d ≡ false → is_home_in threads homes d ≡ true

-- each home is a domain of the tree
pub record RealHomes (domains threads : ℕ) (homes : List ℕ) : Type 0 where
  pub real : (i : ℕ) → i < threads → get_or homes i 0 < domains

-- the domain is on the path of some thread
pub record PassedBy (t : Tree) (domain : ℕ) : Type 0 where
  pub thread : ℕ
  pub index : ℕ
  pub real : thread < t.threads
  pub there : ancestor t thread index ≡ domain

-- for each domain, whether it is on the path of some thread
pub record Occupied (t : Tree) (table : List Bool) : Type 0 where
  pub marked : (i k : ℕ) → i < t.threads → get_or table (ancestor t i k) false ≡ true
  pub only : (d : ℕ) → d < t.domains → get_or table d false ≡ true → PassedBy t d

-- the tree for a test that reads only the number of threads
abbrev pub threads_in : (threads : ℕ) → Tree
threads_in m = tree_in 0 m [] [] []

-- the tests of a tree and a state
abbrev pub tree_state_tests : Tree → LockState → List Test
tree_state_tests t s = tree_tests t ++ state_tests t s

-- the tests of a schedule and of the length of its trace buffer
abbrev pub schedule_room_tests : Tree → (schedule : List ℕ) → (room : ℕ) → List Test
schedule_room_tests t is room = schedule_tests t is ++ room_tests is room
