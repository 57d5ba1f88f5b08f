-- Document 02, (viii): the search for a domain's child on a thread's path stops as soon as it has the child, and reports how many domains it looked at. Its laws, and computed cases.
use Rattle.std.specs.Prelude.{◌≡◌, true, false, cond, List, [], ◌∷◌, map, ◌≢◌, ◌⊎◌, ℕ, zero, suc, ◌+◌, ◌≤◌, ◌<◌, eqb, replicate}
use Rattle.model.specs.declared.TreeWords.{TreeWords}
use Rattle.model.specs.declared.Found.{Found}
use Rattle.model.specs.Trees.{Tree, tree_of, is_child, depth, level, on_path, child}
use Rattle.model.specs.Refusals.{tree_refusal}
use Rattle.model.specs.Cases.Marked.{tree, count_up, three_levels}

-- a search result: the child and the number of domains looked at
abbrev pub found : (child looked : ℕ) → Found
found c n = record { child = c; looked = n }

-- the search from a domain, after a number of domains already looked at. It looks at this domain and stops there if it is the root or a child of the domain asked for; otherwise it goes one level up
unfoldable pub search_from : (levels : ℕ) → Tree → (domain from looked : ℕ) → Found
search_from zero t l c n = found c n
search_from (suc k) t l c n =
    let higher = search_from k t l (t.parent c) (n + 1) in
    cond (eqb c 0) (found c (n + 1)) (cond (eqb (t.parent c) l) (found c (n + 1)) higher)

-- the search from the thread's home, level by level; six levels are enough
unfoldable pub search : Tree → (thread domain : ℕ) → Found
search t i l = search_from 6 t l (t.home i) 0

-- 1. THE RESULT IS UNCHANGED: it is the child, in every tree and for every domain
unfoldable pub SameChildLaw : Type 0
SameChildLaw = (t : Tree) (i l : ℕ) → (search t i l).child ≡ child t i l

-- trees t and u have the same home for the thread, and the same parent for each domain of its path from the home up to the given domain (numbers decrease towards the root); above it they may differ
pub record SameUpTo (domain : ℕ) (t u : Tree) (i : ℕ) : Type 0 where
  pub home : u.home i ≡ t.home i
  pub parent : (d : ℕ) → on_path t i d ≡ true → domain ≤ d → u.parent d ≡ t.parent d

-- 2. THE SEARCH STOPS AT THE CHILD. What holds of a search that finds the child of a domain on the thread's path and stops there
pub record LeavesAtChild (look : Tree → (thread domain : ℕ) → Found) (t : Tree) (i l : ℕ) : Type 0 where
  pub its_child : is_child t l (look t i l).child ≡ true
  pub there : on_path t i (look t i l).child ≡ true
  -- it looks at exactly the domains from the home up to the child, both included
  pub exactly : (look t i l).looked + depth t (look t i l).child ≡ depth t (t.home i) + 1
  -- it does not look above the child: no parent there makes a difference
  pub not_beyond : (u : Tree) → SameUpTo (look t i l).child t u i → look u i l ≡ look t i l

-- what holds of the search for a thread
pub record Searches (t : Tree) (i : ℕ) : Type 0 where
  pub above_home : (l : ℕ) → on_path t i l ≡ true → l ≢ t.home i → LeavesAtChild search t i l
  -- the home, and a domain off the path, have no child on the path: the search ends at the root and has looked at every domain of the path
  pub no_child : (l : ℕ) → (l ≡ t.home i) ⊎ (on_path t i l ≡ false) → search t i l ≡ found 0 (level t (t.home i))

-- in every accepted tree, for every thread
unfoldable pub SearchLaw : Type 0
SearchLaw = (t : Tree) → (tree_refusal t).number ≡ 0 → (i : ℕ) → i < t.threads → Searches t i

-- 3. ANY OTHER SEARCH THAT STOPS AT THE CHILD finds the same child and looks at the same number of domains
unfoldable pub OnlySearchLaw : Type 0
OnlySearchLaw =
    (look : Tree → (thread domain : ℕ) → Found) (t : Tree) → (tree_refusal t).number ≡ 0 → (i : ℕ) → i < t.threads →
    (l : ℕ) → on_path t i l ≡ true → l ≢ t.home i → LeavesAtChild look t i l → look t i l ≡ search t i l

-- the tree with another parent for one domain
unfoldable pub with_parent : (domain parent : ℕ) → Tree → Tree
with_parent d p t =
    record {
      domains = t.domains;
      threads = t.threads;
      parent = λ c. cond (eqb c d) p (t.parent c);
      threshold = t.threshold;
      home = t.home;
      ticket_root = t.ticket_root;
    }

-- 4. WHERE THE TREES MAY DIFFER. A domain above c may get any parent: the tree is the same up to c
unfoldable pub BeyondLaw : Type 0
BeyondLaw = (t : Tree) (i c d p : ℕ) → d < c → SameUpTo c t (with_parent d p t) i

-- a domain of the path at c or below it can only keep its parent
unfoldable pub UpToLaw : Type 0
UpToLaw = (t : Tree) (i c d p : ℕ) → on_path t i d ≡ true → c ≤ d → SameUpTo c t (with_parent d p t) i → p ≡ t.parent d

-- 5. COMPUTED CASES. The results for the domains from 0 on
unfoldable pub found_of : TreeWords → (thread many : ℕ) → List Found
found_of w i n = map (search (tree_of w) i) (count_up 0 n)

-- six levels with one domain each, and one thread in the last; 5 is its home, 6 is no domain
unfoldable pub six_levels : TreeWords
six_levels = tree 6 1 (0 ∷ count_up 0 5) (0 ∷ replicate 5 1) (5 ∷ [])

-- the results in this tree
unfoldable pub SixLevelsSearched : Type 0
SixLevelsSearched =
    found_of six_levels 0 7 ≡ found 1 5 ∷ found 2 4 ∷ found 3 3 ∷ found 4 2 ∷ found 5 1 ∷ found 0 6 ∷ found 0 6 ∷ []

-- three levels; the thread's home is domain 3, and domain 2 is off its path
unfoldable pub ThreeLevelsSearched : Type 0
ThreeLevelsSearched = found_of three_levels 1 4 ≡ found 1 2 ∷ found 3 1 ∷ found 0 3 ∷ found 0 3 ∷ []

-- six levels: the search for a child of domain 3 finds 4, whatever the parent of 3, even 3 itself
unfoldable pub AnyParentBeyond : Type 0
AnyParentBeyond = map (λ p. search (with_parent 3 p (tree_of six_levels)) 0 3) (count_up 0 7) ≡ replicate 7 (found 4 2)

-- if the child itself has another parent, 3 has no child on the path
unfoldable pub AnotherParentAtTheChild : Type 0
AnotherParentAtTheChild = search (with_parent 4 2 (tree_of six_levels)) 0 3 ≡ found 0 5
