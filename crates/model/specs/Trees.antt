-- Document 01, "The tree, the threads and the words": domains and threads, paths, members and records; and the allowances of the third demand.
use Rattle.std.specs.Prelude.{Bool, ◌&&◌, ◌||◌, not, cond, List, ℕ, zero, suc, ◌+◌, ◌*◌, ◌-◌, ◌%◌, ltb, leb, eqb, get_or}
use Rattle.model.specs.declared.TreeWords.{TreeWords}
use Rattle.model.specs.Scans.{any_below, largest_below}

-- a tree. Its domains and threads are numbered from 0; each domain except the root has a parent and a threshold, each thread a home. The root is a queue or a ticket lock
pub record Tree : Type 0 where
  pub domains : ℕ
  pub threads : ℕ
  pub parent : ℕ → ℕ
  pub threshold : ℕ → ℕ
  pub home : ℕ → ℕ
  pub ticket_root : Bool

-- the word at index k if k is at least `first` and below `end`; otherwise 0
unfoldable pub read_word : (first end : ℕ) → List ℕ → ℕ → ℕ
read_word first end words k = cond (leb first k && ltb k end) (get_or words k 0) 0

-- the tree that a call names. The root's parent and threshold and the unused slots are not read; a threshold is a 16-bit number; any number except 0 means a ticket root
unfoldable pub tree_of : TreeWords → Tree
tree_of w =
    record {
      domains = w.domains;
      threads = w.threads;
      parent = read_word 1 w.domains w.parents;
      threshold = λ d. read_word 1 w.domains w.thresholds d % 65536;
      home = read_word 0 w.threads w.homes;
      ticket_root = not (eqb w.ticket_root 0);
    }

-- the domain is a ticket lock: it is the root, and the tree has a ticket root
unfoldable pub is_ticket : Tree → (domain : ℕ) → Bool
is_ticket t d = t.ticket_root && eqb d 0

-- a domain c of the tree is a child domain of d
unfoldable pub is_child : Tree → (domain child : ℕ) → Bool
is_child t d c = not (eqb c 0) && eqb (t.parent c) d

-- the domain has no child domains
unfoldable pub is_leaf : Tree → (domain : ℕ) → Bool
is_leaf t d = not (any_below t.domains (is_child t d))

-- how many levels the root is above a domain, at most the fuel
unfoldable pub depth_from : (fuel : ℕ) → Tree → (domain : ℕ) → ℕ
depth_from zero t d = 0
depth_from (suc k) t d = let deeper = suc (depth_from k t (t.parent d)) in cond (eqb d 0) 0 deeper

-- how many levels the root is above a domain
unfoldable pub depth : Tree → (domain : ℕ) → ℕ
depth t d = depth_from t.domains t d

-- the level of a domain: the root is at level 1
unfoldable pub level : Tree → (domain : ℕ) → ℕ
level t d = suc (depth t d)

-- going up from one domain reaches the other, which may be the first itself; six levels are enough
unfoldable pub meets : (fuel : ℕ) → Tree → (from domain : ℕ) → Bool
meets zero t c d = eqb c d
meets (suc k) t c d = eqb c d || (not (eqb c 0) && meets k t (t.parent c) d)

-- the domain is on the thread's path from home to root
unfoldable pub on_path : Tree → (thread domain : ℕ) → Bool
on_path t i d = meets 6 t (t.home i) d

-- the child of a domain on a thread's path, searched upwards from another domain
unfoldable pub child_from : (fuel : ℕ) → Tree → (domain from : ℕ) → ℕ
child_from zero t l c = c
child_from (suc k) t l c =
    let higher = child_from k t l (t.parent c) in
    cond (eqb c 0) c (cond (eqb (t.parent c) l) c higher)

-- the child of a domain on a thread's path, searched upwards from the home
unfoldable pub child : Tree → (thread domain : ℕ) → ℕ
child t i l = child_from 6 t l (t.home i)

-- the record that a thread uses at a domain of its path. A thread's record has the thread's number; the record of domain d is 256 + d
unfoldable pub own_record : Tree → (thread domain : ℕ) → ℕ
own_record t i l = cond (eqb l (t.home i)) i (256 + child t i l)

-- the number is the record of a thread, or of a domain other than the root
unfoldable pub is_record : Tree → (number : ℕ) → Bool
is_record t r = cond (ltb r 256) (ltb r t.threads) (ltb (r - 256) t.domains && not (eqb (r - 256) 0))

-- the record belongs to a member of the domain: a thread whose home it is, or a child domain
unfoldable pub is_member : Tree → (domain number : ℕ) → Bool
is_member t d r =
    cond (ltb r 256) (ltb r t.threads && eqb (t.home r) d) (ltb (r - 256) t.domains && is_child t d (r - 256))

-- the domain of which the record's owner is a member
unfoldable pub owner_domain : Tree → (number : ℕ) → ℕ
owner_domain t r = cond (ltb r 256) (t.home r) (t.parent (r - 256))

-- a thread is under a member: it is that thread, or its path contains that domain
unfoldable pub under : Tree → (member thread : ℕ) → Bool
under t m i = cond (ltb m 256) (eqb m i) (on_path t i (m - 256))

-- the allowance of a domain: its threshold if it is a leaf, else its threshold times the largest allowance of a child domain
unfoldable pub domain_allowance : (fuel : ℕ) → Tree → (domain : ℕ) → ℕ
domain_allowance zero t d = t.threshold d
domain_allowance (suc k) t d =
    let children = t.threshold d * largest_below t.domains (λ c. let one = domain_allowance k t c in cond (is_child t d c) one 0) in
    cond (is_leaf t d) (t.threshold d) children

-- the allowance of a member: 1 for a thread
unfoldable pub allowance : Tree → (member : ℕ) → ℕ
allowance t m = cond (ltb m 256) 1 (domain_allowance 6 t (m - 256))
