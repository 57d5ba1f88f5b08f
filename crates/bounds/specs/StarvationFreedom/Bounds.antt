-- HOW MANY ROUNDS of a fair schedule an acquisition and a release take at most, as functions of the tree.
use Rattle.std.specs.Prelude.{◌&&◌, not, cond, ℕ, zero, suc, ◌+◌, ◌*◌, ◌-◌, ◌/◌, eqb, ltb, length}
use Rattle.model.specs.Scans.{largest_below, filter_below}
use Rattle.model.specs.Trees.{Tree, is_member, allowance, level}
unfoldable pub use Rattle.claims.specs.Tenures.Laws.{sum_below}

-- how many members a domain has; record numbers are below 320
unfoldable pub members : Tree → (domain : ℕ) → ℕ
members t d = length (filter_below 320 (is_member t d))

-- the effective threshold of a domain: a domain with one member has nobody to pass to, so its threshold counts as 1
unfoldable pub effective_threshold : Tree → (domain : ℕ) → ℕ
effective_threshold t d = cond (ltb 1 (members t d)) (t.threshold d) 1

-- the tree with its effective thresholds
unfoldable pub effective : Tree → Tree
effective t =
    record {
      domains = t.domains;
      threads = t.threads;
      parent = t.parent;
      threshold = effective_threshold t;
      home = t.home;
      ticket_root = t.ticket_root;
    }

-- the passes of a member: its allowance with effective thresholds. It is 1 for a thread; for a domain it is the effective threshold times the largest number of passes of a member
unfoldable pub passes : Tree → (member : ℕ) → ℕ
passes t m = allowance (effective t) m

-- the passes of all members of a domain except one
unfoldable pub others_passes : Tree → (domain member : ℕ) → ℕ
others_passes t d m = sum_below 320 (λ q. cond (is_member t d q && not (eqb q m)) (passes t q) 0)

-- how many levels the tree has
unfoldable pub levels : Tree → ℕ
levels t = largest_below t.domains (level t)

-- the rounds for one entry: Wait, Inside, a Check at each level below the root, and Grant
unfoldable pub entry_rounds : Tree → ℕ
entry_rounds t = 2 + levels t

-- how many members of a domain have the lock one after another before the domains above are released: its effective threshold, or 1 at the root
unfoldable pub tenure_length : Tree → (domain : ℕ) → ℕ
tenure_length t d = cond (eqb d 0) 1 (effective_threshold t d)

-- how many tenures a number of members take: the number divided by that length, rounded up
unfoldable pub tenures_for : Tree → (domain number : ℕ) → ℕ
tenures_for t d n = (n + tenure_length t d - 1) / tenure_length t d

-- one round in which everybody ahead of a member links, so that the lock is passed on; none if nothing is passed on
unfoldable pub link_rounds : Tree → (domain : ℕ) → ℕ
link_rounds t d = cond (ltb 1 (tenure_length t d)) 1 0

-- the rounds of a member from its Swap to Inside. For each tenure of its domain that the members take, the rounds to acquire the domains above; for each tenure that the others take, at most five rounds to release each domain from the root down to this one: Help, Cas, two of Linger, and Grant; and the rounds of every entry under the others
unfoldable pub standing_rounds : Tree → (domain member above : ℕ) → ℕ
standing_rounds t d m above =
    link_rounds t d + tenures_for t d (members t d) * above + tenures_for t d (members t d - 1) * (5 * level t d) + entry_rounds t * others_passes t d m

-- the rounds of a member from its domain to Inside, level by level: three for the Wait in which the domain below was granted, Prep and Swap; and those of its standing there. At the root, the domains above take one round, for the Wait or Watch that enters
unfoldable pub acquire_from : (levels : ℕ) → Tree → (domain member : ℕ) → ℕ
acquire_from zero t d m = 0
acquire_from (suc k) t d m = 3 + standing_rounds t d m (cond (eqb d 0) 1 (acquire_from k t (t.parent d) (256 + d)))

-- the rounds of a member from its domain to Inside
unfoldable pub acquire_rounds : Tree → (domain member : ℕ) → ℕ
acquire_rounds t d m = acquire_from (level t d) t d m

-- B, for a thread that is Idle or acquiring
unfoldable pub acquire_bound : Tree → (thread : ℕ) → ℕ
acquire_bound t i = acquire_rounds t (t.home i) i

-- R, for a thread that is Inside or releasing: six per level, one for Inside or Check and five to release the domain
unfoldable pub release_bound : Tree → (thread : ℕ) → ℕ
release_bound t i = 6 * level t (t.home i)

-- enough for all threads: the largest B + R
unfoldable pub everyone_bound : Tree → ℕ
everyone_bound t = largest_below t.threads (λ i. acquire_bound t i + release_bound t i)

-- BOUNDS BY ALLOWANCES, which are never smaller: they count every threshold, the largest allowance for every other member, and acquire the domains above again for each. The largest allowance of a member
unfoldable pub largest_allowance : Tree → (domain : ℕ) → ℕ
largest_allowance t d = largest_below 320 (λ r. cond (is_member t d r) (allowance t r) 0)

-- the rounds of a member from its domain to Inside, level by level
unfoldable pub allowance_from : (levels : ℕ) → Tree → (domain : ℕ) → ℕ
allowance_from zero t d = 0
allowance_from (suc k) t d =
    let above = cond (eqb d 0) 1 (allowance_from k t (t.parent d)) in
    3 + (members t d - 1) * (above + entry_rounds t * largest_allowance t d + 5 * level t d) + above

-- B by allowances
unfoldable pub allowance_acquire_bound : Tree → (thread : ℕ) → ℕ
allowance_acquire_bound t i = allowance_from (level t (t.home i)) t (t.home i)

-- enough for all threads, by allowances
unfoldable pub allowance_everyone_bound : Tree → ℕ
allowance_everyone_bound t = largest_below t.threads (λ i. allowance_acquire_bound t i + release_bound t i)
