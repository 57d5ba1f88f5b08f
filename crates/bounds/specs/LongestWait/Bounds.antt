-- HOW MANY ENTRIES of others a thread waits for at most while nobody stalls, as a function of the tree.
use Rattle.std.specs.Prelude.{cond, ℕ, zero, suc, ◌+◌, ◌*◌, ◌-◌, ◌/◌, eqb}
use Rattle.model.specs.Trees.{Tree, level}
unfoldable pub use Rattle.claims.specs.Tenures.Laws.{sum_below}
unfoldable pub use Rattle.bounds.specs.StarvationFreedom.Bounds.{effective_threshold, effective, passes, others_passes}
use Rattle.bounds.specs.StarvationFreedom.Bounds.{members}

-- how many tenures of a domain are enough for all its members: their number divided by its threshold, rounded up
unfoldable pub tenures_for_all : Tree → (domain : ℕ) → ℕ
tenures_for_all t d = (members t d + t.threshold d - 1) / t.threshold d

-- W of a member of a domain: the passes of the other members, and, below the root, W of the domain's own record in its parent for each of the tenures that are enough for all. Computed level by level
unfoldable pub wait_from : (levels : ℕ) → Tree → (domain member : ℕ) → ℕ
wait_from zero t d m = 0
wait_from (suc k) t d m = others_passes t d m + cond (eqb d 0) 0 (tenures_for_all t d * wait_from k t (t.parent d) (256 + d))

-- W of a member of a domain
unfoldable pub member_wait : Tree → (domain member : ℕ) → ℕ
member_wait t d m = wait_from (level t d) t d m

-- W of a thread
unfoldable pub wait_bound : Tree → (thread : ℕ) → ℕ
wait_bound t i = member_wait t (t.home i) i
