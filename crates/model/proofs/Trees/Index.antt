-- A thread's path by index: 0 is its home, the height is the index of the root.
use mathlib.Core.Bool.{cond}
use Prim.Native.Nat.{ℕ, zero, suc, ◌+◌}
use lib.Dec.{eqb}
use Rattle.model.specs.Scans.{largest_below}
use Rattle.model.specs.Trees.{Tree, is_child, is_leaf, depth, allowance}

-- the parent; for the root, the root itself
unfoldable pub above : Tree → (domain : ℕ) → ℕ
above t d = cond (eqb d 0) 0 (t.parent d)

-- the domain at an index of a thread's path
unfoldable pub ancestor : Tree → (thread index : ℕ) → ℕ
ancestor t i zero = t.home i
ancestor t i (suc k) = above t (ancestor t i k)

unfoldable pub height : Tree → (thread : ℕ) → ℕ
height t i = depth t (t.home i)

-- the record with which the thread works there
unfoldable pub record_at : Tree → (thread index : ℕ) → ℕ
record_at t i zero = i
record_at t i (suc k) = 256 + ancestor t i k

-- the largest allowance of a domain's members
unfoldable pub member_allowance : Tree → (domain : ℕ) → ℕ
member_allowance t d = cond (is_leaf t d) 1 (largest_below t.domains (λ c. cond (is_child t d c) (allowance t (256 + c)) 0))
