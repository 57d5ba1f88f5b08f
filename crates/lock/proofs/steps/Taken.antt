-- The child domain whose record a thread uses, by its words and in the tree.
use mathlib.Core.Path.{◌≡◌}
use mathlib.Core.Bool.{cond}
use mathlib.Core.List.{List}
use Prim.Native.Nat.{ℕ}
use lib.Dec.{eqb}
use Rattle.model.specs.Trees.{Tree, child}
use Rattle.refusals.specs.Arrays.{parents_in}
use Rattle.refusals.proofs.Meeting.{child_same}
use Rattle.rows.specs.Common.Counting.{taken_in}

module _ (t : Tree) (m : ℕ) (ps : List ℕ) (same : (e : ℕ) → (parents_in m ps).parent e ≡ t.parent e) where
  pub taken_child : (i l h : ℕ) → h ≡ t.home i → taken_in m ps h l ≡ cond (eqb l (t.home i)) 0 (child t i l)
  unfolding child
  taken_child i l h e = rw (e, child_same 6 (parents_in m ps) t l (t.home i) same)
