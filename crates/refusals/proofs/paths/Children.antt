-- The search for the child on a path, one domain at a time.
use mathlib.Core.Path.{◌≡◌, refl}
use mathlib.Core.List.{List, []}
use Prim.Native.Nat.{ℕ, zero, suc, ◌+◌, ◌-◌, ◌≤◌, ◌<◌}
use native.Mathlib.Omega.{arith}
use native.Mathlib.Numerals.{sub-one}
use lib.ListN.{get_or}
use borrow.Author.Tests.{eq-eqb, ne_eqb}
use Rattle.model.specs.Trees.{Tree}
use Rattle.model.specs.Search.{found, search_from}
use Rattle.refusals.specs.Arrays.{parents_in}
use Rattle.refusals.proofs.Reading.{parent_in}

pub search_root : (k : ℕ) (t : Tree) (l c n : ℕ) → 0 < k → c ≡ 0 → search_from k t l c n ≡ found c (n + 1)
unfolding search_from
search_root zero t l c n p e = absurd (omega arith)
search_root (suc k) t l c n p e = rw (eq-eqb c 0 e)

pub search_hit :
    (k m : ℕ) (ps : List ℕ) (l c n : ℕ) → 0 < k → (c ≡ 0 → ⊥) → c < m → get_or ps c 0 ≡ l →
    search_from k (parents_in m ps) l c n ≡ found c (n + 1)
unfolding search_from
search_hit zero m ps l c n p f b e = absurd (omega arith)
search_hit (suc k) m ps l c n p f b e = rw (ne_eqb c 0 f, parent_in m 0 ps [] [] c (omega arith) b, eq-eqb (get_or ps c 0) l e)

pub search_up :
    (k m : ℕ) (ps : List ℕ) (l c n : ℕ) → 0 < k → (c ≡ 0 → ⊥) → c < m → (get_or ps c 0 ≡ l → ⊥) →
    search_from k (parents_in m ps) l c n ≡ search_from (k - 1) (parents_in m ps) l (get_or ps c 0) (n + 1)
unfolding search_from
search_up zero m ps l c n p f b e = absurd (omega arith)
search_up (suc k) m ps l c n p f b e =
    rw (ne_eqb c 0 f, parent_in m 0 ps [] [] c (omega arith) b, ne_eqb (get_or ps c 0) l e, sub-one (suc k))

pub search_end : (k : ℕ) (t : Tree) (l c n : ℕ) → k ≤ 0 → search_from k t l c n ≡ found c n
unfolding search_from
search_end zero t l c n p = refl
search_end (suc k) t l c n p = absurd (omega arith)
