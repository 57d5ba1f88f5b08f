-- Going up from a domain, one step at a time.
use mathlib.Core.Path.{◌≡◌, refl}
use mathlib.Core.Bool.{true, false}
use Prim.Native.Nat.{ℕ, zero, suc, ◌-◌, ◌≤◌, ◌<◌}
use native.Mathlib.Omega.{arith}
use native.Mathlib.Numerals.{sub-one}
use lib.Dec.{eqb}
use borrow.Author.Tests.{eq-eqb, ne_eqb}
use Rattle.model.specs.Trees.{Tree, meets, child_from}

pub meets_here : (k : ℕ) (t : Tree) (c d : ℕ) → c ≡ d → meets k t c d ≡ true
unfolding meets
meets_here zero t c d e = eq-eqb c d e
meets_here (suc k) t c d e = rw (eq-eqb c d e)

pub meets_root : (k : ℕ) (t : Tree) (c d : ℕ) → (c ≡ d → ⊥) → c ≡ 0 → meets k t c d ≡ false
unfolding meets
meets_root zero t c d f e = ne_eqb c d f
meets_root (suc k) t c d f e = rw (ne_eqb c d f, eq-eqb c 0 e)

pub meets_up :
    (k : ℕ) (t : Tree) (c d p : ℕ) → t.parent c ≡ p → 0 < k → (c ≡ d → ⊥) → (c ≡ 0 → ⊥) →
    meets k t c d ≡ meets (k - 1) t p d
unfolding meets
meets_up zero t c d p e h f g = absurd (omega arith)
meets_up (suc k) t c d p e h f g = rw (ne_eqb c d f, ne_eqb c 0 g, e, sub-one (suc k))

pub meets_end : (k : ℕ) (t : Tree) (c d : ℕ) → k ≤ 0 → meets k t c d ≡ eqb c d
unfolding meets
meets_end zero t c d p = refl
meets_end (suc k) t c d p = absurd (omega arith)

-- trees with the same parents have the same children on a path
pub child_same : (k : ℕ) (t u : Tree) (l c : ℕ) → ((e : ℕ) → t.parent e ≡ u.parent e) → child_from k t l c ≡ child_from k u l c
unfolding child_from
child_same zero t u l c h = refl
child_same (suc k) t u l c h = rw (h c, child_same k t u l (u.parent c) h)
