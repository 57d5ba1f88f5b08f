-- Two paths that meet are the same from there up, and equally far from the root.
use mathlib.Core.Path.{◌≡◌, sym, ap, ◌∙◌}
use Prim.Native.Nat.{ℕ, zero, suc, ◌+◌, ◌-◌, ◌≤◌, ◌<◌}
use native.Mathlib.Omega.{arith}
use native.Mathlib.Nat.{add-zero, add-suc}
use Rattle.model.specs.Trees.{Tree}
use Rattle.model.proofs.Trees.Index.{ancestor, height, record_at, above}
use Rattle.model.proofs.Lists.{less_or}
use Rattle.claims.proofs.Queues.Paths.{Laws}

-- two paths that meet are the same from there up
pub follow : (T : Tree) (s l i j : ℕ) → ancestor T s l ≡ ancestor T i j → (e : ℕ) → ancestor T s (l + e) ≡ ancestor T i (j + e)
unfolding ancestor
follow T s l i j h zero = rw (add-zero l, add-zero j) h
follow T s l i j h (suc e) = rw (add-suc l e, add-suc j e) (ap (above T) (follow T s l i j h e))

pub follow_record_at : (T : Tree) (s l i j : ℕ) → ancestor T s l ≡ ancestor T i j → (e : ℕ) → record_at T s (l + suc e) ≡ record_at T i (j + suc e)
unfolding record_at
follow_record_at T s l i j h e = rw (add-suc l e, add-suc j e) (ap (λ d. 256 + d) (follow T s l i j h e))

-- and they reach the root together
pub same_height :
    (T : Tree) → Laws T → (s l i j : ℕ) → s < T.threads → i < T.threads → l ≤ height T s → j ≤ height T i → ancestor T s l ≡ ancestor T i j →
    height T s + j ≡ height T i + l
same_height T tree_laws s l i j hs hi a b e =
    less_or (height T s + j) (height T i + l) _
    (λ h. absurd (not_lower s l i j hs hi a (omega arith) e))
    (λ h. less_or (height T i + l) (height T s + j) _
    (λ g. absurd (not_lower i j s l hi hs b (omega arith) (sym e)))
    (λ g. omega arith))
  where
    -- one of them cannot reach the root before the other
    not_lower : (s l i j : ℕ) → s < T.threads → i < T.threads → l ≤ height T s → height T s + j < height T i + l → ancestor T s l ≡ ancestor T i j → ⊥
    not_lower s l i j hs hi a h e =
        let k = height T s - l in
        let x : ancestor T s (l + k) ≡ 0 = let z : l + k ≡ height T s = omega arith in rw z (tree_laws.top s hs) in
        tree_laws.inner i (j + k) hi (omega arith) (sym (follow T s l i j e k) ∙ x)
