-- A thread's path by index: numbers strictly decrease from its home to the root, and its domains and indices correspond one to one.
use mathlib.Core.Path.{◌≡◌, refl, sym, ap, ◌∙◌}
use mathlib.Core.Bool.{true, not}
use mathlib.Core.Logic.{inl, inr}
use Prim.Native.Nat.{ℕ, zero, suc, ◌+◌, ◌≤◌, ◌<◌}
use native.Mathlib.Omega.{arith}
use native.Mathlib.Decide.{ℕ_discrete, dec_lt}
use lib.Dec.{eqb}
use borrow.Author.Tests.{eqb-true, eqb-false, eq-eqb, ne_eqb, not-true}
use Rattle.model.specs.Trees.{Tree, level, depth, depth_from, meets, on_path}
use Rattle.model.proofs.Trees.Index.{above, ancestor, height}
use Rattle.model.proofs.Tests.{and_both, or_cases, or_right}
use Rattle.model.proofs.Trees.Accepted.{Accepted}

-- ONE STEP UP
pub above_root : (t : Tree) (d : ℕ) → d ≡ 0 → above t d ≡ 0
unfolding above
above_root t d e = rw (eq-eqb d 0 e)

pub above_parent : (t : Tree) (d : ℕ) → 0 < d → above t d ≡ t.parent d
unfolding above
above_parent t d h = rw (ne_eqb d 0 (omega arith))

pub ancestor_suc : (t : Tree) (i k : ℕ) → ancestor t i (suc k) ≡ above t (ancestor t i k)
unfolding ancestor
ancestor_suc t i k = refl

pub ancestor_home : (t : Tree) (i : ℕ) → ancestor t i 0 ≡ t.home i
unfolding ancestor
ancestor_home t i = refl

pub ancestor_parent : (t : Tree) (i k : ℕ) → 0 < ancestor t i k → t.parent (ancestor t i k) ≡ ancestor t i (suc k)
ancestor_parent t i k h = sym (above_parent t (ancestor t i k) h) ∙ sym (ancestor_suc t i k)

-- paths that meet are the same from there up
pub ancestor_merge : (t : Tree) (i j k l n : ℕ) → ancestor t i k ≡ ancestor t j l → ancestor t i (n + k) ≡ ancestor t j (n + l)
ancestor_merge t i j k l zero e = let p : 0 + k ≡ k = omega arith in let q : 0 + l ≡ l = omega arith in rw (p, q) e
ancestor_merge t i j k l (suc n) e =
    let p : suc n + k ≡ suc (n + k) = omega arith in
    let q : suc n + l ≡ suc (n + l) = omega arith in
    rw (p, q) (ancestor_suc t i (n + k) ∙ ap (above t) (ancestor_merge t i j k l n e) ∙ sym (ancestor_suc t j (n + l)))

-- DEPTH
pub depth_root : (f : ℕ) (t : Tree) (d : ℕ) → d ≡ 0 → depth_from f t d ≡ 0
unfolding depth_from
depth_root zero t d e = refl
depth_root (suc f) t d e = rw (eq-eqb d 0 e)

pub depth_step : (f : ℕ) (t : Tree) (d : ℕ) → 0 < d → depth_from (suc f) t d ≡ suc (depth_from f t (t.parent d))
unfolding depth_from
depth_step f t d h = rw (ne_eqb d 0 (omega arith))

-- if each parent has a lower number, any fuel that is not below the domain's number gives the same depth
module _ (t : Tree) (low : (d : ℕ) → 0 < d → d < t.domains → t.parent d < d) where
  depth_fuel : (f g d : ℕ) → d < t.domains → d ≤ f → d ≤ g → depth_from f t d ≡ depth_from g t d
  depth_fuel zero g d s a b = let z : d ≡ 0 = omega arith in depth_root 0 t d z ∙ sym (depth_root g t d z)
  depth_fuel (suc f) zero d s a b = let z : d ≡ 0 = omega arith in depth_root (suc f) t d z ∙ sym (depth_root 0 t d z)
  depth_fuel (suc f) (suc g) d s a b =
      elim (ℕ_discrete d 0) [
        | yes z ↦ depth_root (suc f) t d z ∙ sym (depth_root (suc g) t d z)
        | no n ↦
            let p : 0 < d = omega arith in
            let l = low d p s in
            rw (depth_step f t d p, depth_step g t d p, depth_fuel f g (t.parent d) (omega arith) (omega arith) (omega arith))
      ]

  -- a domain is one deeper than its parent
  pub deeper_by_one : (d : ℕ) → 0 < d → d < t.domains → depth t d ≡ suc (depth t (t.parent d))
  unfolding depth
  deeper_by_one d h s =
      let l = low d h s in
      depth_fuel t.domains (suc t.domains) d s (omega arith) (omega arith) ∙ depth_step t.domains t d h

module _ (t : Tree) (valid : Accepted t) where
  pub depth_child : (d : ℕ) → 0 < d → d < t.domains → depth t d ≡ suc (depth t (t.parent d))
  depth_child = deeper_by_one t valid.parent_lower

  pub depth_zero : (d : ℕ) → d ≡ 0 → depth t d ≡ 0
  unfolding depth
  depth_zero d e = depth_root t.domains t d e

  pub depth_few : (d : ℕ) → d < t.domains → depth t d ≤ 5
  unfolding level
  depth_few d s = omega (arith, valid.flat d s)

-- ONE THREAD'S PATH
pub record OnPath (t : Tree) (i d : ℕ) : Type 0 where
  pub index : ℕ
  pub within : index ≤ height t i
  pub there : ancestor t i index ≡ d

module _ (t : Tree) (valid : Accepted t) (i : ℕ) (h : i < t.threads) where
  pub height_few : height t i ≤ 5
  unfolding height
  height_few = depth_few t valid (t.home i) (valid.home_real i h)

  pub ancestor_real : (k : ℕ) → ancestor t i k < t.domains
  ancestor_real zero = rw ancestor_home (valid.home_real i h)
  ancestor_real (suc k) =
      let r = ancestor_real k in
      elim (ℕ_discrete (ancestor t i k) 0) [
        | yes e ↦ rw (ancestor_suc, above_root t (ancestor t i k) e) valid.some_domain
        | no n ↦
            let p = valid.parent_lower (ancestor t i k) (omega arith) r in
            rw (ancestor_suc, above_parent t (ancestor t i k) (omega arith)) (omega arith)
      ]

  -- each step up decreases the depth by one, and the domain's number
  pub ancestor_depth : (k : ℕ) → k ≤ height t i → depth t (ancestor t i k) + k ≡ height t i
  unfolding height
  ancestor_depth zero l = rw ancestor_home (omega arith)
  ancestor_depth (suc k) l =
      let before = ancestor_depth k (omega arith) in
      let real = ancestor_real k in
      elim (ℕ_discrete (ancestor t i k) 0) [
        | yes e ↦ let z = depth_zero t valid (ancestor t i k) e in absurd (omega arith)
        | no n ↦
            let one = depth_child t valid (ancestor t i k) (omega arith) real in
            rw (ancestor_suc, above_parent t (ancestor t i k) (omega arith)) (omega arith)
      ]

  pub ancestor_inner : (k : ℕ) → k < height t i → 0 < ancestor t i k
  ancestor_inner k l =
      let here = ancestor_depth k (omega arith) in
      elim (ℕ_discrete (ancestor t i k) 0) [
        | yes e ↦ let z = depth_zero t valid (ancestor t i k) e in absurd (omega arith)
        | no n ↦ omega arith
      ]

  pub ancestor_root : ancestor t i (height t i) ≡ 0
  ancestor_root =
      let here = ancestor_depth (height t i) (omega arith) in
      let real = ancestor_real (height t i) in
      elim (ℕ_discrete (ancestor t i (height t i)) 0) [
        | yes e ↦ e
        | no n ↦ let one = depth_child t valid (ancestor t i (height t i)) (omega arith) real in absurd (omega arith)
      ]

  -- the root is at index height and at no lower index
  pub ancestor_not_root : (k : ℕ) → k ≤ height t i → 0 < ancestor t i k → k < height t i
  ancestor_not_root k l p = elim (ℕ_discrete k (height t i)) [ yes z ↦ absurd (omega (arith, ap (ancestor t i) z, ancestor_root)) | no z ↦ omega arith ]

  pub ancestor_zero : (k : ℕ) → k ≤ height t i → ancestor t i k ≡ 0 → k ≡ height t i
  ancestor_zero k l e = elim (ℕ_discrete k (height t i)) [ yes z ↦ z | no z ↦ let p = ancestor_inner k (omega arith) in absurd (omega arith) ]

  pub ancestor_parent_of : (k : ℕ) → k < height t i → t.parent (ancestor t i k) ≡ ancestor t i (suc k)
  ancestor_parent_of k l = ancestor_parent t i k (ancestor_inner k l)

  pub ancestor_falls : (k : ℕ) → k < height t i → ancestor t i (suc k) < ancestor t i k
  ancestor_falls k l =
      let low = valid.parent_lower (ancestor t i k) (ancestor_inner k l) (ancestor_real k) in
      omega (arith, ancestor_parent_of k l)

  -- numbers decrease strictly over any distance
  pub ancestor_strict : (j k : ℕ) → j < k → k ≤ height t i → ancestor t i k < ancestor t i j
  ancestor_strict j zero a b = absurd (omega arith)
  ancestor_strict j (suc k) a b =
      let one = ancestor_falls k (omega arith) in
      elim (ℕ_discrete j k) [ yes e ↦ rw e one | no n ↦ omega (arith, ancestor_strict j k (omega arith) (omega arith)) ]

  pub ancestor_injective : (j k : ℕ) → j ≤ height t i → k ≤ height t i → ancestor t i j ≡ ancestor t i k → j ≡ k
  ancestor_injective j k a b e =
      elim (dec_lt j k) [
        | yes l ↦ absurd (omega (arith, ancestor_strict j k l b))
        | no l ↦ elim (dec_lt k j) [ yes m ↦ absurd (omega (arith, ancestor_strict k j m a)) | no m ↦ omega arith ]
      ]

  -- TESTS AND INDICES
  path_found : (f k d : ℕ) → k ≤ height t i → meets f t (ancestor t i k) d ≡ true → OnPath t i d
  unfolding meets
  path_found zero k d l e = record { index = k; within = l; there = eqb-true _ _ e }
  path_found (suc f) k d l e =
      elim (or_cases (eqb (ancestor t i k) d) _ e) [
        | inl p ↦ record { index = k; within = l; there = eqb-true _ _ p }
        | inr p ↦
            let both = and_both (not (eqb (ancestor t i k) 0)) _ p in
            let n = eqb-false (ancestor t i k) 0 (not-true (eqb (ancestor t i k) 0) both.0) in
            let m = ancestor_not_root k l (omega (arith, n)) in
            path_found f (suc k) d m (rw (← ancestor_parent_of k m) both.1)
      ]

  path_hit : (f j k : ℕ) → j ≤ k → k ≤ height t i → k ≤ j + f → meets f t (ancestor t i j) (ancestor t i k) ≡ true
  unfolding meets
  path_hit zero j k a b c = let z : j ≡ k = omega arith in eq-eqb _ _ (ap (ancestor t i) z)
  path_hit (suc f) j k a b c =
      elim (ℕ_discrete j k) [
        | yes e ↦ rw (eq-eqb _ _ (ap (ancestor t i) e))
        | no n ↦
            let p = ancestor_inner j (omega arith) in
            let rest = path_hit f (suc j) k (omega arith) b (omega arith) in
            or_right (eqb (ancestor t i j) (ancestor t i k)) _ (rw (ne_eqb (ancestor t i j) 0 (omega arith), ancestor_parent_of j (omega arith)) rest)
      ]

  pub path_index : (d : ℕ) → on_path t i d ≡ true → OnPath t i d
  unfolding on_path
  path_index d e = path_found 6 0 d (omega arith) (rw ancestor_home e)

  pub on_path_at : (k : ℕ) → k ≤ height t i → on_path t i (ancestor t i k) ≡ true
  unfolding on_path
  on_path_at k l = rw (← ancestor_home t i) (path_hit 6 0 k (omega arith) l (omega (arith, height_few)))

  pub path_real : (d : ℕ) → on_path t i d ≡ true → d < t.domains
  path_real d e = let o = path_index d e in rw o.there at (ancestor_real o.index)

  -- the step table's tests, by index
  pub root_test : (k : ℕ) → k ≤ height t i → eqb (ancestor t i k) 0 ≡ eqb k (height t i)
  root_test k l =
      elim (ℕ_discrete k (height t i)) [
        | yes z ↦ rw (eq-eqb k (height t i) z) (eq-eqb _ _ (ap (ancestor t i) z ∙ ancestor_root))
        | no z ↦
            let p = ancestor_inner k (omega arith) in
            rw (ne_eqb k (height t i) z) (ne_eqb (ancestor t i k) 0 (omega arith))
      ]

  pub home_test : (k : ℕ) → k ≤ height t i → eqb (ancestor t i k) (t.home i) ≡ eqb k 0
  home_test k l =
      elim (ℕ_discrete k 0) [
        | yes z ↦ rw (eq-eqb k 0 z) (eq-eqb _ _ (ap (ancestor t i) z ∙ ancestor_home t i))
        | no z ↦
            let p = ancestor_strict 0 k (omega arith) l in
            rw (ne_eqb k 0 z) (ne_eqb (ancestor t i k) (t.home i) (omega (arith, ancestor_home t i)))
      ]

  -- a path contains its home, the root, and the parent of each of its domains
  pub on_path_home : on_path t i (t.home i) ≡ true
  on_path_home = rw ancestor_home at (on_path_at 0 (omega arith))

  pub on_path_root : on_path t i 0 ≡ true
  on_path_root = rw ancestor_root at (on_path_at (height t i) (omega arith))

  pub on_path_parent : (d : ℕ) → 0 < d → on_path t i d ≡ true → on_path t i (t.parent d) ≡ true
  on_path_parent d p e =
      let o = path_index d e in
      let k = o.index in
      let l = ancestor_not_root k o.within (omega (arith, o.there)) in
      rw (← o.there, ancestor_parent_of k l) (on_path_at (suc k) l)
