-- The bounds along a path: each domain adds its own rounds to those above it.
use mathlib.Core.Path.{◌≡◌, refl, ap}
use mathlib.Core.Bool.{cond}
use Prim.Native.Nat.{ℕ, zero, suc, ◌+◌, ◌*◌, ◌-◌, ◌≤◌, ◌<◌}
use native.Mathlib.Omega.{arith}
use lib.Dec.{eqb}
use borrow.Author.Tests.{eq-eqb, ne_eqb}
use Rattle.model.specs.Trees.{Tree, level, depth}
use Rattle.model.proofs.Tests.{largest_ge}
use Rattle.model.proofs.Lists.{same_or}
use Rattle.model.proofs.Trees.Index.{ancestor, height, record_at}
use Rattle.model.proofs.Trees.Accepted.{Accepted}
use Rattle.model.proofs.Trees.Paths.{depth_child, ancestor_real, ancestor_inner, ancestor_parent_of}
use Rattle.model.proofs.Trees.Records.{member_at}
use Rattle.bounds.specs.StarvationFreedom.Bounds.{passes, levels, entry_rounds, standing_rounds, acquire_from, acquire_rounds}
use Rattle.bounds.proofs.starvation_freedom.Positions.{some_member}
use Rattle.bounds.proofs.starvation_freedom.Quotients.{standing_above}

-- the rounds from the acquisition of a domain to Inside
unfoldable pub above_rounds : Tree → (domain : ℕ) → ℕ
above_rounds t d = cond (eqb d 0) 1 (acquire_rounds t (t.parent d) (256 + d))

-- the rounds in which its member is first
unfoldable pub first_rounds : Tree → (domain member : ℕ) → ℕ
first_rounds t d m = above_rounds t d + entry_rounds t * passes t m + 5 * level t d

-- one entry less
pub one_less : (k n : ℕ) → 1 ≤ n → k * n ≡ k + k * (n - 1)
one_less k zero h = absurd (omega arith)
one_less k (suc n) h = let z : suc n - 1 ≡ n = omega arith in rw z (omega arith)

pub mul_add : (k n m : ℕ) → k * (n + m) ≡ k * n + k * m
mul_add k n m = omega arith

pub mul-one : (k n : ℕ) → 1 ≤ k → 1 ≤ n → 1 ≤ k * n
mul-one k n h l = let x = one_less k n l in omega arith

module _ (t : Tree) (valid : Accepted t) where
  pub acquire_at : (d m : ℕ) → d < t.domains → acquire_rounds t d m ≡ 3 + standing_rounds t d m (above_rounds t d)
  unfolding acquire_rounds acquire_from above_rounds level
  acquire_at d m h =
      same_or d 0 _
      (λ z. rw (eq-eqb d 0 z) refl)
      (λ z. rw (ne_eqb d 0 z) (ap (λ n. 3 + standing_rounds t d m (acquire_from n t (t.parent d) (256 + d))) (depth_child t valid d (omega arith) h)))

  pub above_some : (d : ℕ) → d < t.domains → 1 ≤ above_rounds t d
  unfolding above_rounds
  above_some d h =
      same_or d 0 _
      (λ z. rw (eq-eqb d 0 z) (omega arith))
      (λ z. rw (ne_eqb d 0 z) (omega (arith, acquire_at (t.parent d) (256 + d) (omega (arith, valid.parent_lower d (omega arith) h)))))

  module _ (a : ℕ) (ha : a < t.threads) where
    -- the rounds for one entry include the Checks of a thread
    pub checks_few : 3 + height t a ≤ entry_rounds t
    unfolding entry_rounds levels level height
    checks_few = let x = largest_ge t.domains (λ d. suc (depth t d)) (t.home a) (valid.home_real a ha) in omega arith

    pub above_next : (k : ℕ) → k < height t a → above_rounds t (ancestor t a k) ≡ acquire_rounds t (ancestor t a (suc k)) (record_at t a (suc k))
    unfolding above_rounds record_at
    above_next k b =
        rw (ne_eqb (ancestor t a k) 0 (omega (arith, ancestor_inner t valid a ha k b))) (ap (λ d. acquire_rounds t d (256 + ancestor t a k)) (ancestor_parent_of t valid a ha k b))

    -- the rounds from an index of its path
    abbrev from : (index : ℕ) → ℕ
    from k = acquire_rounds t (ancestor t a k) (record_at t a k)

    -- fewer rounds nearer to the root
    pub fewer : (n k : ℕ) → k + n ≤ height t a → acquire_rounds t (ancestor t a (k + n)) (record_at t a (k + n)) ≤ acquire_rounds t (ancestor t a k) (record_at t a k)
    fewer zero k b = let z : k + 0 ≡ k = omega arith in rw z (omega arith)
    fewer (suc n) k b =
        let rec = fewer n (suc k) (omega arith) in
        let z : suc k + n ≡ k + suc n = omega arith in
        let rec' : from (k + suc n) ≤ from (suc k) = rw z at rec in
        let some = some_member t valid (ancestor t a k) (record_at t a k) (member_at t valid a ha k (omega arith)) in
        let enough = standing_above t valid (ancestor t a k) (ancestor_real t valid a ha k) (record_at t a k) (above_rounds t (ancestor t a k)) some in
        omega (arith, acquire_at (ancestor t a k) (record_at t a k) (ancestor_real t valid a ha k), above_next k (omega arith))

    -- so the rounds above a domain are enough from every domain above it
    pub above_enough : (k m : ℕ) → k < m → m ≤ height t a → acquire_rounds t (ancestor t a m) (record_at t a m) ≤ above_rounds t (ancestor t a k)
    above_enough k m b l =
        let rec = fewer (m - suc k) (suc k) (omega arith) in
        let z : suc k + (m - suc k) ≡ m = omega arith in
        let rec' : from m ≤ from (suc k) = rw z at rec in
        omega (arith, above_next k (omega arith))
