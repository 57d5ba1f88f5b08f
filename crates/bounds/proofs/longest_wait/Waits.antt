-- W along a path: for a member it is the passes of the others plus, for each tenure, W of the domain above.
use mathlib.Core.Path.{◌≡◌, refl, ap}
use mathlib.Core.Bool.{cond}
use Prim.Native.Nat.{ℕ, zero, suc, ◌+◌, ◌*◌, ◌-◌, ◌/◌, ◌≤◌, ◌<◌}
use native.Mathlib.Omega.{arith}
use lib.Dec.{eqb}
use borrow.Author.Tests.{eq-eqb, ne_eqb}
use Rattle.model.specs.Trees.{Tree, level}
use Rattle.model.proofs.Lists.{same_or}
use Rattle.model.proofs.Trees.Index.{ancestor, height, record_at}
use Rattle.model.proofs.Trees.Accepted.{Accepted}
use Rattle.model.proofs.Trees.Paths.{depth_child, ancestor_real, ancestor_inner, ancestor_parent_of}
use Rattle.model.proofs.Trees.Records.{record_suc, member_at}
use Rattle.bounds.specs.LongestWait.Bounds.{others_passes, tenures_for_all, wait_from, member_wait}
use Rattle.bounds.specs.StarvationFreedom.Bounds.{members}
use Rattle.bounds.proofs.starvation_freedom.Positions.{some_member}
use Rattle.bounds.proofs.starvation_freedom.Arithmetic.{rounded_up}

-- W of a domain's own record in its parent; 0 at the root
unfoldable pub above_wait : Tree → (domain : ℕ) → ℕ
above_wait t d = cond (eqb d 0) 0 (member_wait t (t.parent d) (256 + d))

pub above_root : (t : Tree) (d : ℕ) → d ≡ 0 → above_wait t d ≡ 0
unfolding above_wait
above_root t d z = rw (eq-eqb d 0 z) refl

module _ (t : Tree) (valid : Accepted t) where
  pub wait_at : (d m : ℕ) → d < t.domains → member_wait t d m ≡ others_passes t d m + tenures_for_all t d * above_wait t d
  unfolding member_wait wait_from above_wait level
  wait_at d m h =
      same_or d 0 _
      (λ z. rw (eq-eqb d 0 z) (omega arith))
      (λ z. rw (ne_eqb d 0 z) (ap (λ n. others_passes t d m + tenures_for_all t d * wait_from n t (t.parent d) (256 + d)) (depth_child t valid d (omega arith) h)))

  -- what is left above, at most: one acquisition if the first is acquiring, and one for each full tenure
  pub tenures_enough : (d p : ℕ) → 0 < d → d < t.domains → suc p ≤ members t d → above_wait t d + (p / t.threshold d) * above_wait t d ≤ tenures_for_all t d * above_wait t d
  unfolding tenures_for_all
  tenures_enough d p z h l = rounded_up (t.threshold d) p (members t d) (above_wait t d) (valid.threshold_some d z h) l

  module _ (a : ℕ) (ha : a < t.threads) where
    pub above_next : (k : ℕ) → k < height t a → above_wait t (ancestor t a k) ≡ member_wait t (ancestor t a (suc k)) (record_at t a (suc k))
    unfolding above_wait
    above_next k b =
        rw (ne_eqb (ancestor t a k) 0 (omega (arith, ancestor_inner t valid a ha k b)), record_suc t a k) (ap (λ d. member_wait t d (256 + ancestor t a k)) (ancestor_parent_of t valid a ha k b))

    -- a domain of the path has members
    pub some_members : (k : ℕ) → k ≤ height t a → 1 ≤ members t (ancestor t a k)
    some_members k l = some_member t valid (ancestor t a k) (record_at t a k) (member_at t valid a ha k l)

    -- W of the domain above is at most W here
    pub above_less : (k : ℕ) → k < height t a → above_wait t (ancestor t a k) ≤ member_wait t (ancestor t a k) (record_at t a k)
    above_less k b =
        omega (arith, wait_at (ancestor t a k) (record_at t a k) (ancestor_real t valid a ha k), tenures_enough (ancestor t a k) 0 (ancestor_inner t valid a ha k b) (ancestor_real t valid a ha k) (some_members k (omega arith)))

    pub wait_less : (k : ℕ) → k < height t a → member_wait t (ancestor t a (suc k)) (record_at t a (suc k)) ≤ member_wait t (ancestor t a k) (record_at t a k)
    wait_less k b = omega (arith, above_less k b, above_next k b)

    wait_higher : (n k : ℕ) → k + n ≤ height t a → member_wait t (ancestor t a (k + n)) (record_at t a (k + n)) ≤ member_wait t (ancestor t a k) (record_at t a k)
    wait_higher zero k b = let z : k + 0 ≡ k = omega arith in rw z (omega arith)
    wait_higher (suc n) k b =
        let rec = wait_higher n (suc k) (omega arith) in
        let z : suc k + n ≡ k + suc n = omega arith in
        let rec' : member_wait t (ancestor t a (k + suc n)) (record_at t a (k + suc n)) ≤ member_wait t (ancestor t a (suc k)) (record_at t a (suc k)) = rw z at rec in
        omega (arith, wait_less k (omega arith))

    -- so W above a domain is at least W at every domain above it
    pub above_enough : (k m : ℕ) → k < m → m ≤ height t a → member_wait t (ancestor t a m) (record_at t a m) ≤ above_wait t (ancestor t a k)
    above_enough k m b l =
        let rec = wait_higher (m - suc k) (suc k) (omega arith) in
        let z : suc k + (m - suc k) ≡ m = omega arith in
        let rec' : member_wait t (ancestor t a m) (record_at t a m) ≤ member_wait t (ancestor t a (suc k)) (record_at t a (suc k)) = rw z at rec in
        omega (arith, above_next k (omega arith))
