-- Passes are at most the allowance.
use mathlib.Core.Path.{◌≡◌, refl}
use mathlib.Core.Bool.{Bool, true, false, not, cond}
use Prim.Native.Nat.{ℕ, zero, suc, ◌*◌, ◌-◌, ◌≤◌, ◌<◌}
use native.Mathlib.Omega.{arith}
use native.Mathlib.Nat.{mul-le-mul}
use lib.Dec.{eqb, ltb}
use borrow.Author.Tests.{ltb-true, eqb-false, not-true}
use Rattle.model.specs.Scans.{largest_below}
use Rattle.model.specs.Trees.{Tree, is_child, is_leaf, is_record, domain_allowance, allowance}
use Rattle.model.proofs.Tests.{and_both, by_test}
use Rattle.model.proofs.Trees.Accepted.{Accepted, child_facts}
use Rattle.bounds.specs.StarvationFreedom.Bounds.{members, effective_threshold, effective, passes}

pub largest_grows : (n : ℕ) (f g : ℕ → ℕ) → ((j : ℕ) → j < n → f j ≤ g j) → largest_below n f ≤ largest_below n g
unfolding largest_below
largest_grows zero f g h = omega arith
largest_grows (suc n) f g h = let r = largest_grows n f g (λ j b. h j (omega arith)) in let x = h n (omega arith) in omega arith

module _ (t : Tree) (valid : Accepted t) where
  fewer_threshold : (d : ℕ) → 0 < d → d < t.domains → effective_threshold t d ≤ t.threshold d
  unfolding effective_threshold
  fewer_threshold d p h = by_test (λ v. v ≤ t.threshold d) (ltb 1 (members t d)) (t.threshold d) 1 (λ _. omega arith) (λ _. valid.threshold_some d p h)

  abbrev Children : (fuel : ℕ) → Type 0
  Children f = (c : ℕ) → 0 < c → c < t.domains → domain_allowance f (effective t) c ≤ domain_allowance f t c

  fewer_allowance : (f d : ℕ) → 0 < d → d < t.domains → domain_allowance f (effective t) d ≤ domain_allowance f t d
  unfolding domain_allowance effective is_leaf is_child
  fewer_allowance zero d p h = fewer_threshold d p h
  fewer_allowance (suc f) d p h = by (λ c q u. fewer_allowance f c q u) (is_leaf t d)
    where
      each : Children f → (c : ℕ) → c < t.domains → (b : Bool) → is_child t d c ≡ b → cond b (domain_allowance f (effective t) c) 0 ≤ cond b (domain_allowance f t c) 0
      each rec c u true e = let k = child_facts t d c e in rec c k.no_root u
      each rec c u false e = omega arith

      by : Children f → (b : Bool) →
          cond b (effective_threshold t d) (effective_threshold t d * largest_below t.domains (λ c. cond (is_child t d c) (domain_allowance f (effective t) c) 0))
          ≤ cond b (t.threshold d) (t.threshold d * largest_below t.domains (λ c. cond (is_child t d c) (domain_allowance f t c) 0))
      by rec true = fewer_threshold d p h
      by rec false = mul-le-mul (fewer_threshold d p h) (largest_grows t.domains _ _ (λ c u. each rec c u (is_child t d c) refl))

  pub fewer_passes : (m : ℕ) → is_record t m ≡ true → passes t m ≤ allowance t m
  unfolding passes allowance is_record
  fewer_passes m e = by (ltb m 256) refl
    where
      by : (b : Bool) → ltb m 256 ≡ b → cond (ltb m 256) 1 (domain_allowance 6 (effective t) (m - 256)) ≤ cond (ltb m 256) 1 (domain_allowance 6 t (m - 256))
      by true z = rw z (omega arith)
      by false z =
          let both = and_both (ltb (m - 256) t.domains) (not (eqb (m - 256) 0)) (rw z at e) in
          let n = eqb-false (m - 256) 0 (not-true (eqb (m - 256) 0) both.1) in
          rw z (fewer_allowance 6 (m - 256) (omega (arith, n)) (ltb-true (m - 256) t.domains both.0))
