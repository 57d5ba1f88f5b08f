-- A domain's allowance is its threshold times the largest allowance of its members.
use mathlib.Core.Path.{◌≡◌, refl, sym, ap, ◌∙◌}
use mathlib.Core.Bool.{Bool, true, false, cond}
use Prim.Native.Nat.{ℕ, zero, suc, ◌+◌, ◌*◌, ◌-◌, ◌≤◌, ◌<◌}
use native.Mathlib.Omega.{arith}
use borrow.Author.Tests.{not-false, lt-ltb, le-ltb}
use Rattle.model.specs.Scans.{largest_below}
use Rattle.model.specs.Trees.{Tree, depth, is_child, is_leaf, is_member, domain_allowance, allowance}
use Rattle.model.proofs.Trees.Index.{ancestor, height, record_at, member_allowance}
use Rattle.model.proofs.Tests.{largest_ge, largest_same, Found, any_one}
use Rattle.model.proofs.Trees.Accepted.{Accepted, child_yes, child_facts, leaf_childless}
use Rattle.model.proofs.Trees.Paths.{depth_child, depth_few}
use Rattle.model.proofs.Trees.Records.{Member, a_thread, a_domain, member_facts, member_at}

pub thread_allowance : (t : Tree) (i : ℕ) → i < 256 → allowance t i ≡ 1
unfolding allowance
thread_allowance t i h = rw (lt-ltb i 256 h)

allowance_of_domain : (t : Tree) (d : ℕ) → allowance t (256 + d) ≡ domain_allowance 6 t d
unfolding allowance
allowance_of_domain t d = let z : 256 + d - 256 ≡ d = omega arith in rw (le-ltb (256 + d) 256 (omega arith), z)

-- the allowance of a leaf is its threshold; that of any other domain is its threshold times the largest of its children
at_leaf : (f : ℕ) (t : Tree) (d : ℕ) → is_leaf t d ≡ true → domain_allowance f t d ≡ t.threshold d
unfolding domain_allowance
at_leaf zero t d e = refl
at_leaf (suc f) t d e = rw e

at_inner :
    (f : ℕ) (t : Tree) (d : ℕ) → is_leaf t d ≡ false →
    domain_allowance (suc f) t d ≡ t.threshold d * largest_below t.domains (λ c. cond (is_child t d c) (domain_allowance f t c) 0)
unfolding domain_allowance
at_inner f t d e = rw e

-- the largest allowance of the children depends only on the children
children_same :
    (t : Tree) (d : ℕ) (f g : ℕ → ℕ) → ((c : ℕ) → 0 < c → c < t.domains → t.parent c ≡ d → f c ≡ g c) →
    largest_below t.domains (λ c. cond (is_child t d c) (f c) 0) ≡ largest_below t.domains (λ c. cond (is_child t d c) (g c) 0)
children_same t d f g same = largest_same t.domains _ _ (λ c s. go c s (is_child t d c) refl)
  where
    go : (c : ℕ) → c < t.domains → (b : Bool) → is_child t d c ≡ b → cond (is_child t d c) (f c) 0 ≡ cond (is_child t d c) (g c) 0
    go c s true e = let k = child_facts t d c e in rw e (same c k.no_root s k.its_child)
    go c s false e = rw e refl

-- a domain that is no leaf has a child
inner_child : (t : Tree) (d : ℕ) → is_leaf t d ≡ false → Found t.domains (is_child t d)
unfolding is_leaf
inner_child t d e = any_one t.domains (is_child t d) (not-false _ e)

module _ (t : Tree) (valid : Accepted t) where
  -- at the deepest level there are leaves only
  deepest_leaf : (d : ℕ) → d < t.domains → 5 ≤ depth t d → is_leaf t d ≡ true
  deepest_leaf d s l = go (is_leaf t d) refl
    where
      go : (b : Bool) → is_leaf t d ≡ b → is_leaf t d ≡ true
      go true e = e
      go false e =
          let c = inner_child t d e in
          let k = child_facts t d c.index c.holds in
          absurd (omega (arith, depth_child t valid c.index k.no_root c.below, depth_few t valid c.index c.below, ap (depth t) k.its_child))

  -- fuel for the levels left is enough
  fuel_enough : (f d : ℕ) → d < t.domains → 5 ≤ f + depth t d → domain_allowance f t d ≡ domain_allowance (suc f) t d
  fuel_enough zero d s l = let e = deepest_leaf d s (omega arith) in at_leaf 0 t d e ∙ sym (at_leaf 1 t d e)
  fuel_enough (suc f) d s l = go (is_leaf t d) refl (λ c u v. fuel_enough f c u v)
    where
      go :
          (b : Bool) → is_leaf t d ≡ b → ((c : ℕ) → c < t.domains → 5 ≤ f + depth t c → domain_allowance f t c ≡ domain_allowance (suc f) t c) →
          domain_allowance (suc f) t d ≡ domain_allowance (suc (suc f)) t d
      go true e r = at_leaf (suc f) t d e ∙ sym (at_leaf (suc (suc f)) t d e)
      go false e r =
          at_inner f t d e
          ∙ ap (λ n. t.threshold d * n) (children_same t d _ _ (λ c p u q. r c u (omega (arith, depth_child t valid c p u, ap (depth t) q))))
          ∙ sym (at_inner (suc f) t d e)

  child_allowance : (c : ℕ) → 0 < c → c < t.domains → domain_allowance 5 t c ≡ allowance t (256 + c)
  child_allowance c p s = fuel_enough 5 c s (omega arith) ∙ sym (allowance_of_domain t c)

  pub allowance_domain : (d : ℕ) → allowance t (256 + d) ≡ t.threshold d * member_allowance t d
  unfolding member_allowance
  allowance_domain d = go (is_leaf t d) refl
    where
      go : (b : Bool) → is_leaf t d ≡ b → allowance t (256 + d) ≡ t.threshold d * member_allowance t d
      go true e = rw (allowance_of_domain t d, at_leaf 6 t d e, e) (omega arith)
      go false e = rw (allowance_of_domain t d, at_inner 5 t d e, e) (ap (λ n. t.threshold d * n) (children_same t d _ _ (λ c p s q. child_allowance c p s)))

  pub allowance_member : (d r : ℕ) → is_member t d r ≡ true → allowance t r ≤ member_allowance t d
  unfolding member_allowance
  allowance_member d r m = go r (member_facts t d r m)
    where
      go : (r : ℕ) → Member t d r → allowance t r ≤ member_allowance t d
      go r (a_thread i s q) =
          let leaf : is_leaf t d ≡ true = rw q at (valid.home_leaf i s) in
          rw (leaf, thread_allowance t i (omega arith)) (omega arith)
      go r (a_domain c p s q) = by (is_leaf t d) refl
        where
          by : (b : Bool) → is_leaf t d ≡ b → allowance t (256 + c) ≤ member_allowance t d
          by true e = absurd (leaf_childless t d c e p s q)
          by false e =
              rw e (rw (child_yes t d c p q) at (largest_ge t.domains (λ c. cond (is_child t d c) (allowance t (256 + c)) 0) c s))

  -- along a thread's path
  module _ (i : ℕ) (h : i < t.threads) where
    pub allowance_within : (k : ℕ) → k ≤ height t i → allowance t (record_at t i k) ≤ member_allowance t (ancestor t i k)
    allowance_within k l = allowance_member (ancestor t i k) (record_at t i k) (member_at t valid i h k l)
