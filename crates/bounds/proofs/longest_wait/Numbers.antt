-- Passes by members, W from a domain to its parent, and the smallest number of tenures.
use mathlib.Core.Path.{◌≡◌, refl, sym, ap, ◌∙◌}
use mathlib.Core.Bool.{Bool, true, false, cond}
use Prim.Native.Nat.{ℕ, suc, ◌+◌, ◌*◌, ◌-◌, ◌/◌, ◌≤◌, ◌<◌}
use native.Mathlib.Omega.{arith}
use native.Mathlib.Nat.{div-lt_iff_lt-mul}
use borrow.Author.Tests.{ne_eqb}
use Rattle.model.specs.Scans.{largest_below}
use Rattle.model.specs.Trees.{Tree, is_child, is_leaf, own_record, is_member, allowance}
use Rattle.model.specs.Refusals.{tree_refusal}
use Rattle.model.specs.Laws.{EmptyLaw}
use Rattle.model.proofs.Tests.{largest_ge}
use Rattle.model.proofs.Laws.Empty.{under_domain, empty_law}
use Rattle.model.proofs.Trees.Index.{member_allowance}
use Rattle.model.proofs.Trees.Accepted.{Accepted, accepted, child_facts, leaf_childless}
use Rattle.model.proofs.Trees.Allowances.{thread_allowance, allowance_domain, allowance_member}
use Rattle.model.proofs.Trees.Records.{Member, a_thread, a_domain, member_facts, member_domain, member_small, own_record_member}
use Rattle.bounds.specs.StarvationFreedom.Bounds.{members}
use Rattle.bounds.specs.LongestWait.Bounds.{effective_threshold, effective, passes, others_passes, tenures_for_all, member_wait}
use Rattle.bounds.specs.LongestWait.Laws.{NumbersLaw}
use Rattle.bounds.proofs.starvation_freedom.Effective.{effective_accepted}
use Rattle.bounds.proofs.longest_wait.Passes.{same_member}
use Rattle.bounds.proofs.longest_wait.Even.{largest_within, effective_there}
use Rattle.bounds.proofs.longest_wait.Waits.{above_wait, above_root, wait_at}

module _ (t : Tree) (ok : (tree_refusal t).number ≡ 0) where
  valid : Accepted t
  valid = accepted t ok

  -- the largest passes of a domain's members
  abbrev most : (domain : ℕ) → ℕ
  most d = largest_below 320 (λ q. cond (is_member t d q) (passes t q) 0)

  at_least : (d q : ℕ) → is_member t d q ≡ true → passes t q ≤ most d
  at_least d q m =
      let x = largest_ge 320 (λ r. cond (is_member t d r) (passes t r) 0) q (member_small t valid d q m) in
      let z : cond (is_member t d q) (passes t q) 0 ≡ passes t q = rw m refl in
      omega arith

  -- a leaf has a thread
  leaf_most : (d : ℕ) → d < t.domains → is_leaf t d ≡ true → 1 ≤ most d
  unfolding EmptyLaw passes
  leaf_most d h e =
      let x = ((empty_law t).accepted_exactly.0 ok).1 d h in
      let m = own_record_member t valid x.thread x.real d (sym (under_domain t d x.thread) ∙ x.below) in
      by (at_least d (own_record t x.thread d) m) (member_facts t d (own_record t x.thread d) m)
    where
      by : {q : ℕ} → passes t q ≤ most d → Member t d q → 1 ≤ most d
      by b (a_thread j u z) = omega (arith, thread_allowance (effective t) j (omega (arith, valid.few_threads)))
      by b (a_domain c p u z) = absurd (leaf_childless t d c e p u z)

  most_is : (d : ℕ) → d < t.domains → member_allowance (effective t) d ≡ most d
  unfolding passes member_allowance effective is_leaf is_child
  most_is d h =
      let high = largest_within 320 (λ q. cond (is_member t d q) (passes t q) 0) (member_allowance (effective t) d) (λ q b. each q (is_member t d q) refl) in
      let low = by (is_leaf t d) refl in
      omega arith
    where
      each : (q : ℕ) (b : Bool) → is_member t d q ≡ b → cond b (passes t q) 0 ≤ member_allowance (effective t) d
      each q true e = allowance_member (effective t) (effective_accepted t valid) d q (same_member t valid d q ∙ e)
      each q false e = omega arith

      child_within : (c : ℕ) → c < t.domains → (b : Bool) → is_child t d c ≡ b → cond b (allowance (effective t) (256 + c)) 0 ≤ most d
      child_within c u true e = let f = child_facts t d c e in at_least d (256 + c) (member_domain t d c f.no_root u f.its_child)
      child_within c u false e = omega arith

      by : (b : Bool) → is_leaf t d ≡ b → member_allowance (effective t) d ≤ most d
      by true e = rw e (leaf_most d h e)
      by false e = rw e (largest_within t.domains _ (most d) (λ c u. child_within c u (is_child t d c) refl))

  of_domain : (d : ℕ) → d < t.domains → passes t (256 + d) ≡ effective_threshold t d * most d
  unfolding passes
  of_domain d h =
      allowance_domain (effective t) (effective_accepted t valid) d
      ∙ ap (λ v. v * member_allowance (effective t) d) (effective_there t d) ∙ ap (λ v. effective_threshold t d * v) (most_is d h)

  -- W
  at_root : (m : ℕ) → member_wait t 0 m ≡ others_passes t 0 m
  at_root m =
      let w = wait_at t valid 0 m valid.some_domain in
      let none : tenures_for_all t 0 * above_wait t 0 ≡ 0 = let a = above_root t 0 refl in rw a (omega arith) in
      omega arith

  below_root : (d m : ℕ) → 0 < d → d < t.domains → member_wait t d m ≡ others_passes t d m + tenures_for_all t d * member_wait t (t.parent d) (256 + d)
  unfolding above_wait
  below_root d m p h =
      let z : above_wait t d ≡ member_wait t (t.parent d) (256 + d) = rw (ne_eqb d 0 (omega arith)) refl in
      wait_at t valid d m h ∙ ap (λ v. others_passes t d m + tenures_for_all t d * v) z

  -- the quotient, rounded up
  enough : (d : ℕ) → 0 < d → d < t.domains → members t d ≤ tenures_for_all t d * t.threshold d
  unfolding tenures_for_all
  enough d p h =
      let v = t.threshold d in
      let some = valid.threshold_some d p h in
      let n = (members t d + v - 1) / v in
      let x : members t d + v - 1 < suc n * v = (div-lt_iff_lt-mul some).0 (omega arith) in
      omega arith

  fewest : (d k : ℕ) → 0 < d → d < t.domains → members t d ≤ k * t.threshold d → tenures_for_all t d ≤ k
  unfolding tenures_for_all
  fewest d k p h l =
      let v = t.threshold d in
      let some = valid.threshold_some d p h in
      let x : (members t d + v - 1) / v < suc k = (div-lt_iff_lt-mul some).1 (omega arith) in
      omega arith

pub numbers_law : NumbersLaw
unfolding NumbersLaw passes
numbers_law t ok =
    record {
      of_thread = λ i h. thread_allowance (effective t) i (omega (arith, (accepted t ok).few_threads));
      of_domain = of_domain t ok;
      at_root = at_root t ok;
      below_root = below_root t ok;
      enough = enough t ok;
      fewest = fewest t ok;
    }
