-- The bounds are at most those by allowances.
use mathlib.Core.Path.{◌≡◌, refl}
use mathlib.Core.Bool.{Bool, true, false, ◌&&◌, not, cond}
use Prim.Native.Nat.{ℕ, zero, suc, ◌+◌, ◌*◌, ◌-◌, ◌≤◌, ◌<◌}
use native.Mathlib.Omega.{arith}
use native.Mathlib.Nat.{mul-le-mul, mul-le-mul_right}
use lib.Dec.{eqb}
use borrow.Author.Tests.{eq-eqb, ne_eqb}
use Rattle.model.specs.Trees.{Tree, is_member, allowance, level}
use Rattle.model.proofs.Tests.{and_both, largest_ge}
use Rattle.model.proofs.Lists.{same_or}
use Rattle.model.proofs.Trees.Accepted.{Accepted, accepted}
use Rattle.model.proofs.Trees.Paths.{depth_child}
use Rattle.model.proofs.Trees.Records.{member_thread, member_domain, member_record, member_small}
use Rattle.bounds.specs.StarvationFreedom.Bounds.{members, passes, others_passes, entry_rounds, tenures_for, link_rounds, standing_rounds, acquire_from, acquire_rounds, acquire_bound, release_bound, everyone_bound, largest_allowance, allowance_from, allowance_acquire_bound, allowance_everyone_bound}
use Rattle.bounds.specs.StarvationFreedom.Laws.{SharperLaw}
use Rattle.bounds.proofs.starvation_freedom.Fewer.{largest_grows, fewer_passes}
use Rattle.claims.proofs.Sums.{sum_grows, sum_of_value, sum_but_one}
use Rattle.bounds.proofs.starvation_freedom.Positions.{some_member}
use Rattle.bounds.proofs.starvation_freedom.Quotients.{TenureLength, singly, longer, length_of, tenures_singly, no_link, a_link, tenures_fewer}

module _ (t : Tree) (valid : Accepted t) where
  -- a member's passes are at most the largest allowance
  few : (d q : ℕ) → is_member t d q ≡ true → passes t q ≤ largest_allowance t d
  unfolding largest_allowance
  few d q e =
      let x = largest_ge 320 (λ m. cond (is_member t d m) (allowance t m) 0) q (member_small t valid d q e) in
      let z : cond (is_member t d q) (allowance t q) 0 ≡ allowance t q = rw e refl in
      omega (arith, fewer_passes t valid q (member_record t valid d q e))

  others_few : (d m : ℕ) → is_member t d m ≡ true → others_passes t d m ≤ (members t d - 1) * largest_allowance t d
  unfolding others_passes members
  others_few d m e =
      let v = largest_allowance t d in
      let grows = sum_grows 320 (λ q. cond (is_member t d q && not (eqb q m)) (passes t q) 0) (λ q. cond (is_member t d q && not (eqb q m)) v 0) (λ q b. each q (is_member t d q && not (eqb q m)) refl) in
      let but = sum_but_one 320 (is_member t d) m v (member_small t valid d m e) e in
      let all = sum_of_value 320 (is_member t d) v in
      let some = sum_but_one 320 (is_member t d) m 1 (member_small t valid d m e) e in
      let number = sum_of_value 320 (is_member t d) 1 in
      let less = one_less (members t d) v (omega arith) in
      omega arith
    where
      one_less : (n v : ℕ) → 1 ≤ n → n * v ≡ v + (n - 1) * v
      one_less zero v h = absurd (omega arith)
      one_less (suc n) v h = let z : suc n - 1 ≡ n = omega arith in rw z (omega arith)

      each : (q : ℕ) (b : Bool) → (is_member t d q && not (eqb q m)) ≡ b → cond b (passes t q) 0 ≤ cond b (largest_allowance t d) 0
      each q true z = few d q (and_both (is_member t d q) (not (eqb q m)) z).0
      each q false z = omega arith

  -- tenures take no more rounds than if the domains above were acquired again for each member
  tenures_less : (d m a : ℕ) → d < t.domains → is_member t d m ≡ true → 1 ≤ a →
      standing_rounds t d m a ≤ a + (members t d - 1) * (a + 5 * level t d) + entry_rounds t * others_passes t d m
  unfolding standing_rounds
  tenures_less d m a h e s = by (length_of t valid d h)
    where
      some : 1 ≤ members t d
      some = some_member t valid d m e

      less_one : (n a l : ℕ) → 1 ≤ n → n * a + (n - 1) * l ≡ a + (n - 1) * (a + l)
      less_one zero a l h = absurd (omega arith)
      less_one (suc n) a l h = let z : suc n - 1 ≡ n = omega arith in rw z (omega arith)

      -- one tenure less, but a round for the links
      spared : (x y n a l : ℕ) → suc x ≤ n → y ≤ n - 1 → 1 ≤ a → 1 + x * a + y * l ≤ n * a + (n - 1) * l
      spared x y n a l p q r =
          let u = mul-le-mul_right a p in
          let v = mul-le-mul_right l q in
          omega arith

      by : TenureLength t d → link_rounds t d + tenures_for t d (members t d) * a + tenures_for t d (members t d - 1) * (5 * level t d) + entry_rounds t * others_passes t d m
          ≤ a + (members t d - 1) * (a + 5 * level t d) + entry_rounds t * others_passes t d m
      by (singly z) =
          let one = less_one (members t d) a (5 * level t d) some in
          rw (no_link t valid d h z, tenures_singly t valid d h z (members t d), tenures_singly t valid d h z (members t d - 1)) (omega arith)
      by (longer l p k z) =
          let fewer = tenures_fewer t valid d h l k in
          let one = less_one (members t d) a (5 * level t d) some in
          let x = spared (tenures_for t d (members t d)) (tenures_for t d (members t d - 1)) (members t d) a (5 * level t d) fewer.0 fewer.1 s in
          omega (arith, a_link t valid d h l)

  -- at most as many rounds above give at most as many here
  others_less : (d m a b : ℕ) → d < t.domains → is_member t d m ≡ true → 1 ≤ a → a ≤ b → standing_rounds t d m a ≤ (members t d - 1) * (b + entry_rounds t * largest_allowance t d + 5 * level t d) + b
  others_less d m a b in_tree e s h =
      let n = members t d - 1 in
      let v = largest_allowance t d in
      let k = entry_rounds t in
      let same : n ≤ n = omega arith in
      let more : a + 5 * level t d ≤ b + 5 * level t d = omega arith in
      let up : n * (a + 5 * level t d) ≤ n * (b + 5 * level t d) = mul-le-mul same more in
      let same' : k ≤ k = omega arith in
      let under : k * others_passes t d m ≤ k * (n * v) = mul-le-mul same' (others_few d m e) in
      let swaps : k * (n * v) ≡ n * (k * v) = turned k n v in
      let whole : n * (b + k * v + 5 * level t d) ≡ n * (b + 5 * level t d) + n * (k * v) = joined n b (k * v) (5 * level t d) in
      omega (arith, tenures_less d m a in_tree e s)
    where
      turned : (k n v : ℕ) → k * (n * v) ≡ n * (k * v)
      turned k n v = omega arith

      joined : (n b x l : ℕ) → n * (b + x + l) ≡ n * (b + l) + n * x
      joined n b x l = omega arith

  from_some : (k d m : ℕ) → 1 ≤ k → 1 ≤ acquire_from k t d m
  unfolding acquire_from
  from_some zero d m h = absurd (omega arith)
  from_some (suc k) d m h = omega arith

  from_less : (k d m : ℕ) → k ≡ level t d → d < t.domains → is_member t d m ≡ true → acquire_from k t d m ≤ allowance_from k t d
  unfolding acquire_from allowance_from level
  from_less zero d m f h e = omega arith
  from_less (suc k) d m f h e =
      let above = cond (eqb d 0) 1 (acquire_from k t (t.parent d) (256 + d)) in
      let more = cond (eqb d 0) 1 (allowance_from k t (t.parent d)) in
      let both : (1 ≤ cond (eqb d 0) 1 (acquire_from k t (t.parent d) (256 + d))) × (cond (eqb d 0) 1 (acquire_from k t (t.parent d) (256 + d)) ≤ cond (eqb d 0) 1 (allowance_from k t (t.parent d))) =
      same_or d 0 _
      (λ z. rw (eq-eqb d 0 z) (omega arith, omega arith))
      (λ z.
      let fuel = depth_child t valid d (omega arith) h in
      let low = valid.parent_lower d (omega arith) h in
      rw (ne_eqb d 0 z) (from_some k (t.parent d) (256 + d) (omega arith), from_less k (t.parent d) (256 + d) (omega arith) (omega arith) (member_domain t (t.parent d) d (omega arith) h refl))) in
      omega (arith, others_less d m above more h e both.0 both.1)

  bound_less : (i : ℕ) → i < t.threads → acquire_bound t i ≤ allowance_acquire_bound t i
  unfolding acquire_bound acquire_rounds allowance_acquire_bound
  bound_less i h = from_less (level t (t.home i)) (t.home i) i refl (valid.home_real i h) (member_thread t valid (t.home i) i h refl)

pub sharper_law : SharperLaw
unfolding SharperLaw everyone_bound allowance_everyone_bound
sharper_law t ok =
    let valid = accepted t ok in
    record {
      acquiring = bound_less t valid;
      everyone = largest_grows t.threads (λ i. acquire_bound t i + release_bound t i) (λ i. allowance_acquire_bound t i + release_bound t i) (λ i h. let x = bound_less t valid i h in omega arith);
    }
