-- In an even tree all members of a level have the same passes and the same number of threads under them; so W is the number of other threads.
use mathlib.Core.Path.{◌≡◌, refl, sym, ap, ◌∙◌}
use mathlib.Core.Bool.{Bool, true, false, ◌&&◌, not, cond}
use Prim.Native.Nat.{ℕ, zero, suc, ◌+◌, ◌*◌, ◌≤◌, ◌<◌}
use native.Mathlib.Omega.{arith}
use native.Mathlib.Nat.{one-le-mul}
use lib.Dec.{eqb}
use Rattle.model.specs.Scans.{largest_below}
use Rattle.model.specs.Trees.{Tree, is_child, is_leaf, depth, level, on_path, own_record, is_member, allowance}
use Rattle.model.specs.Refusals.{tree_refusal}
use Rattle.model.specs.Laws.{EmptyLaw}
use Rattle.model.proofs.Laws.Empty.{under_domain, empty_law}
use Rattle.model.proofs.Trees.Index.{ancestor, height, record_at, member_allowance}
use Rattle.model.proofs.Trees.Accepted.{Accepted, accepted, child_facts}
use Rattle.model.proofs.Trees.Allowances.{thread_allowance, allowance_domain, allowance_member}
use Rattle.model.proofs.Trees.Paths.{depth_child, ancestor_real, ancestor_depth, ancestor_inner, path_index}
use Rattle.model.proofs.Trees.Records.{Member, a_thread, a_domain, member_facts, member_domain, record_small, member_at, own_record_member}
use Rattle.bounds.specs.StarvationFreedom.Bounds.{members}
use Rattle.bounds.specs.LongestWait.Bounds.{effective_threshold, effective, passes, others_passes}
use Rattle.bounds.specs.LongestWait.Laws.{EqualLevels}
use Rattle.bounds.proofs.starvation_freedom.Effective.{effective_accepted}
use Rattle.bounds.proofs.longest_wait.Passes.{same_member}
use Rattle.claims.proofs.Sums.{sum_same, sum_of_value, sum_but_one}
use Rattle.bounds.proofs.longest_wait.Waits.{some_members}

pub largest_within : (n : ℕ) (f : ℕ → ℕ) (v : ℕ) → ((j : ℕ) → j < n → f j ≤ v) → largest_below n f ≤ v
unfolding largest_below
largest_within zero f v h = omega arith
largest_within (suc n) f v h = let r = largest_within n f v (λ j b. h j (omega arith)) in let x = h n (omega arith) in omega arith

pub effective_there : (t : Tree) (d : ℕ) → (effective t).threshold d ≡ effective_threshold t d
unfolding effective
effective_there t d = refl

module _ (t : Tree) (ok : (tree_refusal t).number ≡ 0) (equal : EqualLevels t) (i : ℕ) (hi : i < t.threads) where
  abbrev valid : Accepted t
  valid = accepted t ok

  unfoldable pub top : ℕ
  top = height t i

  -- DEPTHS. All homes are equally deep, and every domain has a thread under it
  pub same_home : (j : ℕ) → j < t.threads → height t j ≡ top
  unfolding top height level
  same_home j h = let x = equal.one_level j i h hi in omega arith

  pub record ThreadUnder (d : ℕ) : Type 0 where
    pub thread : ℕ
    pub real : thread < t.threads
    pub on : on_path t thread d ≡ true

  pub thread_under : (d : ℕ) → d < t.domains → ThreadUnder d
  unfolding EmptyLaw
  thread_under d h =
      let x = ((empty_law t).accepted_exactly.0 ok).1 d h in
      record { thread = x.thread; real = x.real; on = sym (under_domain t d x.thread) ∙ x.below }

  pub deep : (d : ℕ) → d < t.domains → depth t d ≤ top
  deep d h =
      let x = thread_under d h in
      let y = path_index t valid x.thread x.real d x.on in
      let z = ancestor_depth t valid x.thread x.real y.index y.within in
      let w : depth t (ancestor t x.thread y.index) ≡ depth t d = ap (depth t) y.there in
      omega (arith, same_home x.thread x.real)

  pub own_depth : (k : ℕ) → k ≤ top → depth t (ancestor t i k) + k ≡ top
  unfolding top
  own_depth k l = ancestor_depth t valid i hi k l

  -- the domains of a level have the members and the threshold of the one on i's path
  pub same_many : (k d : ℕ) → d < t.domains → depth t d + k ≡ top → members t d ≡ members t (ancestor t i k)
  unfolding level
  same_many k d h e = equal.same_members d (ancestor t i k) h (ancestor_real t valid i hi k) (let x = own_depth k (omega arith) in omega arith)

  same_threshold : (k d : ℕ) → 0 < d → d < t.domains → depth t d + k ≡ top → t.threshold d ≡ t.threshold (ancestor t i k)
  unfolding level top
  same_threshold k d p h e =
      let up = depth_child t valid d p h in
      equal.same_threshold d (ancestor t i k) p (ancestor_inner t valid i hi k (omega arith)) h (ancestor_real t valid i hi k) (let x = own_depth k (omega arith) in omega arith)

  -- a member of each domain
  some_member : (d : ℕ) → d < t.domains → (q : ℕ) × (is_member t d q ≡ true)
  some_member d h = let x = thread_under d h in (own_record t x.thread d, own_record_member t valid x.thread x.real d x.on)

  pub has_members : (d : ℕ) → d < t.domains → 1 ≤ members t d
  has_members d h =
      let x = thread_under d h in
      let y = path_index t valid x.thread x.real d x.on in
      rw y.there at (some_members t valid x.thread x.real y.index y.within)

  pub home_depth : (j : ℕ) → depth t (t.home j) ≡ height t j
  unfolding height
  home_depth j = refl

  -- every threshold is effective
  abbrev pub HaveEffect : Type 0
  HaveEffect = (d : ℕ) → 0 < d → d < t.domains → effective_threshold t d ≡ t.threshold d

  -- PASSES AND THREADS of a member of the domains at an index of i's path
  unfoldable pub P : ℕ → ℕ
  P zero = 1
  P (suc k) = t.threshold (ancestor t i k) * P k

  unfoldable pub N : ℕ → ℕ
  N zero = 1
  N (suc k) = members t (ancestor t i k) * N k

  some_passes : (k : ℕ) → k ≤ top → 1 ≤ P k
  unfolding P top
  some_passes zero l = omega arith
  some_passes (suc k) l = one-le-mul (valid.threshold_some (ancestor t i k) (ancestor_inner t valid i hi k l) (ancestor_real t valid i hi k)) (some_passes k (omega arith))

  -- a domain whose members all have this number of passes
  most_at : (k c : ℕ) → c < t.domains → k ≤ top → ((q : ℕ) → is_member t c q ≡ true → passes t q ≡ P k) → member_allowance (effective t) c ≡ P k
  unfolding passes member_allowance effective is_child
  most_at k c h l each =
      let x = some_member c h in
      let high = allowance_member (effective t) (effective_accepted t valid) c x.0 (same_member t valid c x.0 ∙ x.1) in
      let low = not_more (is_leaf (effective t) c) refl in
      omega (arith, each x.0 x.1)
    where
      child_within : (d : ℕ) → d < t.domains → (b : Bool) → is_child t c d ≡ b → cond b (allowance (effective t) (256 + d)) 0 ≤ P k
      child_within d u true e = let f = child_facts t c d e in omega (arith, each (256 + d) (member_domain t c d f.no_root u f.its_child))
      child_within d u false e = omega arith

      not_more : (b : Bool) → is_leaf (effective t) c ≡ b → member_allowance (effective t) c ≤ P k
      not_more true e = rw e (some_passes k l)
      not_more false e = rw e (largest_within t.domains _ (P k) (λ d u. child_within d u (is_child t c d) refl))

  -- all members of a domain at a level have the passes of that level
  pub passes_at : HaveEffect → (k d : ℕ) → d < t.domains → depth t d + k ≡ top → (q : ℕ) → is_member t d q ≡ true → passes t q ≡ P k
  unfolding passes P
  passes_at effect zero d h e q m = by (member_facts t d q m)
    where
      by : {q : ℕ} → Member t d q → allowance (effective t) q ≡ 1
      by (a_thread j u z) = thread_allowance (effective t) j (omega (arith, valid.few_threads))
      by (a_domain c p u z) = absurd (let x = depth_child t valid c p u in let y : depth t (t.parent c) ≡ depth t d = ap (depth t) z in let w = deep c u in omega arith)
  passes_at effect (suc k) d h e q m = by (λ c u f r n. passes_at effect k c u f r n) (member_facts t d q m)
    where
      by : ((c : ℕ) → c < t.domains → depth t c + k ≡ top → (r : ℕ) → is_member t c r ≡ true → passes t r ≡ P k) → {q : ℕ} → Member t d q → allowance (effective t) q ≡ t.threshold (ancestor t i k) * P k
      by rec (a_thread j u z) =
          absurd (let x = same_home j u in let y : depth t (t.home j) ≡ depth t d = ap (depth t) z in let w = home_depth j in omega arith)
      by rec (a_domain c p u z) =
          let x = depth_child t valid c p u in
          let y : depth t (t.parent c) ≡ depth t d = ap (depth t) z in
          let there : depth t c + k ≡ top = omega arith in
          allowance_domain (effective t) (effective_accepted t valid) c
          ∙ ap (λ v. v * member_allowance (effective t) c) (effective_there t c ∙ effect c p u ∙ same_threshold k c p u there)
          ∙ ap (λ v. t.threshold (ancestor t i k) * v) (most_at k c u (omega arith) (λ r n. rec c u there r n))

  -- the passes of the other members, as in the sum of W
  pub others_at : HaveEffect → (k : ℕ) → k ≤ top → others_passes t (ancestor t i k) (record_at t i k) + P k ≡ members t (ancestor t i k) * P k
  unfolding others_passes members top
  others_at effect k l =
      let d = ancestor t i k in
      let m = record_at t i k in
      let value = sum_same 320 (λ q. cond (is_member t d q && not (eqb q m)) (passes t q) 0) (λ q. cond (is_member t d q && not (eqb q m)) (P k) 0) (λ q b. each q (is_member t d q) refl) in
      omega (arith, sum_but_one 320 (is_member t d) m (P k) (record_small t valid i hi k l) (member_at t valid i hi k l), sum_of_value 320 (is_member t d) (P k))
    where
      each : (q : ℕ) → (b : Bool) → is_member t (ancestor t i k) q ≡ b → cond (is_member t (ancestor t i k) q && not (eqb q (record_at t i k))) (passes t q) 0 ≡ cond (is_member t (ancestor t i k) q && not (eqb q (record_at t i k))) (P k) 0
      each q true e = ap (λ v. cond (is_member t (ancestor t i k) q && not (eqb q (record_at t i k))) v 0) (passes_at effect k (ancestor t i k) (ancestor_real t valid i hi k) (own_depth k l) q e)
      each q false e = rw e refl
