-- In an even tree W is the number of other threads: the threads of the tree, counted level by level, and the sums of W.
use mathlib.Core.Path.{◌≡◌, refl, sym, ap, ◌∙◌}
use mathlib.Core.Bool.{Bool, true, false, cond, true≢false}
use Prim.Native.Nat.{ℕ, zero, suc, ◌+◌, ◌*◌, ◌-◌, ◌/◌, ◌≤◌, ◌<◌}
use native.Mathlib.Omega.{arith}
use native.Mathlib.Nat.{div-mul_cancel, div-lt_iff_lt-mul, le-div_iff_mul-le, eq_of_mul-eq-mul_left}
use lib.Dec.{ltb}
use lib.ListN.{length}
use borrow.Author.Tests.{ltb-false}
use Rattle.model.specs.Scans.{filter_below}
use Rattle.model.specs.Trees.{Tree, is_child, is_leaf, depth, on_path, is_member}
use Rattle.model.specs.Refusals.{tree_refusal}
use Rattle.model.proofs.Tests.{by_test, any_found, false_by}
use Rattle.model.proofs.Trees.Index.{ancestor, height, record_at}
use Rattle.model.proofs.Trees.Accepted.{Accepted, accepted, child_yes, child_facts}
use Rattle.model.proofs.Trees.Paths.{depth_child, depth_zero, ancestor_home, ancestor_real, ancestor_depth, ancestor_inner, ancestor_parent_of, ancestor_root, path_index, on_path_home, on_path_root}
use Rattle.model.proofs.Trees.Records.{Member, a_thread, a_domain, member_facts, member_domain, member_thread, record_own}
use Rattle.claims.specs.Tenures.Laws.{children_sum}
use Rattle.claims.proofs.tenures.Children.{one_child}
use Rattle.bounds.specs.StarvationFreedom.Bounds.{members}
use Rattle.bounds.specs.LongestWait.Bounds.{sum_below, effective_threshold, others_passes, tenures_for_all, member_wait, wait_bound}
use Rattle.bounds.specs.LongestWait.Laws.{Even, EvenTreeLaw}
use Rattle.claims.proofs.Sums.{sum_same, sum_zero, sum_each, sum_swaps, sum_stretches, sum_of_value}
use Rattle.bounds.proofs.longest_wait.Waits.{above_wait, above_root, wait_at, above_next}
use Rattle.bounds.proofs.longest_wait.Even.{top, same_home, home_depth, thread_under, deep, same_many, has_members, P, N, others_at}

-- THE SUM AT THE ROOT, and one level lower
root_sum : (W p M n T : ℕ) → W + p ≡ M * p → M * n ≡ T → (W + p) * n ≡ T * p
root_sum W p M n T a b = rw (a, ← b) (omega arith)

lower_sum : (W w o p n M v q T : ℕ) → 0 < v → q * v ≡ M → o + p ≡ M * p → W ≡ o + q * w → (w + v * p) * (M * n) ≡ T * (v * p) → (W + p) * n ≡ T * p
lower_sum W w o p n M v q T h a b c d =
    let all : W + p ≡ q * (w + v * p) = (let x : W + p ≡ M * p + q * w = omega arith in x ∙ rw (← a) (omega arith)) in
    let wide : v * ((W + p) * n) ≡ (w + v * p) * (M * n) = rw (all, ← a) (omega arith) in
    eq_of_mul-eq-mul_left v h ((W + p) * n) (T * p) (wide ∙ d ∙ omega arith)

module _ (t : Tree) (ok : (tree_refusal t).number ≡ 0) (even : Even t) (i : ℕ) (hi : i < t.threads) where
  valid : Accepted t
  valid = accepted t ok

  -- thresholds that divide are effective
  effective_same : (d : ℕ) → 0 < d → d < t.domains → effective_threshold t d ≡ t.threshold d
  unfolding effective_threshold
  effective_same d p h =
      by_test (λ v. v ≡ t.threshold d) (ltb 1 (members t d)) (t.threshold d) 1 (λ _. refl)
      (λ e.
      let n : members t d ≡ 1 = let x = has_members t ok even.levels i hi d h in let y = ltb-false 1 (members t d) e in omega arith in
      let m = members t d / t.threshold d in
      let z : m * t.threshold d ≡ members t d = div-mul_cancel (t.threshold d) (even.divides d p h) in
      one_factor m (t.threshold d) (z ∙ n))
    where
      one_factor : (a b : ℕ) → a * b ≡ 1 → 1 ≡ b
      one_factor zero b e = absurd (omega arith)
      one_factor (suc a) zero e = absurd (omega arith)
      one_factor (suc a) (suc zero) e = refl
      one_factor (suc a) (suc (suc b)) e = absurd (omega arith)

  abbrev H : ℕ
  H = top t ok even.levels i hi

  abbrev one_if : Bool → ℕ
  one_if b = cond b 1 0

  -- THE THREADS under a domain
  abbrev threads_under : (domain : ℕ) → ℕ
  threads_under d = sum_below t.threads (λ j. one_if (on_path t j d))

  -- the index at which a thread's path meets a domain
  index_there : (j d : ℕ) (h : j < t.threads) → on_path t j d ≡ true → (k : ℕ) × (k ≤ height t j) × (ancestor t j k ≡ d) × (depth t d + k ≡ H)
  index_there j d h e =
      let y = path_index t valid j h d e in
      let z = ancestor_depth t valid j h y.index y.within in
      let w : depth t (ancestor t j y.index) ≡ depth t d = ap (depth t) y.there in
      (y.index, y.within, y.there, omega (arith, same_home t ok even.levels i hi j h))

  -- AT THE LOWEST LEVEL the members are the threads
  module _ (d : ℕ) (h : d < t.domains) (lowest : depth t d ≡ H) where
    only_threads : {q : ℕ} → Member t d q → q < t.threads
    only_threads (a_thread j u z) = u
    only_threads (a_domain c p u z) =
        absurd (let x = depth_child t valid c p u in let y : depth t (t.parent c) ≡ depth t d = ap (depth t) z in let w = deep t ok even.levels i hi c u in omega arith)

    member_home : {q : ℕ} → Member t d q → q < t.threads → on_path t q d ≡ true
    member_home (a_thread j u z) b = rw (← z) (on_path_home t valid j u)
    member_home (a_domain c p u z) b = absurd (omega (arith, valid.few_threads))

    same_test : (j : ℕ) → j < t.threads → is_member t d j ≡ on_path t j d
    same_test j u = by (on_path t j d) refl
      where
        by : (b : Bool) → on_path t j d ≡ b → is_member t d j ≡ b
        by true e =
            let y = index_there j d u e in
            let z : y.0 ≡ 0 = let w = y.3 in omega arith in
            member_thread t valid d j u (sym (ancestor_home t j) ∙ ap (ancestor t j) (sym z) ∙ y.2)
        by false e = false_by (is_member t d j) (λ m. true≢false (sym (member_home (member_facts t d j m) u) ∙ e))

    count_lowest : threads_under d ≡ members t d
    unfolding members
    count_lowest =
        let m = 320 - t.threads in
        let few = valid.few_threads in
        let long : t.threads + m ≡ 320 = omega arith in
        let all : sum_below (t.threads + m) (λ r. one_if (is_member t d r)) ≡ length (filter_below 320 (is_member t d)) * 1 = rw long (sum_of_value 320 (is_member t d) 1) in
        let split = sum_stretches t.threads m (λ r. one_if (is_member t d r)) in
        let none_after = sum_zero m (λ a. one_if (is_member t d (t.threads + a))) (λ a b. let z = false_by (is_member t d (t.threads + a)) (λ e. let w = only_threads (member_facts t d (t.threads + a) e) in omega arith) in rw z refl) in
        let same = sum_same t.threads (λ j. one_if (on_path t j d)) (λ j. one_if (is_member t d j)) (λ j b. ap one_if (sym (same_test j b))) in
        omega arith

  -- ABOVE IT they are the child domains
  module _ (k d : ℕ) (h : d < t.domains) (above : depth t d + suc k ≡ H) where
    no_thread : {q : ℕ} → Member t d q → 256 ≤ q
    no_thread (a_thread j u z) =
        absurd (let x = same_home t ok even.levels i hi j u in let y : depth t (t.home j) ≡ depth t d = ap (depth t) z in let w = home_depth t ok even.levels i hi j in omega arith)
    no_thread (a_domain c p u z) = omega arith

    child_there : {q : ℕ} → Member t d q → (c : ℕ) → q ≡ 256 + c → (is_child t d c ≡ true) × (c < t.domains)
    child_there (a_thread j u z) c e = absurd (omega (arith, valid.few_threads))
    child_there (a_domain b p u z) c e = let same : b ≡ c = omega arith in rw (← same) (child_yes t d b p z, u)

    inner : is_leaf t d ≡ false
    unfolding is_leaf
    inner =
        let x = thread_under t ok even.levels i hi d h in
        let y = index_there x.thread d x.real x.on in
        let one_lower : y.0 ≡ suc k = let w = y.3 in omega arith in
        let below : k < height t x.thread = let w = y.1 in omega arith in
        let c = ancestor t x.thread k in
        let its_child : t.parent c ≡ d = ancestor_parent_of t valid x.thread x.real k below ∙ ap (ancestor t x.thread) (sym one_lower) ∙ y.2 in
        let found = any_found t.domains (is_child t d) c (ancestor_real t valid x.thread x.real k) (child_yes t d c (ancestor_inner t valid x.thread x.real k below) its_child) in
        rw found refl

    children_count : members t d ≡ length (filter_below t.domains (is_child t d))
    unfolding members
    children_count =
        let f : ℕ → ℕ = λ r. one_if (is_member t d r) in
        let few = valid.few_domains in
        let m = 64 - t.domains in
        let all = sum_of_value 320 (is_member t d) 1 in
        let split = sum_stretches 256 64 f in
        let no_threads = sum_zero 256 f (λ r b. let z = false_by (is_member t d r) (λ e. let w = no_thread (member_facts t d r e) in omega arith) in rw z refl) in
        let long : t.domains + m ≡ 64 = omega arith in
        let split_domains : sum_below 64 (λ c. f (256 + c)) ≡ sum_below t.domains (λ c. f (256 + c)) + sum_below m (λ c. f (256 + (t.domains + c))) = ap (λ n. sum_below n (λ c. f (256 + c))) (sym long) ∙ sum_stretches t.domains m (λ c. f (256 + c)) in
        let none_after = sum_zero m (λ c. f (256 + (t.domains + c))) (λ c b. let z = false_by (is_member t d (256 + (t.domains + c))) (λ e. let w = (child_there (member_facts t d (256 + (t.domains + c)) e) (t.domains + c) refl).1 in omega arith) in rw z refl) in
        let same = sum_same t.domains (λ c. f (256 + c)) (λ c. one_if (is_child t d c)) (λ c b. ap one_if (same_child c b)) in
        let children = sum_of_value t.domains (is_child t d) 1 in
        omega arith
      where
        same_child : (c : ℕ) → c < t.domains → is_member t d (256 + c) ≡ is_child t d c
        same_child c u = by (is_child t d c) refl
          where
            by : (b : Bool) → is_child t d c ≡ b → is_member t d (256 + c) ≡ b
            by true e = let f = child_facts t d c e in member_domain t d c f.no_root u f.its_child
            by false e = false_by (is_member t d (256 + c)) (λ m. true≢false (sym (child_there (member_facts t d (256 + c) m) c refl).0 ∙ e))

    count_higher : (n : ℕ) → ((c : ℕ) → is_child t d c ≡ true → c < t.domains → threads_under c ≡ n) → threads_under d ≡ members t d * n
    unfolding children_sum
    count_higher n each =
        let by_child = sum_same t.threads (λ j. one_if (on_path t j d)) (λ j. sum_below t.domains (λ c. cond (is_child t d c) (one_if (on_path t j c)) 0)) (λ j b. one_child t valid j b d inner) in
        let swapped = sum_swaps t.threads t.domains (λ j c. cond (is_child t d c) (one_if (on_path t j c)) 0) in
        let same = sum_same t.domains (λ c. sum_below t.threads (λ j. cond (is_child t d c) (one_if (on_path t j c)) 0)) (λ c. cond (is_child t d c) n 0) (λ c b. of_child c b (is_child t d c) refl) in
        let value = sum_of_value t.domains (is_child t d) n in
        let product : members t d * n ≡ length (filter_below t.domains (is_child t d)) * n = ap (λ m. m * n) children_count in
        omega arith
      where
        of_child : (c : ℕ) → c < t.domains → (b : Bool) → is_child t d c ≡ b → sum_below t.threads (λ j. cond (is_child t d c) (one_if (on_path t j c)) 0) ≡ cond (is_child t d c) n 0
        of_child c u true e = rw e (each c e u)
        of_child c u false e = rw e (sum_zero t.threads (λ j. 0) (λ j b. refl))

  -- the threads under each domain of a level
  count_at : (k d : ℕ) → d < t.domains → depth t d + k ≡ H → threads_under d ≡ N t ok even.levels i hi (suc k)
  unfolding N
  count_at zero d h e = let x = count_lowest d h (omega arith) in let y = same_many t ok even.levels i hi 0 d h e in omega arith
  count_at (suc k) d h e =
      let x = count_higher k d h e (N t ok even.levels i hi (suc k)) (λ c m u. count_at k c u (lower c m u)) in
      x ∙ ap (λ m. m * N t ok even.levels i hi (suc k)) (same_many t ok even.levels i hi (suc k) d h e)
    where
      lower : (c : ℕ) → is_child t d c ≡ true → c < t.domains → depth t c + k ≡ H
      lower c m u =
          let f = child_facts t d c m in
          let x = depth_child t valid c f.no_root u in
          let y : depth t (t.parent c) ≡ depth t d = ap (depth t) f.its_child in
          omega arith

  all_threads : N t ok even.levels i hi (suc H) ≡ t.threads
  all_threads =
      let x = count_at H 0 valid.some_domain (let z = depth_zero t valid 0 refl in omega arith) in
      let y = sum_each t.threads (λ j. one_if (on_path t j 0)) (λ j b. let z = on_path_root t valid j b in rw z refl) in
      omega arith

  -- THE SUMS OF W, from the root down
  abbrev W : ℕ → ℕ
  W k = member_wait t (ancestor t i k) (record_at t i k)

  abbrev p : ℕ → ℕ
  p = P t ok even.levels i hi

  abbrev n : ℕ → ℕ
  n = N t ok even.levels i hi

  -- if the threshold divides, there are as many tenures as the quotient
  exact_quotient : (m v q : ℕ) → 0 < v → q * v ≡ m → (m + v - 1) / v ≡ q
  exact_quotient m v q h e =
      let low : q ≤ (m + v - 1) / v = (le-div_iff_mul-le h).1 (omega arith) in
      let high : (m + v - 1) / v < suc q = (div-lt_iff_lt-mul h).1 (omega arith) in
      omega arith

  sums : (m k : ℕ) → k + m ≡ H → (W k + p k) * n k ≡ t.threads * p k
  unfolding N P top tenures_for_all
  sums zero k e =
      let z : k ≡ H = omega arith in
      let root : ancestor t i k ≡ 0 = ap (ancestor t i) z ∙ ancestor_root t valid i hi in
      let w = wait_at t valid (ancestor t i k) (record_at t i k) (ancestor_real t valid i hi k) in
      let none : tenures_for_all t (ancestor t i k) * above_wait t (ancestor t i k) ≡ 0 = let a = above_root t (ancestor t i k) root in rw a (omega arith) in
      let o = others_at t ok even.levels i hi effective_same k (omega arith) in
      let c = all_threads in
      let c' : members t (ancestor t i k) * n k ≡ t.threads = rw (← z) at c in
      let both : W k + p k ≡ members t (ancestor t i k) * p k = omega arith in
      root_sum (W k) (p k) (members t (ancestor t i k)) (n k) t.threads both c'
  sums (suc m) k e =
      let d = ancestor t i k in
      let below : k < height t i = omega arith in
      let inner_there = ancestor_inner t valid i hi k below in
      let real = ancestor_real t valid i hi k in
      let v = t.threshold d in
      let some = valid.threshold_some d inner_there real in
      let divides = div-mul_cancel v (even.divides d inner_there real) in
      let q = members t d / v in
      let tenures : tenures_for_all t d ≡ q = exact_quotient (members t d) v q some divides in
      let w = wait_at t valid d (record_at t i k) real in
      let up = above_next t valid i hi k below in
      let w' : W k ≡ others_passes t d (record_at t i k) + q * W (suc k) = w ∙ ap (λ x. others_passes t d (record_at t i k) + x) (ap (λ x. x * above_wait t d) tenures ∙ ap (λ x. q * x) up) in
      lower_sum (W k) (W (suc k)) (others_passes t d (record_at t i k)) (p k) (n k) (members t d) v q t.threads some divides (others_at t ok even.levels i hi effective_same k (omega arith)) w' (sums m (suc k) (omega arith))

  even_wait : wait_bound t i + 1 ≡ t.threads
  unfolding N P wait_bound
  even_wait =
      let x = sums H 0 (omega arith) in
      let z : W 0 ≡ member_wait t (t.home i) i = rw (ancestor_home t i, record_own t i) refl in
      omega arith

pub even_tree_law : EvenTreeLaw
unfolding EvenTreeLaw
even_tree_law t ok even i h = even_wait t ok even i h
