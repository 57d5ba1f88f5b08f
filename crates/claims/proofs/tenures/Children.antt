-- A domain's entries are the sum of its children's entries: a thread under a domain with children is under exactly one of them.
use mathlib.Core.Path.{◌≡◌, refl, sym, ap, ◌∙◌}
use mathlib.Core.Bool.{Bool, true, false, cond, true≢false}
use mathlib.Core.List.{List, [], ◌∷◌}
use mathlib.Core.Logic.{◌≢◌}
use Prim.Native.Nat.{ℕ, zero, suc, ◌+◌, ◌≤◌, ◌<◌}
use native.Mathlib.Omega.{arith}
use lib.Dec.{eqb}
use borrow.Author.Tests.{ne_eqb}
use Rattle.model.specs.declared.State.{State}
use Rattle.model.specs.Trees.{Tree, is_child, is_leaf, on_path}
use Rattle.model.specs.Steps.{is_entry, Step, step}
use Rattle.model.specs.Runs.{steps, how_many, entries_under, counts_of, run_of, run}
use Rattle.model.specs.Tenures.{domain_entries}
use Rattle.model.specs.Laws.{AllThreads}
use Rattle.model.proofs.Trees.Accepted.{Accepted, accepted, child_yes, child_facts}
use Rattle.model.proofs.Trees.Index.{ancestor, height}
use Rattle.model.proofs.Trees.Paths.{ancestor_home, ancestor_parent_of, ancestor_real, ancestor_inner, ancestor_not_root, ancestor_injective, path_index, on_path_at, on_path_root, on_path_parent}
use Rattle.model.proofs.Laws.Empty.{under_domain}
use Rattle.claims.proofs.Sums.{sum_same, sum_zero, sum_adds, sum_single}
use Rattle.claims.proofs.Claims.Reached.{AllReal}
use Rattle.claims.specs.Tenures.Laws.{children_sum, ChildrenLaw}

either_none : (b : Bool) → ◌≡◌ {A = ℕ} (cond b 0 0) 0
either_none true = refl
either_none false = refl

-- ONE THREAD
abbrev one_if : Bool → ℕ
one_if b = cond b 1 0

module _ (t : Tree) (valid : Accepted t) (i : ℕ) (h : i < t.threads) (d : ℕ) (inner : is_leaf t d ≡ false) where
  -- the home is a leaf, so it is not the domain
  not_home : d ≢ t.home i
  not_home e = true≢false (sym (valid.home_leaf i h) ∙ ap (is_leaf t) (sym e) ∙ inner)

  -- if a domain is not on the path, neither are its children
  off : on_path t i d ≡ false → (c : ℕ) → c < t.domains → cond (is_child t d c) (one_if (on_path t i c)) 0 ≡ 0
  off e c b = by (is_child t d c) (on_path t i c) refl refl
    where
      by : (x y : Bool) → is_child t d c ≡ x → on_path t i c ≡ y → cond x (one_if y) 0 ≡ 0
      by false y p q = refl
      by true false p q = refl
      by true true p q =
          let f = child_facts t d c p in
          absurd (true≢false (sym (on_path_parent t valid i h c f.no_root q) ∙ ap (on_path t i) f.its_child ∙ e))

  -- exactly one child of a domain on the path is on the path
  on : (k : ℕ) → k ≤ height t i → ancestor t i k ≡ d → children_sum t d (λ c. one_if (on_path t i c)) ≡ 1
  unfolding children_sum
  on zero l e = absurd (not_home (sym e ∙ ancestor_home t i))
  on (suc k) l e =
      let a = ancestor t i k in
      let here : is_child t d a ≡ true = child_yes t d a (ancestor_inner t valid i h k l) (ancestor_parent_of t valid i h k l ∙ e) in
      sum_single t.domains _ a (ancestor_real t valid i h k) (λ c b n. others c b n (is_child t d c) (on_path t i c) refl refl)
      ∙ rw (here, on_path_at t valid i h k (omega arith))
    where
      others : (c : ℕ) → c < t.domains → c ≢ ancestor t i k → (x y : Bool) → is_child t d c ≡ x → on_path t i c ≡ y → cond x (one_if y) 0 ≡ 0
      others c b n false y p q = refl
      others c b n true false p q = refl
      others c b n true true p q =
          let f = child_facts t d c p in
          let o = path_index t valid i h c q in
          let m = ancestor_not_root t valid i h o.index o.within (omega (arith, o.there, f.no_root)) in
          let up : ancestor t i (suc o.index) ≡ ancestor t i (suc k) = sym (ancestor_parent_of t valid i h o.index m) ∙ ap t.parent o.there ∙ f.its_child ∙ sym e in
          let same = ancestor_injective t valid i h (suc o.index) (suc k) m l up in
          let z : o.index ≡ k = omega arith in
          absurd (n (sym o.there ∙ ap (ancestor t i) z))

  pub one_child : one_if (on_path t i d) ≡ children_sum t d (λ c. one_if (on_path t i c))
  unfolding children_sum
  one_child = by (on_path t i d) refl
    where
      by : (b : Bool) → on_path t i d ≡ b → one_if b ≡ children_sum t d (λ c. one_if (on_path t i c))
      by true e = let o = path_index t valid i h d e in sym (on o.index o.within o.there)
      by false e = sym (sum_zero t.domains _ (off e))

-- A LIST OF STEPS. Every step is one of a thread of the tree
real_steps : (t : Tree) (is : List ℕ) (s : State) → AllThreads t is → AllReal t (steps t is s)
unfolding AllReal AllThreads steps step
real_steps t [] s all = tt
real_steps t (i ∷ is) s all = (all.0, real_steps t is (step t i s).state all.1)

-- what one step adds to the entries of each child
abbrev counted : Tree → Step → ℕ → ℕ
counted t x d = cond (is_entry x.kind) (one_if (on_path t x.thread d)) 0

one_step : (t : Tree) (d : ℕ) (x : Step) (b : Bool) → children_sum t d (λ c. one_if (on_path t x.thread c)) ≡ one_if (on_path t x.thread d) →
    children_sum t d (λ c. cond b (one_if (on_path t x.thread c)) 0) ≡ cond b (one_if (on_path t x.thread d)) 0
unfolding children_sum
one_step t d x true e = e
one_step t d x false e = sum_zero t.domains _ (λ c h. either_none (is_child t d c))

-- the entries of a domain, by paths
path_entries : Tree → (d : ℕ) → List Step → ℕ
path_entries t d [] = 0
path_entries t d (x ∷ xs) = counted t x d + path_entries t d xs

entries_by_paths : (t : Tree) (d : ℕ) (xs : List Step) → entries_under t (256 + d) xs ≡ path_entries t d xs
unfolding entries_under path_entries
entries_by_paths t d [] = refl
entries_by_paths t d (x ∷ xs) = rw (under_domain t d x.thread, entries_by_paths t d xs)

children_add : (t : Tree) (d : ℕ) (f g : ℕ → ℕ) → children_sum t d (λ c. f c + g c) ≡ children_sum t d f + children_sum t d g
unfolding children_sum
children_add t d f g = sum_same t.domains _ _ (λ c h. by (is_child t d c) (f c) (g c)) ∙ sum_adds t.domains _ _
  where
    by : (b : Bool) (m n : ℕ) → cond b (m + n) 0 ≡ cond b m 0 + cond b n 0
    by true m n = refl
    by false m n = refl

children_none : (t : Tree) (d : ℕ) → children_sum t d (λ c. 0) ≡ 0
unfolding children_sum
children_none t d = sum_zero t.domains _ (λ c h. either_none (is_child t d c))

module _ (t : Tree) (valid : Accepted t) (d : ℕ) (inner : is_leaf t d ≡ false) where
  along : (xs : List Step) → AllReal t xs → path_entries t d xs ≡ children_sum t d (λ c. path_entries t c xs)
  unfolding path_entries AllReal
  along [] r = sym (children_none t d)
  along (x ∷ xs) r =
      let one = one_step t d x (is_entry x.kind) (sym (one_child t valid x.thread r.0 d inner)) in
      let rest = along xs r.1 in
      sym (children_add t d (counted t x) (λ c. path_entries t c xs) ∙ rw (one, ← rest) refl)

-- a child is not the root, so its entries are counted
child_entries : (t : Tree) (d : ℕ) (xs : List Step) → children_sum t d (λ c. domain_entries t c xs) ≡ children_sum t d (λ c. path_entries t c xs)
unfolding children_sum domain_entries
child_entries t d xs = sum_same t.domains _ _ (λ c h. by c (is_child t d c) refl)
  where
    by : (c : ℕ) (b : Bool) → is_child t d c ≡ b → cond b (cond (eqb c 0) 0 (entries_under t (256 + c) xs)) 0 ≡ cond b (path_entries t c xs) 0
    by c false e = refl
    by c true e = let f = child_facts t d c e in rw (ne_eqb c 0 (omega (arith, f.no_root)), entries_by_paths t c xs)

-- at the root every entry is counted
root_entries : (t : Tree) (valid : Accepted t) (xs : List Step) → AllReal t xs → how_many is_entry xs ≡ path_entries t 0 xs
unfolding how_many path_entries AllReal
root_entries t valid [] r = refl
root_entries t valid (x ∷ xs) r = rw (on_path_root t valid x.thread r.0, root_entries t valid xs r.1)

pub children_law : ChildrenLaw
unfolding ChildrenLaw run run_of counts_of domain_entries
children_law t ok is s all =
    let valid = accepted t ok in
    let real = real_steps t is s all in
    record {
      inner = λ d n leaf. rw (ne_eqb d 0 n, entries_by_paths t d (steps t is s)) (along t valid d leaf (steps t is s) real ∙ sym (child_entries t d (steps t is s)));
      root = λ leaf. root_entries t valid (steps t is s) real ∙ along t valid 0 leaf (steps t is s) real ∙ sym (child_entries t 0 (steps t is s));
    }
