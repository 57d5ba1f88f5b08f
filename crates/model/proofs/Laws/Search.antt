-- The search for a child on a path: its result, by index of the path, and its laws.
use mathlib.Core.Path.{◌≡◌, refl, sym, ap, ◌∙◌}
use mathlib.Core.Bool.{true, false, true≢false}
use mathlib.Core.Logic.{◌≢◌, ◌⊎◌, inl, inr}
use Prim.Native.Nat.{ℕ, zero, suc, ◌+◌, ◌-◌, ◌≤◌, ◌<◌}
use native.Mathlib.Omega.{arith}
use native.Mathlib.Decide.{ℕ_discrete}
use borrow.Author.Tests.{eq-eqb, ne_eqb}
use Rattle.model.specs.declared.Found.{Found}
use Rattle.model.specs.Trees.{Tree, read_word, tree_of, depth, level, on_path, child_from, child}
use Rattle.model.specs.Cases.Marked.{padded, tree, count_up, three_levels}
use Rattle.model.specs.Search.{found, search_from, search, SameChildLaw, SameUpTo, LeavesAtChild, SearchLaw, OnlySearchLaw, with_parent, BeyondLaw, UpToLaw, found_of, six_levels, SixLevelsSearched, ThreeLevelsSearched, AnyParentBeyond, AnotherParentAtTheChild}
use Rattle.model.proofs.Trees.Index.{ancestor, height}
use Rattle.model.proofs.Trees.Accepted.{Accepted, accepted, child_yes, child_facts}
use Rattle.model.proofs.Trees.Paths.{ancestor_home, height_few, ancestor_inner, ancestor_root, ancestor_parent_of, ancestor_strict, ancestor_injective, ancestor_depth, path_index, on_path_at}

-- CASES: each is computed
pub six_levels_searched : SixLevelsSearched
unfolding SixLevelsSearched found_of six_levels tree padded count_up search search_from tree_of read_word
six_levels_searched = refl

pub three_levels_searched : ThreeLevelsSearched
unfolding ThreeLevelsSearched found_of three_levels tree padded count_up search search_from tree_of read_word
three_levels_searched = refl

pub any_parent_beyond : AnyParentBeyond
unfolding AnyParentBeyond with_parent six_levels tree padded count_up search search_from tree_of read_word
any_parent_beyond = refl

pub another_parent_at_the_child : AnotherParentAtTheChild
unfolding AnotherParentAtTheChild with_parent six_levels tree padded count_up search search_from tree_of read_word
another_parent_at_the_child = refl

-- THE SAME CHILD, however many domains were read before
pub same_child_from : (k : ℕ) (t : Tree) (l c n : ℕ) → (search_from k t l c n).child ≡ child_from k t l c
unfolding search_from child_from
same_child_from zero t l c n = refl
same_child_from (suc k) t l c n =
    elim (ℕ_discrete c 0) [
      | yes e ↦ rw (eq-eqb c 0 e)
      | no e ↦
          elim (ℕ_discrete (t.parent c) l) [
            | yes f ↦ rw (ne_eqb c 0 e, eq-eqb (t.parent c) l f)
            | no f ↦ rw (ne_eqb c 0 e, ne_eqb (t.parent c) l f) (same_child_from k t l (t.parent c) (n + 1))
          ]
    ]

pub same_child_law : SameChildLaw
unfolding SameChildLaw search child
same_child_law t i l = same_child_from 6 t l (t.home i) 0

same_found : {c d m n : ℕ} → c ≡ d → m ≡ n → found c m ≡ found d n
same_found e f = rw (e, f)

module _ (t : Tree) (valid : Accepted t) (i : ℕ) (h : i < t.threads) where
  -- another tree has the same parents of the path's domains up to index k
  abbrev Agrees : (k : ℕ) → Tree → Type 0
  Agrees k u = (m : ℕ) → m ≤ k → u.parent (ancestor t i m) ≡ t.parent (ancestor t i m)

  -- ABOVE HOME. From index j, the search in such a tree ends at index k and has read the domains from j to k
  leaves :
      (u : Tree) (f j k n : ℕ) → j ≤ k → k < height t i → k < j + f → Agrees k u →
      search_from f u (ancestor t i (suc k)) (ancestor t i j) n ≡ found (ancestor t i k) (n + suc (k - j))
  unfolding search_from
  leaves u zero j k n a b c g = absurd (omega arith)
  leaves u (suc f) j k n a b c g =
      let p = ancestor_inner t valid i h j (omega arith) in
      let z = ne_eqb (ancestor t i j) 0 (omega arith) in
      let up = g j a ∙ ancestor_parent_of t valid i h j (omega arith) in
      elim (ℕ_discrete j k) [
        | yes e ↦
            rw (z, up, eq-eqb (ancestor t i (suc j)) (ancestor t i (suc k)) (ap (λ x. ancestor t i (suc x)) e)) (same_found (ap (ancestor t i) e) (omega arith))
        | no e ↦
            let q = ancestor_strict t valid i h (suc j) (suc k) (omega arith) (omega arith) in
            let rest = leaves u f (suc j) k (n + 1) (omega arith) b (omega arith) g in
            rw (z, up, ne_eqb (ancestor t i (suc j)) (ancestor t i (suc k)) (omega arith)) (rest ∙ same_found refl (omega arith))
      ]

  leaves_home :
      (u : Tree) (k : ℕ) → k < height t i → u.home i ≡ t.home i → Agrees k u →
      search u i (ancestor t i (suc k)) ≡ found (ancestor t i k) (suc k)
  unfolding search
  leaves_home u k b e g =
      rw (e, ← ancestor_home t i) (leaves u 6 0 k 0 (omega arith) b (omega (arith, height_few t valid i h)) g ∙ same_found refl (omega arith))

  leaves_here : (k : ℕ) → k < height t i → search t i (ancestor t i (suc k)) ≡ found (ancestor t i k) (suc k)
  leaves_here k b = leaves_home t k b refl (λ m a. refl)

  agrees : (k : ℕ) → k < height t i → (u : Tree) → SameUpTo (ancestor t i k) t u i → Agrees k u
  agrees k b u s m a =
      s.parent (ancestor t i m) (on_path_at t valid i h m (omega arith))
      (elim (ℕ_discrete m k) [
        | yes e ↦ omega (arith, ap (ancestor t i) e)
        | no e ↦ omega (arith, ancestor_strict t valid i h m k (omega arith) (omega arith))
      ])

  leaves_at : (k : ℕ) → k < height t i → LeavesAtChild search t i (ancestor t i (suc k))
  unfolding height
  leaves_at k b =
      let z = leaves_here k b in
      record {
        its_child = rw z (child_yes t (ancestor t i (suc k)) (ancestor t i k) (ancestor_inner t valid i h k b) (ancestor_parent_of t valid i h k b));
        there = rw z (on_path_at t valid i h k (omega arith));
        exactly = rw z (omega (arith, ancestor_depth t valid i h k (omega arith)));
        not_beyond = λ u s. leaves_home u k b s.home (agrees k b u (rw z at s)) ∙ sym z;
      }

  -- ANOTHER SEARCH that ends at the child finds the same child and has read as many domains
  only_at : (look : Tree → (thread domain : ℕ) → Found) (k : ℕ) → k < height t i → LeavesAtChild look t i (ancestor t i (suc k)) → look t i (ancestor t i (suc k)) ≡ search t i (ancestor t i (suc k))
  unfolding height
  only_at look k b s =
      let c = (look t i (ancestor t i (suc k))).child in
      let o = path_index t valid i h c s.there in
      let up = child_facts t (ancestor t i (suc k)) c s.its_child in
      let inner : o.index < height t i = elim (ℕ_discrete o.index (height t i)) [
        | yes e ↦ absurd (omega (arith, up.no_root, sym o.there ∙ ap (ancestor t i) e ∙ ancestor_root t valid i h))
        | no e ↦ omega (arith, o.within)
      ] in
      let above = sym (ancestor_parent_of t valid i h o.index inner) ∙ ap t.parent o.there ∙ up.its_child in
      let same = ancestor_injective t valid i h (suc o.index) (suc k) (omega arith) (omega arith) above in
      let here : c ≡ ancestor t i k = sym o.there ∙ ap (ancestor t i) (omega (arith, same)) in
      same_found here (omega (arith, s.exactly, ap (depth t) here, ancestor_depth t valid i h k (omega arith))) ∙ sym (leaves_here k b)

  above_at : (l : ℕ) → on_path t i l ≡ true → l ≢ t.home i → LeavesAtChild search t i l
  above_at l e n = let o = path_index t valid i h l e in go o.index o.within o.there
    where
      go : (k : ℕ) → k ≤ height t i → ancestor t i k ≡ l → LeavesAtChild search t i l
      go zero b q = absurd (n (sym q ∙ ancestor_home t i))
      go (suc k) b q = rw (← q) (leaves_at k b)

  -- NO CHILD. If the domain is no parent on the path, the search from index j ends at the root
  ends :
      (l : ℕ) → ((k : ℕ) → k < height t i → ancestor t i (suc k) ≢ l) → (f j n : ℕ) → j ≤ height t i → height t i < j + f →
      search_from f t l (ancestor t i j) n ≡ found 0 (n + suc (height t i - j))
  unfolding search_from
  ends l miss zero j n a b = absurd (omega arith)
  ends l miss (suc f) j n a b =
      elim (ℕ_discrete j (height t i)) [
        | yes e ↦
            let z = ap (ancestor t i) e ∙ ancestor_root t valid i h in
            rw (eq-eqb (ancestor t i j) 0 z) (same_found z (omega arith))
        | no e ↦
            let p = ancestor_inner t valid i h j (omega arith) in
            let rest = ends l miss f (suc j) (n + 1) (omega arith) (omega arith) in
            rw (ne_eqb (ancestor t i j) 0 (omega arith), ancestor_parent_of t valid i h j (omega arith), ne_eqb (ancestor t i (suc j)) l (miss j (omega arith))) (rest ∙ same_found refl (omega arith))
      ]

  ends_home : (l : ℕ) → ((k : ℕ) → k < height t i → ancestor t i (suc k) ≢ l) → search t i l ≡ found 0 (suc (height t i))
  unfolding search
  ends_home l miss =
      rw (← ancestor_home t i) (ends l miss 6 0 0 (omega arith) (omega (arith, height_few t valid i h)) ∙ same_found refl (omega arith))

  no_child_at : (l : ℕ) → (l ≡ t.home i) ⊎ (on_path t i l ≡ false) → search t i l ≡ found 0 (level t (t.home i))
  unfolding level height
  no_child_at l (inl e) =
      ends_home l (λ k b q. absurd (omega (arith, ancestor_strict t valid i h 0 (suc k) (omega arith) b, ancestor_home t i)))
  no_child_at l (inr e) =
      ends_home l (λ k b q. true≢false (sym (on_path_at t valid i h (suc k) b) ∙ ap (on_path t i) q ∙ e))

pub search_law : SearchLaw
unfolding SearchLaw
search_law t e i h =
    let valid = accepted t e in
    record { above_home = above_at t valid i h; no_child = no_child_at t valid i h }

pub only_search_law : OnlySearchLaw
unfolding OnlySearchLaw
only_search_law look t e i h l p n s = let valid = accepted t e in let o = path_index t valid i h l p in go valid o.index o.within o.there
  where
    go : Accepted t → (k : ℕ) → k ≤ height t i → ancestor t i k ≡ l → look t i l ≡ search t i l
    go valid zero b q = absurd (n (sym q ∙ ancestor_home t i))
    go valid (suc k) b q = rw (← q) (only_at t valid i h look k b (rw q s))

-- WHERE A TREE MAY DIFFER
pub beyond_law : BeyondLaw
unfolding BeyondLaw with_parent
beyond_law t i c d p b = record { home = refl; parent = λ e on far. rw (ne_eqb e d (omega arith)) }

pub up_to_law : UpToLaw
unfolding UpToLaw with_parent
up_to_law t i c d p on near s = rw (eq-eqb d d refl) at (s.parent d on near)
