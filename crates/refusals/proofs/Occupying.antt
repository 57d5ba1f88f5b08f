-- THREADS UNDER DOMAINS: a loop from the highest domain down marks those on some thread's path; if all leaves are homes, that is every domain.
use mathlib.Core.Path.{◌≡◌, refl, sym, ap, ◌∙◌}
use mathlib.Core.Bool.{Bool, true, false, not, true≢false}
use mathlib.Core.List.{List}
use Prim.Native.Nat.{ℕ, zero, suc, ◌+◌, ◌-◌, ◌≤◌, ◌<◌}
use native.Mathlib.Omega.{arith}
use native.Mathlib.Decide.{ℕ_discrete}
use lib.Dec.{eqb}
use lib.ListN.{get_or, set, length, length-set}
use lib.Seq.{get_or-set_same, get_or-set_other}
use borrow.Author.Tests.{eqb-true, eq-eqb, not-false, lt-leb}
use Rattle.model.specs.declared.TreeWords.{TreeWords}
use Rattle.model.specs.Trees.{Tree, tree_of, is_child, is_leaf, on_path}
use Rattle.model.specs.Refusals.{accepted, first_refusal, tree_refusal, bad_home, empty_domain}
use Rattle.model.specs.Laws.{HasThread}
use Rattle.model.proofs.Tests.{any_found, any_one}
use Rattle.model.proofs.Trees.Index.{ancestor}
use Rattle.model.proofs.Trees.Accepted.{Accepted, child_facts}
use Rattle.model.proofs.Trees.Paths.{above_root, above_parent, ancestor_suc, ancestor_home, path_index, on_path_home, on_path_parent}
use Rattle.model.proofs.Laws.Empty.{under_domain, one_there, none_there}
use Rattle.model.proofs.Trees.Reading.{read_in}
use Rattle.refusals.specs.Arrays.{is_home_in, Lower, RealHomes, MarkedHomes, HomesAreLeaves, PassedBy, Occupied, shape_tests}
use Rattle.refusals.specs.Lowest.{Lowest}
use Rattle.refusals.proofs.Reading.{parent_of, home_of}
use Rattle.refusals.proofs.Homes.{leaf_test}
use Rattle.refusals.proofs.TreeTests.{facts, tree_passes}
use Rattle.refusals.proofs.Domains.{none_bad}

-- a mark stays when another is made
set_true : (bs : List Bool) (p x : ℕ) → p < length bs → get_or bs x false ≡ true → get_or (set bs p true) x false ≡ true
set_true bs p x l e =
    elim (ℕ_discrete x p) [ yes z ↦ rw z (get_or-set_same bs p true false l) | no z ↦ get_or-set_other bs p x true false z ∙ e ]

module _ (w : TreeWords) where
  abbrev n : ℕ
  n = w.domains

  abbrev m : ℕ
  m = w.threads

  abbrev ps : List ℕ
  ps = w.parents

  abbrev hs : List ℕ
  hs = w.homes

  abbrev t : Tree
  t = tree_of w

  -- what is marked once the domains numbered above d are done: homes, and the parents of those of them that are on a path
  pub record MarkedDown (bs : List Bool) (d : ℕ) : Type 0 where
    pub room : length bs ≡ 256
    pub homes : (i : ℕ) → i < m → get_or bs (ancestor t i 0) false ≡ true
    pub parents : (i k : ℕ) → i < m → d < ancestor t i k → get_or bs (ancestor t i (suc k)) false ≡ true
    pub only : (x : ℕ) → x < n → get_or bs x false ≡ true → PassedBy t x

  module _ (few : n ≤ 64) (some : 0 < n) (low : Lower n ps) (real : RealHomes n m hs) where
    -- paths stay in the tree, and their numbers fall
    path_real : (i k : ℕ) → i < m → ancestor t i k < n
    path_real i zero l = rw (ancestor_home, home_of w i l) (real.real i l)
    path_real i (suc k) l =
        let r = path_real i k l in
        elim (ℕ_discrete (ancestor t i k) 0) [
          | yes e ↦ rw (ancestor_suc, above_root t (ancestor t i k) e) some
          | no e ↦
              let p = low.lower (ancestor t i k) (omega arith) r in
              rw (ancestor_suc, above_parent t (ancestor t i k) (omega arith), parent_of w (ancestor t i k) (omega arith) r) (omega arith)
        ]

    next_up : (i k : ℕ) → i < m → 0 < ancestor t i k → ancestor t i (suc k) ≡ get_or ps (ancestor t i k) 0
    next_up i k l p =
        ancestor_suc t i k ∙ above_parent t (ancestor t i k) p ∙ parent_of w (ancestor t i k) p (path_real i k l)

    path_falls : (i k : ℕ) → i < m → 0 < ancestor t i k → ancestor t i (suc k) < ancestor t i k
    path_falls i k l p = rw (next_up i k l p) (low.lower (ancestor t i k) p (path_real i k l))

    pub down_first : (bs : List Bool) (d : ℕ) → d + 1 ≡ n → MarkedHomes m hs bs → MarkedDown bs d
    unfolding tree_of
    down_first bs d e H =
        record {
          room = H.room;
          homes = λ i l.
              let h = home_of w i l in
              let r = real.real i l in
              rw (ancestor_home, h) (H.home (get_or hs i 0) (omega arith) ∙ any_found m (λ j. eqb (get_or hs j 0) (get_or hs i 0)) i l (same_test (get_or hs i 0)));
          parents = λ i k l g. let r = path_real i k l in absurd (omega arith);
          only = λ x l f.
              let there = any_one m (λ j. eqb (get_or hs j 0) x) (sym (H.home x (omega arith)) ∙ f) in
              record {
                thread = there.index;
                index = 0;
                real = there.below;
                there = ancestor_home t there.index ∙ home_of w there.index there.below ∙ eqb-true _ _ there.holds;
              };
        }
      where
        same_test : (x : ℕ) → eqb x x ≡ true
        same_test x = eq-eqb x x refl

    -- a domain on a path is marked before its turn
    marked_here : (bs : List Bool) (d : ℕ) → MarkedDown bs d → 0 < d → (i k : ℕ) → i < m → ancestor t i k ≡ d → get_or bs d false ≡ true
    marked_here bs d C p i zero l e = rw (← e) (C.homes i l)
    marked_here bs d C p i (suc k) l e =
        elim (ℕ_discrete (ancestor t i k) 0) [
          | yes z ↦ let y = ancestor_suc t i k ∙ above_root t (ancestor t i k) z in absurd (omega arith)
          | no z ↦ let f = path_falls i k l (omega arith) in rw (← e) (C.parents i k l (omega arith))
        ]

    pub down_marked :
        (bs : List Bool) (d : ℕ) → MarkedDown bs d → 0 < d → d < n → get_or bs d false ≡ true → MarkedDown (set bs (get_or ps d 0) true) (d - 1)
    unfolding tree_of
    down_marked bs d C p s f =
        let q = low.lower d p s in
        let within : get_or ps d 0 < length bs = omega (arith, C.room) in
        record {
          room = length-set bs (get_or ps d 0) true ∙ C.room;
          homes = λ i l. set_true bs (get_or ps d 0) (ancestor t i 0) within (C.homes i l);
          parents = λ i k l g.
              elim (ℕ_discrete (ancestor t i k) d) [
                | yes e ↦
                    let up = next_up i k l (omega arith) in
                    rw (up, e) (get_or-set_same bs (get_or ps d 0) true false within)
                | no e ↦ set_true bs (get_or ps d 0) (ancestor t i (suc k)) within (C.parents i k l (omega arith))
              ];
          only = λ x l g.
              elim (ℕ_discrete x (get_or ps d 0)) [
                | yes e ↦
                    let o = C.only d s f in
                    record {
                      thread = o.thread;
                      index = suc o.index;
                      real = o.real;
                      there = next_up o.thread o.index o.real (omega (arith, o.there)) ∙ ap (λ y. get_or ps y 0) o.there ∙ sym e;
                    }
                | no e ↦ C.only x l (sym (get_or-set_other bs (get_or ps d 0) x true false e) ∙ g)
              ];
        }

    pub down_empty : (bs : List Bool) (d : ℕ) → MarkedDown bs d → 0 < d → get_or bs d false ≡ false → MarkedDown bs (d - 1)
    down_empty bs d C p f =
        record {
          room = C.room;
          homes = C.homes;
          parents = λ i k l g.
              elim (ℕ_discrete (ancestor t i k) d) [
                | yes e ↦ absurd (true≢false (sym (marked_here bs d C p i k l e) ∙ f))
                | no e ↦ C.parents i k l (omega arith)
              ];
          only = C.only;
        }

    pub down_all : (bs : List Bool) (d : ℕ) → MarkedDown bs d → d ≡ 0 → Occupied t bs
    unfolding tree_of
    down_all bs d C e = record { marked = all; only = λ x l f. C.only x l f }
      where
        all : (i k : ℕ) → i < m → get_or bs (ancestor t i k) false ≡ true
        all i zero l = C.homes i l
        all i (suc k) l =
            elim (ℕ_discrete (ancestor t i k) 0) [
              | yes z ↦ rw (ancestor_suc t i k ∙ above_root t (ancestor t i k) z ∙ sym z) (all i k l)
              | no z ↦ C.parents i k l (omega arith)
            ]

-- THE TABLE AND THE TEST
module _ (w : TreeWords) (valid : Accepted (tree_of w)) where
  on_path_up : (i k : ℕ) → i < w.threads → on_path (tree_of w) i (ancestor (tree_of w) i k) ≡ true
  unfolding tree_of
  on_path_up i zero l = rw ancestor_home (on_path_home (tree_of w) valid i l)
  on_path_up i (suc k) l =
      let here = on_path_up i k l in
      elim (ℕ_discrete (ancestor (tree_of w) i k) 0) [
        | yes z ↦ rw (ancestor_suc (tree_of w) i k ∙ above_root (tree_of w) _ z ∙ sym z) here
        | no z ↦ rw (ancestor_suc (tree_of w) i k ∙ above_parent (tree_of w) _ (omega arith)) (on_path_parent (tree_of w) valid i l _ (omega arith) here)
      ]

  pub occupied_is :
      (bs : List Bool) → Occupied (tree_of w) bs → (d : ℕ) → d < w.domains →
      not (get_or bs d false) ≡ empty_domain (tree_of w) d
  unfolding tree_of
  occupied_is bs owned d l = by (get_or bs d false) refl
    where
      by : (b : Bool) → get_or bs d false ≡ b → not b ≡ empty_domain (tree_of w) d
      by true e =
          let o = owned.only d l e in
          let there = o.there in
          let up = ap (λ x. on_path (tree_of w) o.thread x) (sym there) ∙ on_path_up o.thread o.index o.real in
          sym (one_there (tree_of w) d (record { thread = o.thread; real = o.real; below = under_domain (tree_of w) d o.thread ∙ up }))
      by false e =
          sym (none_there (tree_of w) d (λ h.
          let o = path_index (tree_of w) valid h.thread h.real d (sym (under_domain (tree_of w) d h.thread) ∙ h.below) in
          true≢false (sym (owned.marked h.thread o.index h.real) ∙ ap (λ x. get_or bs x false) o.there ∙ e)))

  -- the lowest domain that is not marked is the lowest empty one
  pub occupied_lowest :
      (bs : List Bool) → Occupied (tree_of w) bs → (p : ℕ) →
      Lowest w.domains (λ d. not (get_or bs d false)) p → Lowest w.domains (empty_domain (tree_of w)) p
  occupied_lowest bs owned p L =
      let n = L.within in
      record {
        within = L.within;
        passed = λ j l. sym (occupied_is bs owned j (omega arith)) ∙ L.passed j l;
        fails = λ l. sym (occupied_is bs owned p l) ∙ L.fails l;
      }

  pub homes_real : RealHomes w.domains w.threads w.homes
  unfolding tree_of
  homes_real = record { real = λ i l. rw (read_in 0 w.threads w.homes i (omega arith) l) at (valid.home_real i l) }

  -- if every leaf is a home, every domain has a thread under it
  module _ (leaves : (d : ℕ) → d < w.domains → is_leaf (tree_of w) d ≡ true → is_home_in w.threads w.homes d ≡ true) where
    below_from : (k d : ℕ) → w.domains ≤ k + d → d < w.domains → HasThread (tree_of w) d
    unfolding tree_of is_leaf
    below_from zero d h l = absurd (omega arith)
    below_from (suc k) d h l = by (is_leaf (tree_of w) d) refl (λ c m g. below_from k c (omega arith) g)
      where
        by : (b : Bool) → is_leaf (tree_of w) d ≡ b → ((c : ℕ) → d < c → c < w.domains → HasThread (tree_of w) c) → HasThread (tree_of w) d
        by true e higher =
            let r = any_one w.threads (λ i. eqb (get_or w.homes i 0) d) (leaves d l e) in
            let home : (tree_of w).home r.index ≡ d = read_in 0 w.threads w.homes r.index (omega arith) r.below ∙ eqb-true _ _ r.holds in
            record { thread = r.index; real = r.below; below = under_domain (tree_of w) d r.index ∙ ap (λ x. on_path (tree_of w) r.index x) (sym home) ∙ on_path_home (tree_of w) valid r.index r.below }
        by false e higher =
            let c = any_one w.domains (is_child (tree_of w) d) (not-false _ e) in
            let f = child_facts (tree_of w) d c.index c.holds in
            let lower = valid.parent_lower c.index f.no_root c.below in
            let there = higher c.index (omega (arith, f.its_child)) c.below in
            let up = on_path_parent (tree_of w) valid there.thread there.real c.index f.no_root (sym (under_domain (tree_of w) c.index there.thread) ∙ there.below) in
            record { thread = there.thread; real = there.real; below = under_domain (tree_of w) d there.thread ∙ ap (λ x. on_path (tree_of w) there.thread x) (sym f.its_child) ∙ up }

    pub none_empty : Lowest w.domains (empty_domain (tree_of w)) w.domains
    none_empty = none_bad w.domains (empty_domain (tree_of w)) (λ d l. one_there (tree_of w) d (below_from w.domains d (omega arith) l))

-- if the homes are exactly the leaves, 9 and 16 refuse nothing
pub leaves_pass :
    (w : TreeWords) → (first_refusal (shape_tests (tree_of w))).number ≡ 0 → (r : Bool) → HomesAreLeaves w.domains w.threads w.parents w.homes r → r ≡ true →
    tree_refusal (tree_of w) ≡ accepted
unfolding tree_of is_leaf is_child
leaves_pass w passed r H z =
    let homes = none_bad w.threads (bad_home (tree_of w))
    (λ i l. leaf_test w i l (H.leaf z i l)) in
    let valid = facts w passed w.threads homes (omega arith) in
    let leaves : (d : ℕ) → d < w.domains → is_leaf (tree_of w) d ≡ true → is_home_in w.threads w.homes d ≡ true = λ d l e. H.home z d l (rw (lt-leb w.domains d l, e)) in
    tree_passes w passed w.threads homes (omega arith) w.domains (none_empty w valid leaves) (omega arith)
