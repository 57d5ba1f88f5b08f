-- An accepted tree as facts.
use mathlib.Core.Path.{◌≡◌, refl, sym, ◌∙◌}
use mathlib.Core.Bool.{Bool, true, false, ◌&&◌, ◌||◌, not, true≢false}
use mathlib.Core.Logic.{◌≢◌}
use Prim.Native.Nat.{ℕ, ◌≤◌, ◌<◌}
use native.Mathlib.Omega.{arith}
use lib.Dec.{eqb, leb, ltb}
use borrow.Author.Tests.{ltb-false, leb-false, eqb-true, eqb-false, not-true, not-false, eq-eqb, ne_eqb}
use Rattle.model.specs.declared.TreeWords.{TreeWords}
use Rattle.model.specs.Trees.{Tree, tree_of, level, is_child, is_leaf}
use Rattle.model.specs.Refusals.{first_refusal, empty_tests, tests_before_16, tree_tests, has_number, tree_refusal, bad_domains, bad_threads, bad_parent, too_deep, no_threshold, bad_home}
use Rattle.model.specs.Laws.{SixteenBit}
use Rattle.model.proofs.Tests.{and_both, or_neither, any_none}
use Rattle.model.proofs.Refusing.{tests_pass, numbered, first_passes}

pub record Accepted (t : Tree) : Type 0 where
  pub some_domain : 0 < t.domains
  pub few_domains : t.domains ≤ 64
  pub some_thread : 0 < t.threads
  pub few_threads : t.threads ≤ 256
  pub parent_lower : (d : ℕ) → 0 < d → d < t.domains → t.parent d < d
  pub flat : (d : ℕ) → d < t.domains → level t d ≤ 6
  pub threshold_some : (d : ℕ) → 0 < d → d < t.domains → 1 ≤ t.threshold d
  pub home_real : (i : ℕ) → i < t.threads → t.home i < t.domains
  pub home_leaf : (i : ℕ) → i < t.threads → is_leaf t (t.home i) ≡ true

-- if a test that excludes 0 fails at d above 0, the rest of it fails
pub but_zero : (d : ℕ) (b : Bool) → not (eqb d 0) && b ≡ false → 0 < d → b ≡ false
but_zero d b e h = let z = ne_eqb d 0 (omega arith) in rw z at e

-- a tree that 4 to 9 do not refuse
pub accepted_before : (t : Tree) → (first_refusal (tests_before_16 t)).number ≡ 0 → Accepted t
unfolding bad_domains bad_threads bad_parent too_deep no_threshold bad_home
accepted_before t e =
    let c₄ = tests_pass _ _ (omega arith) e in
    let c₅ = tests_pass _ _ (omega arith) c₄.1 in
    let c₆ = tests_pass _ _ (omega arith) c₅.1 in
    let c₇ = tests_pass _ _ (omega arith) c₆.1 in
    let c₈ = tests_pass _ _ (omega arith) c₇.1 in
    let c₉ = tests_pass _ _ (omega arith) c₈.1 in
    let d₄ = or_neither (eqb t.domains 0) (ltb 64 t.domains) (c₄.0 0 (omega arith)) in
    let d₅ = or_neither (eqb t.threads 0) (ltb 256 t.threads) (c₅.0 0 (omega arith)) in
    let n₄ = eqb-false t.domains 0 d₄.0 in
    let n₅ = eqb-false t.threads 0 d₅.0 in
    let at₉ : (i : ℕ) → i < t.threads → leb t.domains (t.home i) || not (is_leaf t (t.home i)) ≡ false = λ i h. c₉.0 i h in
    record {
      some_domain = omega (arith, n₄);
      few_domains = ltb-false _ _ d₄.1;
      some_thread = omega (arith, n₅);
      few_threads = ltb-false _ _ d₅.1;
      parent_lower = λ d p h. leb-false _ _ (but_zero d _ (c₆.0 d h) p);
      flat = λ d h. ltb-false _ _ (c₇.0 d h);
      threshold_some = λ d p h.
          let n = eqb-false (t.threshold d) 0 (but_zero d _ (c₈.0 d h) p) in
          omega (arith, n);
      home_real = λ i h. leb-false _ _ (or_neither _ (not (is_leaf t (t.home i))) (at₉ i h)).0;
      home_leaf = λ i h. not-false _ (or_neither (leb t.domains (t.home i)) _ (at₉ i h)).1;
    }

pub accepted : (t : Tree) → (tree_refusal t).number ≡ 0 → Accepted t
unfolding tree_refusal tree_tests has_number
accepted t e = accepted_before t (first_passes (tests_before_16 t) (empty_tests t) (numbered (tests_before_16 t) refl) e)

-- CHILDREN AND LEAVES
pub child_yes : (t : Tree) (d c : ℕ) → 0 < c → t.parent c ≡ d → is_child t d c ≡ true
unfolding is_child
child_yes t d c h e = rw (ne_eqb c 0 (omega arith), eq-eqb (t.parent c) d e)

pub record Child (t : Tree) (d c : ℕ) : Type 0 where
  pub no_root : 0 < c
  pub its_child : t.parent c ≡ d

pub child_facts : (t : Tree) (d c : ℕ) → is_child t d c ≡ true → Child t d c
unfolding is_child
child_facts t d c e =
    let both = and_both (not (eqb c 0)) (eqb (t.parent c) d) e in
    let n = eqb-false c 0 (not-true (eqb c 0) both.0) in
    record { no_root = omega (arith, n); its_child = eqb-true (t.parent c) d both.1 }

-- a leaf is nobody's parent
pub leaf_childless : (t : Tree) (d c : ℕ) → is_leaf t d ≡ true → 0 < c → c < t.domains → t.parent c ≢ d
unfolding is_leaf
leaf_childless t d c e p h q =
    true≢false (sym (child_yes t d c p q) ∙ any_none t.domains (is_child t d) (not-true _ e) c h)

-- a threshold that a call names is a 16-bit number
pub sixteen_bit : (w : TreeWords) → SixteenBit (tree_of w)
unfolding tree_of
sixteen_bit w d = omega arith
