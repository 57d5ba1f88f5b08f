-- NOTHING ELSE REFUSES: the tree of an accepted text passes the tests of a fresh lock, and every domain has a thread under it.
use mathlib.Core.Path.{◌≡◌, refl, ◌∙◌}
use mathlib.Core.Bool.{Bool, true, false, ◌&&◌, not}
use mathlib.Core.List.{List, []}
use Prim.Native.Nat.{ℕ, zero, suc, ◌+◌, ◌-◌, ◌%◌, ◌≤◌, ◌<◌}
use native.Mathlib.Nat.{mod-eq_of_lt}
use native.Mathlib.Omega.{arith}
use native.Mathlib.Decide.{ℕ_discrete}
use lib.Dec.{eqb}
use lib.ListN.{length, get_or, replicate, get_or-append}
use borrow.Author.Tests.{le-ltb, lt-leb, eq-eqb, ne_eqb}
use Rattle.model.specs.Scans.{any_below}
use Rattle.model.specs.Trees.{Tree, read_word, tree_of, is_child, is_leaf, depth_from, depth, level, meets, on_path, under}
use Rattle.model.specs.Refusals.{accepted, test, first_refusal, bad_domains, bad_threads, bad_parent, too_deep, no_threshold, bad_home, empty_domain, tree_tests, tree_refusal}
use Rattle.model.proofs.Tests.{any_found, or_right, any_one}
use Rattle.model.proofs.Refusing.{test_skipped}
use Rattle.model.proofs.Trees.Accepted.{child_facts}
use Rattle.model.proofs.Trees.Reading.{read_in}
use Rattle.text_tree.specs.Grammar.{Shape, Text, root_laid, laid_out, domains_in, threads_in, in_room, words_of}
use Rattle.text_tree.specs.TextLaws.{AcceptedLaw, HasThreads, Passes, PassesLaw}
use Rattle.text_tree.proofs.Laying.{Agrees}
use Rattle.text_tree.proofs.Blocks.{Up, arrived, step_up, Lives, Block}
use Rattle.text_tree.proofs.Shapes.{tree_block}
use Rattle.text_tree.proofs.Stored.{whole_holds}
use Rattle.text_tree.proofs.Deciding.{accepted_law}

-- STEPS UP are what the depth tests count
up_depth : (t : Tree) {c n : ℕ} → Up t.parent c 0 n → (fuel : ℕ) → depth_from fuel t c ≤ n
unfolding depth_from
up_depth t (arrived e) zero = omega arith
up_depth t {c} (arrived e) (suc k) = rw (eq-eqb c 0 e) (omega arith)
up_depth t (step_up h u) zero = omega arith
up_depth t {c} (step_up h u) (suc k) =
    let n : c ≡ 0 → ⊥ = λ e. omega arith in
    rw (ne_eqb c 0 n) (let r = up_depth t u k in omega arith)

up_meets : (t : Tree) {c d n : ℕ} → Up t.parent c d n → (fuel : ℕ) → n ≤ fuel → meets fuel t c d ≡ true
unfolding meets
up_meets t {c} {d} (arrived e) zero l = eq-eqb c d e
up_meets t {c} {d} (arrived e) (suc k) l = rw (eq-eqb c d e)
up_meets t (step_up h u) zero l = absurd (omega arith)
up_meets t {c} {d} (step_up h u) (suc k) l =
    let n : c ≡ 0 → ⊥ = λ e. omega arith in
    or_right (eqb c d) (not (eqb c 0) && meets k t (t.parent c) d) (rw (ne_eqb c 0 n, up_meets t u k (omega arith)))

no_test : first_refusal [] ≡ accepted
unfolding first_refusal
no_test = refl

module _ (t : Tree) (g : ℕ → ℕ) (b : Block t.parent g t.home 0 0 1 t.domains 0 t.threads 5) (same : (c : ℕ) → t.threshold c ≡ g c % 65536) (few : t.domains ≤ 64) (few_threads : t.threads ≤ 256) where
  domains_pass : (p : ℕ) → p < 1 → bad_domains t p ≡ false
  unfolding bad_domains
  domains_pass p h =
      let some : t.domains ≡ 0 → ⊥ = λ e. omega (arith, b.domains_order) in
      rw (ne_eqb t.domains 0 some, le-ltb 64 t.domains few)

  threads_pass : (p : ℕ) → p < 1 → bad_threads t p ≡ false
  unfolding bad_threads
  threads_pass p h =
      let r = b.lived_top in
      let some : t.threads ≡ 0 → ⊥ = λ e. omega (arith, r.before) in
      rw (ne_eqb t.threads 0 some, le-ltb 256 t.threads few_threads)

  -- the root, or another domain
  by_root : {C : Type 0} (d : ℕ) → (d ≡ 0 → C) → (1 ≤ d → C) → C
  by_root d f g = elim (ℕ_discrete d 0) [ yes e ↦ f e | no e ↦ g (omega (arith, e)) ]

  parents_pass : (d : ℕ) → d < t.domains → bad_parent t d ≡ false
  unfolding bad_parent
  parents_pass d h =
      by_root d (λ e. rw (eq-eqb d 0 e))
      (λ l. let n : d ≡ 0 → ⊥ = λ e. omega arith in rw (ne_eqb d 0 n, lt-leb d (t.parent d) (b.parents_lower d l h)))

  level_pass : (d : ℕ) → d < t.domains → too_deep t d ≡ false
  unfolding too_deep level depth
  level_pass d h =
      let shallow : depth_from t.domains t d ≤ 5 =
      by_root d (λ e. omega (arith, up_depth t (arrived e) t.domains))
      (λ l. let r = b.not_deep d l h in omega (arith, r.few, up_depth t r.up t.domains)) in
      le-ltb 6 (suc (depth_from t.domains t d)) (omega arith)

  thresholds_pass : (d : ℕ) → d < t.domains → no_threshold t d ≡ false
  unfolding no_threshold
  thresholds_pass d h =
      by_root d (λ e. rw (eq-eqb d 0 e))
      (λ l. let r = b.thresholds_good d l h in
      let m : g d % 65536 ≡ g d = mod-eq_of_lt (omega (arith, r.1)) in
      let some : t.threshold d ≡ 0 → ⊥ = λ e. omega (arith, same d, m, r.0) in
      let n : d ≡ 0 → ⊥ = λ e. omega arith in
      rw (ne_eqb d 0 n, ne_eqb (t.threshold d) 0 some))

  leaf_pass : (i : ℕ) → i < t.threads → is_leaf t (t.home i) ≡ true
  unfolding is_leaf
  leaf_pass i h = none (any_below t.domains (is_child t (t.home i))) refl
    where
      none : (r : Bool) → any_below t.domains (is_child t (t.home i)) ≡ r → not r ≡ true
      none false e = refl
      none true e =
          let found = any_one t.domains (is_child t (t.home i)) e in
          let child = child_facts t (t.home i) found.index found.holds in
          absurd (b.homes_childless i found.index (omega arith) h child.no_root found.below child.its_child)

  homes_pass : (i : ℕ) → i < t.threads → bad_home t i ≡ false
  unfolding bad_home
  homes_pass i h = rw (lt-leb t.domains (t.home i) (b.homes_within i (omega arith) h).1, leaf_pass i h)

  lives_there : (d : ℕ) → Lives t.parent t.home d 0 t.threads 5 → HasThreads t d
  unfolding under on_path
  lives_there d r =
      let far : 256 ≤ 256 + d = omega arith in
      let z : 256 + d - 256 ≡ d = omega arith in
      record {
        thread = r.thread;
        of_tree = r.before;
        below = rw (le-ltb (256 + d) 256 far, z) (up_meets t r.up 6 (omega (arith, r.few)));
      }

  lived : (d : ℕ) → d < t.domains → HasThreads t d
  lived d h = lives_there d (by_root d (λ e. rw e b.lived_top) (λ l. b.lived d l h))

  empty_pass : (d : ℕ) → d < t.domains → empty_domain t d ≡ false
  unfolding empty_domain
  empty_pass d h = let x = lived d h in rw (any_found t.threads (under t (256 + d)) x.thread x.of_tree x.below)

  all_pass : tree_refusal t ≡ accepted
  unfolding tree_refusal tree_tests
  all_pass =
      test_skipped (test 4 1 (bad_domains t)) _ domains_pass ∙ test_skipped (test 5 1 (bad_threads t)) _ threads_pass
      ∙ test_skipped (test 6 t.domains (bad_parent t)) _ parents_pass ∙ test_skipped (test 7 t.domains (too_deep t)) _ level_pass
      ∙ test_skipped (test 8 t.domains (no_threshold t)) _ thresholds_pass ∙ test_skipped (test 9 t.threads (bad_home t)) _ homes_pass
      ∙ test_skipped (test 16 t.domains (empty_domain t)) _ empty_pass ∙ no_test

  pub block_passes : Passes t
  block_passes =
      record {
        tests = all_pass;
        has_threads = lived;
      }

-- THE WORDS OF A TEXT
front_of_room : (room : ℕ) (ws : List ℕ) (x : ℕ) → x < length ws → get_or (in_room room ws) x 0 ≡ get_or ws x 0
front_of_room room ws x h = get_or-append ws (replicate (room - length ws) 0) 0 x h

module _ (t : Shape) where
  abbrev parent_of : ℕ → ℕ
  parent_of = read_word 1 (domains_in t) (in_room 64 (laid_out t).parents)

  abbrev threshold_of : ℕ → ℕ
  threshold_of = read_word 1 (domains_in t) (in_room 64 (laid_out t).thresholds)

  abbrev home_of : ℕ → ℕ
  home_of = read_word 0 (threads_in t) (in_room 256 (laid_out t).homes)

  words_agree : length (laid_out t).thresholds ≡ domains_in t → Agrees parent_of threshold_of home_of (laid_out t)
  words_agree many =
      record {
        parents_agree = λ x l h. read_in 1 (domains_in t) _ x l h ∙ front_of_room 64 (laid_out t).parents x h;
        thresholds_agree = λ x l h. read_in 1 (domains_in t) _ x l (omega arith) ∙ front_of_room 64 (laid_out t).thresholds x h;
        homes_agree = λ x h. read_in 0 (threads_in t) _ x (omega arith) h ∙ front_of_room 256 (laid_out t).homes x h;
      }

  whole_block : (bytes : List ℕ) → Text bytes t → Block parent_of threshold_of home_of 0 0 1 (domains_in t) 0 (threads_in t) 5
  unfolding laid_out root_laid
  whole_block bytes x = tree_block parent_of threshold_of home_of x 0 root_laid refl refl (words_agree (whole_holds t).as_many)

  words_pass : (bytes : List ℕ) → Text bytes t → domains_in t ≤ 64 → threads_in t ≤ 256 → Passes (tree_of (words_of t))
  unfolding tree_of words_of
  words_pass bytes x d i = block_passes _ threshold_of (whole_block bytes x) (λ c. refl) d i

pub passes_law : PassesLaw
unfolding PassesLaw AcceptedLaw
passes_law bytes w e =
    let a = (accepted_law bytes w).0 e in
    rw a.words (words_pass a.shape bytes a.text a.domains_fit a.threads_fit)
