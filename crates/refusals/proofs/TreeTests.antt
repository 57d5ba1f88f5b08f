-- The tests of a tree in order: what the scans answer is the tree's refusal.
use mathlib.Core.Path.{◌≡◌, refl, ap, ◌∙◌}
use mathlib.Core.Bool.{true, false}
use mathlib.Core.List.{[], ◌++◌}
use Prim.Native.Nat.{ℕ, ◌≤◌, ◌<◌}
use native.Mathlib.Omega.{arith}
use lib.Dec.{eqb, ltb}
use lib.ListN.{drop}
use borrow.Author.Tests.{eqb-false, ltb-false, leb-false}
use Rattle.model.specs.declared.TreeWords.{TreeWords}
use Rattle.model.specs.Trees.{Tree, tree_of}
use Rattle.model.specs.Refusals.{refusal, accepted, first_refusal, count_tests, domain_tests, home_tests, empty_tests, tree_tests, has_number, tree_refusal, bad_domains, bad_threads, bad_parent, too_deep, no_threshold, bad_home, empty_domain}
use Rattle.model.proofs.Tests.{or_neither}
use Rattle.model.proofs.Refusing.{tests_pass, numbered}
use Rattle.model.proofs.Trees.Accepted.{Accepted, but_zero, accepted_before}
use Rattle.model.proofs.Laws.Refusals.{accepted_number}
use Rattle.refusals.specs.declared.reasons.Refusal.{Refusal}
use Rattle.refusals.specs.Reasons.{number_of}
use Rattle.refusals.specs.Arrays.{Lower, shape_tests}
use Rattle.refusals.specs.Lowest.{Lowest}
use Rattle.refusals.proofs.Reading.{parent_of}
use Rattle.refusals.proofs.Scanning.{single_hit, single_missed, test_hit, test_missed}
use Rattle.refusals.proofs.Joining.{other_decides}
use Rattle.refusals.proofs.Refusing.{ok_numbered, refused_early, passed_early}

-- what holds after 4 to 6 refuse nothing
pub record Shape (w : TreeWords) : Type 0 where
  pub some_domain : 0 < w.domains
  pub few_domains : w.domains ≤ 64
  pub few_threads : w.threads ≤ 256
  pub low : Lower w.domains w.parents

pub lower_by : (w : TreeWords) (p : ℕ) → Lowest w.domains (bad_parent (tree_of w)) p → w.domains ≤ p → Lower w.domains w.parents
unfolding bad_parent
lower_by w p L h =
    record { lower = λ d a b. rw (parent_of w d a b) at (leb-false d ((tree_of w).parent d) (but_zero d _ (L.passed d (omega arith)) a)) }

module _ (w : TreeWords) where
  abbrev t : Tree
  t = tree_of w

  -- 4 and 5
  pub domains_refused : bad_domains t 0 ≡ true → first_refusal (count_tests t) ≡ refusal 4 0
  domains_refused e = single_hit _ _ refl e

  module _ (e : bad_domains t 0 ≡ false) where
    pub threads_refused : bad_threads t 0 ≡ true → first_refusal (count_tests t) ≡ refusal 5 0
    threads_refused f = single_missed _ _ refl e ∙ single_hit _ _ refl f

    pub counts_pass : bad_threads t 0 ≡ false → first_refusal (count_tests t) ≡ accepted
    unfolding first_refusal
    counts_pass f = single_missed _ (drop 1 (count_tests t)) refl e ∙ single_missed _ [] refl f

  -- 6 to 8
  module _ (p₆ : ℕ) (L₆ : Lowest w.domains (bad_parent t) p₆) where
    pub parent_refused : p₆ < w.domains → first_refusal (domain_tests t) ≡ refusal 6 p₆
    unfolding tree_of
    parent_refused h = test_hit _ _ p₆ L₆ h

    after_six : w.domains ≤ p₆ → first_refusal (domain_tests t) ≡ first_refusal (drop 1 (domain_tests t))
    unfolding tree_of
    after_six h = test_missed _ _ p₆ L₆ h

    module _ (h₆ : w.domains ≤ p₆) (p₇ : ℕ) (L₇ : Lowest w.domains (too_deep t) p₇) where
      pub level_refused : p₇ < w.domains → first_refusal (domain_tests t) ≡ refusal 7 p₇
      unfolding tree_of
      level_refused h = after_six h₆ ∙ test_hit _ _ p₇ L₇ h

      after_seven : w.domains ≤ p₇ → first_refusal (domain_tests t) ≡ first_refusal (drop 2 (domain_tests t))
      unfolding tree_of
      after_seven h = after_six h₆ ∙ test_missed _ _ p₇ L₇ h

      module _ (h₇ : w.domains ≤ p₇) (p₈ : ℕ) (L₈ : Lowest w.domains (no_threshold t) p₈) where
        pub threshold_refused : p₈ < w.domains → first_refusal (domain_tests t) ≡ refusal 8 p₈
        unfolding tree_of
        threshold_refused h = after_seven h₇ ∙ test_hit _ _ p₈ L₈ h

        pub domains_pass : w.domains ≤ p₈ → first_refusal (domain_tests t) ≡ accepted
        unfolding tree_of first_refusal
        domains_pass h = after_seven h₇ ∙ test_missed _ [] p₈ L₈ h

  -- 4 and 5 refuse nothing
  pub few_domains : accepted ≡ first_refusal (count_tests t) → (0 < w.domains) × (w.domains ≤ 64)
  unfolding bad_domains tree_of
  few_domains e =
      let c₄ = tests_pass _ (drop 1 (count_tests t)) (omega arith) (ok_numbered e) in
      let d₄ = or_neither (eqb w.domains 0) (ltb 64 w.domains) (c₄.0 0 (omega arith)) in
      let some = eqb-false w.domains 0 d₄.0 in
      (omega arith, ltb-false 64 w.domains d₄.1)

  pub counts_refused : (x : Refusal) → refusal (number_of x.reason) x.place ≡ first_refusal (count_tests t) → refusal (number_of x.reason) x.place ≡ first_refusal (shape_tests t)
  counts_refused x e = refused_early (count_tests t) (domain_tests t) x e

  pub domains_decide : accepted ≡ first_refusal (count_tests t) → first_refusal (shape_tests t) ≡ first_refusal (domain_tests t)
  unfolding has_number
  domains_decide e = passed_early (count_tests t) (domain_tests t) (numbered (count_tests t) refl) e

  pub shape_refused : (x : Refusal) → refusal (number_of x.reason) x.place ≡ first_refusal (shape_tests t) → refusal (number_of x.reason) x.place ≡ tree_refusal t
  unfolding tree_refusal tree_tests
  shape_refused x e = refused_early (shape_tests t) (home_tests t ++ empty_tests t) x e

  module _ (passed : (first_refusal (shape_tests t)).number ≡ 0) where
    pub shape : Shape w
    unfolding bad_domains bad_threads bad_parent tree_of
    shape =
        let c₄ = tests_pass _ (drop 1 (shape_tests t)) (omega arith) passed in
        let c₅ = tests_pass _ (domain_tests t) (omega arith) c₄.1 in
        let c₆ = tests_pass _ (drop 1 (domain_tests t)) (omega arith) c₅.1 in
        let d₄ = or_neither (eqb w.domains 0) (ltb 64 w.domains) (c₄.0 0 (omega arith)) in
        let d₅ = or_neither (eqb w.threads 0) (ltb 256 w.threads) (c₅.0 0 (omega arith)) in
        let some = eqb-false w.domains 0 d₄.0 in
        record {
          some_domain = omega arith;
          few_domains = ltb-false 64 w.domains d₄.1;
          few_threads = ltb-false 256 w.threads d₅.1;
          low = lower_by w w.domains (record { within = omega arith; passed = c₆.0; fails = λ l. absurd (omega arith) }) (omega arith);
        }

    after_eight : tree_refusal t ≡ first_refusal (home_tests t ++ empty_tests t)
    unfolding tree_refusal tree_tests has_number
    after_eight = other_decides (shape_tests t) (home_tests t ++ empty_tests t) (numbered (shape_tests t) refl) passed

    module _ (p₉ : ℕ) (L₉ : Lowest w.threads (bad_home t) p₉) where
      pub home_refused : p₉ < w.threads → tree_refusal t ≡ refusal 9 p₉
      unfolding tree_of
      home_refused h = after_eight ∙ test_hit _ _ p₉ L₉ h

      module _ (h₉ : w.threads ≤ p₉) where
        pub facts : Accepted t
        unfolding has_number tree_of first_refusal
        facts =
            accepted_before t
            (ap (λ q. q.number)
            (other_decides (shape_tests t) (home_tests t) (numbered (shape_tests t) refl) passed ∙ test_missed _ [] p₉ L₉ h₉)
            ∙ accepted_number)

        after_nine : tree_refusal t ≡ first_refusal (empty_tests t)
        unfolding tree_of
        after_nine = after_eight ∙ test_missed _ (empty_tests t) p₉ L₉ h₉

        module _ (p₁₆ : ℕ) (L₁₆ : Lowest w.domains (empty_domain t) p₁₆) where
          pub empty_refused : p₁₆ < w.domains → tree_refusal t ≡ refusal 16 p₁₆
          unfolding tree_of
          empty_refused h = after_nine ∙ test_hit _ _ p₁₆ L₁₆ h

          pub tree_passes : w.domains ≤ p₁₆ → tree_refusal t ≡ accepted
          unfolding tree_of first_refusal
          tree_passes h = after_nine ∙ test_missed _ [] p₁₆ L₁₆ h
