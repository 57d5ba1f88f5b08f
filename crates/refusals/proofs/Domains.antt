-- One pass over the domains: those passed so far fail none of 6 to 8.
use mathlib.Core.Path.{◌≡◌, refl}
use mathlib.Core.Bool.{Bool, false}
use mathlib.Core.List.{List}
use Prim.Native.Nat.{ℕ, ◌+◌, ◌≤◌, ◌<◌}
use native.Mathlib.Omega.{arith}
use lib.ListN.{get_or, set, replicate}
use borrow.Author.Tests.{ne_eqb, lt-leb}
use Rattle.model.specs.declared.TreeWords.{TreeWords}
use Rattle.model.specs.Trees.{tree_of}
use Rattle.model.specs.Refusals.{accepted, first_refusal, domain_tests, bad_parent, no_threshold}
use Rattle.refusals.specs.Lowest.{Lowest}
use Rattle.refusals.proofs.Reading.{parent_of, threshold_of}
use Rattle.refusals.proofs.Scanning.{one_more, single}
use Rattle.refusals.proofs.Levels.{Levels, levels_first, levels_next, level_passes}
use Rattle.refusals.proofs.TreeTests.{lower_by, domains_pass}

pub none_bad : (n : ℕ) (bad : ℕ → Bool) → ((j : ℕ) → j < n → bad j ≡ false) → Lowest n bad n
none_bad n bad h = record { within = omega arith; passed = h; fails = λ l. absurd (omega arith) }

module _ (w : TreeWords) where
  -- the domains below d pass
  pub record Passed (ls : List ℕ) (d : ℕ) : Type 0 where
    pub parents : (j : ℕ) → j < d → bad_parent (tree_of w) j ≡ false
    pub levels : Levels w ls d
    pub thresholds : (j : ℕ) → j < d → no_threshold (tree_of w) j ≡ false

  pub passed_first : Passed (replicate 64 1) 1
  unfolding bad_parent no_threshold
  passed_first =
      record {
        parents = single _ false refl;
        levels = levels_first w;
        thresholds = single _ false refl;
      }

  parent_passes : (d : ℕ) → 0 < d → d < w.domains → get_or w.parents d 0 < d → bad_parent (tree_of w) d ≡ false
  unfolding bad_parent
  parent_passes d p s l = rw (ne_eqb d 0 (omega arith), parent_of w d p s, lt-leb d (get_or w.parents d 0) l)

  threshold_passes : (d : ℕ) → 0 < d → d < w.domains → get_or w.thresholds d 0 < 65536 → (get_or w.thresholds d 0 ≡ 0 → ⊥) → no_threshold (tree_of w) d ≡ false
  unfolding no_threshold
  threshold_passes d p s f h = rw (ne_eqb d 0 (omega arith), threshold_of w d p s f, ne_eqb (get_or w.thresholds d 0) 0 h)

  pub passed_next :
      (ls : List ℕ) (d : ℕ) → w.domains ≤ 64 → Passed ls d → 0 < d → d < w.domains → get_or w.parents d 0 < d → get_or ls (get_or w.parents d 0) 0 + 1 ≤ 6 →
      get_or w.thresholds d 0 < 65536 → (get_or w.thresholds d 0 ≡ 0 → ⊥) → Passed (set ls d (get_or ls (get_or w.parents d 0) 0 + 1)) (d + 1)
  passed_next ls d few P p s l v f h =
      record {
        parents = one_more _ false d P.parents (parent_passes d p s l);
        levels = levels_next w ls d few P.levels p s v;
        thresholds = one_more _ false d P.thresholds (threshold_passes d p s f h);
      }

  pub passed_all : (ls : List ℕ) (d : ℕ) → Passed ls d → d ≡ w.domains → first_refusal (domain_tests (tree_of w)) ≡ accepted
  passed_all ls d P e =
      let n = w.domains in
      let L₆ = none_bad n _ (λ j l. P.parents j (omega arith)) in
      let low = lower_by w n L₆ (omega arith) in
      domains_pass w
      n L₆ (omega arith)
      n (none_bad n _ (λ j l. level_passes w ls d P.levels low j (omega arith))) (omega arith)
      n (none_bad n _ (λ j l. P.thresholds j (omega arith))) (omega arith)
