-- Levels in one pass: the level of each domain from its parent's.
use mathlib.Core.Path.{◌≡◌, refl, sym, ap, ◌∙◌}
use mathlib.Core.Bool.{true, false}
use mathlib.Core.List.{List}
use Prim.Native.Nat.{ℕ, suc, ◌+◌, ◌≤◌, ◌<◌}
use native.Mathlib.Omega.{arith}
use native.Mathlib.Decide.{ℕ_discrete}
use lib.ListN.{get_or, set, length, replicate, length-set}
use lib.Seq.{get_or-set_same, get_or-set_other}
use borrow.Author.Tests.{le-ltb, lt-ltb}
use Rattle.model.specs.declared.TreeWords.{TreeWords}
use Rattle.model.specs.Trees.{tree_of, depth, level}
use Rattle.model.specs.Refusals.{too_deep}
use Rattle.model.proofs.Trees.Paths.{depth_root, deeper_by_one}
use Rattle.refusals.specs.Arrays.{Lower}
use Rattle.refusals.proofs.Reading.{parent_of}

module _ (w : TreeWords) (low : Lower w.domains w.parents) where
  level_child : (d : ℕ) → 0 < d → d < w.domains → level (tree_of w) d ≡ suc (level (tree_of w) (get_or w.parents d 0))
  unfolding level depth tree_of
  level_child d p s =
      ap suc (deeper_by_one (tree_of w) (λ c q h. rw (parent_of w c q h) (low.lower c q h)) d p s ∙ rw (parent_of w d p s))

  level_root : level (tree_of w) 0 ≡ 1
  unfolding level depth tree_of
  level_root = ap suc (depth_root w.domains (tree_of w) 0 refl)

-- the levels of the domains below d are small, and are known if each parent has a lower number
pub record Levels (w : TreeWords) (ls : List ℕ) (d : ℕ) : Type 0 where
  pub room : length ls ≡ 64
  pub few : (j : ℕ) → j < d → get_or ls j 0 ≤ 6
  pub level_is : Lower w.domains w.parents → (j : ℕ) → j < d → get_or ls j 0 ≡ level (tree_of w) j

module _ (w : TreeWords) where
  pub levels_first : Levels w (replicate 64 1) 1
  levels_first =
      record {
        room = refl;
        few = λ j l. let z : j ≡ 0 = omega arith in rw z (omega arith);
        level_is = λ low j l. let z : j ≡ 0 = omega arith in rw z (sym (level_root w low));
      }

  level_next : (ls : List ℕ) (d : ℕ) → Levels w ls d → Lower w.domains w.parents → 0 < d → d < w.domains → level (tree_of w) d ≡ get_or ls (get_or w.parents d 0) 0 + 1
  level_next ls d L low p s =
      let e = level_child w low d p s in
      let f = L.level_is low (get_or w.parents d 0) (low.lower d p s) in
      omega arith

  pub levels_next :
      (ls : List ℕ) (d : ℕ) → w.domains ≤ 64 → Levels w ls d → 0 < d → d < w.domains → get_or ls (get_or w.parents d 0) 0 + 1 ≤ 6 →
      Levels w (set ls d (get_or ls (get_or w.parents d 0) 0 + 1)) (d + 1)
  levels_next ls d few L p s h =
      let v = get_or ls (get_or w.parents d 0) 0 + 1 in
      record {
        room = length-set ls d v ∙ L.room;
        few = λ j l.
            elim (ℕ_discrete j d) [
              | yes q ↦ rw (q, get_or-set_same ls d v 0 (omega (arith, L.room))) h
              | no q ↦ rw (get_or-set_other ls d j v 0 q) (L.few j (omega arith))
            ];
        level_is = λ low j l.
            elim (ℕ_discrete j d) [
              | yes q ↦ rw q (get_or-set_same ls d v 0 (omega (arith, L.room)) ∙ sym (level_next ls d L low p s))
              | no q ↦ get_or-set_other ls d j v 0 q ∙ L.level_is low j (omega arith)
            ];
      }

  pub level_passes : (ls : List ℕ) (d : ℕ) → Levels w ls d → Lower w.domains w.parents → (j : ℕ) → j < d → too_deep (tree_of w) j ≡ false
  unfolding too_deep
  level_passes ls d L low j l = rw (← L.level_is low j l) (le-ltb 6 (get_or ls j 0) (L.few j l))

  pub level_fails :
      (ls : List ℕ) (d : ℕ) → Levels w ls d → Lower w.domains w.parents → 0 < d → d < w.domains → 6 < get_or ls (get_or w.parents d 0) 0 + 1 →
      too_deep (tree_of w) d ≡ true
  unfolding too_deep
  level_fails ls d L low p s h = rw (level_next ls d L low p s) (lt-ltb 6 (get_or ls (get_or w.parents d 0) 0 + 1) h)
