-- What the call for allowances keeps and leaves, given the words of its tree.
use mathlib.Core.Path.{◌≡◌, ◌∙◌}
use mathlib.Core.Bool.{cond}
use mathlib.Core.List.{List}
use Prim.Native.Nat.{ℕ, suc, ◌*◌, ◌≤◌, ◌<◌}
use native.Mathlib.Omega.{arith}
use lib.ListN.{get_or, length, set}
use Rattle.model.specs.declared.TreeWords.{TreeWords}
use Rattle.model.specs.Scans.{largest_below}
use Rattle.model.specs.Trees.{tree_of, is_child, is_leaf}
use Rattle.model.specs.Refusals.{tree_refusal}
use Rattle.model.proofs.Trees.Accepted.{accepted}
use Rattle.bounds.specs.Answers.{capped, allowance_word, words_from}
use Rattle.bounds_call.proofs.Filling.{Filled, filled_next, filled_all, member_word, next_word}

-- one more domain: its threshold times the largest word of its members
pub filled_more :
    (w : TreeWords) → (tree_refusal (tree_of w)).number ≡ 0 → (k d : ℕ) (ws : List ℕ) (m h x : ℕ) → d ≡ suc k → 0 < k → d ≤ w.domains → w.domains ≤ 64 →
    length ws ≡ 64 → Filled (tree_of w) d ws →
    m
    ≡ cond (is_leaf (tree_of w) k) 1
    (largest_below (tree_of w).domains (λ c. cond (is_child (tree_of w) k c) (get_or ws c 0) 0)) →
    h ≡ (tree_of w).threshold k → x ≡ capped (h * m) → Filled (tree_of w) k (set ws k x)
unfolding tree_of
filled_more w ok k d ws m h x z p s few l filled e g f =
    let valid = accepted (tree_of w) ok in
    let so_far : Filled (tree_of w) (suc k) ws = rw z at filled in
    let member = e ∙ member_word (tree_of w) valid k ws so_far in
    filled_next (tree_of w) k ws x so_far (omega arith) (omega arith)
    (f ∙ rw (member, g) (next_word (tree_of w) valid k ws so_far p (omega arith)))

pub filled_done : (w : TreeWords) (ws : List ℕ) (d : ℕ) → d ≡ 1 → Filled (tree_of w) d ws → length ws ≡ 64 → ws ≡ words_from (allowance_word (tree_of w)) 64 0
filled_done w ws d e filled l = filled_all (tree_of w) ws (rw e at filled) l
