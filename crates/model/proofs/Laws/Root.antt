-- No test of a tree reads its kind of root.
use mathlib.Core.Path.{◌≡◌, refl, ap, fun_ext}
use mathlib.Core.Bool.{Bool}
use mathlib.Core.List.{[], ◌∷◌}
use Prim.Native.Nat.{ℕ, zero, suc}
use Rattle.model.specs.Trees.{Tree, is_child, is_leaf, depth_from, depth, level, meets, on_path, under}
use Rattle.model.specs.Refusals.{test, first_refusal, bad_domains, bad_threads, bad_parent, too_deep, no_threshold, bad_home, empty_domain, tree_tests, tree_refusal}
use Rattle.model.specs.Laws.{with_root, RootLaw}

depth_same : (k : ℕ) (t : Tree) (b : Bool) (d : ℕ) → depth_from k (with_root b t) d ≡ depth_from k t d
unfolding depth_from
depth_same zero t b d = refl
depth_same (suc k) t b d = rw (depth_same k t b (t.parent d))

deep_same : (t : Tree) (b : Bool) → (λ d. too_deep (with_root b t) d) ≡ too_deep t
unfolding too_deep level depth
deep_same t b = fun_ext (λ d. rw (depth_same t.domains t b d))

pub root_law : RootLaw
unfolding RootLaw tree_refusal tree_tests bad_domains bad_threads bad_parent no_threshold bad_home empty_domain is_leaf is_child under on_path meets
root_law t b =
    ap
    (λ (deep : ℕ → Bool).
    first_refusal
    (test 4 1 (bad_domains t) ∷ test 5 1 (bad_threads t) ∷ test 6 t.domains (bad_parent t) ∷ test 7 t.domains deep
    ∷ test 8 t.domains (no_threshold t) ∷ test 9 t.threads (bad_home t) ∷ test 16 t.domains (empty_domain t) ∷ []))
    (deep_same t b)
