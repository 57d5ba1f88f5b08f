-- Two lists of tests in sequence: the first decides if it refuses, otherwise the second does.
use mathlib.Core.Path.{◌≡◌, refl, ◌∙◌}
use mathlib.Core.Bool.{Bool, true, false, cond}
use mathlib.Core.List.{List, [], ◌∷◌, ◌++◌}
use Prim.Native.Nat.{ℕ, zero, suc}
use Rattle.model.specs.declared.LockState.{LockState}
use Rattle.model.specs.Trees.{Tree}
use Rattle.model.specs.Refusals.{Refusal, refusal, accepted, Test, lowest_bad, first_refusal, tree_tests, has_number}
use Rattle.model.specs.Laws.{Numbered}
use Rattle.model.proofs.Refusing.{tests_pass, test_skipped, numbered}
use Rattle.refusals.specs.Arrays.{tree_state_tests}

lowest_else :
    (n : ℕ) (f : ℕ → Bool) (k p : ℕ) (r q : Refusal) → ((lowest_bad n f k p r).number ≡ 0 → ⊥) → ((r.number ≡ 0 → ⊥) → q ≡ r) →
    lowest_bad n f k p q ≡ lowest_bad n f k p r
unfolding lowest_bad
lowest_else n f zero p r q h e = e h
lowest_else n f (suc k) p r q h e = by (f p) h (λ g. lowest_else n f k (suc p) r q g e)
  where
    by :
        (b : Bool) → ((cond b (refusal n p) (lowest_bad n f k (suc p) r)).number ≡ 0 → ⊥) →
        (((lowest_bad n f k (suc p) r).number ≡ 0 → ⊥) → lowest_bad n f k (suc p) q ≡ lowest_bad n f k (suc p) r) →
        cond b (refusal n p) (lowest_bad n f k (suc p) q) ≡ cond b (refusal n p) (lowest_bad n f k (suc p) r)
    by true h g = refl
    by false h g = g h

pub first_decides : (xs ys : List Test) → ((first_refusal xs).number ≡ 0 → ⊥) → first_refusal (xs ++ ys) ≡ first_refusal xs
unfolding first_refusal accepted refusal
first_decides [] ys h = absurd (h refl)
first_decides (x ∷ xs) ys h =
    lowest_else x.number x.bad x.places 0 (first_refusal xs) (first_refusal (xs ++ ys)) h (first_decides xs ys)

pub other_decides : (xs ys : List Test) → Numbered xs → (first_refusal xs).number ≡ 0 → first_refusal (xs ++ ys) ≡ first_refusal ys
unfolding Numbered
other_decides [] ys n e = refl
other_decides (x ∷ xs) ys n e =
    let both = tests_pass x xs n.0 e in
    test_skipped x (xs ++ ys) both.0 ∙ other_decides xs ys n.1 both.1

pub state_numbered : (t : Tree) (s : LockState) → Numbered (tree_state_tests t s)
unfolding has_number tree_tests
state_numbered t s = numbered (tree_state_tests t s) refl
