-- The law of the call for wait bounds.
use mathlib.Core.Path.{◌≡◌, refl, ◌∙◌}
use mathlib.Core.List.{List}
use Prim.Native.Nat.{ℕ, zero, suc, ◌+◌, ◌≤◌, ◌<◌}
use native.Mathlib.Omega.{arith}
use lib.ListN.{get_or}
use borrow.Author.Tests.{eq-eqb, lt-ltb, le-ltb}
use Rattle.model.specs.declared.TreeWords.{TreeWords}
use Rattle.model.specs.Trees.{tree_of}
use Rattle.model.proofs.Lists.{less_or}
use Rattle.model.proofs.Trees.Accepted.{accepted}
use Rattle.bounds.specs.LongestWait.Bounds.{wait_bound}
use Rattle.bounds.specs.Answers.{capped, wait_word, words_from, wait_bounds_answer, wait_bounds_left}
use Rattle.bounds.specs.Laws.{WaitBoundsLaw}
use Rattle.bounds.proofs.Law.{word_at, small, large}

-- past the end of a list of words there is 0
past : (f : ℕ → ℕ) (k d x : ℕ) → k ≤ x → get_or (words_from f k d) x 0 ≡ 0
unfolding words_from
past f zero d x h = refl
past f (suc k) d zero h = absurd (omega arith)
past f (suc k) d (suc x) h = past f k (d + 1) x (omega arith)

module _ (w : TreeWords) (b : List ℕ) (ok : (wait_bounds_answer w).number ≡ 0) where
  left_at : (i : ℕ) → i < 256 → get_or (wait_bounds_left w b) i 0 ≡ wait_word (tree_of w) i
  unfolding wait_bounds_left
  left_at i h =
      let z : 0 + i ≡ i = omega arith in
      rw (eq-eqb (wait_bounds_answer w).number 0 ok) (word_at (wait_word (tree_of w)) 256 0 i h ∙ rw z)

  pub wait_left : (i : ℕ) → i < w.threads → w.threads ≤ 256 → get_or (wait_bounds_left w b) i 0 ≡ capped (wait_bound (tree_of w) i)
  unfolding wait_word tree_of
  wait_left i s few = left_at i (omega arith) ∙ rw (lt-ltb i w.threads s)

  none_left : (i : ℕ) → w.threads ≤ i → get_or (wait_bounds_left w b) i 0 ≡ 0
  unfolding wait_bounds_left wait_word tree_of
  none_left i h =
      less_or i 256 _ (λ s. left_at i s ∙ rw (le-ltb i w.threads h))
      (λ s. rw (eq-eqb (wait_bounds_answer w).number 0 ok) (past (wait_word (tree_of w)) 256 0 i s))

pub wait_bounds_law : WaitBoundsLaw
unfolding WaitBoundsLaw wait_bounds_answer tree_of
wait_bounds_law w b ok =
    let few = (accepted (tree_of w) ok).few_threads in
    record {
      exact = λ i s h. wait_left w b ok i s few ∙ small _ h;
      cut = λ i s h. rw (wait_left w b ok i s few) (large _ h);
      after = λ i h. none_left w b ok i h;
    }
