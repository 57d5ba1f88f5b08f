-- The law of the call for allowances.
use mathlib.Core.Path.{◌≡◌, ◌∙◌}
use mathlib.Core.List.{List}
use Prim.Native.Nat.{ℕ, zero, suc, ◌+◌, ◌≤◌, ◌<◌, ◌^◌}
use native.Mathlib.Omega.{arith}
use lib.ListN.{get_or}
use borrow.Author.Tests.{eq-eqb, ne_eqb, lt-ltb}
use Rattle.model.specs.declared.TreeWords.{TreeWords}
use Rattle.model.specs.Trees.{tree_of, allowance}
use Rattle.model.proofs.Trees.Accepted.{accepted}
use Rattle.bounds.specs.Answers.{capped, allowance_word, words_from, allowances_answer, allowances_left}
use Rattle.bounds.specs.Laws.{AllowancesLaw}

-- the word at an index of a list of words
pub word_at : (f : ℕ → ℕ) (k d x : ℕ) → x < k → get_or (words_from f k d) x 0 ≡ f (d + x)
unfolding words_from
word_at f zero d x h = absurd (omega arith)
word_at f (suc k) d zero h = let z : d ≡ d + 0 = omega arith in rw (← z)
word_at f (suc k) d (suc x) h = let z : d + 1 + x ≡ d + suc x = omega arith in word_at f k (d + 1) x (omega arith) ∙ rw z

pub small : (n : ℕ) → n < 2 ^ 64 → capped n ≡ n
unfolding capped
small n h = omega arith

pub large : (n : ℕ) → 2 ^ 64 ≤ n → capped n + 1 ≡ 2 ^ 64
unfolding capped
large n h = omega arith

pub word_left :
    (w : TreeWords) (b : List ℕ) → (allowances_answer w).number ≡ 0 → (d : ℕ) → 0 < d → d < w.domains → d < 64 →
    get_or (allowances_left w b) d 0 ≡ capped (allowance (tree_of w) (256 + d))
unfolding allowances_left allowance_word tree_of
word_left w b ok d p s h =
    let z : 0 + d ≡ d = omega arith in
    rw (eq-eqb (allowances_answer w).number 0 ok)
    (word_at (allowance_word (tree_of w)) 64 0 d h ∙ rw (z, ne_eqb d 0 (omega arith), lt-ltb d w.domains s))

pub allowances_law : AllowancesLaw
unfolding AllowancesLaw allowances_answer tree_of
allowances_law w b ok =
    let few = (accepted (tree_of w) ok).few_domains in
    record {
      exact = λ d p s h. word_left w b ok d p s (omega arith) ∙ small _ h;
      cut = λ d p s h. rw (word_left w b ok d p s (omega arith)) (large _ h);
    }
