-- A tree's parents and homes: a word that is read is the array's.
use mathlib.Core.Path.{◌≡◌, refl}
use mathlib.Core.List.{List}
use Prim.Native.Nat.{ℕ, ◌≤◌, ◌<◌}
use native.Mathlib.Omega.{arith}
use lib.ListN.{get_or}
use borrow.Author.Tests.{le-leb, lt-ltb}
use Rattle.model.specs.declared.TreeWords.{TreeWords}
use Rattle.model.specs.Trees.{read_word, tree_of}
use Rattle.model.specs.Refusals.{tree_refusal}
use Rattle.model.proofs.Trees.Accepted.{accepted}

pub read_in : (first end : ℕ) (ws : List ℕ) (k : ℕ) → first ≤ k → k < end → read_word first end ws k ≡ get_or ws k 0
unfolding read_word
read_in first end ws k p q = rw (le-leb first k p, lt-ltb k end q)

module _ (w : TreeWords) where
  pub home_read : (i : ℕ) → i < w.threads → (tree_of w).home i ≡ get_or w.homes i 0
  unfolding tree_of
  home_read i h = read_in 0 w.threads w.homes i (omega arith) h

  pub parent_read : (d : ℕ) → 0 < d → d < w.domains → (tree_of w).parent d ≡ get_or w.parents d 0
  unfolding tree_of
  parent_read d p h = read_in 1 w.domains w.parents d (omega arith) h

  pub domains_read : (tree_of w).domains ≡ w.domains
  unfolding tree_of
  domains_read = refl

  pub threads_read : (tree_of w).threads ≡ w.threads
  unfolding tree_of
  threads_read = refl

-- an accepted tree fits into the arrays
module _ (w : TreeWords) (ok : (tree_refusal (tree_of w)).number ≡ 0) where
  pub few_domains : w.domains ≤ 64
  unfolding tree_of
  few_domains = (accepted (tree_of w) ok).few_domains

  pub few_threads : w.threads ≤ 256
  unfolding tree_of
  few_threads = (accepted (tree_of w) ok).few_threads
