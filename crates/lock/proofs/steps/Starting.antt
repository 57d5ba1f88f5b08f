-- A fresh state, given the number at which its counters start.
use mathlib.Core.Path.{◌≡◌, refl, sym, ap}
use mathlib.Core.Bool.{Bool, true, false, not, cond}
use Prim.Native.Nat.{ℕ, ◌<◌}
use Rattle.model.specs.Counters.{lock_state, fresh_counters, fresh_lock}
use native.Mathlib.Nat.{mod-eq_of_lt}
use lib.Dec.{eqb}
use Rattle.lock.specs.Steps.Running.{fresh_from, first_number}
use Rattle.model.specs.declared.TreeWords.{TreeWords}
use Rattle.model.specs.Trees.{tree_of}
use Rattle.model.specs.States.{wrap, fresh_words, fresh_state}

first_is : (n k v : ℕ) → v < 65536 → first_number n k v ≡ cond (not (eqb k 0)) (wrap (cond (eqb n 0) v 0)) 0
first_is n k v h = by (eqb n 0) (eqb k 0)
  where
    by : (a b : Bool) → cond a (cond b 0 v) 0 ≡ cond (not b) (wrap (cond a v 0)) 0
    by true true = refl
    by true false = sym (mod-eq_of_lt h)
    by false true = refl
    by false false = refl

pub fresh_is : (w : TreeWords) (n v : ℕ) → v < 65536 → fresh_from (first_number n w.ticket_root v) ≡ fresh_state (tree_of w) (cond (eqb n 0) v 0)
unfolding fresh_state tree_of
fresh_is w n v h = ap fresh_from (first_is n w.ticket_root v h)

-- counters that start at 0 are those of fresh words
pub fresh_from_zero : fresh_from 0 ≡ fresh_words
unfolding fresh_words
fresh_from_zero = refl

-- a fresh lock whose counters start at 0
pub fresh_is_lock : lock_state (fresh_from 0) fresh_counters ≡ fresh_lock
unfolding fresh_words
fresh_is_lock = refl
