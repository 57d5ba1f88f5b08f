-- Words stored within the arrays: the word at each index.
use mathlib.Core.Path.{◌≡◌, refl, sym, ◌∙◌}
use mathlib.Core.List.{List}
use mathlib.Core.Bool.{Bool, true, false}
use mathlib.Core.Logic.{◌≢◌, ◌⊎◌, inl, inr}
use Prim.Native.Nat.{ℕ, ◌≤◌, ◌<◌, suc, ◌+◌}
use native.Mathlib.Omega.{arith}
use lib.Dec.{ltb}
use lib.ListN.{length, get_or, set, length-set}
use lib.Seq.{get_or-set_same, get_or-set_other, ext_get_or}
use borrow.Author.Tests.{ltb-true, ltb-false, lt-ltb}
use Rattle.model.proofs.Tests.{by_test}
use Rattle.lock_file.specs.Reading.{stored}

pub stored_length : (n : ℕ) (ws : List ℕ) (k v : ℕ) → length (stored n ws k v) ≡ length ws
unfolding stored
stored_length n ws k v = by_test (λ l. length l ≡ length ws) (ltb k n) (set ws k v) ws (λ e. length-set ws k v) (λ e. refl)

pub stored_here : (n : ℕ) (ws : List ℕ) (k v : ℕ) → k < n → k < length ws → get_or (stored n ws k v) k 0 ≡ v
unfolding stored
stored_here n ws k v h g = rw (lt-ltb k n h) (get_or-set_same ws k v 0 g)

pub stored_other : (n : ℕ) (ws : List ℕ) (k v j : ℕ) → j ≢ k → get_or (stored n ws k v) j 0 ≡ get_or ws j 0
unfolding stored
stored_other n ws k v j h =
    by_test (λ l. get_or l j 0 ≡ get_or ws j 0) (ltb k n) (set ws k v) ws (λ e. get_or-set_other ws k j v 0 h) (λ e. refl)

-- two arrays are the same if they agree between two indices and are 0 elsewhere
pub same_words :
    (n first end : ℕ) (xs ys : List ℕ) → length xs ≡ n → length ys ≡ n →
    ((j : ℕ) → first ≤ j → j < end → j < n → get_or xs j 0 ≡ get_or ys j 0) →
    ((j : ℕ) → (j < first) ⊎ (end ≤ j) → get_or xs j 0 ≡ 0) → ((j : ℕ) → (j < first) ⊎ (end ≤ j) → get_or ys j 0 ≡ 0) → xs ≡ ys
same_words n first end xs ys a b within x y =
    ext_get_or 0 xs ys (a ∙ sym b) (λ j h. by j h (ltb j first) (ltb j end) refl refl)
  where
    by : (j : ℕ) → j < length xs → (s t : Bool) → ltb j first ≡ s → ltb j end ≡ t → get_or xs j 0 ≡ get_or ys j 0
    by j h true t p q = x j (inl (ltb-true j first p)) ∙ sym (y j (inl (ltb-true j first p)))
    by j h false true p q = within j (ltb-false j first p) (ltb-true j end q) (omega arith)
    by j h false false p q = x j (inr (ltb-false j end q)) ∙ sym (y j (inr (ltb-false j end q)))

-- an index that is not one of the k from d on
abbrev pub Outside : (index from many : ℕ) → Type 0
Outside j d k = (j < d) ⊎ (d + k ≤ j)

pub outside_next : (j d k : ℕ) → Outside j d (suc k) → Outside j (d + 1) k
outside_next j d k (inl l) = inl (omega arith)
outside_next j d k (inr g) = inr (omega arith)

pub outside_apart : (j d k : ℕ) → Outside j d (suc k) → j ≢ d
outside_apart j d k (inl l) z = omega arith
outside_apart j d k (inr g) z = omega arith
