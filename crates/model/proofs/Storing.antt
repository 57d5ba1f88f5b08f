-- Consecutive stores in a buffer: joined, and at its front.
use mathlib.Core.Path.{◌≡◌, refl, sym, ap, ◌∙◌}
use mathlib.Core.List.{List, [], ◌∷◌, ◌++◌}
use mathlib.Core.Logic.{◌≢◌}
use Prim.Native.Nat.{ℕ, suc, ◌+◌, ◌≤◌}
use native.Mathlib.Omega.{arith}
use native.Mathlib.Nat.{add-zero}
use lib.ListN.{length, set, drop}
use lib.Seq.{sets, set_comm, sets-eq}

-- a store after the places that others fill may be done first
pub sets_after : (l : List ℕ) (i : ℕ) (vs : List ℕ) (j a : ℕ) → i + length vs ≤ j → sets (set l j a) i vs ≡ set (sets l i vs) j a
sets_after l i [] j a h = refl
sets_after l i (v ∷ vs) j a h =
    let apart : j ≢ i = λ e. omega arith in
    rw (set_comm l j i a v apart) (sets_after (set l i v) (suc i) vs j a (omega arith))

pub sets_append : (l : List ℕ) (i : ℕ) (xs ys : List ℕ) → sets l i (xs ++ ys) ≡ sets (sets l i xs) (i + length xs) ys
sets_append l i [] ys = rw add-zero
sets_append l i (x ∷ xs) ys =
    let e : i + suc (length xs) ≡ suc i + length xs = omega arith in
    rw e (sets_append (set l i x) (suc i) xs ys)

-- the last of several stores may be done first
pub sets_last : (l : List ℕ) (i : ℕ) (xs : List ℕ) (a : ℕ) → sets l i (xs ++ (a ∷ [])) ≡ sets (set l (i + length xs) a) i xs
sets_last l i xs a = sets_append l i xs (a ∷ []) ∙ sym (sets_after l i xs (i + length xs) a (omega arith))

-- stores at the front of a buffer
pub sets_front : (l ws : List ℕ) → length ws ≤ length l → sets l 0 ws ≡ ws ++ drop (length ws) l
sets_front l ws h = let e : 0 + length ws ≡ length ws = omega arith in rw (sets-eq ws l 0 (omega arith), e)

-- consecutive stores, each one index further, are one store of them all
abbrev pub stores : List ℕ → (at k : ℕ) → List ℕ → List ℕ
stores l at k [] = l
stores l at k (x ∷ xs) = stores (set l (at + k) x) at (k + 1) xs

stores_from : (l : List ℕ) (at k : ℕ) (xs : List ℕ) → stores l at k xs ≡ sets l (at + k) xs
stores_from l at k [] = refl
stores_from l at k (x ∷ xs) =
    let z : at + (k + 1) ≡ suc (at + k) = omega arith in
    stores_from (set l (at + k) x) at (k + 1) xs ∙ ap (λ n. sets (set l (at + k) x) n xs) z

pub stored : (l : List ℕ) (at x : ℕ) (xs : List ℕ) → stores (set l at x) at 1 xs ≡ sets l at (x ∷ xs)
stored l at x xs = let z : at + 1 ≡ suc at = omega arith in stores_from (set l at x) at 1 xs ∙ ap (λ n. sets (set l at x) n xs) z
