-- What the tests of a byte imply, and limits of numbers.
use mathlib.Core.Path.{◌≡◌, refl, sym, ◌∙◌}
use mathlib.Core.Bool.{Bool, true, false}
use mathlib.Core.Logic.{◌⊎◌, inl, inr}
use Prim.Native.Nat.{ℕ, ◌≤◌}
use native.Mathlib.Omega.{arith}
use lib.Dec.{ltb, leb}
use borrow.Author.Tests.{ltb-true, ltb-false, leb-true}
use Rattle.model.proofs.Tests.{and_both, by_test}
use Rattle.text_tree.specs.Words.{least}
use Rattle.text_tree.specs.Reading.{is_digit, is_first_digit, grown, grows}

pub digit_bounds : (b : ℕ) → is_digit b ≡ true → (48 ≤ b) × (b ≤ 57)
digit_bounds b e =
    let t = and_both (leb 48 b) (ltb b 58) e in
    (leb-true 48 b t.0, omega (arith, ltb-true b 58 t.1))

pub first_digit_bounds : (b : ℕ) → is_first_digit b ≡ true → (49 ≤ b) × (b ≤ 57)
first_digit_bounds b e =
    let t = and_both (leb 49 b) (ltb b 58) e in
    (leb-true 49 b t.0, omega (arith, ltb-true b 58 t.1))

pub grows_digit : (h b : ℕ) → grows h b ≡ true → is_digit b ≡ true
grows_digit h b e = (and_both (is_digit b) (ltb (grown h b) 65536) e).0

pub grows_limit : (h b : ℕ) → grows h b ≡ true → grown h b ≤ 65535
grows_limit h b e = omega (arith, ltb-true (grown h b) 65536 (and_both (is_digit b) (ltb (grown h b) 65536) e).1)

pub least_limit : (m n : ℕ) → least m n ≤ m
unfolding least
least_limit m n = by_test (λ k. k ≤ m) (ltb n m) n m (λ e. omega (arith, ltb-true n m e)) (λ e. omega arith)

pub least_below : (m n : ℕ) → n ≤ m → least m n ≡ n
unfolding least
least_below m n h = by_test (λ k. k ≡ n) (ltb n m) n m (λ e. refl) (λ e. omega (arith, ltb-false n m e))

pub least_above : (m n : ℕ) → m ≤ n → least m n ≡ m
unfolding least
least_above m n h = by_test (λ k. k ≡ m) (ltb n m) n m (λ e. absurd (omega (arith, ltb-true n m e))) (λ e. refl)

-- a count capped at 257 before a further digit gives the same capped count
pub least_grown : (n b : ℕ) → least 257 (grown (least 257 n) b) ≡ least 257 (grown n b)
least_grown n b = go (ltb n 257) refl
  where
    go : (c : Bool) → ltb n 257 ≡ c → least 257 (grown (least 257 n) b) ≡ least 257 (grown n b)
    go true e = rw (least_below 257 n (omega (arith, ltb-true n 257 e)))
    go false e =
        let h = ltb-false n 257 e in
        let k : 257 ≤ n = h in
        rw (least_above 257 n k) (least_above 257 (grown 257 b) (omega arith) ∙ sym (least_above 257 (grown n b) (omega arith)))

pub least_cases : (m n : ℕ) → ((n ≤ m) × (least m n ≡ n)) ⊎ ((m ≤ n) × (least m n ≡ m))
least_cases m n = go (ltb n m) refl
  where
    go : (c : Bool) → ltb n m ≡ c → ((n ≤ m) × (least m n ≡ n)) ⊎ ((m ≤ n) × (least m n ≡ m))
    go true e = let h : n ≤ m = omega (arith, ltb-true n m e) in inl (h, least_below m n h)
    go false e = let h = ltb-false n m e in inr (h, least_above m n h)
