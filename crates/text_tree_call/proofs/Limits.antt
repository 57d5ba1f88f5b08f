-- The limits of counts, and the homes of a range of threads.
use Rattle.std.proofs.Common.{◌≡◌, refl, sym, ◌∙◌, ap, ℕ, ◌+◌, ◌-◌, ◌≤◌, List, ◌++◌, length, take, drop, replicate, min, Bool, true, false, rules, arith, append_assoc}
use Rattle.std.proofs.Math.Nat.{min-eq_left, min-eq_right}
use Rattle.std.proofs.lemmas.List.{length-replicate}
use Rattle.std.proofs.lemmas.List.Edits.{sets-eq, paste_all}
use Rattle.std.proofs.lemmas.Slice.{put_mid-paste}
use borrow.Rule.Slice.PartMut.{put_mid}
use borrow.Author.Tests.{ltb-true, ltb-false}
use lib.Dec.{ltb}
use Rattle.std.specs.Char.{is_ascii_digit}
use Rattle.std.proofs.lemmas.Bool.Decides.{nat_tests}
use Rattle.text_tree.specs.Reading.{is_digit}
use Rattle.text_tree.specs.Words.{least, filled_from}
use Rattle.text_tree.proofs.Digits.{least_below, least_above}

pub min_least : (m n : ℕ) → min n m ≡ least m n
min_least m n = go (ltb n m) refl
  where
    go : (b : Bool) → ltb n m ≡ b → min n m ≡ least m n
    go true e = let h : n ≤ m = omega (arith, ltb-true n m e) in min-eq_left h ∙ sym (least_below m n h)
    go false e = let h = ltb-false n m e in min-eq_right h ∙ sym (least_above m n h)

-- a range that is filled: what stands there afterwards
pub homes_put :
    (hs ys : List ℕ) (a e d : ℕ) → ys ≡ replicate (e - a) d → a ≤ e → e ≤ length hs → put_mid a (e - a) hs ys ≡ filled_from hs a e d
homes_put hs ys a e d h below room =
    let n : e - a ≡ length (replicate (e - a) d) = sym (length-replicate (e - a) d) in
    put_mid-paste a (e - a) hs ys (replicate (e - a) d) (e - a) h refl n
    ∙ paste_all hs a (replicate (e - a) d) (e - a) n
    ∙ ap (λ k. take a hs ++ (replicate (e - a) d ++ drop (a + k) hs)) n
    ∙ sym (append_assoc (take a hs) (replicate (e - a) d) (drop (a + length (replicate (e - a) d)) hs))
    ∙ sym (sets-eq (replicate (e - a) d) hs a (omega (arith, n)))

-- a start above the last home fills nothing, as does the end itself
pub homes_from :
    (hs : List ℕ) (t e d : ℕ) → e ≤ 256 → filled_from hs (min (min t 257) 256) e d ≡ filled_from hs (least 257 t) e d
homes_from hs t e d h = go (ltb t 257) refl
  where
    go : (b : Bool) → ltb t 257 ≡ b → filled_from hs (min (min t 257) 256) e d ≡ filled_from hs (least 257 t) e d
    go true z =
        let l : t ≤ 256 = omega (arith, ltb-true t 257 z) in
        let same : min (min t 257) 256 ≡ least 257 t = omega (arith, least_below 257 t (omega (arith, l))) in
        ap (λ k. filled_from hs k e d) same
    go false z =
        let l = ltb-false t 257 z in
        let last : e - min (min t 257) 256 ≡ 0 = omega arith in
        let over : e - least 257 t ≡ 0 = omega (arith, least_above 257 t l) in
        rw (last, over)

pub digit_same : (b : ℕ) → is_ascii_digit b ≡ is_digit b
digit_same b = search (nat_tests, rules)
