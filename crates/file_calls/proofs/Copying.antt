-- Bytes copied into a part of a buffer.
use Rattle.std.proofs.Common.{◌≡◌, refl, sym, ◌∙◌, ap, ℕ, ◌+◌, ◌≤◌, List, ◌++◌, length, take, drop, append_assoc, arith}
use Rattle.std.proofs.lemmas.List.Edits.{sets, sets-eq, paste_all}
use Rattle.std.proofs.lemmas.Slice.{put_mid-paste}
use Rattle.model.proofs.Storing.{sets_front}
use borrow.Rule.Slice.PartMut.{put_mid}

pub copied : (xs ys zs : List ℕ) (a k : ℕ) → ys ≡ zs → k ≡ length zs → a + k ≤ length xs → put_mid a k xs ys ≡ sets xs a zs
copied xs ys zs a k h n room =
    put_mid-paste a k xs ys zs k h refl n
    ∙ paste_all xs a zs k n
    ∙ ap (λ j. take a xs ++ (zs ++ drop (a + j) xs)) n
    ∙ sym (append_assoc (take a xs) zs (drop (a + length zs) xs))
    ∙ sym (sets-eq zs xs a (omega (arith, n)))

pub copied_front : (xs ys zs : List ℕ) → ys ≡ zs → length zs ≤ length xs → ys ++ drop (length zs) xs ≡ sets xs 0 zs
copied_front xs ys zs h room = ap (λ l. l ++ drop (length zs) xs) h ∙ sym (sets_front xs zs room)
