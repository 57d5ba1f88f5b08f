-- What is copied over a part of a buffer is stored there in order.
use mathlib.Core.Path.{◌≡◌, refl, sym, ap, ◌∙◌}
use mathlib.Core.List.{List, [], ◌∷◌, ◌++◌, append_assoc}
use Prim.Native.Nat.{ℕ, ◌+◌, ◌≤◌}
use native.Mathlib.Omega.{arith}
use lib.ListN.{length, take, drop, set}
use lib.Seq.{sets, sets-eq, drop-drop}
use borrow.Rule.Slice.PartMut.{put_mid}

pub put_stored : {X : Type 0} (a k : ℕ) (xs ys : List X) → k ≡ length ys → a + k ≤ length xs → put_mid a k xs ys ≡ sets xs a ys
put_stored a k xs ys e h =
    sym (append_assoc (take a xs) ys (drop k (drop a xs))) ∙ ap (λ r. take a xs ++ ys ++ r) (drop-drop k a xs ∙ ap (λ n. drop (a + n) xs) e)
    ∙ sym (sets-eq ys xs a (omega arith))

-- five numbers stored one after another are the whole of a list of five
pub five_stored : {X : Type 0} (xs : List X) (a b c d e : X) → length xs ≡ 5 → set (set (set (set (set xs 0 a) 1 b) 2 c) 3 d) 4 e ≡ a ∷ b ∷ c ∷ d ∷ e ∷ []
five_stored [] a b c d e h = absurd (omega arith)
five_stored (p ∷ []) a b c d e h = absurd (omega arith)
five_stored (p ∷ q ∷ []) a b c d e h = absurd (omega arith)
five_stored (p ∷ q ∷ r ∷ []) a b c d e h = absurd (omega arith)
five_stored (p ∷ q ∷ r ∷ s ∷ []) a b c d e h = absurd (omega arith)
five_stored (p ∷ q ∷ r ∷ s ∷ t ∷ []) a b c d e h = refl
five_stored (p ∷ q ∷ r ∷ s ∷ t ∷ u ∷ xs) a b c d e h = absurd (omega arith)
