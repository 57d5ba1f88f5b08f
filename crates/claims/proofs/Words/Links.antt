-- The last of a queue, and who comes after a member: the meaning of a tail and the nexts.
use mathlib.Core.Path.{◌≡◌, refl, sym, ◌∙◌}
use mathlib.Core.Bool.{cond}
use mathlib.Core.List.{List, [], ◌∷◌, ◌++◌}
use mathlib.Core.Logic.{◌≢◌}
use Prim.Native.Nat.{ℕ, suc, ◌≤◌}
use native.Mathlib.Omega.{arith}
use lib.Dec.{eqb}
use borrow.Author.Tests.{eq-eqb, ne_eqb}
use Rattle.model.proofs.Lists.{same_or, first, rest, is_same, is_other, count, count_cons, count_rest, first_in}

-- 0 for an empty queue, else one more than its last
unfoldable pub final : List ℕ → ℕ
final [] = 0
final (x ∷ []) = suc x
final (x ∷ y ∷ ys) = final (y ∷ ys)

-- 0 if nothing is after a, else one more than the member after a
unfoldable pub after : List ℕ → ℕ → ℕ
after [] a = 0
after (x ∷ xs) a = cond (eqb a x) (first xs) (after xs a)

pub final_nil : final [] ≡ 0
unfolding final
final_nil = refl

pub final_append : (xs : List ℕ) (m : ℕ) → final (xs ++ (m ∷ [])) ≡ suc m
unfolding final
final_append [] m = refl
final_append (x ∷ []) m = refl
final_append (x ∷ y ∷ ys) m = final_append (y ∷ ys) m

pub final_none : (xs : List ℕ) → final xs ≡ 0 → xs ≡ []
unfolding final
final_none [] e = refl
final_none (x ∷ []) e = absurd (omega arith)
final_none (x ∷ y ∷ ys) e = let z = final_none (y ∷ ys) e in absurd (let f : ◌≡◌ {A = ℕ} 0 1 = cc in omega arith)

pub first_some : (xs : List ℕ) → final xs ≢ 0 → (a : ℕ) × (first xs ≡ suc a)
unfolding final first
first_some [] h = absurd (h refl)
first_some (x ∷ xs) h = (x, refl)

pub final_in : (r : ℕ) (xs : List ℕ) → final xs ≡ suc r → 1 ≤ count r xs
unfolding final count
final_in r [] e = absurd (omega arith)
final_in r (x ∷ []) e = let z : r ≡ x = omega arith in omega (arith, is_same r x z)
final_in r (x ∷ y ∷ ys) e = let h = final_in r (y ∷ ys) e in omega arith

-- a queue whose first is its last, and which has each record once, has no other member
pub alone : (r : ℕ) (xs : List ℕ) → first xs ≡ suc r → final xs ≡ suc r → count r xs ≤ 1 → xs ≡ r ∷ []
unfolding first final
alone r [] e f h = absurd (omega arith)
alone r (x ∷ []) e f h = let z : x ≡ r = omega arith in rw z
alone r (x ∷ y ∷ ys) e f h =
    absurd (omega (arith, count_cons r x (y ∷ ys), is_same r x (omega arith), final_in r (y ∷ ys) f))

pub final_second : (x y : ℕ) (ys : List ℕ) → final (x ∷ y ∷ ys) ≡ final (y ∷ ys)
unfolding final
final_second x y ys = refl

-- THE MEMBER AFTER ANOTHER
pub after_nil : (a : ℕ) → after [] a ≡ 0
unfolding after
after_nil a = refl

pub after_here : (a x : ℕ) (xs : List ℕ) → a ≡ x → after (x ∷ xs) a ≡ first xs
unfolding after
after_here a x xs h = let e = eq-eqb a x h in rw e

pub after_past : (a x : ℕ) (xs : List ℕ) → a ≢ x → after (x ∷ xs) a ≡ after xs a
unfolding after
after_past a x xs h = let e = ne_eqb a x h in rw e

-- a member after another is not the first
pub after_counted : (xs : List ℕ) (a b : ℕ) → after xs a ≡ suc b → 1 ≤ count b (rest xs)
unfolding rest
after_counted [] a b e = absurd (omega (arith, after_nil a))
after_counted (x ∷ xs) a b e =
    same_or a x (1 ≤ count b xs)
    (λ z. first_in b xs (sym (after_here a x xs z) ∙ e))
    (λ n. let h = after_counted xs a b (sym (after_past a x xs n) ∙ e) in omega (arith, count_rest b xs))

-- a member with another after it is in the queue
pub after_in : (xs : List ℕ) (a b : ℕ) → after xs a ≡ suc b → 1 ≤ count a xs
after_in [] a b e = absurd (omega (arith, after_nil a))
after_in (x ∷ xs) a b e =
    same_or a x _
    (λ z. omega (arith, count_cons a x xs, is_same a x z))
    (λ n. let h = after_in xs a b (sym (after_past a x xs n) ∙ e) in omega (arith, count_cons a x xs))

pub after_last : (a : ℕ) (xs : List ℕ) → final xs ≡ suc a → count a xs ≤ 1 → after xs a ≡ 0
unfolding final first after
after_last a [] e h = refl
after_last a (x ∷ []) e h = after_here a x [] (omega arith)
after_last a (x ∷ y ∷ ys) e h =
    same_or a x _
    (λ z. absurd (omega (arith, count_cons a x (y ∷ ys), is_same a x z, final_in a (y ∷ ys) e)))
    (λ n. after_past a x (y ∷ ys) n ∙ after_last a (y ∷ ys) e (omega (arith, count_cons a x (y ∷ ys), is_other a x n)))

-- a member is added at the end of a queue
pub after_snoc_last : (a m : ℕ) (xs : List ℕ) → final xs ≡ suc a → count a xs ≤ 1 → after (xs ++ (m ∷ [])) a ≡ suc m
unfolding final first
after_snoc_last a m [] e h = absurd (omega arith)
after_snoc_last a m (x ∷ []) e h = after_here a x (m ∷ []) (omega arith)
after_snoc_last a m (x ∷ y ∷ ys) e h =
    same_or a x _
    (λ z. absurd (omega (arith, count_cons a x (y ∷ ys), is_same a x z, final_in a (y ∷ ys) e)))
    (λ n.
    after_past a x (y ∷ ys ++ (m ∷ [])) n ∙ after_snoc_last a m (y ∷ ys) e (omega (arith, count_cons a x (y ∷ ys), is_other a x n)))

pub after_snoc : (xs : List ℕ) (a b m : ℕ) → after xs a ≡ suc b → after (xs ++ (m ∷ [])) a ≡ suc b
unfolding first
after_snoc [] a b m e = absurd (omega (arith, after_nil a))
after_snoc (x ∷ []) a b m e =
    same_or a x _
    (λ z. absurd (omega (arith, after_here a x [] z)))
    (λ n. absurd (omega (arith, after_past a x [] n, after_nil a)))
after_snoc (x ∷ y ∷ ys) a b m e =
    same_or a x _
    (λ z. after_here a x (y ∷ ys ++ (m ∷ [])) z ∙ sym (after_here a x (y ∷ ys) z) ∙ e)
    (λ n. after_past a x (y ∷ ys ++ (m ∷ [])) n ∙ after_snoc (y ∷ ys) a b m (sym (after_past a x (y ∷ ys) n) ∙ e))

-- only the first has the second after it
pub before_second : (p x r : ℕ) (ys : List ℕ) → after (x ∷ r ∷ ys) p ≡ suc r → count r (x ∷ r ∷ ys) ≤ 1 → p ≡ x
unfolding rest
before_second p x r ys e c =
    same_or p x _ (λ z. z)
    (λ n.
    let k = after_counted (r ∷ ys) p r (sym (after_past p x (r ∷ ys) n) ∙ e) in
    absurd (omega (arith, count_cons r x (r ∷ ys), count_cons r r ys, is_same r r refl)))
