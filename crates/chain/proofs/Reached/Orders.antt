-- Queues as lists: who is just before a member, how far it is from the first, and which ticket it has.
use mathlib.Core.Path.{◌≡◌, refl, sym, ap, ◌∙◌}
use mathlib.Core.Bool.{cond}
use mathlib.Core.List.{List, [], ◌∷◌}
use mathlib.Core.Logic.{◌≢◌}
use Prim.Native.Nat.{ℕ, suc, ◌+◌, ◌≤◌, ◌<◌}
use native.Mathlib.Omega.{arith}
use lib.Dec.{eqb}
use lib.ListN.{length}
use borrow.Author.Tests.{eq-eqb, ne_eqb}
use Rattle.model.specs.States.{wrap}
use Rattle.model.proofs.Lists.{same_or, first, rest, is_same, is_other, count, count_cons, count_nil, first_count, count_later, rest_cons, first_cons, first_nil}
use Rattle.model.proofs.Laws.Form.{wrap_fits}
use Rattle.claims.proofs.Words.Links.{after, after_nil, after_here, after_past, after_counted, after_in}
use Rattle.claims.proofs.Words.Represents.{Tickets}
use Rattle.claims.proofs.Words.Tickets.{tickets_first, tickets_rest}

abbrev pub Once : List ℕ → Type 0
Once q = (a : ℕ) → count a q ≤ 1

once_rest : (x : ℕ) (xs : List ℕ) → Once (x ∷ xs) → Once xs
once_rest x xs o a = omega (arith, o a, count_cons a x xs)

-- THE MEMBER JUST BEFORE ANOTHER: at most one
pub after_same : (q : List ℕ) (a b r : ℕ) → after q a ≡ suc r → after q b ≡ suc r → Once q → a ≡ b
after_same [] a b r e f o = absurd (omega (arith, after_nil a))
after_same (x ∷ xs) a b r e f o =
    let later : (c : ℕ) → c ≢ x → after (x ∷ xs) c ≡ suc r → first xs ≡ suc r → ⊥ = λ c n z y.
    let k = after_counted xs c r (sym (after_past c x xs n) ∙ z) in
    omega (arith, o r, count_cons r x xs, first_count r xs y) in
    same_or a x _
    (λ z. same_or b x _ (λ y. z ∙ sym y) (λ y. absurd (later b y f (sym (after_here a x xs z) ∙ e))))
    (λ z. same_or b x _ (λ y. absurd (later a z e (sym (after_here b x xs y) ∙ f)))
    (λ y. after_same xs a b r (sym (after_past a x xs z) ∙ e) (sym (after_past b x xs y) ∙ f) (once_rest x xs o)))

-- and exactly one for a member after the first
pub just_before : (q : List ℕ) (r : ℕ) → 1 ≤ count r (rest q) → Once q → (p : ℕ) × (after q p ≡ suc r)
unfolding rest
just_before [] r h o = absurd (omega (arith, count_nil r))
just_before (x ∷ xs) r h o = by (just_before xs r) xs refl
  where
    by : (1 ≤ count r (rest xs) → Once xs → (p : ℕ) × (after xs p ≡ suc r)) → (ys : List ℕ) → ys ≡ xs → (p : ℕ) × (after (x ∷ xs) p ≡ suc r)
    by rec ys e =
        same_or (first xs) (suc r) _
        (λ z. (x, after_here x x xs refl ∙ z))
        (λ z.
        let y = rec (count_later r xs z h) (once_rest x xs o) in
        let c = after_in xs y.0 r y.1 in
        (y.0, after_past y.0 x xs (λ v. let u : 1 ≤ count x xs = rw v at c in omega (arith, o x, count_cons x x xs, is_same x x refl)) ∙ y.1))

-- THE DISTANCE FROM THE FIRST
unfoldable pub position : (member : ℕ) → List ℕ → ℕ
position r [] = 0
position r (x ∷ xs) = cond (eqb r x) 0 (suc (position r xs))

pub position_here : (r x : ℕ) (xs : List ℕ) → r ≡ x → position r (x ∷ xs) ≡ 0
unfolding position
position_here r x xs e = rw (eq-eqb r x e) refl

pub position_past : (r x : ℕ) (xs : List ℕ) → r ≢ x → position r (x ∷ xs) ≡ suc (position r xs)
unfolding position
position_past r x xs n = rw (ne_eqb r x n) refl

pub position_small : (r : ℕ) (q : List ℕ) → position r q ≤ length q
unfolding position
position_small r [] = omega arith
position_small r (x ∷ xs) =
    same_or r x _ (λ e. omega (arith, position_here r x xs e)) (λ n. omega (arith, position_past r x xs n, position_small r xs))

pub position_next : (q : List ℕ) (p r : ℕ) → after q p ≡ suc r → Once q → position r q ≡ suc (position p q)
position_next [] p r e o = absurd (omega (arith, after_nil p))
position_next (x ∷ xs) p r e o =
    let counted = after_counted (x ∷ xs) p r e in
    let apart : r ≢ x = λ z. omega (arith, o r, count_cons r x xs, is_same r x z, ap (count r) (rest_cons x xs)) in
    same_or p x _
    (λ z.
    let f : first xs ≡ suc r = sym (after_here p x xs z) ∙ e in
    omega (arith, position_past r x xs apart, position_here p x xs z, first_position r xs f))
    (λ z. omega (arith, position_past r x xs apart, position_past p x xs z, position_next xs p r (sym (after_past p x xs z) ∙ e) (once_rest x xs o)))
  where
    first_position : (r : ℕ) (ys : List ℕ) → first ys ≡ suc r → position r ys ≡ 0
    first_position r [] f = absurd (omega (arith, first_nil))
    first_position r (y ∷ ys) f = position_here r y ys (let z = first_cons y ys in omega arith)

-- TICKETS: those of neighbours are consecutive, and different members have different ones
pub ticket_next : (f : ℕ → ℕ) (v b p r : ℕ) (q : List ℕ) → Tickets f v b q → after q p ≡ suc r → f r ≡ wrap (f p + 1)
unfolding Tickets
ticket_next f v b p r [] h e = absurd (omega (arith, after_nil p))
ticket_next f v b p r (x ∷ xs) h e =
    same_or p x _
    (λ z. tickets_first f (wrap (v + 1)) b r xs h.1 (sym (after_here p x xs z) ∙ e) ∙ ap (λ n. wrap (n + 1)) (sym (ap f z ∙ h.0)))
    (λ z. ticket_next f (wrap (v + 1)) b p r xs h.1 (sym (after_past p x xs z) ∙ e))

pub ticket_same : (f : ℕ → ℕ) (v b a c : ℕ) (q : List ℕ) → v < 65536 → length q ≤ 320 → Tickets f v b q → 1 ≤ count a q → 1 ≤ count c q → f a ≡ f c → a ≡ c
unfolding Tickets rest
ticket_same f v b a c [] s l h m n e = absurd (omega (arith, count_nil a))
ticket_same f v b a c (x ∷ xs) s l h m n e =
    let other : (d : ℕ) → 1 ≤ count d xs → f d ≢ v = λ d k. tickets_rest f v b d (x ∷ xs) s l h k in
    let in_rest : (d : ℕ) → d ≢ x → 1 ≤ count d (x ∷ xs) → 1 ≤ count d xs = λ d z k. omega (arith, count_cons d x xs, is_other d x z) in
    same_or a x _
    (λ z. same_or c x _ (λ y. z ∙ sym y) (λ y. absurd (other c (in_rest c y n) (sym e ∙ ap f z ∙ h.0))))
    (λ z. same_or c x _ (λ y. absurd (other a (in_rest a z m) (e ∙ ap f y ∙ h.0)))
    (λ y. ticket_same f (wrap (v + 1)) b a c xs (wrap_fits (v + 1)) (omega arith) h.1 (in_rest a z m) (in_rest c y n) e))
