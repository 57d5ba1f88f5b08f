-- Tickets along a queue: who has which, and that a queue is shorter than the range of the counters.
use mathlib.Core.Path.{◌≡◌, refl, sym, ap, ◌∙◌}
use mathlib.Core.List.{List, [], ◌∷◌, ◌++◌}
use mathlib.Core.Logic.{◌≢◌}
use Prim.Native.Nat.{ℕ, zero, suc, ◌+◌, ◌≤◌, ◌<◌}
use native.Mathlib.Omega.{arith}
use lib.ListN.{length}
use Rattle.model.specs.States.{wrap}
use Rattle.model.proofs.Lists.{same_or, first, rest, is_same, is_other, count, count_cons, count_nil, first_cons, first_nil, rest_cons, rest_nil}
use Rattle.model.proofs.Laws.Form.{wrap_fits}
use Rattle.claims.proofs.Words.Represents.{Tickets}

-- THE LENGTH OF A QUEUE. How often all numbers below n occur in a list, together
unfoldable pub total : (n : ℕ) → List ℕ → ℕ
total zero q = 0
total (suc n) q = total n q + count n q

total_nil : (n : ℕ) → total n [] ≡ 0
unfolding total
total_nil zero = refl
total_nil (suc n) = omega (arith, total_nil n, count_nil n)

total_beyond : (n x : ℕ) (q : List ℕ) → n ≤ x → total n (x ∷ q) ≡ total n q
unfolding total
total_beyond zero x q h = refl
total_beyond (suc n) x q h = omega (arith, total_beyond n x q (omega arith), count_cons n x q, is_other n x (λ e. omega arith))

total_cons : (n x : ℕ) (q : List ℕ) → x < n → total n (x ∷ q) ≡ suc (total n q)
unfolding total
total_cons zero x q h = absurd (omega arith)
total_cons (suc n) x q h =
    same_or x n _
    (λ e. omega (arith, total_beyond n x q (omega arith), count_cons n x q, is_same n x (sym e)))
    (λ e. omega (arith, total_cons n x q (omega arith), count_cons n x q, is_other n x (λ z. e (sym z))))

pub total_length : (n : ℕ) (q : List ℕ) → ((a : ℕ) → 1 ≤ count a q → a < n) → length q ≡ total n q
total_length n [] h = sym (total_nil n)
total_length n (x ∷ q) h =
    let here = h x (omega (arith, count_cons x x q, is_same x x refl)) in
    ap suc (total_length n q (λ a c. h a (omega (arith, count_cons a x q)))) ∙ sym (total_cons n x q here)

total_once : (n : ℕ) (q : List ℕ) → ((a : ℕ) → count a q ≤ 1) → total n q ≤ n
unfolding total
total_once zero q h = omega arith
total_once (suc n) q h = omega (arith, total_once n q h, h n)

-- a list of numbers below n, none twice, has at most n elements
pub list_short : (n : ℕ) (q : List ℕ) → ((a : ℕ) → 1 ≤ count a q → a < n) → ((a : ℕ) → count a q ≤ 1) → length q ≤ n
list_short n q h o = omega (arith, total_length n q h, total_once n q o)

pub length_none : (q : List ℕ) → length q ≡ 0 → q ≡ []
length_none [] e = refl
length_none (x ∷ q) e = absurd (omega arith)

-- COUNTERS
next_wrap : (v k : ℕ) → wrap (wrap (v + 1) + k) ≡ wrap (v + suc k)
next_wrap v k = omega arith

-- a counter returns to a number only after 65,536 increments
pub wrap_other : (v k : ℕ) → v < 65536 → 0 < k → k < 65536 → wrap (v + k) ≢ v
wrap_other v k a b c e = omega arith

-- WHO HOLDS WHICH TICKET
pub tickets_snoc : (f : ℕ → ℕ) (v b m : ℕ) (q : List ℕ) → f m ≡ b → Tickets f v b q → Tickets f v (wrap (b + 1)) (q ++ (m ∷ []))
unfolding Tickets
tickets_snoc f v b m [] e h = (e ∙ h, ap (λ n. wrap (n + 1)) h)
tickets_snoc f v b m (x ∷ xs) e h = (h.0, tickets_snoc f (wrap (v + 1)) b m xs e h.1)

pub tickets_after : (f : ℕ → ℕ) (v b : ℕ) (q : List ℕ) → v < 65536 → Tickets f v b q → b ≡ wrap (v + length q)
unfolding Tickets
tickets_after f v b [] s h = omega (arith, h)
tickets_after f v b (x ∷ xs) s h = tickets_after f (wrap (v + 1)) b xs (wrap_fits (v + 1)) h.1 ∙ next_wrap v (length xs)

-- a member's ticket is as far after the grant as the member is after the first
pub record Held (f : ℕ → ℕ) (v a : ℕ) (q : List ℕ) : Type 0 where
  pub distance : ℕ
  pub within : distance < length q
  pub ticket : f a ≡ wrap (v + distance)

pub tickets_held : (f : ℕ → ℕ) (v b a : ℕ) (q : List ℕ) → v < 65536 → Tickets f v b q → 1 ≤ count a q → Held f v a q
unfolding Tickets
tickets_held f v b a [] s h c = absurd (omega (arith, count_nil a))
tickets_held f v b a (x ∷ xs) s h c =
    same_or a x _
    (λ e. record { distance = 0; within = omega arith; ticket = ap f e ∙ h.0 ∙ (let z : v ≡ wrap (v + 0) = omega arith in z) })
    (λ e.
    let r = tickets_held f (wrap (v + 1)) b a xs (wrap_fits (v + 1)) h.1 (omega (arith, count_cons a x xs, is_other a x e)) in
    record { distance = suc r.distance; within = omega (arith, r.within); ticket = r.ticket ∙ next_wrap v r.distance })

pub tickets_first : (f : ℕ → ℕ) (v b a : ℕ) (q : List ℕ) → Tickets f v b q → first q ≡ suc a → f a ≡ v
unfolding Tickets
tickets_first f v b a [] h e = absurd (omega (arith, first_nil))
tickets_first f v b a (x ∷ xs) h e = let z : a ≡ x = omega (arith, first_cons x xs) in ap f z ∙ h.0

-- a member after the first has another ticket than the one that is shown
pub tickets_rest : (f : ℕ → ℕ) (v b a : ℕ) (q : List ℕ) → v < 65536 → length q ≤ 320 → Tickets f v b q → 1 ≤ count a (rest q) → f a ≢ v
unfolding Tickets
tickets_rest f v b a [] s l h c = absurd (omega (arith, ap (count a) rest_nil, count_nil a))
tickets_rest f v b a (x ∷ xs) s l h c =
    let r = tickets_held f (wrap (v + 1)) b a xs (wrap_fits (v + 1)) h.1 (rw (rest_cons x xs) at c) in
    let few = r.within in
    λ e. wrap_other v (suc r.distance) s (omega arith) (omega arith) (sym (r.ticket ∙ next_wrap v r.distance) ∙ e)
