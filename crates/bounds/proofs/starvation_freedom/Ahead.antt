-- The members ahead of a member: the sum of a value over them, which no step increases, and which is at most the sum over all other members.
use mathlib.Core.Path.{◌≡◌, refl, sym, ap, ◌∙◌}
use mathlib.Core.Bool.{true, cond}
use mathlib.Core.List.{List, [], ◌∷◌, ◌++◌}
use mathlib.Core.Logic.{◌≢◌, ◌⊎◌, inl, inr}
use Prim.Native.Nat.{ℕ, suc, ◌+◌, ◌≤◌}
use native.Mathlib.Omega.{arith}
use lib.Dec.{eqb}
use borrow.Author.Tests.{eq-eqb, ne_eqb}
use Rattle.model.specs.Trees.{Tree, is_member}
use Rattle.model.proofs.Lists.{same_or, first, rest, first_cons, first_snoc, rest_cons, rest_nil, is, is_same, is_other, count, count_nil, count_cons, count_rest}
use Rattle.model.proofs.Trees.Accepted.{Accepted}
use Rattle.model.proofs.Trees.Records.{member_at, member_small}
use Rattle.claims.proofs.Queues.Paths.{laws}
use Rattle.claims.proofs.Queues.Moves.{State, Event}
use Rattle.claims.proofs.Queues.Invariant.{Inv}
use Rattle.claims.proofs.Queues.Order.{Change, stays, opens, grows, moves, closes}
use Rattle.claims.proofs.Queues.Remaining.{acts_real}
use Rattle.bounds.specs.StarvationFreedom.Bounds.{passes, others_passes}
use Rattle.chain.proofs.Reached.Orders.{position, position_past}
use Rattle.bounds.proofs.starvation_freedom.Positions.{position_snoc}
use Rattle.bounds.proofs.starvation_freedom.Weights.{weight, weight_others}

-- the part of a list before a number
unfoldable pub before : (number : ℕ) → List ℕ → List ℕ
before m [] = []
before m (x ∷ xs) = cond (eqb m x) [] (x ∷ before m xs)

before_here : (m x : ℕ) (xs : List ℕ) → m ≡ x → before m (x ∷ xs) ≡ []
unfolding before
before_here m x xs e = rw (eq-eqb m x e) refl

before_past : (m x : ℕ) (xs : List ℕ) → m ≢ x → before m (x ∷ xs) ≡ x ∷ before m xs
unfolding before
before_past m x xs n = rw (ne_eqb m x n) refl

before_snoc : (m y : ℕ) (q : List ℕ) → 1 ≤ count m q → before m (q ++ (y ∷ [])) ≡ before m q
before_snoc m y [] h = absurd (omega (arith, count_nil m))
before_snoc m y (x ∷ xs) h =
    same_or m x _
    (λ e. before_here m x (xs ++ (y ∷ [])) e ∙ sym (before_here m x xs e))
    (λ n. before_past m x (xs ++ (y ∷ [])) n ∙ ap (λ l. x ∷ l) (before_snoc m y xs (omega (arith, count_cons m x xs, is_other m x n))) ∙ sym (before_past m x xs n))

-- a number is there at most as often as in the whole list, and the number itself not at all
before_fewer : (m a : ℕ) (q : List ℕ) → count a (before m q) ≤ count a q
unfolding before
before_fewer m a [] = omega arith
before_fewer m a (x ∷ xs) =
    same_or m x _
    (λ e. let z = ap (count a) (before_here m x xs e) in omega (arith, count_nil a))
    (λ n. let z = ap (count a) (before_past m x xs n) in omega (arith, count_cons a x (before m xs), count_cons a x xs, before_fewer m a xs))

before_without : (m : ℕ) (q : List ℕ) → count m (before m q) ≡ 0
unfolding before
before_without m [] = count_nil m
before_without m (x ∷ xs) =
    same_or m x _
    (λ e. ap (count m) (before_here m x xs e) ∙ count_nil m)
    (λ n. let z = ap (count m) (before_past m x xs n) in omega (arith, count_cons m x (before m xs), is_other m x n, before_without m xs))

-- THE SUM of a value over the part before a number
unfoldable pub ahead : (ℕ → ℕ) → (number : ℕ) → List ℕ → ℕ
ahead f m q = weight f (before m q)

ahead_past : (f : ℕ → ℕ) (m x : ℕ) (xs : List ℕ) → m ≢ x → ahead f m (x ∷ xs) ≡ f x + ahead f m xs
unfolding ahead weight
ahead_past f m x xs n = ap (weight f) (before_past m x xs n)

-- ONE STEP: the first stays, and the member has no more ahead of it; or the member is nearer, and the value of the first is no longer counted
pub nearer :
    (f : ℕ → ℕ) (d m r : ℕ) (e : Event) (q q' : List ℕ) → Change d e q q' → 1 ≤ count m (rest q) → count m q ≤ 1 → first q ≡ suc r →
    ((first q' ≡ first q) × (position m q' ≤ position m q) × (ahead f m q' ≤ ahead f m q)) ⊎ ((suc (position m q') ≤ position m q) × (f r + ahead f m q' ≤ ahead f m q))
unfolding ahead
nearer f d m r e q q' (stays z b g) h o u = inl (ap first z, (let w = ap (position m) z in omega arith), let w = ap (ahead f m) z in omega arith)
nearer f d m r e q q' (opens x y z b g) h o u = absurd (let w : count m (rest q) ≡ 0 = rw (y, rest_nil) (count_nil m) in omega arith)
nearer f d m r e q q' (grows x a v z b g) h o u =
    let some : 1 ≤ count m q = omega (arith, count_rest m q) in
    let p : position m q' ≡ position m q = ap (position m) z ∙ position_snoc m x q some in
    let w : ahead f m q' ≡ ahead f m q = ap (ahead f m) z ∙ ap (weight f) (before_snoc m x q some) in
    inl (ap first z ∙ first_snoc q x a v ∙ sym v, omega arith, omega arith)
nearer f d m r e q q' (moves a x xs y z b g n) h o u =
    let h' : 1 ≤ count m (x ∷ xs) = rw (y, rest_cons a (x ∷ xs)) at h in
    let c : count m q ≡ is m a + count m (x ∷ xs) = ap (count m) y ∙ count_cons m a (x ∷ xs) in
    let apart : m ≢ a = λ v. omega (arith, is_same m a v) in
    let p : position m q ≡ suc (position m (x ∷ xs)) = ap (position m) y ∙ position_past m a (x ∷ xs) apart in
    let p' : position m q' ≡ position m (x ∷ xs) = ap (position m) z in
    let w : ahead f m q ≡ f a + ahead f m (x ∷ xs) = ap (ahead f m) y ∙ ahead_past f m a (x ∷ xs) apart in
    let w' : ahead f m q' ≡ ahead f m (x ∷ xs) = ap (ahead f m) z in
    let k : a ≡ r = let v = ap first y in omega (arith, first_cons a (x ∷ xs)) in
    let k' = ap f k in
    inr (omega arith, omega arith)
nearer f d m r e q q' (closes a y z b g) h o u = absurd (let w : count m (rest q) ≡ 0 = rw (y, rest_cons a []) (count_nil m) in omega arith)

-- the first is ahead of every member after it
pub ahead_first : (f : ℕ → ℕ) (m r : ℕ) (q : List ℕ) → 1 ≤ count m (rest q) → count m q ≤ 1 → first q ≡ suc r → f r ≤ ahead f m q
ahead_first f m r [] h o u = absurd (omega (arith, ap (count m) rest_nil, count_nil m))
ahead_first f m r (x ∷ xs) h o u =
    let h' : 1 ≤ count m xs = rw (rest_cons x xs) at h in
    let n : m ≢ x = λ e. omega (arith, count_cons m x xs, is_same m x e) in
    let k : x ≡ r = omega (arith, first_cons x xs) in
    let k' = ap f k in
    omega (arith, ahead_past f m x xs n)

-- AT MOST the passes of all other members
pub ahead_others : (t : Tree) → Accepted t → (st : State) → Inv t st → (d m : ℕ) → ahead (passes t) m (st.queue d) ≤ others_passes t d m
unfolding ahead
ahead_others t valid st inv d m =
    let is_one : (a : ℕ) → 1 ≤ count a (st.queue d) → is_member t d a ≡ true = λ a h.
    let x = inv.acted d a h in
    let r = acts_real t (laws t valid) st inv x.thread x.index x.acting in
    rw (x.place, x.mine) at (member_at t valid x.thread r.0 x.index r.2) in
    weight_others t d m (before m (st.queue d))
    (λ a h.
    let some : 1 ≤ count a (st.queue d) = omega (arith, before_fewer m a (st.queue d)) in
    (member_small t valid d a (is_one a some), is_one a some, λ z. let w = ap (λ n. count n (before m (st.queue d))) z in omega (arith, before_without m (st.queue d))))
    (λ a. omega (arith, before_fewer m a (st.queue d), inv.once d a))
