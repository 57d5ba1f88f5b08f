-- How far a member is from the first: at most the number of other members of the domain.
use mathlib.Core.Path.{◌≡◌, refl, sym, ap, ◌∙◌}
use mathlib.Core.Bool.{Bool, true, cond}
use mathlib.Core.List.{List, [], ◌∷◌, ◌++◌}
use mathlib.Core.Logic.{◌≢◌}
use Prim.Native.Nat.{ℕ, zero, suc, ◌≤◌, ◌<◌}
use native.Mathlib.Omega.{arith}
use lib.ListN.{length, length-append}
use Rattle.model.specs.Scans.{filter_below}
use Rattle.model.specs.Trees.{Tree, is_member}
use Rattle.model.proofs.Lists.{same_or, less_or, first, rest, first_cons, rest_cons, rest_nil, is_same, is_other, count, count_nil, count_cons}
use Rattle.model.proofs.Trees.Accepted.{Accepted}
use Rattle.model.proofs.Trees.Records.{member_at, member_small}
use Rattle.claims.proofs.Queues.Paths.{laws}
use Rattle.claims.proofs.Queues.Moves.{State}
use Rattle.claims.proofs.Queues.Invariant.{Inv}
use Rattle.claims.proofs.Queues.Remaining.{acts_real}
use Rattle.claims.proofs.Words.Tickets.{total, total_length}
use Rattle.chain.proofs.Reached.Orders.{position, position_here, position_past}
use Rattle.bounds.specs.StarvationFreedom.Bounds.{members}

-- THE LENGTH of a list whose numbers pass a test, none twice
total_passing : (n : ℕ) (q : List ℕ) (f : ℕ → Bool) → ((a : ℕ) → 1 ≤ count a q → f a ≡ true) → ((a : ℕ) → count a q ≤ 1) → total n q ≤ length (filter_below n f)
unfolding total filter_below
total_passing zero q f p o = omega arith
total_passing (suc n) q f p o =
    let rec = total_passing n q f p o in
    let l = length-append (filter_below n f) (cond (f n) (n ∷ []) []) in
    less_or 0 (count n q) _
    (λ h. let one : length (cond (f n) (n ∷ []) []) ≡ 1 = rw (p n h) refl in omega (arith, o n))
    (λ h. omega arith)

-- a queue is at most as long as the number of its domain's members
pub queue_short : (t : Tree) → Accepted t → (st : State) → Inv t st → (d : ℕ) → length (st.queue d) ≤ members t d
unfolding members
queue_short t valid st inv d =
    let is_one : (a : ℕ) → 1 ≤ count a (st.queue d) → is_member t d a ≡ true = λ a h.
    let x = inv.acted d a h in
    let r = acts_real t (laws t valid) st inv x.thread x.index x.acting in
    rw (x.place, x.mine) at (member_at t valid x.thread r.0 x.index r.2) in
    omega (arith, total_length 320 (st.queue d) (λ a h. member_small t valid d a (is_one a h)), total_passing 320 (st.queue d) (is_member t d) is_one (inv.once d))

pub some_member : (t : Tree) → Accepted t → (d m : ℕ) → is_member t d m ≡ true → 1 ≤ members t d
unfolding members
some_member t valid d m e =
    let one : (a : ℕ) → 1 ≤ count a (m ∷ []) → a ≡ m = λ a h. same_or a m _ (λ z. z) (λ n. absurd (omega (arith, count_cons a m [], count_nil a, is_other a m n))) in
    let once : (a : ℕ) → count a (m ∷ []) ≤ 1 = λ a. same_or a m _ (λ z. omega (arith, count_cons a m [], count_nil a, is_same a m z)) (λ n. omega (arith, count_cons a m [], count_nil a, is_other a m n)) in
    let is_one : (a : ℕ) → 1 ≤ count a (m ∷ []) → is_member t d a ≡ true = λ a h. rw (one a h) e in
    let l : length (m ∷ []) ≡ 1 = refl in
    omega (arith, total_length 320 (m ∷ []) (λ a h. member_small t valid d a (is_one a h)), total_passing 320 (m ∷ []) (is_member t d) is_one once)

-- POSITIONS
pub position_within : (m : ℕ) (q : List ℕ) → 1 ≤ count m q → position m q < length q
position_within m [] h = absurd (omega (arith, count_nil m))
position_within m (x ∷ xs) h =
    same_or m x _
    (λ e. omega (arith, position_here m x xs e))
    (λ n. omega (arith, position_past m x xs n, position_within m xs (omega (arith, count_cons m x xs, is_other m x n))))

pub position_snoc : (m y : ℕ) (q : List ℕ) → 1 ≤ count m q → position m (q ++ (y ∷ [])) ≡ position m q
position_snoc m y [] h = absurd (omega (arith, count_nil m))
position_snoc m y (x ∷ xs) h =
    same_or m x _
    (λ e. position_here m x (xs ++ (y ∷ [])) e ∙ sym (position_here m x xs e))
    (λ n. position_past m x (xs ++ (y ∷ [])) n ∙ ap suc (position_snoc m y xs (omega (arith, count_cons m x xs, is_other m x n))) ∙ sym (position_past m x xs n))

-- a member after the first has one ahead of it
pub after_first : (m : ℕ) (q : List ℕ) → 1 ≤ count m (rest q) → count m q ≤ 1 → (a : ℕ) × (first q ≡ suc a) × (1 ≤ position m q)
after_first m [] h o = absurd (omega (arith, ap (count m) rest_nil, count_nil m))
after_first m (x ∷ xs) h o =
    let h' : 1 ≤ count m xs = rw (rest_cons x xs) at h in
    let n : m ≢ x = λ e. omega (arith, count_cons m x xs, is_same m x e) in
    (x, first_cons x xs, omega (arith, position_past m x xs n))
