-- While a member stands ungranted, the entries under another are at most its allowance.
use mathlib.Core.Path.{◌≡◌, refl, sym, ap, ◌∙◌}
use mathlib.Core.Bool.{Bool, true, false, cond, false≢true}
use mathlib.Core.List.{List, [], ◌∷◌, ◌++◌}
use mathlib.Core.Logic.{◌≢◌}
use Prim.Native.Nat.{ℕ, zero, suc, ◌+◌, ◌-◌, ◌≤◌, ◌<◌}
use native.Mathlib.Omega.{arith}
use lib.Dec.{eqb}
use borrow.Author.Tests.{eqb-true, eq-eqb, ne_eqb}
use Rattle.model.proofs.Lists.{same_or, less_or, put_same, first, rest, first_cons, first_count, first_snoc, rest_nil, rest_cons, rest_snoc, is_same, is_other, is_cases, count, count_cons, count_nil, count_append}
use Rattle.model.specs.Trees.{Tree, allowance, owner_domain}
use Rattle.model.proofs.Trees.Index.{ancestor, record_at, height}
use Rattle.claims.proofs.Queues.Paths.{Laws}
use Rattle.claims.proofs.Queues.Moves.{under, under_from, inside, low, State, empty, Event, nothing, begins, ends, entered, Move, start, join_empty, join_root, join_after, enter, leave, hand_on, release, let_go, Run, done, silent, more, given_by, given, entry_by, entries}
use Rattle.claims.proofs.Queues.Invariant.{low_acts, acts_reach, Inv, unique}
use Rattle.claims.proofs.Queues.Keeps.{keeps}
use Rattle.claims.proofs.Queues.Order.{hit, Change, stays, opens, grows, moves, closes, change, reached, cut, next_shown, join_runs, begins_stands}
use Rattle.claims.proofs.Queues.Remaining.{left, left_bound, falls}

-- AN ENTRY UNDER q
under_some : (T : Tree) (i n q : ℕ) → under_from T i n q ≡ true → (k : ℕ) × (k < n) × (record_at T i k ≡ q)
unfolding under_from
under_some T i zero q e = absurd (false≢true e)
under_some T i (suc n) q e = go (under_some T i n q) (eqb (record_at T i n) q) refl
  where
    go : (under_from T i n q ≡ true → (k : ℕ) × (k < n) × (record_at T i k ≡ q)) → (b : Bool) → eqb (record_at T i n) q ≡ b → (k : ℕ) × (k < suc n) × (record_at T i k ≡ q)
    go ih true z = (n, omega arith, eqb-true (record_at T i n) q z)
    go ih false z = let r = ih (rw z at e) in (r.0, omega (arith, r.1), r.2)

pub record Entrant (T : Tree) (q : ℕ) (e : Event) : Type 0 where
  pub thread : ℕ
  pub index : ℕ
  pub enters : hit e thread ≡ 1
  pub range : index ≤ height T thread
  pub mine : record_at T thread index ≡ q

entrant : (T : Tree) (q : ℕ) (e : Event) → 1 ≤ entry_by T q e → Entrant T q e
unfolding entry_by hit under
entrant T q nothing h = absurd (omega arith)
entrant T q (begins d m) h = absurd (omega arith)
entrant T q (ends d m) h = absurd (omega arith)
entrant T q (entered i) h = go (under_from T i (suc (height T i)) q) refl
  where
    go : (b : Bool) → under_from T i (suc (height T i)) q ≡ b → Entrant T q (entered i)
    go true z = let r = under_some T i (suc (height T i)) q z in record { thread = i; index = r.0; enters = is_same i i refl; range = omega (arith, r.1); mine = r.2 }
    go false z = let h' : 1 ≤ 0 = rw z at h in absurd (omega arith)

entry_one : (T : Tree) (q : ℕ) (e : Event) → entry_by T q e ≤ 1
unfolding entry_by
entry_one T q nothing = omega arith
entry_one T q (begins d m) = omega arith
entry_one T q (ends d m) = omega arith
entry_one T q (entered i) = go (under T i q)
  where
    go : (b : Bool) → cond b 1 0 ≤ 1
    go true = omega arith
    go false = omega arith

-- a thread that enters is then first everywhere
entered_low : (T : Tree) {st st' : State} {e : Event} → Move T st e st' → (n : ℕ) → hit e n ≡ 1 → low (height T n) (st'.stage n) ≡ suc (height T n)
unfolding hit low
entered_low T (start i h e) n z = absurd (omega arith)
entered_low T (join_empty i j e o w) n z = absurd (omega arith)
entered_low T {st = st} (join_root i j e r w) n z = rw (put_same st.stage i inside n (sym (is_cases i n (omega arith))))
entered_low T (join_after i j a e f) n z = absurd (omega arith)
entered_low T {st = st} (enter i e) n z = rw (put_same st.stage i inside n (sym (is_cases i n (omega arith))))
entered_low T (leave i e) n z = absurd (omega arith)
entered_low T (hand_on i j s l xs e h w m ok shape) n z = absurd (omega arith)
entered_low T (release i j s l xs e w m shape) n z = absurd (omega arith)
entered_low T (let_go i j b shape) n z = absurd (omega arith)

-- AHEAD OF m: q is in the list, and m is not before it
unfoldable pub ahead : (q m : ℕ) → List ℕ → ℕ
ahead q m [] = 0
ahead q m (x ∷ xs) = cond (eqb x m) 0 (cond (eqb x q) 1 (ahead q m xs))

ahead_first : (q m : ℕ) (xs : List ℕ) → q ≢ m → first xs ≡ suc q → ahead q m xs ≡ 1
unfolding ahead first
ahead_first q m [] n e = absurd (omega arith)
ahead_first q m (x ∷ xs) n e =
    let z : x ≡ q = omega arith in
    let a = ne_eqb x m (λ w. n (sym z ∙ w)) in
    let b = eq-eqb x q z in
    rw (a, b)

ahead_later : (q m x : ℕ) (xs : List ℕ) → x ≢ m → 1 ≤ ahead q m xs → 1 ≤ ahead q m (x ∷ xs)
unfolding ahead
ahead_later q m x xs n h =
    let a = ne_eqb x m n in
    same_or x q _
    (λ z. let b = eq-eqb x q z in rw (a, b) (omega arith))
    (λ z. let b = ne_eqb x q z in rw (a, b) h)

ahead_in : (q m : ℕ) (xs : List ℕ) → 1 ≤ ahead q m xs → 1 ≤ count q xs
unfolding ahead count
ahead_in q m [] h = absurd (omega arith)
ahead_in q m (x ∷ xs) h =
    same_or x m _
    (λ z. let a = eq-eqb x m z in let h' : 1 ≤ 0 = rw a at h in absurd (omega arith))
    (λ z. let a = ne_eqb x m z in same_or x q _
    (λ w. omega (arith, is_same q x (sym w)))
    (λ w. let b = ne_eqb x q w in let h' : 1 ≤ ahead q m xs = rw (a, b) at h in omega (arith, ahead_in q m xs h')))

-- a member that joins after m is not ahead of it
ahead_snoc : (q m y : ℕ) (xs : List ℕ) → 1 ≤ count m xs → ahead q m (xs ++ (y ∷ [])) ≡ ahead q m xs
unfolding ahead count
ahead_snoc q m y [] h = absurd (omega arith)
ahead_snoc q m y (x ∷ xs) h =
    same_or x m _
    (λ z. let a = eq-eqb x m z in rw a)
    (λ z. let a = ne_eqb x m z in rw a (ap (λ n. cond (eqb x q) 1 n) (ahead_snoc q m y xs (omega (arith, is_other m x (λ w. z (sym w)))))))

-- ONE QUEUE, WHILE m STANDS
nobody : (m : ℕ) (xs : List ℕ) → rest xs ≡ [] → 1 ≤ count m (rest xs) → ⊥
nobody m xs z h = let h' : 1 ≤ count m [] = rw z at h in omega (arith, count_nil m)

nobody_opens : (m : ℕ) (xs : List ℕ) → xs ≡ [] → 1 ≤ count m (rest xs) → ⊥
nobody_opens m xs y h = nobody m xs (ap rest y ∙ rest_nil) h

nobody_closes : (m a : ℕ) (xs : List ℕ) → xs ≡ a ∷ [] → 1 ≤ count m (rest xs) → ⊥
nobody_closes m a xs y h = nobody m xs (ap rest y ∙ rest_cons a []) h

-- the member that is granted is not m
other_ends : (d m r : ℕ) (e : Event) → given_by d e ≡ r ∷ [] → count m (given_by d e) ≡ 0 → r ≢ m
other_ends d m r e g o z =
    let o' : count m (r ∷ []) ≡ 0 = rw g at o in
    omega (arith, count_cons m r [], is_same m r (sym z))

still_stands : (d m : ℕ) (e : Event) (xs ys : List ℕ) → Change d e xs ys → 1 ≤ count m (rest xs) → count m (given_by d e) ≡ 0 → 1 ≤ count m (rest ys)
still_stands d m e xs ys (stays z b g) h o = rw z h
still_stands d m e xs ys (opens r y z b g) h o = absurd (nobody_opens m xs y h)
still_stands d m e xs ys (grows r a f z b g) h o = rw (z, rest_snoc xs r a f) (omega (arith, count_append m (rest xs) (r ∷ [])))
still_stands d m e xs ys (moves a r zs y z b g n) h o =
    let h' : 1 ≤ count m (r ∷ zs) = rw (y, rest_cons a (r ∷ zs)) at h in
    rw (z, rest_cons r zs) (omega (arith, count_cons m r zs, is_other m r (λ w. other_ends d m r e g o (sym w))))
still_stands d m e xs ys (closes a y z b g) h o = absurd (nobody_closes m a xs y h)

still_ahead :
    (d m q : ℕ) (e : Event) (xs ys : List ℕ) → Change d e xs ys → 1 ≤ count m (rest xs) → count m (given_by d e) ≡ 0 →
    1 ≤ ahead q m (rest ys) → 1 ≤ ahead q m (rest xs)
still_ahead d m q e xs ys (stays z b g) h o a = rw z at a
still_ahead d m q e xs ys (opens r y z b g) h o a = absurd (nobody_opens m xs y h)
still_ahead d m q e xs ys (grows r x f z b g) h o a = rw (z, rest_snoc xs r x f, ahead_snoc q m r (rest xs) h) at a
still_ahead d m q e xs ys (moves x r zs y z b g n) h o a =
    let a' : 1 ≤ ahead q m zs = rw (z, rest_cons r zs) at a in
    rw (y, rest_cons x (r ∷ zs)) (ahead_later q m r zs (other_ends d m r e g o) a')
still_ahead d m q e xs ys (closes x y z b g) h o a = absurd (nobody_closes m x xs y h)

-- the member that is first now was first before, or is granted now and was ahead of m
first_before :
    (d m q : ℕ) (e : Event) (xs ys : List ℕ) (C : Type 0) → Change d e xs ys → 1 ≤ count m (rest xs) → count m (given_by d e) ≡ 0 → q ≢ m → first ys ≡ suc q →
    (first xs ≡ suc q → C) → (1 ≤ ahead q m (rest xs) → ((n : ℕ) → hit e n ≡ 0) → C) → C
first_before d m q e xs ys C (stays z b g) h o ne f was came = was (rw z at f)
first_before d m q e xs ys C (opens r y z b g) h o ne f was came = absurd (nobody_opens m xs y h)
first_before d m q e xs ys C (grows r a x z b g) h o ne f was came = was (x ∙ sym (first_snoc xs r a x) ∙ ap first (sym z) ∙ f)
first_before d m q e xs ys C (moves a r zs y z b g n) h o ne f was came =
    let w : r ≡ q = omega (arith, first_cons r zs, ap first z) in
    came (rw (y, rest_cons a (r ∷ zs)) (omega (arith, ahead_first q m (r ∷ zs) ne (first_cons r zs ∙ ap suc w)))) n
first_before d m q e xs ys C (closes a y z b g) h o ne f was came = absurd (nobody_closes m a xs y h)

-- THE BOUND n ON THE ENTRIES UNDER q, WHILE m STANDS IN d
pub record Claim (T : Tree) (st : State) (d m q n : ℕ) : Type 0 where
  pub if_first : (i k : ℕ) → k < low (height T i) (st.stage i) → record_at T i k ≡ q → first (st.queue d) ≡ suc q → left T st.tally (st.stage i) i k ≤ n
  pub if_ahead : 1 ≤ ahead q m (rest (st.queue d)) → allowance T q ≤ n

module _ (T : Tree) (tree_laws : Laws T) where
  -- the allowance bounds them at any time
  claim_start : (st : State) → Inv T st → (d m q : ℕ) → Claim T st d m q (allowance T q)
  claim_start st inv d m q =
      record {
        if_first = λ i k h z f. rw z at (left_bound T tree_laws st inv i k (omega (arith, low_acts (height T i) (st.stage i))));
        if_ahead = λ a. omega arith;
      }

  module _ (st st' : State) (e : Event) (inv : Inv T st) (inv' : Inv T st') (mv : Move T st e st') (d m q n : ℕ) (mem : owner_domain T q ≡ d) (ne : q ≢ m)
      (stands : 1 ≤ count m (rest (st.queue d))) (not_now : count m (given_by d e) ≡ 0) (claim : Claim T st d m q n) where
    -- a thread that is first with its record q is first in d
    there : (i k : ℕ) → k < low (height T i) (st'.stage i) → record_at T i k ≡ q → ancestor T i k ≡ d
    there i k h z =
        let a = low_acts (height T i) (st'.stage i) in
        let b = acts_reach (height T i) (st'.stage i) in
        let th = inv'.threads i in
        sym (tree_laws.owner i k (th.real (omega arith)) (omega (arith, th.range))) ∙ ap (owner_domain T) z ∙ mem

    -- an entry under q is one of the thread that acts for q
    entry_hit : (i k : ℕ) → k < low (height T i) (st'.stage i) → record_at T i k ≡ q → entry_by T q e ≤ hit e i
    entry_hit i k h z =
        less_or 0 (entry_by T q e) _
        (λ g.
        let t = entrant T q e g in
        let a : t.index < low (height T t.thread) (st'.stage t.thread) = omega (arith, entered_low T mv t.thread t.enters, t.range) in
        let u = unique T tree_laws st' inv' i t.thread k t.index (omega (arith, low_acts (height T i) (st'.stage i)))
        (omega (arith, low_acts (height T t.thread) (st'.stage t.thread))) (z ∙ sym t.mine) in
        let w : hit e i ≡ 1 = ap (hit e) u.0 ∙ t.enters in
        omega (arith, entry_one T q e))
        (λ g. omega arith)

    quiet : ((i : ℕ) → hit e i ≡ 0) → entry_by T q e ≡ 0
    quiet h = less_or 0 (entry_by T q e) _ (λ g. let t = entrant T q e g in absurd (omega (arith, h t.thread, t.enters))) (λ g. omega arith)

    spent :
        (i k : ℕ) → k < low (height T i) (st'.stage i) → record_at T i k ≡ q → first (st'.queue d) ≡ suc q →
        left T st'.tally (st'.stage i) i k + entry_by T q e ≤ n
    spent i k h z f =
        first_before d m q e (st.queue d) (st'.queue d) _ (change T st d mv) stands not_now ne f
        (λ g.
        let b = falls T tree_laws st inv mv i k h (ap (λ x. first (st.queue x)) (there i k h z) ∙ g ∙ ap suc (sym z)) in
        let c = claim.if_first b.thread b.index b.was_first (b.same ∙ z) g in
        omega (arith, b.falls, entry_hit i k h z))
        (λ a o.
        let c = claim.if_ahead a in
        let b : left T st'.tally (st'.stage i) i k ≤ allowance T q = rw z at (left_bound T tree_laws st' inv' i k (omega (arith, low_acts (height T i) (st'.stage i)))) in
        omega (arith, quiet o))

    -- after an entry under q, q is first
    entry_first : 1 ≤ entry_by T q e → (first (st'.queue d) ≡ suc q) × (entry_by T q e ≤ n)
    entry_first g =
        let t = entrant T q e g in
        let a : t.index < low (height T t.thread) (st'.stage t.thread) = omega (arith, entered_low T mv t.thread t.enters, t.range) in
        let f : first (st'.queue d) ≡ suc q =
        ap (λ x. first (st'.queue x)) (sym (there t.thread t.index a t.mine)) ∙ (inv'.threads t.thread).heads t.index a ∙ ap suc t.mine in
        (f, omega (arith, spent t.thread t.index a t.mine f))

    entry_fits : entry_by T q e ≤ n
    entry_fits = less_or 0 (entry_by T q e) _ (λ g. (entry_first g).1) (λ g. omega arith)

    claim_step : Claim T st' d m q (n - entry_by T q e)
    claim_step =
        record {
          if_first = λ i k h z f. omega (arith, spent i k h z f);
          if_ahead = λ a.
              let c = claim.if_ahead (still_ahead d m q e (st.queue d) (st'.queue d) (change T st d mv) stands not_now a) in
              less_or 0 (entry_by T q e) _
              (λ g.
              let f = (entry_first g).0 in
              absurd (omega (arith, first_count q (st'.queue d) f, ahead_in q m (rest (st'.queue d)) a, inv'.once d q)))
              (λ g. omega arith);
        }

  -- ALONG A RUN
  bounded :
      {st st' : State} {es : List Event} → Run T st es st' → Inv T st → (d m q n : ℕ) → owner_domain T q ≡ d → q ≢ m → 1 ≤ count m (rest (st.queue d)) →
      count m (given d es) ≡ 0 → Claim T st d m q n → entries T q es ≤ n
  unfolding given entries given_by
  bounded done inv d m q n mem ne h o c = omega arith
  bounded (silent {st = st} {st₁ = st₁} mv r) inv d m q n mem ne h o c =
      let inv' = keeps T tree_laws st inv mv in
      let c' = claim_step st st₁ nothing inv inv' mv d m q n mem ne h (count_nil m) c in
      let h' = still_stands d m nothing (st.queue d) (st₁.queue d) (change T st d mv) h (count_nil m) in
      let b = bounded r inv' d m q (n - entry_by T q nothing) mem ne h' o c' in
      omega arith
  bounded (more {st = st} {st₁ = st₁} {e = e} {es = es} mv r) inv d m q n mem ne h o c =
      let a = count_append m (given_by d e) (given d es) in
      let o₁ : count m (given_by d e) ≡ 0 = omega arith in
      let o₂ : count m (given d es) ≡ 0 = omega arith in
      let inv' = keeps T tree_laws st inv mv in
      let c' = claim_step st st₁ e inv inv' mv d m q n mem ne h o₁ c in
      let h' = still_stands d m e (st.queue d) (st₁.queue d) (change T st d mv) h o₁ in
      let b = bounded r inv' d m q (n - entry_by T q e) mem ne h' o₂ c' in
      omega (arith, entry_fits st st₁ e inv inv' mv d m q n mem ne h o₁ c)

  -- in any reached state in which m stands in d, and until its standing ends: the entries under another member of d
  pub within_allowance :
      {st st' : State} {es fs : List Event} → Run T empty es st → Run T st fs st' → (d m q : ℕ) → owner_domain T q ≡ d → q ≢ m → 1 ≤ count m (rest (st.queue d)) →
      count m (given d fs) ≡ 0 → entries T q fs ≤ allowance T q
  within_allowance {st = st} r s d m q mem ne h o =
      let inv = reached T tree_laws r in
      bounded s inv d m q (allowance T q) mem ne h o (claim_start st inv d m q)

  -- the same for the events of a run: from the beginning of m's standing, over events ys without its grant
  pub between :
      {st : State} {es : List Event} → Run T empty es st → (xs ys zs : List Event) (d m q : ℕ) → es ≡ xs ++ (begins d m ∷ (ys ++ zs)) →
      count m (given d ys) ≡ 0 → owner_domain T q ≡ d → q ≢ m → entries T q ys ≤ allowance T q
  between r xs ys zs d m q e o mem ne =
      let a = cut T r xs (begins d m ∷ (ys ++ zs)) e in
      let b = next_shown T a.after (begins d m) (ys ++ zs) refl in
      let c = cut T b.after ys zs refl in
      within_allowance (join_runs T a.before (join_runs T b.before (more b.move done))) c.before d m q mem ne (begins_stands T b.st₂ b.move) o
