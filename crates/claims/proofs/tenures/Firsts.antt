-- A domain's tenure runs while its record is the first above it: which moves make it first, and that they report it.
use mathlib.Core.Path.{◌≡◌, sym, ap, ◌∙◌}
use mathlib.Core.List.{List, [], ◌∷◌, ◌++◌}
use mathlib.Core.Logic.{◌≢◌}
use Prim.Native.Nat.{ℕ, suc, ◌+◌, ◌-◌, ◌≤◌, ◌<◌}
use native.Mathlib.Omega.{arith}
use borrow.Author.Tests.{le-ltb}
use Rattle.model.specs.Trees.{Tree, owner_domain}
use Rattle.model.proofs.Trees.Index.{ancestor, height, record_at}
use Rattle.model.proofs.Trees.Accepted.{Accepted}
use Rattle.model.proofs.Trees.Records.{owner_at}
use Rattle.model.proofs.Lists.{same_or, put, put_same, put_other, first, first_nil, first_cons, first_snoc, is, is_same, is_other, count, count_nil, count_cons}
use Rattle.claims.proofs.Queues.Paths.{laws}
use Rattle.claims.proofs.Queues.Moves.{climb, queued, reach, acts, State, Event, Move, start, join_empty, join_root, join_after, enter, leave, hand_on, release, let_go}
use Rattle.claims.proofs.Queues.Changes.{made_first}
use Rattle.claims.proofs.Queues.Invariant.{Thread, Inv}
use Rattle.claims.proofs.Queues.Remaining.{acts_real}

-- the first of a queue if one queue is replaced
put_first :
    (Q : ℕ → List ℕ) (L : ℕ) (q : List ℕ) (D : ℕ) (C : Type 0) → (D ≡ L → first (put Q L q D) ≡ first q → C) → (D ≢ L → first (put Q L q D) ≡ first (Q D) → C) → C
put_first Q L q D C f g = same_or D L C (λ z. f z (ap first (put_same Q L q D z))) (λ z. g z (ap first (put_other Q L q D z)))

one_count : (r m : ℕ) → count r (m ∷ []) ≡ is r m
one_count r m = omega (arith, count_cons r m [], count_nil r)

module _ (T : Tree) (valid : Accepted T) (d : ℕ) where
  abbrev pub P : ℕ
  P = T.parent d

  abbrev pub R : ℕ
  R = 256 + d

  -- the domain's record is its parent's member
  owner_there : owner_domain T R ≡ P
  unfolding owner_domain
  owner_there = let z : 256 + d - 256 ≡ d = omega arith in rw (le-ltb (256 + d) 256 (omega arith), z)

  pub works_there : (i j : ℕ) → i < T.threads → j ≤ height T i → record_at T i j ≡ R → ancestor T i j ≡ P
  works_there i j h l e = sym (owner_at T valid i h j l) ∙ ap (owner_domain T) e ∙ owner_there

  module _ (st : State) (inv : Inv T st) where
    pub climbing : (i j : ℕ) → st.stage i ≡ climb j → (i < T.threads) × (j ≤ height T i)
    unfolding reach
    climbing i j e = let t : Thread T st.queue i (climb j) = rw e at (inv.threads i) in (t.real (omega arith), omega (arith, t.range))

    pub standing : (s l : ℕ) → st.stage s ≡ queued l → (s < T.threads) × (l ≤ height T s)
    unfolding acts
    standing s l e = let f = acts_real T (laws T valid) st inv s l (rw e (omega arith)) in (f.0, f.2)

    -- THE EFFECT OF A MOVE ON THE TENURE: it starts one, if none ran and the record is first now; or it starts none
    data Effect (Q : ℕ → List ℕ) (made : List ℕ) : Type 0 where
      starts_one : 1 ≤ count R made → first (st.queue P) ≢ suc R → first (Q P) ≡ suc R → Effect Q made
      starts_none : count R made ≡ 0 → (first (Q P) ≡ suc R → first (st.queue P) ≡ suc R) → Effect Q made

    -- a record that becomes the first of a queue
    comes_first :
        (L a : ℕ) (q : List ℕ) → first q ≡ suc a → (R ≡ a → L ≡ P) → (R ≡ a → first (st.queue L) ≢ suc R) → Effect (put st.queue L q) (a ∷ [])
    comes_first L a q f there new =
        same_or R a _
        (λ z. starts_one (omega (arith, one_count R a, is_same R a z)) (λ y. new z (ap (λ x. first (st.queue x)) (there z) ∙ y))
        (ap first (put_same st.queue L q P (sym (there z))) ∙ f ∙ ap suc (sym z)))
        (λ z. starts_none (one_count R a ∙ is_other R a z) (λ y. put_first st.queue L q P _ (λ x e. absurd (z (omega arith))) (λ x e. sym e ∙ y)))

    joins :
        (i j : ℕ) → st.stage i ≡ climb j → st.queue (ancestor T i j) ≡ [] →
        Effect (put st.queue (ancestor T i j) (st.queue (ancestor T i j) ++ (record_at T i j ∷ []))) (record_at T i j ∷ [])
    joins i j e z =
        let c = climbing i j e in
        comes_first (ancestor T i j) (record_at T i j) _ (ap (λ q. first (q ++ (record_at T i j ∷ []))) z ∙ first_cons (record_at T i j) [])
        (λ q. works_there i j c.0 c.1 (sym q)) (λ q f. omega (arith, ap first z, first_nil))

    granted :
        (i j s l : ℕ) (xs : List ℕ) → st.stage s ≡ queued l → ancestor T s l ≡ ancestor T i j → st.queue (ancestor T i j) ≡ record_at T i j ∷ record_at T s l ∷ xs →
        Effect (put st.queue (ancestor T i j) (record_at T s l ∷ xs)) (record_at T s l ∷ [])
    granted i j s l xs w m shape =
        let c = standing s l w in
        let two : count R (st.queue (ancestor T i j)) ≡ is R (record_at T i j) + (is R (record_at T s l) + count R xs) =
        ap (count R) shape ∙ count_cons R (record_at T i j) (record_at T s l ∷ xs) ∙ ap (λ n. is R (record_at T i j) + n) (count_cons R (record_at T s l) xs) in
        comes_first (ancestor T i j) (record_at T s l) _ (first_cons (record_at T s l) xs) (λ q. sym m ∙ works_there s l c.0 c.1 (sym q))
        (λ q f.
        let a = ap first shape ∙ first_cons (record_at T i j) (record_at T s l ∷ xs) in
        omega (arith, inv.once (ancestor T i j) R, is_same R (record_at T s l) q, is_same R (record_at T i j) (omega arith)))

    effect : {e : Event} {st' : State} (mv : Move T st e st') → Effect st'.queue (made_first T mv)
    unfolding made_first
    effect (start i h e) = starts_none (count_nil R) (λ f. f)
    effect (join_empty i j e n z) = joins i j e z
    effect (join_root i j e r z) = joins i j e z
    effect (join_after i j a e q) =
        starts_none (count_nil R) (λ f. put_first st.queue (ancestor T i j) (st.queue (ancestor T i j) ++ (record_at T i j ∷ [])) P _
        (λ y g. ap (λ x. first (st.queue x)) y ∙ q ∙ sym (first_snoc (st.queue (ancestor T i j)) (record_at T i j) a q) ∙ sym g ∙ f)
        (λ y g. sym g ∙ f))
    effect (enter i e) = starts_none (count_nil R) (λ f. f)
    effect (leave i e) = starts_none (count_nil R) (λ f. f)
    effect (hand_on i j s l xs e h w m ok shape) = granted i j s l xs w m shape
    effect (release i j s l xs e w m shape) = granted i j s l xs w m shape
    effect (let_go i j b shape) =
        starts_none (count_nil R) (λ f. put_first st.queue (ancestor T i j) [] P _ (λ y g. absurd (omega (arith, first_nil))) (λ y g. sym g ∙ f))

    -- while a tenure runs, no move starts one
    pub no_start : {e : Event} {st' : State} (mv : Move T st e st') → first (st.queue P) ≡ suc R → count R (made_first T mv) ≡ 0
    no_start mv f = elim (effect mv) [ starts_one c n g ↦ absurd (n f) | starts_none z g ↦ z ]

    -- a move that starts one makes the record first
    pub made_is_first : {e : Event} {st' : State} (mv : Move T st e st') → 1 ≤ count R (made_first T mv) → first (st'.queue P) ≡ suc R
    made_is_first mv c = elim (effect mv) [ starts_one c n g ↦ g | starts_none z g ↦ absurd (omega arith) ]

    -- if a tenure runs, at least one has started
    pub some_started : {e : Event} {st' : State} (mv : Move T st e st') (n : ℕ) → (first (st.queue P) ≡ suc R → 1 ≤ n) → first (st'.queue P) ≡ suc R → 1 ≤ n + count R (made_first T mv)
    some_started mv n before f = elim (effect mv) [ starts_one c m g ↦ omega arith | starts_none z g ↦ omega (arith, before (g f)) ]
