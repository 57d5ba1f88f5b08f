-- The members ahead of a thread in its queue, each linked to the one before it.
use mathlib.Core.Path.{◌≡◌, refl, sym, ap, ◌∙◌}
use mathlib.Core.Bool.{false}
use mathlib.Core.List.{List, [], ◌∷◌, ◌++◌, append_assoc}
use mathlib.Core.Logic.{◌≢◌}
use Prim.Native.Nat.{ℕ, suc, ◌+◌, ◌≤◌, ◌<◌}
use native.Mathlib.Omega.{arith}
use Rattle.model.specs.declared.State.{State as WordState}
use Rattle.model.specs.Trees.{Tree, is_ticket}
use Rattle.model.specs.States.{next}
use Rattle.model.specs.Laws.{SixteenBit}
use Rattle.model.proofs.Lists.{less_or, first, rest, first_rest, is_same, count, count_append, count_cons}
use Rattle.model.proofs.Trees.Index.{ancestor, height, record_at}
use Rattle.model.proofs.Trees.Accepted.{Accepted}
use Rattle.claims.proofs.Queues.Moves.{queued, low, acts, State}
use Rattle.claims.proofs.Queues.Invariant.{Inv}
use Rattle.claims.proofs.Queues.Order.{standing}
use Rattle.claims.proofs.Words.Links.{after, after_here, after_past}
use Rattle.bounds.proofs.starvation_freedom.Situations.{Situation, queues}
use Rattle.bounds.proofs.starvation_freedom.Linked.{AllLinked, linked_join}

-- what comes after a number that occurs once in a list
after_split : (xs ys : List ℕ) (p : ℕ) → count p xs ≡ 0 → after (xs ++ (p ∷ ys)) p ≡ first ys
after_split [] ys p h = after_here p p ys refl
after_split (x ∷ xs) ys p h =
    let n : p ≢ x = λ e. omega (arith, count_cons p x xs, is_same p x e) in
    after_past p x (xs ++ (p ∷ ys)) n ∙ after_split xs ys p (omega (arith, count_cons p x xs))

module _ (t : Tree) (valid : Accepted t) (bits : SixteenBit t) (c : Situation t) where
  abbrev s : WordState
  s = c.words

  abbrev g : State
  g = queues c

  abbrev inv : Inv t g
  inv = c.queued.represents.invariant

  -- THE MEMBERS AHEAD of thread i, which stands at index j: thread b acts, at its index k, for the first, r; xs are between; all are linked
  pub record Line (i j r b k : ℕ) (xs : List ℕ) : Type 0 where
    pub stage : g.stage i ≡ queued j
    pub later : List ℕ
    pub shape : g.queue (ancestor t i j) ≡ r ∷ (xs ++ (record_at t i j ∷ later))
    pub linked : is_ticket t (ancestor t i j) ≡ false → AllLinked s (r ∷ xs)
    pub first_there : k < low (height t b) (g.stage b)
    pub there : ancestor t b k ≡ ancestor t i j
    pub mine : record_at t b k ≡ r

  module _ (E : ℕ → Type 0) where
    -- such members, and E holds for the thread that acts for the first
    pub record Lined (i j : ℕ) : Type 0 where
      pub head : ℕ
      pub thread : ℕ
      pub index : ℕ
      pub between : List ℕ
      pub line : Line i j head thread index between
      pub real : thread < t.threads
      pub end : E thread

    -- the line of a thread, given the thread that acts for the record just before
    pub line_after :
        (i j a l p : ℕ) → g.stage i ≡ queued j → a < t.threads → l < acts (height t a) (g.stage a) → ancestor t a l ≡ ancestor t i j → record_at t a l ≡ p →
        after (g.queue (ancestor t i j)) p ≡ suc (record_at t i j) → (is_ticket t (ancestor t i j) ≡ false → next s p ≢ 0) → E a → (g.stage a ≡ queued l → Lined a l) →
        Lined i j
    unfolding AllLinked
    line_after i j a l p e ha acting there mine follows named end rec =
        let d = ancestor t i j in
        less_or l (low (height t a) (g.stage a)) _
        (λ h.
        let head : first (g.queue d) ≡ suc p = rw (there, mine) at ((inv.threads a).heads l h) in
        let q = first_rest p (g.queue d) head in
        let second : first (rest (g.queue d)) ≡ suc (record_at t i j) = sym (ap (λ u. after u p) q ∙ after_here p p (rest (g.queue d)) refl) ∙ follows in
        record {
          head = p;
          thread = a;
          index = l;
          between = [];
          line = record {
            stage = e;
            later = rest (rest (g.queue d));
            shape = q ∙ ap (λ u. p ∷ u) (first_rest (record_at t i j) (rest (g.queue d)) second);
            linked = λ nt. (named nt, tt);
            first_there = h;
            there = there;
            mine = mine;
          };
          real = ha;
          end = end;
        })
        (λ h.
        let y = rec (standing (height t a) l (g.stage a) h acting) in
        let L = y.line in
        let r = y.head in
        let xs = y.between in
        let shape : g.queue d ≡ r ∷ (xs ++ (p ∷ L.later)) = rw (there, mine) at L.shape in
        let once : count p (g.queue d) ≤ 1 = inv.once d p in
        let counted : count p (g.queue d) ≡ count p (r ∷ xs) + count p (p ∷ L.later) = ap (count p) shape ∙ count_append p (r ∷ xs) (p ∷ L.later) in
        let none_before : count p (r ∷ xs) ≡ 0 = omega (arith, count_cons p p L.later, is_same p p refl) in
        let second : first L.later ≡ suc (record_at t i j) = sym (ap (λ u. after u p) shape ∙ after_split (r ∷ xs) L.later p none_before) ∙ follows in
        let z = first_rest (record_at t i j) L.later second in
        record {
          head = r;
          thread = y.thread;
          index = y.index;
          between = xs ++ (p ∷ []);
          line = record {
            stage = e;
            later = rest L.later;
            shape = shape ∙ ap (λ u. r ∷ u) (ap (λ u. xs ++ (p ∷ u)) z ∙ sym (append_assoc xs (p ∷ []) (record_at t i j ∷ rest L.later)));
            linked = λ nt. linked_join s (r ∷ xs) (p ∷ []) (L.linked (rw there nt)) (named nt, tt);
            first_there = L.first_there;
            there = L.there ∙ there;
            mine = L.mine;
          };
          real = y.real;
          end = y.end;
        })
