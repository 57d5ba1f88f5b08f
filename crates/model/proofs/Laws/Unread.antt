-- Words that are not read make no difference to the tree.
use mathlib.Core.Path.{◌≡◌, refl, ap, fun_ext}
use mathlib.Core.Bool.{Bool, true, false, ◌&&◌, cond}
use mathlib.Core.List.{List}
use Prim.Native.Nat.{ℕ, ◌%◌, ◌≤◌, ◌<◌}
use lib.Dec.{leb, ltb, eqb}
use lib.ListN.{get_or}
use borrow.Author.Tests.{leb-true, ltb-true, eqb-true, eqb-false, eq-eqb, ne_eqb}
use Rattle.model.specs.Trees.{read_word, tree_of}
use Rattle.model.specs.Laws.{UnreadLaw}
use Rattle.model.proofs.Tests.{and_both}

-- words that agree where they are read
read_alike : (first end : ℕ) (xs ys : List ℕ) (k : ℕ) → (first ≤ k → k < end → get_or ys k 0 ≡ get_or xs k 0) → read_word first end ys k ≡ read_word first end xs k
unfolding read_word
read_alike first end xs ys k h = by (leb first k && ltb k end) refl
  where
    by : (b : Bool) → leb first k && ltb k end ≡ b → cond (leb first k && ltb k end) (get_or ys k 0) 0 ≡ cond (leb first k && ltb k end) (get_or xs k 0) 0
    by true e = let both = and_both (leb first k) (ltb k end) e in rw (h (leb-true _ _ both.0) (ltb-true _ _ both.1))
    by false e = rw e

-- two numbers of which both or neither is 0
same_test : (m n : ℕ) → (m ≡ 0 → n ≡ 0) → (n ≡ 0 → m ≡ 0) → eqb m 0 ≡ eqb n 0
same_test m n f g = by (eqb m 0) refl
  where
    by : (b : Bool) → eqb m 0 ≡ b → eqb m 0 ≡ eqb n 0
    by true e = rw (e, eq-eqb n 0 (f (eqb-true m 0 e)))
    by false e = rw (e, ne_eqb n 0 (λ z. eqb-false m 0 e (g z)))

pub unread_law : UnreadLaw
unfolding UnreadLaw tree_of
unread_law w v a =
    let parents = fun_ext (λ d. read_alike 1 w.domains w.parents v.parents d (a.parents d)) in
    let thresholds = fun_ext (λ d. ap (λ n. n % 65536) (read_alike 1 w.domains w.thresholds v.thresholds d (a.thresholds d))) in
    let homes = fun_ext (λ i. read_alike 0 w.threads w.homes v.homes i (λ b. a.homes i)) in
    let root = same_test v.ticket_root w.ticket_root a.root.0 a.root.1 in
    rw (a.domains, a.threads, parents, thresholds, homes, root)
