-- Which bytes are not valid homes, in one pass over the parents.
use mathlib.Core.Path.{◌≡◌, refl, sym, ap, ◌∙◌}
use mathlib.Core.Bool.{Bool, true, false, ◌||◌, ◌&&◌, not, cond, true≢false, false≢true}
use mathlib.Core.List.{List, [], ◌∷◌, ◌++◌}
use Prim.Native.Nat.{ℕ, ◌+◌, ◌-◌, ◌≤◌, ◌<◌}
use native.Mathlib.Numerals.{add-one}
use native.Mathlib.Omega.{arith}
use native.Mathlib.Decide.{ℕ_discrete}
use lib.Dec.{eqb, leb}
use lib.ListN.{get_or, set, length, drop, replicate, length-set, length-replicate, get_or-replicate}
use lib.Seq.{get_or-set_same, get_or-set_other}
use borrow.Author.Tests.{eq-eqb, ne_eqb, leb-true, leb-false}
use Rattle.model.specs.Scans.{any_below, all_below}
use Rattle.model.specs.declared.TreeWords.{TreeWords}
use Rattle.model.specs.Trees.{tree_of, is_child, is_leaf}
use Rattle.model.specs.Refusals.{bad_home}
use Rattle.model.proofs.Tests.{or_right, any_found, all_each}
use Rattle.model.proofs.Trees.Reading.{read_in}
use Rattle.refusals.specs.Arrays.{parents_in, no_home_in, UnfitHomes, is_home_in, MarkedHomes, HomesAreLeaves}
use Rattle.std.specs.List.{fold, zip}
use Rattle.std.proofs.lemmas.List.{length-append, length-drop, get_or-drop, get_or_append_left, get_or-append_right}
use Rattle.refusals.proofs.Ranges.{all_split}
use Rattle.refusals.proofs.Reading.{parent_in, not_not}

-- for each byte, whether it is not the number of a domain below n
pub record NoDomains (n : ℕ) (table : List Bool) : Type 0 where
  pub room : length table ≡ 256
  pub no_domain : (x : ℕ) → x < 256 → get_or table x false ≡ leb n x

pub no_domains : (n : ℕ) → n ≤ 256 → NoDomains n (replicate n false ++ drop n (replicate 256 true))
no_domains n few =
    record {
      room = rw (length-append (replicate n false) (drop n (replicate 256 true)), length-replicate {A = Bool} n false, length-drop n (replicate 256 true), length-replicate {A = Bool} 256 true) (omega arith);
      no_domain = λ x l. by x l (leb n x) refl;
    }
  where
    by : (x : ℕ) → x < 256 → (b : Bool) → leb n x ≡ b → get_or (replicate n false ++ drop n (replicate 256 true)) x false ≡ leb n x
    by x l false e =
        let h = leb-false n x e in
        get_or_append_left (replicate n false) _ false x (rw (length-replicate {A = Bool} n false) h) ∙ get_or-replicate n x false false h ∙ sym e
    by x l true e =
        let h = leb-true n x e in
        let back : n + (x - n) ≡ x = omega arith in
        get_or-append_right (replicate n false) (drop n (replicate 256 true)) n x false (length-replicate {A = Bool} n false) h
        ∙ get_or-drop n (replicate 256 true) (x - n) false ∙ ap (λ k. get_or (replicate 256 true) k false) back ∙ get_or-replicate 256 x true false l ∙ sym e

or_none : (a b : Bool) → b ≡ false → a || b ≡ a
or_none true b e = refl
or_none false b e = e

or_joined : (a b c : Bool) → (a || b) || c ≡ a || (b || c)
or_joined true b c = refl
or_joined false b c = refl

module _ (n : ℕ) (ps : List ℕ) where
  -- what is marked: numbers that are no domain's, and the parents of the domains below d
  pub record Marked (bs : List Bool) (d : ℕ) : Type 0 where
    pub room : length bs ≡ 256
    pub marks : (x : ℕ) → x < 256 → get_or bs x false ≡ leb n x || any_below d (is_child (parents_in n ps) x)

  pub marked_first : (bs : List Bool) → NoDomains n bs → Marked bs 1
  unfolding any_below is_child
  marked_first bs N = record { room = N.room; marks = λ x l. N.no_domain x l ∙ sym (or_none (leb n x) false refl) }

  pub marked_next : (bs : List Bool) (d : ℕ) → Marked bs d → 0 < d → d < n → get_or ps d 0 < 256 → Marked (set bs (get_or ps d 0) true) (d + 1)
  unfolding any_below is_child
  marked_next bs d C p s w =
      let q = parent_in n 0 ps [] [] d p s in
      let z = ne_eqb d 0 (omega arith) in
      record {
        room = length-set bs (get_or ps d 0) true ∙ C.room;
        marks = λ x h.
            elim (ℕ_discrete x (get_or ps d 0)) [
              | yes e ↦
                  rw (add-one d, z, q, eq-eqb (get_or ps d 0) x (sym e), ← or_joined)
                  (rw e (get_or-set_same bs (get_or ps d 0) true false (omega (arith, C.room))) ∙ sym (or_right (leb n x || any_below d (is_child (parents_in n ps) x)) true refl))
              | no e ↦
                  rw (add-one d, z, q, ne_eqb (get_or ps d 0) x (λ y. e (sym y)), ← or_joined)
                  (get_or-set_other bs (get_or ps d 0) x true false e ∙ C.marks x h ∙ sym (or_none (leb n x || any_below d (is_child (parents_in n ps) x)) false refl))
            ];
      }

  pub marked_all : (bs : List Bool) (d : ℕ) → Marked bs d → d ≡ n → UnfitHomes n ps bs
  unfolding is_leaf is_child tree_of
  marked_all bs d C e =
      record {
        no_home = λ x h.
            rw (not_not (any_below n (is_child (parents_in n ps) x)))
            (C.marks x h ∙ ap (λ k. leb n x || any_below k (is_child (parents_in n ps) x)) e);
      }

-- THE HOMES of the threads below i
module _ (hs : List ℕ) where
  pub record MarkedBelow (bs : List Bool) (i : ℕ) : Type 0 where
    pub room : length bs ≡ 256
    pub marks : (x : ℕ) → x < 256 → get_or bs x false ≡ is_home_in i hs x

  pub marked_none : MarkedBelow (replicate 256 false) 0
  unfolding any_below
  marked_none = record { room = length-replicate {A = Bool} 256 false; marks = λ x l. get_or-replicate 256 x false false l }

  pub marked_more : (bs : List Bool) (i : ℕ) → MarkedBelow bs i → get_or hs i 0 < 256 → MarkedBelow (set bs (get_or hs i 0) true) (i + 1)
  unfolding any_below
  marked_more bs i C w =
      record {
        room = length-set bs (get_or hs i 0) true ∙ C.room;
        marks = λ x h.
            elim (ℕ_discrete x (get_or hs i 0)) [
              | yes e ↦
                  rw (add-one i, eq-eqb (get_or hs i 0) x (sym e))
                  (rw e (get_or-set_same bs (get_or hs i 0) true false (omega (arith, C.room))) ∙ sym (or_right (is_home_in i hs x) true refl))
              | no e ↦
                  rw (add-one i, ne_eqb (get_or hs i 0) x (λ y. e (sym y)))
                  (get_or-set_other bs (get_or hs i 0) x true false e ∙ C.marks x h ∙ sym (or_none (is_home_in i hs x) false refl))
            ];
      }

-- exactly one of two Booleans is true
abbrev pub differ : Bool → Bool → Bool
differ a b = cond a (not b) b

and_true : (a : Bool) → a && true ≡ a
and_true true = refl
and_true false = refl

joined : (a b c : Bool) → (a && b) && c ≡ (a && (b && c))
joined true b c = refl
joined false b c = refl

-- if the two tables differ at every byte, homes and leaves are the same
abbrev pub alike : (marked bad : List Bool) → ℕ → Bool
alike ms bs x = differ (get_or ms x false) (get_or bs x false)

-- one pass over both tables
pub fold_alike : (ms bs : List Bool) (a : Bool) → length ms ≡ length bs → fold (λ same (p : Bool × Bool). same && differ p.0 p.1) a (zip ms bs) ≡ (a && all_below (length ms) (alike ms bs))
unfolding all_below
fold_alike [] [] a e = sym (and_true a)
fold_alike [] (b ∷ bs) a e = absurd (omega (arith, e))
fold_alike (m ∷ ms) [] a e = absurd (omega (arith, e))
fold_alike (m ∷ ms) (b ∷ bs) a e =
    fold_alike ms bs (a && differ m b) (omega (arith, e)) ∙ joined a (differ m b) (all_below (length ms) (alike ms bs)) ∙ ap (λ c. a && c) (sym (all_split (length ms) (alike (m ∷ ms) (b ∷ bs))))

pub tables_differ :
    (n m : ℕ) (ps hs : List ℕ) (ms bs : List Bool) (r : Bool) → n ≤ 64 → MarkedHomes m hs ms → UnfitHomes n ps bs → r ≡ all_below 256 (alike ms bs) →
    HomesAreLeaves n m ps hs r
tables_differ n m ps hs ms bs r few marks homes e =
    record {
      leaf = λ z i l.
          let x = get_or hs i 0 in
          let small = marks.byte i l in
          sym (homes.no_home x small) ∙ first_so _ _ (each z x small) (marks.home x small ∙ any_found m (λ j. eqb (get_or hs j 0) x) i l (eq-eqb x x refl));
      home = λ z d l f. sym (marks.home d (omega arith)) ∙ other_so _ _ (each z d (omega arith)) (homes.no_home d (omega arith) ∙ f);
    }
  where
    each : r ≡ true → (x : ℕ) → x < 256 → alike ms bs x ≡ true
    each z x l = all_each 256 (alike ms bs) (sym e ∙ z) x l

    first_so : (a b : Bool) → differ a b ≡ true → a ≡ true → b ≡ false
    first_so true true e f = absurd (false≢true e)
    first_so true false e f = refl
    first_so false b e f = absurd (false≢true f)

    other_so : (a b : Bool) → differ a b ≡ true → b ≡ false → a ≡ true
    other_so true b e f = refl
    other_so false b e f = absurd (true≢false (sym e ∙ f))

-- whether a home is bad, from that table
pub home_test :
    (w : TreeWords) (bs : List Bool) (i : ℕ) → UnfitHomes w.domains w.parents bs → i < w.threads → get_or w.homes i 0 < 256 →
    get_or bs (get_or w.homes i 0) false ≡ bad_home (tree_of w) i
unfolding bad_home is_leaf is_child tree_of
home_test w bs i N l small = rw (read_in 0 w.threads w.homes i (omega arith) l) (N.no_home (get_or w.homes i 0) small)

-- the same if the answer was that all homes are leaves
pub leaf_test : (w : TreeWords) (i : ℕ) → i < w.threads → no_home_in w.domains w.parents (get_or w.homes i 0) ≡ false → bad_home (tree_of w) i ≡ false
unfolding bad_home is_leaf is_child tree_of
leaf_test w i l e = rw (read_in 0 w.threads w.homes i (omega arith) l) e
