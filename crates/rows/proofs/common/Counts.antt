-- What the functions that count do to arrays of counters, index by index.
use Rattle.std.proofs.Common.{◌≡◌, ℕ, zero, suc, ◌+◌, ◌<◌, ◌≤◌, max, Bool, true, false, cond, not, ◌&&◌, eqb, ltb, ◌≢◌, List, [], ◌∷◌, length, get_or, set, subst, sym, refl, ap, ◌∙◌, arith, length-set, get_or-set_other, le-ltb, lt-ltb, eq-eqb, ne_eqb, eqb-true}
use mathlib.Core.Bool.{false≢true}
use native.Mathlib.Decide.{ℕ_discrete, dec_lt}
use borrow.Author.Tests.{eqb-false}
use Rattle.model.specs.Counters.{each_with_index}
use Rattle.model.proofs.Counted.{indexed_same, indexed_kept, indexed_twice}
use Rattle.model.proofs.Tests.{and_false}
use Rattle.model.proofs.Trees.Reading.{read_in}
use Rattle.model.specs.declared.Counters.{Counters}
use Rattle.refusals.specs.Arrays.{Lower}
use Rattle.rows.specs.Common.Counting.{parent_in, added_at, raised_at, Climbed, at_root, one_up, Entered, is_shown, CountedShown}
use Rattle.rows.specs.Common.Standing.{is_entry_number}

-- A STORE AS A WALK over all indices
kept_from : (f : ℕ → ℕ → ℕ) (k : ℕ) (vs : List ℕ) → ((j v : ℕ) → k ≤ j → f j v ≡ v) → each_with_index f k vs ≡ vs
unfolding each_with_index
kept_from f k [] h = refl
kept_from f k (v ∷ vs) h = rw (h k v (omega arith), kept_from f (suc k) vs (λ j w l. h j w (omega arith)))

set_from : (h : ℕ → ℕ) (k : ℕ) (vs : List ℕ) (d : ℕ) → set vs d (h (get_or vs d 0)) ≡ each_with_index (λ j v. cond (eqb j (k + d)) (h v) v) k vs
unfolding each_with_index
set_from h k [] d = refl
set_from h k (v ∷ vs) zero =
    rw (eq-eqb k (k + 0) (omega arith), kept_from (λ j w. cond (eqb j (k + 0)) (h w) w) (suc k) vs (λ j w l. rw (ne_eqb j (k + 0) (λ z. absurd (omega arith)))))
set_from h k (v ∷ vs) (suc d) =
    let z : suc k + d ≡ k + suc d = omega arith in
    let later = subst (λ (n : ℕ). set vs d (h (get_or vs d 0)) ≡ each_with_index (λ j w. cond (eqb j n) (h w) w) (suc k) vs) z (set_from h (suc k) vs d) in
    rw (ne_eqb k (k + suc d) (λ y. absurd (omega arith))) (ap (λ ws. v ∷ ws) later)

pub set_indexed : (h : ℕ → ℕ) (vs : List ℕ) (d : ℕ) → set vs d (h (get_or vs d 0)) ≡ each_with_index (λ j v. cond (eqb j d) (h v) v) 0 vs
set_indexed h vs d = let z : 0 + d ≡ d = omega arith in rw z at (set_from h 0 vs d)

-- an index is a given domain other than the root
abbrev pub is_at : (domain at : ℕ) → Bool
is_at d j = not (eqb d 0) && eqb j d

pub added_indexed : (vs : List ℕ) (d : ℕ) → added_at vs d ≡ each_with_index (λ j v. v + cond (is_at d j) 1 0) 0 vs
added_indexed vs d = by (eqb d 0)
  where
    one : (b : Bool) (v : ℕ) → cond b (v + 1) v ≡ v + cond b 1 0
    one true v = refl
    one false v = omega arith

    by : (b : Bool) → cond b vs (set vs d (get_or vs d 0 + 1)) ≡ each_with_index (λ j v. v + cond (not b && eqb j d) 1 0) 0 vs
    by true = sym (indexed_kept (λ j v. v + 0) 0 vs (λ j v. omega arith))
    by false = set_indexed (λ v. v + 1) vs d ∙ indexed_same _ _ 0 vs (λ j v. one (eqb j d) v)

pub raised_indexed : (vs : List ℕ) (d w : ℕ) → raised_at vs d w ≡ each_with_index (λ j v. max v (cond (is_at d j) w 0)) 0 vs
raised_indexed vs d w = by (eqb d 0)
  where
    one : (b : Bool) (v : ℕ) → cond b (max v w) v ≡ max v (cond b w 0)
    one true v = refl
    one false v = omega arith

    by : (b : Bool) → cond b vs (set vs d (max (get_or vs d 0) w)) ≡ each_with_index (λ j v. max v (cond (not b && eqb j d) w 0)) 0 vs
    by true = sym (indexed_kept (λ j v. max v 0) 0 vs (λ j v. omega arith))
    by false = set_indexed (λ v. max v w) vs d ∙ indexed_same _ _ 0 vs (λ j v. one (eqb j d) v)

-- CLIMBING. What the rest of the path leaves is what the whole path leaves; and what the next turn needs
pub record Climbs (domains : ℕ) (parents : List ℕ) (home : ℕ) (entries : List ℕ) (c : ℕ) (left : List ℕ) : Type 0 where
  pub real : c < domains
  pub long : length left ≡ length entries
  pub above : (d : ℕ) → d ≤ c → get_or left d 0 ≡ get_or entries d 0
  pub climbed : (ws : List ℕ) → Climbed (parent_in domains parents) c left ws → Climbed (parent_in domains parents) home entries ws

pub climbs_on :
    (m : ℕ) (ps : List ℕ) (h : ℕ) (es : List ℕ) (c : ℕ) (vs : List ℕ) → Lower m ps → c ≢ 0 → Climbs m ps h es c vs →
    Climbs m ps h es (get_or ps c 0) (set vs c (get_or vs c 0 + 1))
climbs_on m ps h es c vs low n k =
    let lower = low.lower c (omega (arith, n)) k.real in
    let up = read_in 1 m ps c (omega (arith, n)) k.real in
    record {
      real = omega (arith, k.real);
      long = length-set vs c (get_or vs c 0 + 1) ∙ k.long;
      above = λ d l. get_or-set_other vs c d (get_or vs c 0 + 1) 0 (λ z. absurd (omega arith)) ∙ k.above d (omega arith);
      climbed = λ ws x. k.climbed ws (one_up c vs ws n (rw up x));
    }

pub climbs_end : (m : ℕ) (ps : List ℕ) (h : ℕ) (es : List ℕ) (c : ℕ) (vs : List ℕ) → c ≡ 0 → Climbs m ps h es c vs → Climbed (parent_in m ps) h es vs
climbs_end m ps h es c vs z k = k.climbed vs (rw z (at_root vs))

-- MARKED DOMAINS, with one more looked at
-- below domain 1 there is only the root, which is not counted
pub counted_none : (shown : List Bool) (k : Counters) → CountedShown shown 1 k k
counted_none shown k =
    record {
      added = sym (indexed_kept _ 0 k.tenures (λ d v. rw (none d) (omega arith)));
      raised = sym (indexed_kept _ 0 k.longest (λ d v. rw (none d) (omega arith)));
    }
  where
    none : (d : ℕ) → is_shown shown 1 d ≡ false
    none zero = refl
    none (suc d) = rw (le-ltb (suc d) 1 (omega arith)) (and_false _)

abbrev number : Bool → ℕ
number b = cond b 1 0

-- an index is shown below k + 1 exactly if it is shown below k, or is k, marked and not the root
shown_next :
    (shown : List Bool) (k c : ℕ) → c ≡ cond (get_or shown k false) k 0 → (d : ℕ) →
    (number (is_shown shown (k + 1) d) ≡ number (is_shown shown k d) + number (is_at c d))
shown_next shown k c e d = by (eqb d 0) (get_or shown k false) refl refl
  where
    by : (a b : Bool) → eqb d 0 ≡ a → get_or shown k false ≡ b → number (is_shown shown (k + 1) d) ≡ number (is_shown shown k d) + number (is_at c d)
    by true b y z = rw (y, at_zero b z (eqb-true d 0 y))
      where
        at_zero : (b : Bool) → get_or shown k false ≡ b → d ≡ 0 → is_at c d ≡ false
        at_zero b z y = elim (ℕ_discrete c 0) [ yes p ↦ rw (eq-eqb c 0 p) | no p ↦ rw (ne_eqb c 0 p, ne_eqb d c (λ q. p (sym q ∙ y))) ]
    by false b y z =
        elim (ℕ_discrete d k) [
          | yes p ↦ here p b z
          | no p ↦
              let far : is_at c d ≡ false = elsewhere b z p in
              elim (dec_lt d k) [
                | yes l ↦ rw (y, far, lt-ltb d k l, lt-ltb d (k + 1) (omega arith)) (omega arith)
                | no l ↦ rw (y, far, le-ltb d k (omega arith), le-ltb d (k + 1) (omega (arith, p)))
              ]
        ]
      where
        elsewhere : (b : Bool) → get_or shown k false ≡ b → d ≢ k → is_at c d ≡ false
        elsewhere true z p = elim (ℕ_discrete c 0) [ yes q ↦ rw (eq-eqb c 0 q) | no q ↦ rw (ne_eqb c 0 q, ne_eqb d c (λ r. p (r ∙ e ∙ rw z))) ]
        elsewhere false z p = rw (eq-eqb c 0 (e ∙ rw z))

        here : d ≡ k → (b : Bool) → get_or shown k false ≡ b → number (is_shown shown (k + 1) d) ≡ number (is_shown shown k d) + number (is_at c d)
        here p true z =
            let m : c ≡ k = e ∙ rw z in
            let n : k ≢ 0 = λ q. eqb-false d 0 y (p ∙ q) in
            rw (p, m, ne_eqb k 0 n, z, le-ltb k k (omega arith), lt-ltb k (k + 1) (omega arith), eq-eqb k k refl)
        here p false z =
            let m : c ≡ 0 = e ∙ rw z in
            rw (p, m, z) (none (not (eqb k 0)) (ltb k (k + 1)) (ltb k k))
          where
            none : (a x y : Bool) → number (a && (x && false)) ≡ number (a && (y && false)) + 0
            none true true true = refl
            none true true false = refl
            none true false true = refl
            none true false false = refl
            none false x y = refl

counted_next :
    (shown : List Bool) (k : ℕ) (old now : Counters) → CountedShown shown k old now → (c : ℕ) → c ≡ cond (get_or shown k false) k 0 →
    (new : Counters) → new.tenures ≡ added_at now.tenures c → new.longest ≡ raised_at now.longest c 1 → CountedShown shown (k + 1) old new
counted_next shown k old now g c e new a b =
    record {
      added =
          a ∙ added_indexed now.tenures c ∙ ap (each_with_index (λ j v. v + number (is_at c j)) 0) g.added ∙ indexed_twice _ _ 0 old.tenures
          ∙ indexed_same _ _ 0 old.tenures (λ d v. omega (arith, shown_next shown k c e d));
      raised =
          b ∙ raised_indexed now.longest c 1 ∙ ap (each_with_index (λ j v. max v (number (is_at c j))) 0) g.raised ∙ indexed_twice _ _ 0 old.longest
          ∙ indexed_same _ _ 0 old.longest (λ d v. largest v (is_shown shown k d) (is_at c d) (is_shown shown (k + 1) d) (shown_next shown k c e d));
    }
  where
    largest : (v : ℕ) (x y z : Bool) → number z ≡ number x + number y → max (max v (number x)) (number y) ≡ max v (number z)
    largest v true true true h = omega arith
    largest v true true false h = absurd (omega arith)
    largest v true false true h = omega arith
    largest v true false false h = absurd (omega arith)
    largest v false true true h = omega arith
    largest v false true false h = absurd (omega arith)
    largest v false false true h = absurd (omega arith)
    largest v false false false h = omega arith

-- the counters after a domain that is not marked, and after one that is
pub counted_past : (shown : List Bool) (k : ℕ) (old now : Counters) → get_or shown k false ≡ false → CountedShown shown k old now → CountedShown shown (k + 1) old now
counted_past shown k old now e g = counted_next shown k old now g 0 (rw e) now refl refl

pub counted_here :
    (shown : List Bool) (k : ℕ) (old now : Counters) → get_or shown k false ≡ true → k ≢ 0 → CountedShown shown k old now →
    CountedShown shown (k + 1) old (record { entries = now.entries; tenures = set now.tenures k (get_or now.tenures k 0 + 1); longest = set now.longest k (max (get_or now.longest k 0) 1) })
counted_here shown k old now e n g = counted_next shown k old now g k (rw e) _ (rw (ne_eqb k 0 n)) (rw (ne_eqb k 0 n))

-- a step that is no entry counts none
pub not_entered : (p : ℕ → ℕ) (k h : ℕ) (es : List ℕ) → is_entry_number k ≡ false → Entered p k h es es
not_entered p k h es e = record { entry = λ z. absurd (false≢true (sym e ∙ z)); other = λ z. refl }
