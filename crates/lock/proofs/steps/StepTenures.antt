-- The tenures that one step starts, and the lengths that it reports, are those that the model counts.
use mathlib.Core.Path.{◌≡◌, refl, sym, ◌∙◌}
use mathlib.Core.Bool.{Bool, true, false, ◌&&◌, cond}
use mathlib.Core.List.{List, [], ◌∷◌}
use mathlib.Core.Logic.{◌≢◌}
use Prim.Native.Nat.{ℕ, ◌+◌, ◌<◌, max}
use native.Mathlib.Omega.{arith}
use native.Mathlib.Decide.{ℕ_discrete, dec_lt}
use lib.Dec.{eqb}
use lib.ListN.{get_or}
use borrow.Author.Tests.{eq-eqb, ne_eqb, lt-ltb, le-ltb}
use Rattle.model.specs.declared.PlaceWords.{PlaceWords}
use Rattle.model.specs.declared.Place.{Place}
use Rattle.model.specs.declared.Place.TheVariants.{Idle, Prep, Swap, Link, Wait, Inside, Check, Help, Cas, Linger, Draw, Watch, Raise, Invalid}
use Rattle.model.specs.declared.State.{State}
use Rattle.model.specs.Trees.{Tree}
use Rattle.model.specs.Places.{place_words, place_of}
use Rattle.model.specs.States.{status, place, wrap}
use Rattle.model.specs.Steps.{is_watched, shown_members, step}
use Rattle.model.specs.Runs.{occurrences}
use Rattle.model.specs.Tenures.{given, starts, checks_at, word_to_grant, tenure_length, domain_tenures, longest_tenure}
use Rattle.model.specs.Counters.{each_with_index}
use Rattle.model.proofs.Tests.{by_test}
use Rattle.model.proofs.Places.{by_row, no_place}
use Rattle.model.proofs.Counted.{indexed_same, indexed_kept, filter_occurs}
use Rattle.model.proofs.Laws.Given.{given_from}
use Rattle.model.specs.declared.Counters.{Counters}
use Rattle.rows.specs.Common.Counting.{added_at, raised_at, is_shown, CountedShown}
use Rattle.rows.proofs.common.Counts.{is_at, added_indexed, raised_indexed}

abbrev number : Bool → ℕ
number b = cond b 1 0

-- WHAT A STEP GIVES, by the domain whose tenure it starts: nothing, a thread's record, or that domain's record
pub data StartOf (xs : List ℕ) (c : ℕ) : Type 0 where
  nobody : xs ≡ [] → c ≡ 0 → StartOf xs c
  of_thread : (r : ℕ) → r < 256 → xs ≡ r ∷ [] → c ≡ 0 → StartOf xs c
  of_domain : c ≢ 0 → xs ≡ (256 + c) ∷ [] → StartOf xs c

at_zero : (c d : ℕ) → c ≡ 0 → number (is_at c d) ≡ 0
at_zero c d e = rw (eq-eqb c 0 e)

start_counts : (xs : List ℕ) (c : ℕ) → StartOf xs c → (d : ℕ) → cond (eqb d 0) 0 (occurrences (256 + d) xs) ≡ number (is_at c d)
unfolding occurrences
start_counts xs c (nobody e z) d = rw e (by_test (λ n. n ≡ number (is_at c d)) (eqb d 0) 0 0 (λ y. sym (at_zero c d z)) (λ y. sym (at_zero c d z)))
start_counts xs c (of_thread r h e z) d =
    rw (e, ne_eqb (256 + d) r (λ q. absurd (omega arith))) (by_test (λ n. n ≡ number (is_at c d)) (eqb d 0) 0 0 (λ y. sym (at_zero c d z)) (λ y. sym (at_zero c d z)))
start_counts xs c (of_domain n e) d =
    rw (e, ne_eqb c 0 n)
    (elim (ℕ_discrete d c) [
      | yes z ↦ rw (z, ne_eqb c 0 n, eq-eqb c c refl, eq-eqb (256 + c) (256 + c) refl)
      | no z ↦ rw (ne_eqb d c z, ne_eqb (256 + d) (256 + c) (λ q. z (omega arith))) (by_test (λ n. n ≡ 0) (eqb d 0) 0 0 (λ y. refl) (λ y. refl))
    ])

-- a step from any place except Check, by what it gives
module _ (t : Tree) (i : ℕ) (s : State) (c : ℕ) (g : StartOf (given_from t i (place s i) s) c) (unchecked : (d : ℕ) → checks_at d (place s i) ≡ false) where
  starts_are : (d : ℕ) → starts t d (step t i s) ≡ number (is_at c d)
  unfolding starts given step
  starts_are d = start_counts (given_from t i (place s i) s) c g d

  lengths_are : (d : ℕ) → tenure_length t d (step t i s) ≡ number (is_at c d)
  unfolding tenure_length step
  lengths_are d = rw (starts_are d, unchecked d) (by (is_at c d))
    where
      by : (b : Bool) → max (cond (eqb (number b) 0) 0 1) 0 ≡ number b
      by true = refl
      by false = refl

  pub start_added : (ts : List ℕ) → added_at ts c ≡ each_with_index (λ d v. v + domain_tenures t d (step t i s ∷ [])) 0 ts
  unfolding domain_tenures
  start_added ts = added_indexed ts c ∙ indexed_same _ _ 0 ts (λ d v. omega (arith, starts_are d))

  pub start_raised : (ls : List ℕ) → raised_at ls c 1 ≡ each_with_index (λ d v. max v (longest_tenure t d (step t i s ∷ []))) 0 ls
  unfolding longest_tenure
  start_raised ls = raised_indexed ls c 1 ∙ indexed_same _ _ 0 ls (λ d v. omega (arith, lengths_are d))

-- A CHECK: the word that the place after it grants
word_of_row : (q : PlaceWords) → word_to_grant (place_of q) ≡ cond (eqb q.row 10) q.word 0
unfolding word_to_grant place_of
word_of_row q = by q.row q.domain q.peer q.word
  where
    none : (x : Place) → word_to_grant x ≡ 0 → (b : Bool) → word_to_grant (cond b x Invalid) ≡ 0
    none x e b = by_test (λ p. word_to_grant p ≡ 0) b x Invalid (λ _. e) (λ _. refl)

    by : (r d p w : ℕ) → word_to_grant (place_of (place_words r d p w)) ≡ cond (eqb r 10) w 0
    by r d p w =
        let plain = eqb p 0 && eqb w 0 in
        let bare = eqb d 0 && (eqb p 0 && eqb w 0) in
        by_row (λ r. word_to_grant (place_of (place_words r d p w)) ≡ cond (eqb r 10) w 0) r
        (none Idle refl bare)
        (none (Prep d) refl plain)
        (none (Swap d) refl plain)
        (none (Link d p) refl (eqb w 0))
        (none (Wait d) refl plain)
        (none Inside refl bare)
        (none (Check d) refl plain)
        (none (Help d) refl plain)
        (none (Cas d) refl plain)
        (none (Linger d) refl plain)
        refl
        (none Draw refl bare)
        (none Watch refl bare)
        (none Raise refl bare)
        (λ m. rw (no_place (place_words r d p w) m, ne_eqb r 10 (omega arith)))

module _ (t : Tree) (i l : ℕ) (s : State) (here : place s i ≡ Check l) (n : l ≢ 0) (none_given : given_from t i (place s i) s ≡ []) (q : PlaceWords) (after : place (step t i s).state i ≡ place_of q) where
  check_starts : (d : ℕ) → starts t d (step t i s) ≡ 0
  unfolding starts given step
  check_starts d = start_counts (given_from t i (place s i) s) 0 (nobody none_given refl) d

  check_length : (d : ℕ) → tenure_length t d (step t i s) ≡ cond (is_at (cond (eqb q.row 10) l 0) d) q.word 0
  unfolding tenure_length step checks_at
  check_length d = rw (check_starts d, after, word_of_row q, here) (by (eqb q.row 10))
    where
      by : (b : Bool) → max 0 (cond (eqb l d) (cond b q.word 0) 0) ≡ cond (is_at (cond b l 0) d) q.word 0
      by true = rw (ne_eqb l 0 n) (elim (ℕ_discrete d l) [ yes z ↦ rw (eq-eqb d l z, eq-eqb l d (sym z)) (omega arith) | no z ↦ rw (ne_eqb d l z, ne_eqb l d (λ y. z (sym y))) ])
      by false = by_test (λ v. max 0 v ≡ 0) (eqb l d) 0 0 (λ e. refl) (λ e. refl)

  pub check_added : (ts : List ℕ) → ts ≡ each_with_index (λ d v. v + domain_tenures t d (step t i s ∷ [])) 0 ts
  unfolding domain_tenures
  check_added ts = sym (indexed_kept _ 0 ts (λ d v. omega (arith, check_starts d)))

  pub check_raised : (ls : List ℕ) → raised_at ls (cond (eqb q.row 10) l 0) q.word ≡ each_with_index (λ d v. max v (longest_tenure t d (step t i s ∷ []))) 0 ls
  unfolding longest_tenure
  check_raised ls = raised_indexed ls (cond (eqb q.row 10) l 0) q.word ∙ indexed_same _ _ 0 ls (λ d v. omega (arith, check_length d))

-- A RAISE starts the tenures of the marked domains
module _ (t : Tree) (i : ℕ) (s : State) (here : place s i ≡ Raise) (shown : List Bool)
    (raise_given : given_from t i (place s i) s ≡ shown_members t s (wrap (s.grant + 1)))
    (marked : (d : ℕ) → d < 64 → d ≢ 0 → get_or shown d false ≡ eqb (status s (256 + d)) (wrap (s.grant + 1)) && is_watched t s (256 + d)) where
  raise_starts : (d : ℕ) → starts t d (step t i s) ≡ number (is_shown shown 64 d)
  unfolding starts given step shown_members
  raise_starts d =
      let v = wrap (s.grant + 1) in
      rw (raise_given, filter_occurs 320 (λ r. eqb (status s r) v && is_watched t s r) (256 + d))
      (elim (ℕ_discrete d 0) [
        | yes z ↦ rw (eq-eqb d 0 z)
        | no z ↦
            rw (ne_eqb d 0 z)
            (elim (dec_lt d 64) [
              | yes l ↦ rw (lt-ltb d 64 l, lt-ltb (256 + d) 320 (omega arith), marked d l z)
              | no l ↦ rw (le-ltb d 64 (omega arith), le-ltb (256 + d) 320 (omega arith))
            ])
      ])

  raise_length : (d : ℕ) → tenure_length t d (step t i s) ≡ number (is_shown shown 64 d)
  unfolding tenure_length step checks_at
  raise_length d = rw (raise_starts d, here) (by (is_shown shown 64 d))
    where
      by : (b : Bool) → max (cond (eqb (number b) 0) 0 1) 0 ≡ number b
      by true = refl
      by false = refl

  pub raise_added : (c c' : Counters) → CountedShown shown 64 c c' → c'.tenures ≡ each_with_index (λ d v. v + domain_tenures t d (step t i s ∷ [])) 0 c.tenures
  unfolding domain_tenures
  raise_added c c' g = g.added ∙ indexed_same _ _ 0 c.tenures (λ d v. omega (arith, raise_starts d))

  pub raise_raised : (c c' : Counters) → CountedShown shown 64 c c' → c'.longest ≡ each_with_index (λ d v. max v (longest_tenure t d (step t i s ∷ []))) 0 c.longest
  unfolding longest_tenure
  raise_raised c c' g = g.raised ∙ indexed_same _ _ 0 c.longest (λ d v. omega (arith, raise_length d))
