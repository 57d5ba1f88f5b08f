-- Folds over unused slots: an OR of numbers is 0 exactly if all of them are 0.
use mathlib.Core.Path.{◌≡◌, refl, sym, ap, ◌∙◌}
use mathlib.Core.Bool.{Bool, true, false, ◌&&◌, cond}
use mathlib.Core.List.{List}
use Prim.Native.Nat.{ℕ, zero, suc, ◌+◌, ◌-◌, ◌≤◌, ◌<◌}
use native.Mathlib.Omega.{arith}
use native.Mathlib.Decide.{ℕ_discrete}
use lib.Dec.{eqb}
use lib.ListN.{get_or, length, take, drop}
use lib.Bits.{bit_or, or_add_and, and_le_l, and_le_r}
use borrow.Author.Tests.{eq-eqb, ne_eqb, eqb-true}
use Rattle.std.specs.List.{fold, slice_range}
use Rattle.std.proofs.lemmas.List.{length-drop, get_or-drop}
use Rattle.std.proofs.lemmas.List.Sums.{fold_more}
use Rattle.model.specs.Scans.{all_below}
use Rattle.model.specs.declared.PlaceArrays.{PlaceArrays}
use Rattle.model.specs.declared.State.{State}
use Rattle.model.specs.States.{numbers_at}
use Rattle.model.proofs.Tests.{and_both, all_same, all_each, all_true}
use Rattle.refusals.specs.OfRuns.Tables.{record_in, idle_in, zeros_between, places_clear, records_clear, clear_in}

pub or_zero : (a b : ℕ) → eqb (bit_or a b) 0 ≡ eqb a 0 && eqb b 0
or_zero a b =
    let sum = or_add_and a b in
    let left = and_le_l a b in
    let right = and_le_r a b in
    elim (ℕ_discrete a 0) [
      | yes x ↦
          elim (ℕ_discrete b 0) [
            | yes y ↦ rw (eq-eqb (bit_or a b) 0 (omega arith), eq-eqb a 0 x, eq-eqb b 0 y)
            | no y ↦ rw (ne_eqb (bit_or a b) 0 (λ z. y (omega arith)), eq-eqb a 0 x, ne_eqb b 0 y)
          ]
      | no x ↦ rw (ne_eqb (bit_or a b) 0 (λ z. x (omega arith)), ne_eqb a 0 x)
    ]

-- the first n numbers of a list
zeros_first : (n : ℕ) (l : List ℕ) → n ≤ length l → eqb (fold bit_or 0 (take n l)) 0 ≡ all_below n (λ k. eqb (get_or l k 0) 0)
unfolding all_below
zeros_first zero l h = refl
zeros_first (suc n) l h =
    let more : suc n ≡ n + 1 = omega arith in
    rw (more, fold_more bit_or 0 l n 0 (omega arith), or_zero (fold bit_or 0 (take n l)) (get_or l n 0), zeros_first n l (omega arith))

-- the fold over the numbers between two indices
pub zeros_folded : (r a b : ℕ) (l : List ℕ) → b ≤ length l → r ≡ fold bit_or 0 (slice_range l a b) → eqb r 0 ≡ zeros_between a b l
unfolding zeros_between
zeros_folded r a b l h e =
    let long = length-drop a l in
    rw e (zeros_first (b - a) (drop a l) (omega (arith, long))
    ∙ all_same (b - a) (λ k. eqb (get_or (drop a l) k 0) 0) (λ k. eqb (get_or l (a + k) 0) 0) (λ k w. ap (λ x. eqb x 0) (get_or-drop a l k 0)))

-- from the test of all to each number, and back
pub zero_there : (a b : ℕ) (l : List ℕ) → zeros_between a b l ≡ true → (j : ℕ) → a ≤ j → j < b → get_or l j 0 ≡ 0
unfolding zeros_between
zero_there a b l e j h g =
    let k : a + (j - a) ≡ j = omega arith in
    eqb-true _ _ (rw k at (all_each (b - a) (λ k. eqb (get_or l (a + k) 0) 0) e (j - a) (omega arith)))

pub zeros_there : (a b : ℕ) (l : List ℕ) → ((j : ℕ) → a ≤ j → j < b → get_or l j 0 ≡ 0) → zeros_between a b l ≡ true
unfolding zeros_between
zeros_there a b l f = all_true (b - a) (λ k. eqb (get_or l (a + k) 0) 0) (λ k h. eq-eqb _ 0 (f (a + k) (omega arith) (omega arith)))

-- UNUSED SLOTS ARE 0, array by array
pub record Clear (m n : ℕ) (s : State) : Type 0 where
  pub rows : zeros_between m 256 s.places.rows ≡ true
  pub domains : zeros_between m 256 s.places.domains ≡ true
  pub peers : zeros_between m 256 s.places.peers ≡ true
  pub words : zeros_between m 256 s.places.words ≡ true
  pub tails : zeros_between n 64 s.tails ≡ true
  pub nexts : zeros_between m 257 s.nexts ≡ true
  pub nexts_beyond : zeros_between (256 + n) 320 s.nexts ≡ true
  pub statuses : zeros_between m 257 s.statuses ≡ true
  pub statuses_beyond : zeros_between (256 + n) 320 s.statuses ≡ true

pub clear_facts : (m n : ℕ) (s : State) → clear_in m n s ≡ true → Clear m n s
clear_facts m n s e =
    let a = and_both (places_clear m s.places) (records_clear m n s.tails s.nexts s.statuses) e in
    let p = and_both _ _ a.0 in
    let q = and_both _ _ p.1 in
    let r = and_both _ _ q.1 in
    let t = and_both _ _ a.1 in
    let u = and_both _ _ t.1 in
    let v = and_both _ _ u.1 in
    let x = and_both _ _ v.1 in
    record {
      rows = p.0;
      domains = q.0;
      peers = r.0;
      words = r.1;
      tails = t.0;
      nexts = u.0;
      nexts_beyond = v.0;
      statuses = x.0;
      statuses_beyond = x.1;
    }

-- a record whose words are 0, and a place whose numbers are 0
pub zero_record : (os : List ℕ) (r : ℕ) → record_in os r 0 0 ≡ true
zero_record os r = by (eqb (get_or os r 0) 255)
  where
    by : (b : Bool) → cond b true true ≡ true
    by true = refl
    by false = refl

pub record IdleNumbers (q : PlaceArrays) (i : ℕ) : Type 0 where
  pub row : get_or q.rows i 0 ≡ 0
  pub domain : get_or q.domains i 0 ≡ 0
  pub peer : get_or q.peers i 0 ≡ 0
  pub word : get_or q.words i 0 ≡ 0

pub idle_facts : (q : PlaceArrays) (i : ℕ) → idle_in (numbers_at q i) ≡ true → IdleNumbers q i
unfolding numbers_at
idle_facts q i e =
    let a = and_both _ _ e in
    let b = and_both _ _ a.1 in
    let c = and_both _ _ b.1 in
    record { row = eqb-true _ 0 a.0; domain = eqb-true _ 0 b.0; peer = eqb-true _ 0 c.0; word = eqb-true _ 0 c.1 }

pub idle_test :
    (q : PlaceArrays) (i : ℕ) → get_or q.rows i 0 ≡ 0 → get_or q.domains i 0 ≡ 0 → get_or q.peers i 0 ≡ 0 → get_or q.words i 0 ≡ 0 → idle_in (numbers_at q i) ≡ true
unfolding numbers_at
idle_test q i r d p w = rw (r, d, p, w)

-- two tests are equal if each implies the other
pub both_ways : (a b : Bool) → (a ≡ true → b ≡ true) → (b ≡ true → a ≡ true) → a ≡ b
both_ways true b f g = sym (f refl)
both_ways false true f g = g refl
both_ways false false f g = refl
