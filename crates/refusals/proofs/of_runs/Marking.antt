-- Marks of threads: a mark is 0 only if its thread rests.
use mathlib.Core.Path.{◌≡◌, refl, sym, ◌∙◌}
use mathlib.Core.Bool.{true, ◌&&◌}
use mathlib.Core.List.{List}
use Prim.Native.Nat.{ℕ, ◌+◌, ◌≤◌, ◌<◌}
use native.Mathlib.Omega.{arith}
use native.Mathlib.Decide.{ℕ_discrete}
use lib.Dec.{eqb}
use lib.ListN.{get_or, set, length-set}
use lib.Seq.{get_or-set_same, get_or-set_other}
use lib.Bits.{bit_or, bit_xor, xor_self, xor_add_and, and_le_l, and_le_r}
use borrow.Author.Tests.{eq-eqb, ne_eqb}
use Rattle.model.specs.declared.PlaceArrays.{PlaceArrays}
use Rattle.model.specs.States.{numbers_at}
use Rattle.model.proofs.Tests.{and_both}
use Rattle.refusals.specs.OfRuns.Tables.{zeros_between, row_rests_in, rests_in, RestMarks}
use Rattle.refusals.proofs.of_runs.Folds.{or_zero, zero_there}

xor_zero : (a b : ℕ) → eqb (bit_xor a b) 0 ≡ eqb a b
xor_zero a b =
    let sum = xor_add_and a b in
    let left = and_le_l a b in
    let right = and_le_r a b in
    elim (ℕ_discrete a b) [
      | yes x ↦ rw x (eq-eqb (bit_xor b b) 0 (xor_self b) ∙ sym (eq-eqb b b refl))
      | no x ↦ rw (ne_eqb (bit_xor a b) 0 (λ z. x (omega arith)), ne_eqb a b x)
    ]

-- the mark of a row and a domain, if both are 0 and otherwise
pub idle_mark : (w h r l : ℕ) → bit_or r l ≡ 0 → true ≡ row_rests_in w h r l
idle_mark w h r l e = rw (sym (or_zero r l) ∙ eq-eqb (bit_or r l) 0 e)

pub other_mark : (w h r l : ℕ) → (bit_or r l ≡ 0 → ⊥) → eqb (bit_or (bit_xor r w) (bit_xor l h)) 0 ≡ row_rests_in w h r l
other_mark w h r l e = rw (sym (or_zero r l) ∙ ne_eqb (bit_or r l) 0 e, or_zero (bit_xor r w) (bit_xor l h), xor_zero r w, xor_zero l h)

module _ (w : ℕ) (os : List ℕ) (q : PlaceArrays) where
  -- a mark that is 0: no record, no word, and row and domain of a thread that rests
  rests_there :
      (a b k r p : ℕ)
      → a ≤ k
      → k < b
      → eqb r 0 ≡ row_rests_in w (get_or os k 0) (get_or q.rows k 0) (get_or q.domains k 0)
      → eqb p 0 ≡ zeros_between a b q.peers && zeros_between a b q.words
      → bit_or r p ≡ 0
      → rests_in w (get_or os k 0) (numbers_at q k) ≡ true
  unfolding numbers_at
  rests_there a b k r p l h e f z =
      let m = and_both (eqb r 0) (eqb p 0) (sym (or_zero r p) ∙ eq-eqb (bit_or r p) 0 z) in
      let none = and_both (zeros_between a b q.peers) (zeros_between a b q.words) (sym f ∙ m.1) in
      rw (zero_there a b q.words none.1 k l h, zero_there a b q.peers none.0 k l h) (sym e ∙ m.0)

  pub marks_next :
      (a b k r p : ℕ) (ms : List ℕ)
      → a ≤ k
      → k < b
      → k < 256
      → eqb r 0 ≡ row_rests_in w (get_or os k 0) (get_or q.rows k 0) (get_or q.domains k 0)
      → eqb p 0 ≡ zeros_between a b q.peers && zeros_between a b q.words
      → RestMarks k w os q ms
      → RestMarks (k + 1) w os q (set ms k (bit_or r p))
  marks_next a b k r p ms l h s e f M =
      record {
        room = length-set ms k (bit_or r p) ∙ M.room;
        rests = λ j g z.
            elim (ℕ_discrete j k) [
              | yes x ↦ rw x (rests_there a b k r p l h e f (sym (get_or-set_same ms k (bit_or r p) 0 (omega (arith, M.room))) ∙ rw x at z))
              | no x ↦ M.rests j (omega arith) (sym (get_or-set_other ms k j (bit_or r p) 0 x) ∙ z)
            ];
      }
