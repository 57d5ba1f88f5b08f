-- The sum of lengths, one length at a time.
use mathlib.Core.Path.{◌≡◌, sym, ◌∙◌}
use mathlib.Core.Bool.{false}
use mathlib.Core.List.{List}
use Prim.Native.Nat.{ℕ, ◌+◌, ◌≤◌, ◌<◌}
use native.Mathlib.Omega.{arith}
use native.Mathlib.Numerals.{add-one}
use native.Mathlib.Decide.{ℕ_discrete}
use lib.Dec.{eqb}
use lib.ListN.{length, drop, get_or, drop_of_length-le}
use lib.Seq.{drop-cons}
use borrow.Author.Tests.{eq-eqb, ne_eqb}
use Rattle.schedules.specs.Rows.{total}

-- the lengths from one on: it, and those after it
pub total_next : (ns : List ℕ) (k : ℕ) → k < length ns → total (drop k ns) ≡ get_or ns k 0 + total (drop (k + 1) ns)
unfolding total
total_next ns k h = rw (add-one, drop-cons ns k 0 h)

pub total_end : (ns : List ℕ) (k : ℕ) → length ns ≤ k → total (drop k ns) ≡ 0
unfolding total
total_end ns k h = rw (drop_of_length-le ns h)

-- two equivalent equations have the same test
same_test : (a b c d : ℕ) → (a ≡ b → c ≡ d) → (c ≡ d → a ≡ b) → eqb a b ≡ eqb c d
same_test a b c d f g =
    elim (ℕ_discrete a b) [
      | yes z ↦ eq-eqb a b z ∙ sym (eq-eqb c d (f z))
      | no z ↦ ne_eqb a b z ∙ sym (ne_eqb c d (λ e. z (g e)))
    ]

-- the entries minus the lengths so far, as long as no length exceeded what was left
module _ (ns : List ℕ) (entries left k : ℕ) (so_far : total ns + left ≡ entries + total (drop k ns)) where
  pub too_long : k < length ns → left < get_or ns k 0 → false ≡ eqb (total ns) entries
  too_long h l = let n = total_next ns k h in sym (ne_eqb (total ns) entries (λ e. omega arith))

  pub one_less : k < length ns → get_or ns k 0 ≤ left → (m : ℕ) → m + get_or ns k 0 ≡ left → total ns + m ≡ entries + total (drop (k + 1) ns)
  one_less h l m e = let n = total_next ns k h in omega arith

  pub none_left : length ns ≤ k → eqb left 0 ≡ eqb (total ns) entries
  none_left h =
      let z = total_end ns k h in
      same_test left 0 (total ns) entries (λ e. omega arith) (λ e. omega arith)
