-- Two states that the computed cases treat as equal are equal.
use mathlib.Core.Path.{◌≡◌, refl}
use mathlib.Core.Bool.{true, ◌&&◌, false≢true}
use mathlib.Core.List.{List, [], ◌∷◌}
use Prim.Native.Nat.{ℕ}
use lib.Dec.{eqb}
use borrow.Author.Tests.{eqb-true}
use Rattle.model.specs.declared.State.{State}
use Rattle.model.specs.declared.PlaceArrays.{PlaceArrays}
use Rattle.model.specs.Cases.Marked.{same_numbers, same_places, same_state}
use Rattle.model.proofs.Tests.{and_both}

numbers_same : (xs ys : List ℕ) → same_numbers xs ys ≡ true → xs ≡ ys
unfolding same_numbers
numbers_same [] [] e = refl
numbers_same [] (y ∷ ys) e = absurd (false≢true e)
numbers_same (x ∷ xs) [] e = absurd (false≢true e)
numbers_same (x ∷ xs) (y ∷ ys) e =
    let both = and_both (eqb x y) (same_numbers xs ys) e in
    rw (eqb-true x y both.0, numbers_same xs ys both.1)

places_same : (p q : PlaceArrays) → same_places p q ≡ true → p ≡ q
unfolding same_places
places_same p q e =
    let halves = and_both (same_numbers p.rows q.rows && same_numbers p.domains q.domains) (same_numbers p.peers q.peers && same_numbers p.words q.words) e in
    let first = and_both (same_numbers p.rows q.rows) (same_numbers p.domains q.domains) halves.0 in
    let last = and_both (same_numbers p.peers q.peers) (same_numbers p.words q.words) halves.1 in
    rw (
      numbers_same p.rows q.rows first.0,
      numbers_same p.domains q.domains first.1,
      numbers_same p.peers q.peers last.0,
      numbers_same p.words q.words last.1,
    )

pub state_same : (a b : State) → same_state a b ≡ true → a ≡ b
unfolding same_state
state_same a b e =
    let halves = and_both (same_numbers a.tails b.tails && same_numbers a.nexts b.nexts) _ e in
    let links = and_both (same_numbers a.tails b.tails) _ halves.0 in
    let rest = and_both (same_numbers a.statuses b.statuses && same_places a.places b.places) _ halves.1 in
    let words = and_both (same_numbers a.statuses b.statuses) _ rest.0 in
    let counters = and_both (eqb a.ticket b.ticket) _ rest.1 in
    rw (
      numbers_same a.tails b.tails links.0,
      numbers_same a.nexts b.nexts links.1,
      numbers_same a.statuses b.statuses words.0,
      places_same a.places b.places words.1,
      eqb-true a.ticket b.ticket counters.0,
      eqb-true a.grant b.grant counters.1,
    )
