-- What the counting of a step requires, and the marks of the threads that watch.
use mathlib.Core.Path.{◌≡◌, refl, sym, ap, ◌∙◌}
use mathlib.Core.Bool.{Bool, true, false, ◌&&◌, ◌||◌, cond}
use mathlib.Core.List.{List}
use mathlib.Core.Logic.{◌≢◌}
use Prim.Native.Nat.{ℕ, suc, ◌+◌, ◌≤◌, ◌<◌}
use native.Mathlib.Omega.{arith}
use native.Mathlib.Numerals.{add-one}
use native.Mathlib.Decide.{ℕ_discrete, dec_lt}
use lib.Dec.{eqb}
use lib.ListN.{get_or, length, take, set, length-set}
use lib.Seq.{get_or-set_same, get_or-set_other, length-take-le}
use borrow.Author.Tests.{eqb-false, eq-eqb, ne_eqb}
use Rattle.model.specs.declared.TreeWords.{TreeWords}
use Rattle.model.specs.declared.PlaceWords.{PlaceWords}
use Rattle.model.specs.declared.Place.TheVariants.{Raise, Invalid}
use Rattle.model.specs.declared.State.{State}
use Rattle.model.specs.declared.Counters.{Counters}
use Rattle.model.specs.declared.LockState.{LockState}
use Rattle.model.specs.declared.PlaceArrays.{PlaceArrays}
use Rattle.model.specs.Scans.{any_below}
use Rattle.model.specs.Trees.{Tree, tree_of, child}
use Rattle.model.specs.Places.{words_of, place_of}
use Rattle.model.specs.States.{place, numbers_at}
use Rattle.model.specs.WellFormed.{good_place}
use Rattle.model.specs.Refusals.{tree_refusal}
use Rattle.model.specs.Laws.{SixteenBit, Formed}
use Rattle.model.proofs.Places.{words_of_place}
use Rattle.model.proofs.Trees.Accepted.{Accepted, accepted}
use Rattle.model.proofs.Trees.Paths.{on_path_root, path_real}
use Rattle.model.proofs.Trees.Records.{on_path_child}
use Rattle.model.proofs.Laws.Facts.{well_formed_facts}
use Rattle.model.proofs.Laws.Form.{not_invalid}
use Rattle.model.proofs.Laws.Calls.{GoodRun}
use Rattle.model.proofs.Laws.Counters.{counts_most, entries_left, tenures_left}
use Rattle.model.proofs.Tests.{any_nowhere, and_false}
use Rattle.model.proofs.Trees.Reading.{home_read}
use Rattle.refusals.proofs.Reading.{home_in}
use Rattle.rows.specs.Common.Counting.{RoomAbove, taken_in, is_watch_in, marked_in, Clear, Looked, ShownFor}
use Rattle.rows.specs.Step.Counting.{ShownLeft}
use Rattle.lock.specs.Steps.Counting.{shows_in, Marked}
use Rattle.lock.proofs.steps.Taken.{taken_child}
use Rattle.lock.proofs.steps.Tallying.{Tallied}

-- ROOM. No schedule makes counters that pass 10 overflow
module _ (t : Tree) (bits : SixteenBit t) (s₀ : LockState) (is : List ℕ) (room : ℕ) (R : GoodRun t s₀ is room) (c : Counters) (k : ℕ) (h : k ≤ length is) (g : Tallied t is s₀.words s₀.counters c k) where
  short : length (take k is) ≡ k
  short = length-take-le k is h

  pub entries_room : RoomAbove c.entries
  entries_room = record { room = λ d b. let z = ap (λ (x : Counters). get_or x.entries d 0) g.counters_are in omega (arith, z, entries_left t bits s₀.counters (take k is) s₀.words d, (counts_most t s₀.counters R.counts d b).0, short, R.short) }

  pub tenures_room : RoomAbove c.tenures
  tenures_room = record { room = λ d b. let z = ap (λ (x : Counters). get_or x.tenures d 0) g.counters_are in omega (arith, z, tenures_left t bits s₀.counters (take k is) s₀.words d, (counts_most t s₀.counters R.counts d b).1, short, R.short) }

-- a Raise is in row 13
pub raise_row_is : (q : PlaceWords) → place_of q ≢ Invalid → place_of q ≡ Raise → q.row ≡ 13
raise_row_is q v z = ap (λ (x : PlaceWords). x.row) (sym (words_of_place q v) ∙ ap words_of z)

-- a thread that is looked at is a thread of the tree
pub looked_real : {row : ℕ} {vs : List ℕ} {n v m l j : ℕ} → Looked row vs n v m l → j < l → j < m
looked_real {row = row} {m = m} {l = l} e h =
    elim (ℕ_discrete row 13) [
      | yes z ↦ let y : l ≡ m = e.all z (λ x. absurd (omega arith)) in omega arith
      | no z ↦ absurd (omega (arith, e.other z))
    ]

-- at most the tree's threads are looked at
pub looked_few : {row : ℕ} {vs : List ℕ} {n v m l : ℕ} → Looked row vs n v m l → l ≤ m
looked_few {row = row} {m = m} {l = l} e =
    elim (ℕ_discrete l 0) [
      | yes z ↦ omega arith
      | no z ↦
          elim (ℕ_discrete row 13) [
            | yes y ↦ let x : l ≡ m = e.all y z in omega arith
            | no y ↦ absurd (z (e.other y))
          ]
    ]

-- a raise looks at all threads, or at none if no domain's record has the ticket
looked_cases :
    {row : ℕ} {vs : List ℕ} {n v m l : ℕ} (C : Type 0) → Looked row vs n v m l → row ≡ 13 → (l ≡ m → C) → (l ≡ 0 → ((d : ℕ) → d < n → get_or vs (256 + d) 0 ≢ v) → C) → C
looked_cases {m = m} {l = l} C e r all none =
    elim (ℕ_discrete l m) [
      | yes z ↦ all z
      | no z ↦ elim (ℕ_discrete l 0) [ yes y ↦ none y (e.nobody r z) | no y ↦ absurd (z (e.all r y)) ]
    ]

-- MARKS
module _ (w : TreeWords) (ok : (tree_refusal (tree_of w)).number ≡ 0) where
  valid : Accepted (tree_of w)
  valid = accepted (tree_of w) ok

  pub home_small : (j : ℕ) → j < w.threads → get_or w.homes j 0 < w.domains
  unfolding tree_of
  home_small j r = rw (home_read w j r) at (valid.home_real j r)

  taken_real : (j : ℕ) → j < w.threads → taken_in w.domains w.parents (get_or w.homes j 0) 0 < w.domains
  unfolding tree_of
  taken_real j r =
      let t = tree_of w in
      let e = taken_child t w.domains w.parents (λ x. refl) j 0 (get_or w.homes j 0) (sym (home_read w j r)) in
      rw e (by (eqb 0 (t.home j)) refl)
    where
      by : (x : Bool) → eqb 0 ((tree_of w).home j) ≡ x → cond x 0 (child (tree_of w) j 0) < (tree_of w).domains
      by true z = valid.some_domain
      by false z = path_real (tree_of w) valid j r (child (tree_of w) j 0) (on_path_child (tree_of w) valid j r 0 (on_path_root (tree_of w) valid j r) (eqb-false 0 ((tree_of w).home j) z))

  taken_small : (j : ℕ) → j < w.threads → taken_in w.domains w.parents (get_or w.homes j 0) 0 < 64
  unfolding tree_of
  taken_small j r = omega (arith, taken_real j r, valid.few_domains)

  module _ (vs : List ℕ) (qs : PlaceArrays) (v : ℕ) where
    pub marked_start : (bs : List Bool) → Clear bs → Marked w.domains w.parents w.homes vs qs v 0 bs
    unfolding any_below
    marked_start bs g = record { room = g.room; marked = g.none }

    -- a thread shows nothing for a domain that is not in the tree, nor for one whose record does not hold the ticket
    shows_none : (d j : ℕ) → j < w.threads → (d < w.domains → get_or vs (256 + d) 0 ≢ v) → shows_in w.domains w.parents w.homes vs qs v d j ≡ false
    shows_none d j r n =
        elim (dec_lt d w.domains) [
          | yes p ↦ rw (ne_eqb (get_or vs (256 + d) 0) v (n p)) (last (is_watch_in (numbers_at qs j)) (eqb c d))
          | no p ↦ rw (ne_eqb c d (λ z. absurd (omega (arith, taken_real j r, p)))) (and_false (is_watch_in (numbers_at qs j)))
        ]
      where
        c : ℕ
        c = taken_in w.domains w.parents (get_or w.homes j 0) 0

        last : (a b : Bool) → a && (b && false) ≡ false
        last a true = and_false a
        last a false = and_false a

    -- if no domain's record has the ticket, no thread shows anything, so the marks of no threads are those of all
    pub marked_all :
        (bs : List Bool) → ((d : ℕ) → d < w.domains → get_or vs (256 + d) 0 ≢ v) → Marked w.domains w.parents w.homes vs qs v 0 bs →
        Marked w.domains w.parents w.homes vs qs v w.threads bs
    unfolding any_below
    marked_all bs n g =
        record { room = g.room; marked = λ d h. g.marked d h ∙ sym (any_nowhere w.threads (shows_in w.domains w.parents w.homes vs qs v d) (λ j r. shows_none d j r (n d))) }

    -- no step leaves a domain marked; one that is no raise looks at no thread
    pub marks_cleared :
        (q : PlaceWords) (j l : ℕ) (bs bs' : List Bool) → Looked q.row vs w.domains v w.threads l → j ≤ l → Marked w.domains w.parents w.homes vs qs v j bs →
        ShownLeft q bs bs' → Clear bs'
    unfolding any_below
    marks_cleared q j l bs bs' e few g left =
        elim (ℕ_discrete q.row 13) [
          | yes z ↦ left.raise z
          | no z ↦
              let none : j ≡ 0 = omega (arith, e.other z) in
              rw (left.other z) (record { room = g.room; none = λ d h. g.marked d h ∙ ap (λ k. any_below k (shows_in w.domains w.parents w.homes vs qs v d)) none })
        ]

    -- the marks of all threads that are looked at: no mark if there are none, and none beyond the tree's domains
    pub shown_for :
        (row j l : ℕ) (bs : List Bool) → Looked row vs w.domains v w.threads l → j ≤ l → l ≤ j → Marked w.domains w.parents w.homes vs qs v j bs →
        ShownFor l w.domains bs
    unfolding any_below
    shown_for row j l bs e few all g =
        record {
          room = g.room;
          nobody = λ z d h.
              let none : j ≡ 0 = omega arith in
              g.marked d h ∙ ap (λ k. any_below k (shows_in w.domains w.parents w.homes vs qs v d)) none;
          beyond = λ d n h.
              g.marked d h
              ∙ any_nowhere j (shows_in w.domains w.parents w.homes vs qs v d) (λ k r. shows_none d k (looked_real e (omega (arith, r))) (λ p. absurd (omega arith)));
        }

    pub marked_next :
        (j : ℕ) (bs bs' : List Bool) → j < w.threads → Marked w.domains w.parents w.homes vs qs v j bs →
        bs' ≡ marked_in w.domains w.parents (get_or w.homes j 0) vs (numbers_at qs j) v bs → Marked w.domains w.parents w.homes vs qs v (j + 1) bs'
    unfolding any_below
    marked_next j bs bs' r g e =
        let c = taken_in w.domains w.parents (get_or w.homes j 0) 0 in
        let small = taken_small j r in
        rw (e, add-one j) (by (is_watch_in (numbers_at qs j)) (eqb (get_or vs (256 + c) 0) v) refl refl)
      where
        c : ℕ
        c = taken_in w.domains w.parents (get_or w.homes j 0) 0

        y : PlaceWords
        y = numbers_at qs j

        f : (d k : ℕ) → Bool
        f d k = shows_in w.domains w.parents w.homes vs qs v d k

        right : (a b : Bool) → a || (b && false) ≡ a
        right true b = refl
        right false true = refl
        right false false = refl

        always : (a : Bool) → a || true ≡ true
        always true = refl
        always false = refl

        by :
            (a b : Bool) → is_watch_in y ≡ a → eqb (get_or vs (256 + c) 0) v ≡ b →
            Marked w.domains w.parents w.homes vs qs v (suc j) (cond (a && b) (set bs c true) bs)
        by true true p q =
            record {
              room = length-set bs c true ∙ g.room;
              marked = λ d h.
                  elim (ℕ_discrete d c) [
                    | yes z ↦ rw (z, p, q, eq-eqb c c refl) (get_or-set_same bs c true false (omega (arith, taken_small j r, g.room)) ∙ sym (always (any_below j (f c))))
                    | no z ↦ rw (p, ne_eqb c d (λ x. z (sym x))) (get_or-set_other bs c d true false z ∙ g.marked d h ∙ sym (right (any_below j (f d)) true))
                  ];
            }
        by true false p q =
            record {
              room = g.room;
              marked = λ d h.
                  elim (ℕ_discrete d c) [
                    | yes z ↦ rw (p, z, q) (rw z at (g.marked d h) ∙ sym (right (any_below j (f c)) (eqb c c)))
                    | no z ↦ rw (p, ne_eqb c d (λ x. z (sym x))) (g.marked d h ∙ sym (right (any_below j (f d)) true))
                  ];
            }
        by false b p q = record { room = g.room; marked = λ d h. rw p (g.marked d h ∙ sym (right (any_below j (f d)) true)) }

module _ (w : TreeWords) (ok : (tree_refusal (tree_of w)).number ≡ 0) (i : ℕ) (b : i < (tree_of w).threads) where
  pub home_is : get_or w.homes i 0 ≡ (tree_of w).home i
  unfolding tree_of
  home_is = sym (home_in w.domains w.threads w.parents w.thresholds w.homes i b)

  -- if the step is a raise, the marks are those of all threads
  module _ (s : State) (f : Formed (tree_of w) s) (l j : ℕ) (shown : List Bool) where
    pub raise_marked :
        {v : ℕ} → Looked (numbers_at s.places i).row s.statuses w.domains v w.threads l → j ≤ l → l ≤ j → place s i ≡ Raise →
        Marked w.domains w.parents w.homes s.statuses s.places v j shown → Marked w.domains w.parents w.homes s.statuses s.places v w.threads shown
    raise_marked {v} e a n z g =
        let q = numbers_at s.places i in
        let good : good_place (tree_of w) i (place s i) ≡ true = ((well_formed_facts (tree_of w) s f).places i).used b in
        looked_cases _ e (raise_row_is q (not_invalid (tree_of w) i (place s i) good) z)
        (λ y. let x : j ≡ w.threads = omega arith in rw x at g)
        (λ y none. let x : j ≡ 0 = omega arith in marked_all w ok s.statuses s.places v shown none (rw x at g))
