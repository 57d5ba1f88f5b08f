-- What one step counts from its words is what the model counts for it, by its place before.
use mathlib.Core.Path.{◌≡◌, refl, sym, ap, ◌∙◌}
use mathlib.Core.Bool.{Bool, true, false, ◌&&◌, ◌||◌, not, cond, false≢true}
use mathlib.Core.List.{List, [], ◌∷◌}
use mathlib.Core.Logic.{◌≢◌}
use Prim.Native.Nat.{ℕ, zero, suc, ◌+◌, ◌-◌, ◌<◌, max}
use native.Mathlib.Omega.{arith}
use native.Mathlib.Decide.{ℕ_discrete}
use lib.Dec.{eqb, ltb}
use lib.ListN.{get_or}
use borrow.Author.Tests.{eqb-false, eq-eqb, ne_eqb, ltb-true, ltb-false, not-true}
use Rattle.model.specs.declared.TreeWords.{TreeWords}
use Rattle.model.specs.declared.PlaceWords.{PlaceWords}
use Rattle.model.specs.declared.Place.{Place}
use Rattle.model.specs.declared.Place.TheVariants.{Idle, Prep, Swap, Link, Wait, Inside, Check, Help, Cas, Linger, Grant, Draw, Watch, Raise, Invalid}
use Rattle.model.specs.declared.State.{State}
use Rattle.model.specs.declared.PlaceArrays.{PlaceArrays}
use Rattle.model.specs.Scans.{any_below}
use Rattle.model.specs.Trees.{Tree, tree_of, is_ticket, on_path, child, own_record, is_record, is_member}
use Rattle.model.specs.Places.{words_of, place_of}
use Rattle.model.specs.States.{none, tail, status, place, wrap, numbers_at, store_numbers, HasRoom}
use Rattle.model.specs.Steps.{kind_number, RowResult, acquired_place, is_watched, shown_members, row, step}
use Rattle.model.specs.WellFormed.{queue_on_path, good_place}
use Rattle.model.specs.Refusals.{tree_refusal}
use Rattle.model.specs.Tenures.{checks_at, domain_tenures, longest_tenure}
use Rattle.model.specs.Counters.{each_with_index, counters_after}
use Rattle.model.specs.Laws.{Formed}
use Rattle.model.proofs.Tests.{and_both, by_test, any_same}
use Rattle.model.proofs.Places.{words_of_place, watch_numbers, numbers_stored}
use Rattle.model.proofs.Branches.{Branch, swap_root, swap_inner, swap_joins, draw_shown, draw_unshown, branch}
use Rattle.model.proofs.Trees.Accepted.{Accepted, accepted}
use Rattle.model.proofs.Trees.Paths.{on_path_root}
use Rattle.model.proofs.Trees.Records.{member_record, child_inner}
use Rattle.model.proofs.Trees.Tickets.{queue_facts}
use Rattle.model.proofs.Laws.Facts.{well_formed_facts}
use Rattle.model.proofs.Laws.Form.{not_invalid}
use Rattle.model.proofs.Laws.Given.{given_from, given_at, gives}
use Rattle.model.proofs.Trees.Reading.{home_read}
use Rattle.refusals.specs.Arrays.{parents_in}
use Rattle.model.specs.declared.Counters.{Counters}
use Rattle.rows.specs.declared.common.rows.Moved.{Moved}
use Rattle.rows.specs.Kinds.{number_of_kind}
use Rattle.rows.specs.Common.Rows.{Done}
use Rattle.rows.specs.Common.Counting.{parent_in, taken_in, record_domain_in, raised_at, is_watch_in, Entered}
use Rattle.rows.specs.Step.Counting.{started_in, CountedStep}
use Rattle.lock.specs.Steps.Counting.{Marked}
use Rattle.lock.proofs.steps.Taken.{taken_child}
use Rattle.lock.proofs.steps.StepEntries.{entries_counted}
use Rattle.lock.proofs.steps.StepTenures.{StartOf, nobody, of_thread, of_domain, start_added, start_raised, check_added, check_raised, raise_added, raise_raised}

-- the place after a Swap: Link exactly if the tail was not none
swap_after :
    (t : Tree) (i l : ℕ) (s : State) → HasRoom s.places i → {x : RowResult} → Branch t i s (Swap l) x →
    eqb (numbers_at x.state.places i).row 3 ≡ not (eqb (tail s l) none)
swap_after t i l s h = by
  where
    at : (p : Place) → eqb (numbers_at (store_numbers s.places i (words_of p)) i).row 3 ≡ eqb (words_of p).row 3
    at p = ap (λ (q : PlaceWords). eqb q.row 3) (numbers_stored s.places i (words_of p) h)

    acquired_row : eqb (words_of (acquired_place t l)).row 3 ≡ false
    acquired_row = by_test (λ p. eqb (words_of p).row 3 ≡ false) (is_ticket t (t.parent l)) Draw (Prep (t.parent l)) (λ e. refl) (λ e. refl)

    by : {x : RowResult} → Branch t i s (Swap l) x → eqb (numbers_at x.state.places i).row 3 ≡ not (eqb (tail s l) none)
    by (swap_root _ z e) = at Inside ∙ sym (ap not (eq-eqb (tail s l) none e))
    by (swap_inner _ z e) = at (acquired_place t l) ∙ acquired_row ∙ sym (ap not (eq-eqb (tail s l) none e))
    by (swap_joins _ e) = at (Link l (tail s l - 1)) ∙ sym (ap not (ne_eqb (tail s l) none e))

draw_kind : (t : Tree) (i : ℕ) (s : State) {x : RowResult} → Branch t i s Draw x → eqb (kind_number x.kind) 1 ≡ not (eqb s.ticket s.grant)
draw_kind t i s (draw_shown e) = sym (ap not (eq-eqb s.ticket s.grant e))
draw_kind t i s (draw_unshown e) = sym (ap not (ne_eqb s.ticket s.grant e))

-- the record that a thread works with, or none, depending on a test
module _ (t : Tree) (valid : Accepted t) (m : ℕ) (ps : List ℕ) (same : (e : ℕ) → (parents_in m ps).parent e ≡ t.parent e) where
  own_started : (b : Bool) (i l h : ℕ) → i < t.threads → on_path t i l ≡ true → h ≡ t.home i → StartOf (cond b (own_record t i l ∷ []) []) (cond (not b) 0 (taken_in m ps h l))
  unfolding own_record
  own_started false i l h r o e = nobody refl refl
  own_started true i l h r o e = rw (taken_child t m ps same i l h e) (by (eqb l (t.home i)) refl)
    where
      by : (x : Bool) → eqb l (t.home i) ≡ x → StartOf (cond x i (256 + child t i l) ∷ []) (cond x 0 (child t i l))
      by true z = of_thread i (omega (arith, valid.few_threads)) refl refl
      by false z = of_domain (child_inner t valid i r l o (eqb-false l (t.home i) z)) refl

  -- a record that is granted
  granted_started : (l r : ℕ) → is_member t l r ≡ true → StartOf (r ∷ []) (record_domain_in r)
  unfolding is_record
  granted_started l r e = by (ltb r 256) refl (member_record t valid l r e)
    where
      by : (x : Bool) → ltb r 256 ≡ x → cond x (ltb r t.threads) (ltb (r - 256) t.domains && not (eqb (r - 256) 0)) ≡ true → StartOf (r ∷ []) (cond x 0 (r - 256))
      by true z y = of_thread r (ltb-true r 256 z) refl refl
      by false z y =
          let big = ltb-false r 256 z in
          let n = eqb-false (r - 256) 0 (not-true (eqb (r - 256) 0) (and_both (ltb (r - 256) t.domains) (not (eqb (r - 256) 0)) y).1) in
          of_domain n (ap (λ v. v ∷ []) (omega arith))

  -- whether a thread watches with a domain's record
  record_same : (j h d : ℕ) → j < t.threads → h ≡ t.home j → d ≢ 0 → eqb (taken_in m ps h 0) d ≡ eqb (own_record t j 0) (256 + d)
  unfolding own_record
  record_same j h d r e n = rw (taken_child t m ps same j 0 h e) (by (eqb 0 (t.home j)))
    where
      by : (x : Bool) → eqb (cond x 0 (child t j 0)) d ≡ eqb (cond x j (256 + child t j 0)) (256 + d)
      by true = ne_eqb 0 d (λ z. n (sym z)) ∙ sym (ne_eqb j (256 + d) (λ z. absurd (omega (arith, valid.few_threads))))
      by false = elim (ℕ_discrete (child t j 0) d) [ yes z ↦ rw (eq-eqb (child t j 0) d z, eq-eqb (256 + child t j 0) (256 + d) (omega arith)) | no z ↦ rw (ne_eqb (child t j 0) d z, ne_eqb (256 + child t j 0) (256 + d) (λ y. z (omega arith))) ]

-- a test that does not depend on the number comes before the scan
any_apart : (n : ℕ) (a b : ℕ → Bool) (c : Bool) → any_below n (λ j. a j && (b j && c)) ≡ c && any_below n (λ j. a j && b j)
unfolding any_below
any_apart zero a b true = refl
any_apart zero a b false = refl
any_apart (suc n) a b c = rw (any_apart n a b c) (by c (any_below n (λ j. a j && b j)) (a n) (b n))
  where
    by : (c r x y : Bool) → (c && r) || (x && (y && c)) ≡ c && (r || (x && y))
    by true true x y = refl
    by true false true true = refl
    by true false true false = refl
    by true false false y = refl
    by false r true true = refl
    by false r true false = refl
    by false r false y = refl

-- ONE STEP on the tree of a call
module _ (w : TreeWords) (ok : (tree_refusal (tree_of w)).number ≡ 0) (i : ℕ) (b : i < (tree_of w).threads) (s : State) (f : Formed (tree_of w) s) (said : Moved) (left : State) (same : left.places ≡ s.places) (D : Done (row (tree_of w) i (place s i) s) i said left) where
  abbrev t : Tree
  t = tree_of w

  valid : Accepted t
  valid = accepted t ok

  abbrev q : PlaceWords
  q = numbers_at s.places i

  good : good_place t i (place s i) ≡ true
  good = ((well_formed_facts t s f).places i).used b

  words : q ≡ words_of (place s i)
  words = sym (words_of_place q (not_invalid t i (place s i) good))

  room : HasRoom s.places i
  room = (f.typed.places_room, omega (arith, valid.few_threads))

  -- the place after the step
  after : numbers_at (step t i s).state.places i ≡ said.place
  unfolding step
  after = ap (λ (n : State). numbers_at n.places i) (sym D.state_left) ∙ ap (λ (ps : PlaceArrays). numbers_at (store_numbers ps i said.place) i) same ∙ numbers_stored s.places i said.place room

  module _ (h : ℕ) (home : h ≡ t.home i) (shown : List Bool) (c₁ c₂ : Counters) (C : CountedStep w.domains w.parents h q said.place (number_of_kind said.kind) shown c₁ c₂) where
    abbrev ts : List ℕ
    ts = c₁.tenures

    abbrev ls : List ℕ
    ls = c₁.longest

    abbrev Both : Type 0
    Both = (c₂.tenures ≡ each_with_index (λ d v. v + domain_tenures t d (step t i s ∷ [])) 0 ts) × (c₂.longest ≡ each_with_index (λ d v. max v (longest_tenure t d (step t i s ∷ []))) 0 ls)

    abbrev started : ℕ
    started = started_in w.domains w.parents h q said.place.row (number_of_kind said.kind)

    finish : q.row ≢ 13 → q.row ≢ 6 → StartOf (given_from t i (place s i) s) started → ((d : ℕ) → checks_at d (place s i) ≡ false) → Both
    finish n o g u =
        let both = C.other n o in
        (both.0 ∙ start_added t i s started g u ts, both.1 ∙ start_raised t i s started g u ls)

    -- a place from which no tenure starts
    quiet : (p : Place) → place s i ≡ p → given_from t i p s ≡ [] → started_in w.domains w.parents h (words_of p) said.place.row (number_of_kind said.kind) ≡ 0 → (words_of p).row ≢ 13 → (words_of p).row ≢ 6 → ((d : ℕ) → checks_at d p ≡ false) → Both
    quiet p z g c n o u =
        let row : q.row ≡ (words_of p).row = ap (λ (x : PlaceWords). x.row) (words ∙ ap words_of z) in
        finish (λ y. n (sym row ∙ y)) (λ y. o (sym row ∙ y))
        (nobody (ap (λ (x : Place). given_from t i x s) z ∙ g) (ap (λ (x : PlaceWords). started_in w.domains w.parents h x said.place.row (number_of_kind said.kind)) (words ∙ ap words_of z) ∙ c))
        (λ d. ap (checks_at d) z ∙ u d)

    -- the rows of the places from which a tenure may start
    row_is : (p : Place) → place s i ≡ p → q ≡ words_of p
    row_is p z = words ∙ ap words_of z

    same_parents : (x : ℕ) → (parents_in w.domains w.parents).parent x ≡ t.parent x
    unfolding tree_of
    same_parents x = refl

    from_swap : (l : ℕ) → place s i ≡ Swap l → good_place t i (Swap l) ≡ true → Both
    unfolding started_in checks_at good_place step given_at
    from_swap l z g =
        let y = row_is (Swap l) z in
        let a : eqb said.place.row 3 ≡ not (eqb (tail s l) none) =
        ap (λ (x : PlaceWords). eqb x.row 3) (sym after) ∙ ap (λ (p : Place). eqb (numbers_at (row t i p s).state.places i).row 3) z ∙ swap_after t i l s room (branch t i s (Swap l)) in
        let c : started ≡ cond (not (eqb (tail s l) none)) 0 (taken_in w.domains w.parents h l) = rw (y, a) in
        finish (λ x. absurd (omega (arith, ap (λ (v : PlaceWords). v.row) y))) (λ x. absurd (omega (arith, ap (λ (v : PlaceWords). v.row) y)))
        (rw (c, z, gives t i (Swap l) s) (own_started t valid w.domains w.parents same_parents (eqb (tail s l) none) i l h b (queue_facts t i l g).0 home))
        (λ d. rw z)

    from_draw : place s i ≡ Draw → Both
    unfolding started_in checks_at given_at
    from_draw z =
        let y = row_is Draw z in
        let a : eqb (number_of_kind said.kind) 1 ≡ not (eqb s.ticket s.grant) = ap (λ v. eqb v 1) D.kind_is ∙ ap (λ (p : Place). eqb (kind_number (row t i p s).kind) 1) z ∙ draw_kind t i s (branch t i s Draw) in
        let c : started ≡ cond (not (eqb s.ticket s.grant)) 0 (taken_in w.domains w.parents h 0) = rw (y, a) in
        finish (λ x. absurd (omega (arith, ap (λ (v : PlaceWords). v.row) y))) (λ x. absurd (omega (arith, ap (λ (v : PlaceWords). v.row) y)))
        (rw (c, z, gives t i Draw s) (own_started t valid w.domains w.parents same_parents (eqb s.ticket s.grant) i 0 h b (on_path_root t valid i b) home))
        (λ d. rw z)

    from_grant : (l r v : ℕ) → place s i ≡ Grant l r v → good_place t i (Grant l r v) ≡ true → Both
    unfolding started_in checks_at good_place given_at
    from_grant l r v z g =
        let y = row_is (Grant l r v) z in
        let c : started ≡ record_domain_in r = rw y in
        finish (λ x. absurd (omega (arith, ap (λ (v : PlaceWords). v.row) y))) (λ x. absurd (omega (arith, ap (λ (v : PlaceWords). v.row) y)))
        (rw (c, z, gives t i (Grant l r v) s) (granted_started t valid w.domains w.parents same_parents l r (and_both (queue_on_path t i l) (is_member t l r) g).1))
        (λ d. rw z)

    from_check : (l : ℕ) → place s i ≡ Check l → good_place t i (Check l) ≡ true → Both
    unfolding good_place given_at
    from_check l z g =
        let y = row_is (Check l) z in
        let n = eqb-false l 0 (not-true (eqb l 0) (and_both (on_path t i l) (not (eqb l 0)) g).1) in
        let both = C.check (ap (λ (v : PlaceWords). v.row) y) in
        let nothing : given_from t i (place s i) s ≡ [] = ap (λ (p : Place). given_from t i p s) z ∙ gives t i (Check l) s in
        let there : place (step t i s).state i ≡ place_of said.place = ap place_of after in
        (both.0 ∙ check_added t i l s z n nothing said.place there ts, both.1 ∙ ap (λ d. raised_at ls (cond (eqb said.place.row 10) d 0) said.place.word) (ap (λ (v : PlaceWords). v.domain) y) ∙ check_raised t i l s z n nothing said.place there ls)

    from_raise : place s i ≡ Raise → ((d : ℕ) → d < 64 → d ≢ 0 → get_or shown d false ≡ eqb (status s (256 + d)) (wrap (s.grant + 1)) && is_watched t s (256 + d)) → Both
    unfolding given_at
    from_raise z m =
        let y = row_is Raise z in
        let g = C.raise (ap (λ (v : PlaceWords). v.row) y) in
        let given : given_from t i (place s i) s ≡ shown_members t s (wrap (s.grant + 1)) = ap (λ (p : Place). given_from t i p s) z ∙ gives t i Raise s in
        (raise_added t i s z shown given m c₁ c₂ g, raise_raised t i s z shown given m c₁ c₂ g)

    by_place : (p : Place) → place s i ≡ p → good_place t i p ≡ true → (place s i ≡ Raise → (d : ℕ) → d < 64 → d ≢ 0 → get_or shown d false ≡ eqb (status s (256 + d)) (wrap (s.grant + 1)) && is_watched t s (256 + d)) → Both
    unfolding started_in checks_at good_place given_at
    by_place Idle z g m = quiet Idle z (gives t i Idle s) refl (λ x. absurd (omega arith)) (λ x. absurd (omega arith)) (λ d. refl)
    by_place (Prep l) z g m = quiet (Prep l) z (gives t i (Prep l) s) refl (λ x. absurd (omega arith)) (λ x. absurd (omega arith)) (λ d. refl)
    by_place (Link l p) z g m = quiet (Link l p) z (gives t i (Link l p) s) refl (λ x. absurd (omega arith)) (λ x. absurd (omega arith)) (λ d. refl)
    by_place (Wait l) z g m = quiet (Wait l) z (gives t i (Wait l) s) refl (λ x. absurd (omega arith)) (λ x. absurd (omega arith)) (λ d. refl)
    by_place Inside z g m = quiet Inside z (gives t i Inside s) refl (λ x. absurd (omega arith)) (λ x. absurd (omega arith)) (λ d. refl)
    by_place (Help l) z g m = quiet (Help l) z (gives t i (Help l) s) refl (λ x. absurd (omega arith)) (λ x. absurd (omega arith)) (λ d. refl)
    by_place (Cas l) z g m = quiet (Cas l) z (gives t i (Cas l) s) refl (λ x. absurd (omega arith)) (λ x. absurd (omega arith)) (λ d. refl)
    by_place (Linger l) z g m = quiet (Linger l) z (gives t i (Linger l) s) refl (λ x. absurd (omega arith)) (λ x. absurd (omega arith)) (λ d. refl)
    by_place Watch z g m = quiet Watch z (gives t i Watch s) refl (λ x. absurd (omega arith)) (λ x. absurd (omega arith)) (λ d. refl)
    by_place (Swap l) z g m = from_swap l z g
    by_place (Check l) z g m = from_check l z g
    by_place (Grant l r v) z g m = from_grant l r v z g
    by_place Draw z g m = from_draw z
    by_place Raise z g m = from_raise z (m z)
    by_place Invalid z g m = absurd (false≢true g)

    -- the marks, if all threads have been looked at
    marks :
        Marked w.domains w.parents w.homes s.statuses s.places (wrap (s.grant + 1)) w.threads shown →
        (d : ℕ) → d < 64 → d ≢ 0 → get_or shown d false ≡ eqb (status s (256 + d)) (wrap (s.grant + 1)) && is_watched t s (256 + d)
    unfolding is_watched tree_of
    marks k d l n =
        let v = wrap (s.grant + 1) in
        k.marked d l
        ∙ any_apart w.threads (λ j. is_watch_in (numbers_at s.places j)) (λ j. eqb (taken_in w.domains w.parents (get_or w.homes j 0) 0) d) (eqb (status s (256 + d)) v)
        ∙ ap (λ x. eqb (status s (256 + d)) v && x)
        (any_same w.threads _ _ (λ j r. rw (watch_numbers (numbers_at s.places j), record_same t valid w.domains w.parents same_parents j (get_or w.homes j 0) d r (sym (home_read w j r)) n)))

    pub tenures_counted : (place s i ≡ Raise → Marked w.domains w.parents w.homes s.statuses s.places (wrap (s.grant + 1)) w.threads shown) → Both
    tenures_counted k = by_place (place s i) refl good (λ z. marks (k z))

    pub step_counted :
        Entered (parent_in w.domains w.parents) (number_of_kind said.kind) h c₁.entries c₂.entries →
        (place s i ≡ Raise → Marked w.domains w.parents w.homes s.statuses s.places (wrap (s.grant + 1)) w.threads shown) →
        c₂ ≡ counters_after t c₁ (step t i s ∷ [])
    unfolding counters_after tree_of step
    step_counted g k =
        let both = tenures_counted k in
        let g' : Entered t.parent (number_of_kind said.kind) (t.home i) c₁.entries c₂.entries = rw home at g in
        let each : record { entries = c₂.entries; tenures = c₂.tenures; longest = c₂.longest } ≡ counters_after t c₁ (step t i s ∷ []) =
        rw (both.0, both.1, entries_counted t valid i b s (number_of_kind said.kind) c₁.entries c₂.entries D.kind_is g') in
        each
