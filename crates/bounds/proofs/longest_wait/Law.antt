-- The wait-bound law: along an attempt, the entries still possible in line decrease with every entry in line, and at its beginning they are W.
use mathlib.Core.Path.{◌≡◌, refl, sym, ap, ◌∙◌}
use mathlib.Core.Bool.{Bool, true, false, ◌&&◌, not, cond, false≢true}
use mathlib.Core.List.{List, [], ◌∷◌, ◌++◌, nil≢cons, head-eq_of_cons-eq, tail-eq_of_cons-eq}
use mathlib.Core.Logic.{◌≢◌, inl, inr}
use Prim.Native.Nat.{ℕ, ◌+◌, ◌≤◌, ◌<◌}
use native.Mathlib.Omega.{arith}
use lib.Dec.{eqb}
use borrow.Author.Tests.{eqb-true, eqb-false, eq-eqb, not-true}
use Rattle.model.specs.declared.Place.{Place}
use Rattle.model.specs.declared.Place.TheVariants.{Idle, Prep, Swap, Link, Wait, Inside, Check, Help, Cas, Linger, Grant, Draw, Watch, Raise, Invalid}
use Rattle.model.specs.declared.State.{State as WordState}
use Rattle.model.specs.Trees.{Tree, is_ticket}
use Rattle.model.specs.Places.{words_of}
use Rattle.model.specs.States.{place, fresh_state}
use Rattle.model.specs.Steps.{is_entry, Step, step}
use Rattle.model.specs.Runs.{steps, state_after, entering, occurrences}
use Rattle.model.specs.Refusals.{tree_refusal}
use Rattle.model.specs.Laws.{AllThreads, SixteenBit, KindLaw}
use Rattle.model.proofs.Tests.{and_both}
use Rattle.model.proofs.Lists.{same_or}
use Rattle.model.proofs.Counted.{occurrences_join}
use Rattle.model.proofs.Laws.Facts.{facts_well_formed}
use Rattle.model.proofs.Laws.Kinds.{kind_law}
use Rattle.model.proofs.Trees.Index.{ancestor, height}
use Rattle.model.proofs.Trees.Accepted.{Accepted, accepted}
use Rattle.model.proofs.Trees.Tickets.{ticket_facts}
use Rattle.model.proofs.Trees.Paths.{ancestor_home, ancestor_zero, ancestor_injective}
use Rattle.model.proofs.Trees.Records.{record_own}
use Rattle.claims.proofs.Queues.Moves.{climb, queued, inside}
use Rattle.claims.proofs.Queues.Invariant.{inv_empty}
use Rattle.claims.proofs.Claims.Reached.{from_fresh}
use Rattle.chain.specs.Chain.{chain}
use Rattle.waits.specs.Attempts.{swaps_at, draws, begins_from, begins as begins_attempt}
use Rattle.bounds.proofs.starvation_freedom.Situations as situations
use Rattle.bounds.proofs.starvation_freedom.Situations.{Situation, queues, next_words, place_other}
use Rattle.bounds.proofs.starvation_freedom.Queues.{tag}
use Rattle.bounds.proofs.starvation_freedom.Says.{Says, says, Staged, staged}
use Rattle.bounds.proofs.starvation_freedom.Turns.{FromIdle, to_swap, drawn_inside, drawn_watch, idle_turn}
use Rattle.bounds.specs.LongestWait.Bounds.{effective, wait_bound}
use Rattle.bounds.specs.LongestWait.InLine.{ends_at, others_entry, in_line, bypass, prompt, late_entry, count_steps}
use Rattle.bounds.specs.LongestWait.Laws.{BoundedWait, WaitBoundLaw}
use Rattle.bounds.proofs.starvation_freedom.Law.{counts_run}
use Rattle.bounds.proofs.starvation_freedom.Stages.{ones_empty}
use Rattle.bounds.proofs.longest_wait.Ends.{chain_ends}
use Rattle.bounds.proofs.longest_wait.Owes as owes
use Rattle.bounds.proofs.longest_wait.Owes.{Sound, sound_next, W, Owes}
use Rattle.bounds.proofs.longest_wait.Falls.{Owed}
use Rattle.bounds.proofs.longest_wait.Steps.{Counts, none, one, owes_step}
use Rattle.bounds.proofs.longest_wait.Prompt.{later_none, either_way, prompt_ends}

-- if nothing is counted, the test fails
not_counted : (b : Bool) (m : ℕ) → cond b 1 0 + m ≡ 0 → (b ≡ false) × (m ≡ 0)
not_counted false m e = (refl, omega arith)
not_counted true m e = absurd (omega arith)

module _ (t : Tree) (ok : (tree_refusal t).number ≡ 0) (bits : SixteenBit t) where
  abbrev valid : Accepted t
  valid = accepted t ok

  -- the situation after a step has the words of the step
  stepped : (c : Situation t) (a : ℕ) (h : a < t.threads) → (situations.next t valid bits c a h).words ≡ (step t a c.words).state
  unfolding step
  stepped c a h = next_words t valid bits c a h

  -- ALONG A SCHEDULE: a situation that is sound
  record Along : Type 0 where
    now : Situation t
    sound : Sound t valid bits now

  abbrev go : Along → (a : ℕ) → a < t.threads → Along
  go s a h = record { now = situations.next t valid bits s.now a h; sound = sound_next t valid bits s.now a h s.sound }

  begin : (start : ℕ) → Along
  unfolding steps state_after AllThreads
  begin start =
      let l = from_fresh t valid bits start [] tt in
      let s = counts_run t valid bits l.follows (inv_empty t) (inv_empty (effective t)) (ones_empty t) in
      record {
        now = record { words = fresh_state t start; queued = l.there; effectively = s.0; ones = s.1 };
        sound = record { within = s.0; ones = s.1 };
      }

  begin_words : (start : ℕ) → (begin start).now.words ≡ fresh_state t start
  unfolding begin
  begin_words start = refl

  -- the situation before a step of the schedule
  record At (x : Step) (ms : List Step) : Type 0 where
    here : Along
    thread : ℕ
    real : thread < t.threads
    schedule : List ℕ
    threads : AllThreads t schedule
    step_is : step t thread here.now.words ≡ x
    more_is : steps t schedule x.state ≡ ms

  reach : (before : List Step) (is : List ℕ) (s : Along) (x : Step) (ms : List Step) → AllThreads t is → steps t is s.now.words ≡ before ++ (x ∷ ms) → At x ms
  unfolding steps AllThreads
  reach [] [] s x ms l e = absurd (nil≢cons e)
  reach [] (a ∷ is) s x ms l e =
      let same = head-eq_of_cons-eq e in
      record { here = s; thread = a; real = l.0; schedule = is; threads = l.1; step_is = same; more_is = ap (λ y. steps t is y.state) (sym same) ∙ tail-eq_of_cons-eq e }
  reach (y ∷ ys) [] s x ms l e = absurd (nil≢cons e)
  reach (y ∷ ys) (a ∷ is) s x ms l e =
      reach ys is (go s a l.0) x ms l.1 (ap (steps t is) (stepped s.now a l.0) ∙ tail-eq_of_cons-eq e)

  module _ (i : ℕ) (hi : i < t.threads) where
    -- a thread whose stage is inside is Inside
    inside_place : (c : Situation t) → (queues c).stage i ≡ inside → place c.words i ≡ Inside
    unfolding Staged
    inside_place c z = staged t valid c i hi inside z

    -- a thread with such a bound is neither Idle nor Inside
    owes_way : (c : Situation t) (n : ℕ) → Owes t valid bits c i n → (1 ≤ tag ((queues c).stage i)) × (tag ((queues c).stage i) ≤ 3)
    unfolding tag
    owes_way c n (owes.free _ _ e) = rw e (omega arith, omega arith)
    owes_way c n (owes.climbs _ j _ e b) = rw e (omega arith, omega arith)
    owes_way c n (owes.stands _ j _ e b) = rw e (omega arith, omega arith)
    owes_way c n (owes.held _ j r b k v _ xs H u) = rw H.line.stage (omega arith, omega arith)
    owes_way c n (owes.waits _ j r b k u _ xs L w o z) = rw L.stage (omega arith, omega arith)

    -- a step in which it does not enter does not lead it Inside
    not_inside : (c : Situation t) (a : ℕ) (h : a < t.threads) → place c.words i ≢ Inside → (a ≡ i → is_entry (step t i c.words).kind ≡ false) → place (situations.next t valid bits c a h).words i ≢ Inside
    unfolding KindLaw step
    not_inside c a h n e p =
        same_or a i _
        (λ z.
        let kinds = kind_law t i c.words ok hi (facts_well_formed t c.words c.queued.facts) in
        let there : place (step t i c.words).state i ≡ Inside = ap (λ u. place (step t u c.words).state i) (sym z) ∙ ap (λ s. place s i) (sym (stepped c a h)) ∙ p in
        false≢true (sym (e z) ∙ kinds.enters_exactly.1 (there, n)))
        (λ z. n (sym (place_other t valid bits c a h i (λ y. z (sym y))) ∙ p))

    way_not_inside : (c : Situation t) → tag ((queues c).stage i) ≤ 3 → place c.words i ≢ Inside
    unfolding Says tag
    way_not_inside c b e = let o = ap tag (says t valid c i hi Inside e) in omega arith

    way_not_idle : (c : Situation t) → 1 ≤ tag ((queues c).stage i) → place c.words i ≢ Idle
    unfolding Says tag
    way_not_idle c b e = let o = ap tag (says t valid c i hi Idle e) in omega arith

    -- ONE STEP of thread a
    module _ (s : Along) (a : ℕ) (h : a < t.threads) where
      abbrev c : Situation t
      c = s.now

      abbrev y : Step
      y = step t a c.words

      count_of : (b : Bool) → in_line t i c.words y ≡ b → Counts t valid bits c s.sound a h i (cond b 1 0)
      unfolding in_line others_entry step
      count_of false e = none
      count_of true e =
          let both = and_both (others_entry i y) (ends_at a (chain t c.words i)) e in
          let other = and_both (is_entry y.kind) (not (eqb a i)) both.0 in
          one other.0 (chain_ends t valid bits c i a hi both.1) (eqb-false a i (not-true (eqb a i) other.1))

      -- a step that is not late is no bypass
      no_bypass : place c.words i ≢ Idle → late_entry t i c.words y ≡ false → bypass t i c.words y ≡ false
      unfolding late_entry bypass
      no_bypass n e = by (others_entry i y) refl (prompt t c.words y) refl
        where
          by : (b : Bool) → others_entry i y ≡ b → (p : Bool) → prompt t c.words y ≡ p → others_entry i y && not (ends_at y.thread (chain t c.words i)) ≡ false
          by false z p w = rw z refl
          by true z true w = rw (z, prompt_ends t ok bits c i y hi n w) refl
          by true z false w = let e' : true && not false ≡ false = rw (z, w) at e in absurd (false≢true (sym e'))

      own_entry : (ys : List Step) → occurrences i (entering (y ∷ ys)) ≡ 0 → a ≡ i → is_entry (step t i c.words).kind ≡ false
      unfolding entering occurrences step
      own_entry ys o z = by (is_entry y.kind) refl
        where
          by : (b : Bool) → is_entry y.kind ≡ b → is_entry (step t i c.words).kind ≡ false
          by false w = ap (λ u. is_entry (step t u c.words).kind) (sym z) ∙ w
          by true w =
              let j = occurrences_join i (cond (is_entry y.kind) (a ∷ []) []) (entering ys) in
              let q : occurrences i (cond (is_entry y.kind) (a ∷ []) []) ≡ 1 = rw w (rw (eq-eqb i a (sym z)) refl) in
              absurd (omega arith)

    -- ALONG THE STEPS of an attempt
    record Seen (s : Along) (ys : List Step) (n : ℕ) : Type 0 where
      seen : count_steps (in_line t i) s.now.words ys ≤ n
      prompted : count_steps (late_entry t i) s.now.words ys ≡ 0 → count_steps (bypass t i) s.now.words ys ≡ 0

    along : (ys : List Step) (is : List ℕ) (s : Along) (n : ℕ) (later : List Step) → AllThreads t is → steps t is s.now.words ≡ ys ++ later → occurrences i (entering ys) ≡ 0 →
        Owes t valid bits s.now i n → Seen s ys n
    unfolding steps AllThreads count_steps
    along [] is s n later l e o w = record { seen = omega arith; prompted = λ z. refl }
    along (x ∷ ys) [] s n later l e o w = absurd (nil≢cons e)
    along (x ∷ ys) (a ∷ is) s n later l e o w =
        let h = l.0 in
        let c = s.now in
        let z = step t a c.words in
        let same : x ≡ z = sym (head-eq_of_cons-eq e) in
        let o' : occurrences i (entering (z ∷ ys)) ≡ 0 = rw same at o in
        let way = owes_way c n w in
        let there = not_inside c a h (way_not_inside c way.1) (own_entry s a h ys o') in
        let f : ℕ = cond (in_line t i c.words z) 1 0 in
        let next_owes = owes_step t valid bits c s.sound a h i n f hi w (count_of s a h (in_line t i c.words z) refl) (λ q. there (inside_place (situations.next t valid bits c a h) q)) in
        let words = stepped c a h in
        let rec = along ys is (go s a h) next_owes.left later l.1 (ap (steps t is) words ∙ tail-eq_of_cons-eq e) (later_none i z ys o') next_owes.owes in
        let moved_count : (p : WordState → Step → Bool) → count_steps p (situations.next t valid bits c a h).words ys ≡ count_steps p z.state ys = λ p. ap (λ u. count_steps p u ys) words in
        let seen' = rec.seen in
        let same_seen = moved_count (in_line t i) in
        let prompted' : count_steps (late_entry t i) z.state ys ≡ 0 → count_steps (bypass t i) z.state ys ≡ 0 = λ q. sym (moved_count (bypass t i)) ∙ rec.prompted (moved_count (late_entry t i) ∙ q) in
        let less = next_owes.less in
        rw same (record {
          seen = omega arith;
          prompted = λ q.
              (let none_late = not_counted (late_entry t i c.words z) (count_steps (late_entry t i) z.state ys) q in
              let quiet = no_bypass s a h (way_not_idle c way.0) none_late.0 in
              let rest = prompted' none_late.1 in
              rw quiet (omega arith));
        })

    -- THE BEGINNING
    module _ (s : Along) (h : i < t.threads) (quiet : is_entry (step t i s.now.words).kind ≡ false) where
      abbrev from : Situation t
      from = s.now

      abbrev to : Situation t
      to = situations.next t valid bits from i h

      -- from a thread about to join at home
      climbed : (queues from).stage i ≡ climb 0 → Owed t valid bits to i (W t valid bits i 0) 0
      unfolding tag
      climbed e =
          let there = not_inside from i h (way_not_inside from (rw e (omega arith))) (λ _. quiet) in
          owes_step t valid bits from s.sound i h i (W t valid bits i 0) 0 hi (owes.climbs i 0 (W t valid bits i 0) e (omega arith)) none (λ q. there (inside_place to q))

      -- from a draw in Idle
      drawn : place from.words i ≡ Idle → 0 ≡ height t i → FromIdle t i (place to.words i) → Owed t valid bits to i (W t valid bits i 0) 0
      unfolding Says
      drawn e top (to_swap z) =
          let y = says t valid to i hi _ z in
          let k : 0 ≡ y.0 = ancestor_injective t valid i hi 0 y.0 (omega arith) y.1.1 y.1.0 in
          record { left = W t valid bits i 0; owes = owes.climbs i 0 (W t valid bits i 0) (y.2 ∙ ap climb (sym k)) (omega arith); less = omega arith }
      drawn e top (drawn_inside z) = absurd (not_inside from i h (λ q. let o = ap (λ u. (words_of u).row) (sym e ∙ q) in omega arith) (λ _. quiet) z)
      drawn e top (drawn_watch z w) =
          elim (says t valid to i hi Watch z).0 [
            | inl y ↦ record { left = W t valid bits i 0; owes = owes.stands i 0 (W t valid bits i 0) (y ∙ ap queued (sym top)) (omega arith); less = omega arith }
            | inr y ↦ record { left = 0; owes = owes.free i 0 y; less = omega arith }
          ]

      -- the places from which an attempt begins
      at_home : is_ticket t (t.home i) ≡ true → 0 ≡ height t i
      at_home z = ancestor_zero t valid i hi 0 (omega arith) (ancestor_home t i ∙ (ticket_facts t (t.home i) z).1)

      never : {C : Type 0} (k : Bool) → cond k false false ≡ true → C
      never true b = absurd (false≢true b)
      never false b = absurd (false≢true b)

      by_place :
          (p : Place) → place from.words i ≡ p → (k : Bool) → is_ticket t (t.home i) ≡ k → cond k (draws p) (swaps_at (t.home i) p) ≡ true → Owed t valid bits to i (W t valid bits i 0) 0
      unfolding swaps_at draws Says
      by_place Idle e true z b = drawn e (at_home z) (idle_turn t valid bits from i h e)
      by_place Idle e false z b = absurd (false≢true b)
      by_place (Swap l) e true z b = absurd (false≢true b)
      by_place (Swap l) e false z b =
          let y = says t valid from i hi (Swap l) e in
          let home : ancestor t i 0 ≡ ancestor t i y.0 = ancestor_home t i ∙ sym (eqb-true l (t.home i) b) ∙ y.1.0 in
          climbed (y.2 ∙ ap climb (sym (ancestor_injective t valid i hi 0 y.0 (omega arith) y.1.1 home)))
      by_place Draw e true z b = climbed ((says t valid from i hi Draw e).0 ∙ ap climb (sym (at_home z)))
      by_place Draw e false z b = absurd (false≢true b)
      by_place (Prep l) e k z b = never k b
      by_place (Link l p) e k z b = never k b
      by_place (Wait l) e k z b = never k b
      by_place Inside e k z b = never k b
      by_place (Check l) e k z b = never k b
      by_place (Help l) e k z b = never k b
      by_place (Cas l) e k z b = never k b
      by_place (Linger l) e k z b = never k b
      by_place (Grant l r w) e k z b = never k b
      by_place Watch e k z b = never k b
      by_place Raise e k z b = never k b
      by_place Invalid e k z b = never k b

      first_owed : begins_from t i (place from.words i) ≡ true → Owed t valid bits to i (W t valid bits i 0) 0
      unfolding begins_from
      first_owed b = by_place (place from.words i) refl _ refl b

    bound_is : W t valid bits i 0 ≡ wait_bound t i
    unfolding wait_bound
    bound_is = rw (ancestor_home t i, record_own t i) refl

    -- AN ATTEMPT, from its first step
    attempt : (x : Step) (meanwhile later : List Step) → At x (meanwhile ++ later) → begins_attempt t i x ≡ true → occurrences i (entering (x ∷ meanwhile)) ≡ 0 → BoundedWait t i x meanwhile
    unfolding begins_attempt step
    attempt x meanwhile later at begun o =
        let s = at.here in
        let a = at.thread in
        let h = at.real in
        let y = step t a s.now.words in
        let same = at.step_is in
        let begun' : eqb a i && begins_from t i (place s.now.words a) ≡ true = rw (← same) at begun in
        let both = and_both (eqb a i) (begins_from t i (place s.now.words a)) begun' in
        let z = eqb-true a i both.0 in
        let o' : occurrences i (entering (y ∷ meanwhile)) ≡ 0 = rw (← same) at o in
        let quiet = own_entry s a h meanwhile o' z in
        let own : (h' : a < t.threads) → Owed t valid bits (situations.next t valid bits s.now a h') i (W t valid bits i 0) 0 = rw z (λ h'. first_owed s h' quiet (rw z at both.1)) in
        let first = own h in
        let words : (situations.next t valid bits s.now a h).words ≡ x.state = stepped s.now a h ∙ ap (λ u. u.state) same in
        let all = along meanwhile at.schedule (go s a h) first.left later at.threads (ap (steps t at.schedule) words ∙ at.more_is) (later_none i y meanwhile o') first.owes in
        let same_count : (p : WordState → Step → Bool) → count_steps p (situations.next t valid bits s.now a h).words meanwhile ≡ count_steps p x.state meanwhile = λ p. ap (λ u. count_steps p u meanwhile) words in
        let in_line_all = all.seen in
        let less = first.less in
        let bound = bound_is in
        let in_line_bound : count_steps (in_line t i) x.state meanwhile ≤ wait_bound t i = (let e = same_count (in_line t i) in omega arith) in
        let split = either_way t i x.state meanwhile (later_none i x meanwhile o) in
        let no_bypass : count_steps (late_entry t i) x.state meanwhile ≡ 0 → count_steps (bypass t i) x.state meanwhile ≡ 0 = λ q. sym (same_count (bypass t i)) ∙ all.prompted (same_count (late_entry t i) ∙ q) in
        record { in_line_entries = in_line_bound; wait = omega arith; no_bypass = no_bypass; prompt_wait = λ q. omega (arith, no_bypass q) }

pub wait_bound_law : WaitBoundLaw
unfolding WaitBoundLaw
wait_bound_law t start schedule k i x meanwhile a =
    let ok = k.tree_accepted in
    let bits = k.sixteen_bit in
    let at = reach t ok bits a.before schedule (begin t ok bits start) x (meanwhile ++ a.later) k.threads (ap (steps t schedule) (begin_words t ok bits start) ∙ a.there) in
    attempt t ok bits i a.real x meanwhile a.later at a.begun a.not_entered
