-- The waits that a run counts are those of its attempts.
use mathlib.Core.Path.{◌≡◌, refl, sym, ap, ◌∙◌}
use mathlib.Core.Bool.{Bool, true, false, ◌&&◌, cond, false≢true}
use mathlib.Core.List.{List, [], ◌∷◌, ◌++◌, append_assoc}
use Prim.Native.Nat.{ℕ, zero, suc, ◌+◌, ◌≤◌, ◌<◌}
use native.Mathlib.Omega.{arith}
use lib.Dec.{eqb}
use borrow.Author.Tests.{eq-eqb, ne_eqb}
use Rattle.model.specs.declared.State.{State}
use Rattle.model.specs.Trees.{Tree}
use Rattle.model.specs.States.{fresh_state}
use Rattle.model.specs.Steps.{is_entry, Step}
use Rattle.model.specs.Runs.{steps, state_after, how_many, entering, occurrences}
use Rattle.model.specs.Laws.{FreshRun}
use Rattle.model.proofs.Tests.{and_both}
use Rattle.model.proofs.Lists.{same_or, less_or}
use Rattle.model.proofs.Counted.{occurrences_join, occurrences_one}
use Rattle.model.proofs.Laws.Runs.{entering_join, how_many_join}
use Rattle.waits.specs.Attempts.{begins, enters, begun, counted, under_way_after, finished, finished_by, waits_from, waits}
use Rattle.bounds.specs.LongestWait.InLine.{late_entry, count_steps}
use Rattle.bounds.specs.LongestWait.Laws.{BoundedWait, WaitBoundLaw, Waited, WaitsBoundLaw}
use Rattle.bounds.proofs.longest_wait.Law.{wait_bound_law}
use Rattle.bounds.specs.LongestWait.Bounds.{wait_bound}

-- LISTS OF STEPS
count_join : (p : State → Step → Bool) (s : State) (xs ys : List Step) → count_steps p s (xs ++ ys) ≡ count_steps p s xs + count_steps p (state_after s xs) ys
unfolding count_steps state_after
count_join p s [] ys = omega arith
count_join p s (x ∷ xs) ys = omega (arith, count_join p x.state xs ys)

module _ (t : Tree) (i : ℕ) where
  -- AN ATTEMPT UNDER WAY at the end of some steps
  record UnderWay (so_far : List Step) (n : ℕ) : Type 0 where
    before : List Step
    first : Step
    mid : List Step
    there : so_far ≡ before ++ (first ∷ mid)
    begun_there : begins t i first ≡ true
    not_entered : occurrences i (entering (first ∷ mid)) ≡ 0
    many : how_many is_entry mid ≡ n

  -- 0 if there is none, otherwise one more than its entries
  Way : List Step → ℕ → Type 0
  Way so_far zero = Unit {0}
  Way so_far (suc n) = UnderWay so_far n

  none_under_way : (so_far : List Step) → Way so_far 0
  unfolding Way
  none_under_way so_far = tt

  -- a step in which the thread does not enter
  quiet_step : (y : Step) → enters i y ≡ false → occurrences i (entering (y ∷ [])) ≡ 0
  unfolding enters entering occurrences
  quiet_step y e = by (is_entry y.kind) refl
    where
      by : (b : Bool) → is_entry y.kind ≡ b → occurrences i (cond (is_entry y.kind) (y.thread ∷ []) [] ++ []) ≡ 0
      by false z = rw z refl
      by true z =
          same_or i y.thread _
          (λ w. let u : true && true ≡ false = rw (z, eq-eqb y.thread i (sym w)) at e in absurd (false≢true (sym u)))
          (λ w. rw z (rw (ne_eqb i y.thread w) refl))

  -- one step more
  longer : (so_far : List Step) (n : ℕ) (y : Step) → enters i y ≡ false → UnderWay so_far n → UnderWay (so_far ++ (y ∷ [])) (n + cond (is_entry y.kind) 1 0)
  unfolding how_many
  longer so_far n y e u =
      let more = entering_join (u.first ∷ u.mid) (y ∷ []) in
      let o = occurrences_join i (entering (u.first ∷ u.mid)) (entering (y ∷ [])) in
      let q = quiet_step y e in
      let m = how_many_join is_entry u.mid (y ∷ []) in
      record {
        before = u.before;
        first = u.first;
        mid = u.mid ++ (y ∷ []);
        there = ap (λ zs. zs ++ (y ∷ [])) u.there ∙ append_assoc u.before (u.first ∷ u.mid) (y ∷ []);
        begun_there = u.begun_there;
        not_entered = ap (occurrences i) more ∙ (let w = u.not_entered in omega arith);
        many = omega (arith, u.many);
      }

  -- an attempt begins with a step that is no entry
  begins_here : (so_far : List Step) (y : Step) → begins t i y ≡ true → enters i y ≡ false → UnderWay (so_far ++ (y ∷ [])) 0
  unfolding how_many
  begins_here so_far y b e =
      record { before = so_far; first = y; mid = []; there = refl; begun_there = b; not_entered = quiet_step y e; many = refl }

  begins_quiet : (y : Step) → begins t i y ≡ true → enters i y ≡ false → is_entry y.kind ≡ false
  unfolding begins enters
  begins_quiet y b e =
      let own = (and_both (eqb y.thread i) _ b).0 in
      by (is_entry y.kind) refl own
    where
      by : (k : Bool) → is_entry y.kind ≡ k → eqb y.thread i ≡ true → is_entry y.kind ≡ false
      by false z own = z
      by true z own = let u : true && true ≡ false = rw (own, z) at e in absurd (false≢true (sym u))

  way_step : (so_far : List Step) (a : ℕ) (y : Step) → enters i y ≡ false → Way so_far a → Way (so_far ++ (y ∷ [])) (counted y (begun t i y a))
  unfolding Way counted begun
  way_step so_far a y e w = by (begins t i y) refl a w
    where
      by : (b : Bool) → begins t i y ≡ b → (a : ℕ) → Way so_far a → Way (so_far ++ (y ∷ [])) (counted y (cond (begins t i y) 1 a))
      by true z a w = rw z (let q = begins_quiet y z e in rw q (begins_here so_far y z e))
      by false z zero w = rw z tt
      by false z (suc n) w = let q : suc n + cond (is_entry y.kind) 1 0 ≡ suc (n + cond (is_entry y.kind) 1 0) = omega arith in rw z (rw q (longer so_far n y e w))

  -- a counted wait other than 0, with its attempt
  record Found (all : List Step) (w : ℕ) : Type 0 where
    before : List Step
    first : Step
    mid : List Step
    later : List Step
    there : all ≡ before ++ (first ∷ (mid ++ later))
    begun_there : begins t i first ≡ true
    not_entered : occurrences i (entering (first ∷ mid)) ≡ 0
    many : how_many is_entry mid ≡ w

  finished_here : (so_far : List Step) (a : ℕ) (y : Step) (ys all : List Step) (w : ℕ) → Way so_far a → all ≡ so_far ++ (y ∷ ys) → 1 ≤ w → 1 ≤ occurrences w (finished (begun t i y a)) → Found all w
  unfolding Way begun finished occurrences
  finished_here so_far a y ys all w way e some h = by (begins t i y) refl a way h
    where
      by : (b : Bool) → begins t i y ≡ b → (a : ℕ) → Way so_far a → 1 ≤ occurrences w (finished (cond (begins t i y) 1 a)) → Found all w
      by true z a way h = absurd (let h' : 1 ≤ occurrences w (finished 1) = rw z at h in let q = occurrences_one w 0 h' in omega arith)
      by false z zero way h = absurd (let h' : 1 ≤ occurrences w (finished 0) = rw z at h in omega arith)
      by false z (suc n) u h =
          let h' : 1 ≤ occurrences w (finished (suc n)) = rw z at h in
          let q = occurrences_one w n h' in
          record {
            before = u.before;
            first = u.first;
            mid = u.mid;
            later = y ∷ ys;
            there = e ∙ ap (λ zs. zs ++ (y ∷ ys)) u.there ∙ append_assoc u.before (u.first ∷ u.mid) (y ∷ ys);
            begun_there = u.begun_there;
            not_entered = u.not_entered;
            many = u.many ∙ sym q;
          }

  find : (xs so_far : List Step) (a : ℕ) (all : List Step) (w : ℕ) → Way so_far a → all ≡ so_far ++ xs → 1 ≤ w → 1 ≤ occurrences w (waits_from t i a xs) → Found all w
  unfolding waits_from occurrences finished_by under_way_after
  find [] so_far a all w way e some h = absurd (omega arith)
  find (y ∷ ys) so_far a all w way e some h = by (λ a' way' h'. find ys (so_far ++ (y ∷ [])) a' all w way' (e ∙ sym (append_assoc so_far (y ∷ []) ys)) some h') (enters i y) refl
    where
      by : ((a' : ℕ) → Way (so_far ++ (y ∷ [])) a' → 1 ≤ occurrences w (waits_from t i a' ys) → Found all w) → (b : Bool) → enters i y ≡ b → Found all w
      by rec true z =
          let h' : 1 ≤ occurrences w (finished (begun t i y a) ++ waits_from t i 0 ys) = rw z at h in
          let o = occurrences_join w (finished (begun t i y a)) (waits_from t i 0 ys) in
          less_or 0 (occurrences w (finished (begun t i y a))) _
          (λ l. finished_here so_far a y ys all w way e some l)
          (λ l. rec 0 (none_under_way (so_far ++ (y ∷ []))) (omega arith))
      by rec false z =
          let h' : 1 ≤ occurrences w (waits_from t i (counted y (begun t i y a)) ys) = rw z at h in
          rec (counted y (begun t i y a)) (way_step so_far a y z way) h'

module _ (t : Tree) (start : ℕ) (schedule : List ℕ) (k : FreshRun t schedule) (i : ℕ) (h : i < t.threads) where
  abbrev fresh : State
  fresh = fresh_state t start

  abbrev all_steps : List Step
  all_steps = steps t schedule fresh

  waited : (w : ℕ) → 1 ≤ occurrences w (waits t i all_steps) → 1 ≤ w → Waited t schedule start i w
  waited w o some =
      let f = find t i all_steps [] 0 all_steps w (none_under_way t i []) refl some o in
      record {
        first = f.first;
        meanwhile = f.mid;
        attempt = record { real = h; before = f.before; later = f.later; there = f.there; begun = f.begun_there; not_entered = f.not_entered };
        entries = f.many;
      }

  -- the late entries of an attempt are among those of the run
  late_within : (w : ℕ) (a : Waited t schedule start i w) → count_steps (late_entry t i) fresh all_steps ≡ 0 → count_steps (late_entry t i) a.first.state a.meanwhile ≡ 0
  unfolding count_steps
  late_within w a none =
      let p = late_entry t i in
      let b = a.attempt.before in
      let x = a.first in
      let ms = a.meanwhile in
      let ls = a.attempt.later in
      let split : count_steps p fresh all_steps ≡ count_steps p fresh b + count_steps p (state_after fresh b) (x ∷ (ms ++ ls)) = ap (count_steps p fresh) a.attempt.there ∙ count_join p fresh b (x ∷ (ms ++ ls)) in
      let inner = count_join p x.state ms ls in
      omega arith

  prompt_waits : count_steps (late_entry t i) fresh all_steps ≡ 0 → (w : ℕ) → 1 ≤ occurrences w (waits t i all_steps) → w ≤ wait_bound t i
  unfolding WaitBoundLaw
  prompt_waits none zero o = omega arith
  prompt_waits none (suc w) o =
      let a = waited (suc w) o (omega arith) in
      let bound = (attempt_bounded a).prompt_wait (late_within (suc w) a none) in
      omega (arith, a.entries)
    where
      attempt_bounded : (a : Waited t schedule start i (suc w)) → BoundedWait t i a.first a.meanwhile
      attempt_bounded a = wait_bound_law t start schedule k i a.first a.meanwhile a.attempt

pub waits_bound_law : WaitsBoundLaw
unfolding WaitsBoundLaw
waits_bound_law t start schedule k i h = record { of_attempts = waited t start schedule k i h; prompt_waits = prompt_waits t start schedule k i h }
