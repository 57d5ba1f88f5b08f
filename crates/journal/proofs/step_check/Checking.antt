-- Named steps in order: those that are right, and the first that is not.
use mathlib.Core.Path.{◌≡◌, refl, sym, ap, ◌∙◌}
use mathlib.Core.Bool.{Bool, true, false, cond}
use mathlib.Core.List.{List, [], ◌∷◌, ◌++◌}
use mathlib.Core.Logic.{◌≢◌}
use Prim.Native.Nat.{ℕ, zero, suc, ◌+◌, ◌≤◌, ◌<◌}
use native.Mathlib.Omega.{arith}
use lib.Dec.{eqb}
use lib.ListN.{length, take, get_or}
use lib.Seq.{take-suc}
use borrow.Author.Tests.{eq-eqb, ne_eqb, le-leb, lt-leb}
use Rattle.model.specs.declared.LockState.{LockState}
use Rattle.model.specs.Trees.{Tree}
use Rattle.model.specs.Steps.{kind_number, Step, step}
use Rattle.model.specs.Runs.{steps, state_after}
use Rattle.model.specs.Counters.{lock_state, counters_after, any_above, lock_after}
use Rattle.model.specs.Refusals.{bad_counter}
use Rattle.model.proofs.Counted.{counters_join, counters_none}
use Rattle.model.proofs.Laws.Runs.{steps_join, steps_take}
use Rattle.journal.specs.StepCheck.Answers.{step_number, Checked, ended, stopped, one_more, next, checked}
use Rattle.journal.specs.StepCheck.Laws.{after_first}

-- THE STATE after the first steps: after none, and after one more at the front
pub after_none : (t : Tree) (s : LockState) (is : List ℕ) → after_first t s is 0 ≡ s
unfolding lock_after steps state_after
after_none t s is = ap (lock_state s.words) (counters_none t s.counters)

pub after_next : (t : Tree) (s : LockState) (i : ℕ) (is : List ℕ) (n : ℕ) → after_first t s (i ∷ is) (suc n) ≡ after_first t (next t s i) is n
unfolding lock_after steps state_after
after_next t s i is n =
    let x = step t i s.words in
    ap (lock_state (state_after x.state (steps t (take n is) x.state))) (counters_join t s.counters (x ∷ []) (steps t (take n is) x.state))

-- 19 for a step alone, in the state before it, is 19 for the run at that step
pub above_at :
    (t : Tree) (s : LockState) (is : List ℕ) (k : ℕ) → k < length is →
    (let s' = after_first t s is k in any_above (counters_after t s'.counters (step t (get_or is k 0) s'.words ∷ [])) ≡ bad_counter t s is k)
unfolding lock_after bad_counter steps
above_at t s is k h =
    let js = take k is in
    let y : k + 1 ≡ suc k = omega arith in
    let x = step t (get_or is k 0) (state_after s.words (steps t js s.words)) in
    let joined : take (k + 1) (steps t is s.words) ≡ steps t js s.words ++ (x ∷ []) =
    sym (steps_take t (k + 1) is s.words) ∙ rw (y, take-suc is k 0 h) (steps_join t js (get_or is k 0 ∷ []) s.words) in
    ap any_above (sym (counters_join t s.counters (steps t js s.words) (x ∷ []))) ∙ ap (λ v. any_above (counters_after t s.counters v)) (sym joined)

-- THE NUMBER of a named step
module _ (t : Tree) (s : LockState) (i k d : ℕ) where
  abbrev x : Step
  x = step t i s.words

  abbrev above : Bool
  above = any_above (counters_after t s.counters (x ∷ []))

  pub number_12 : t.threads ≤ i → step_number t s i k d ≡ 12
  unfolding step_number
  number_12 h = rw (le-leb t.threads i h)

  module _ (h : i < t.threads) where
    pub number_19 : above ≡ true → step_number t s i k d ≡ 19
    unfolding step_number
    number_19 a = rw (lt-leb t.threads i h, a)

    module _ (a : above ≡ false) where
      pub number_26 : k ≢ kind_number x.kind → step_number t s i k d ≡ 26
      unfolding step_number
      number_26 n = rw (lt-leb t.threads i h, a, ne_eqb k (kind_number x.kind) n)

      pub number_29 : k ≡ kind_number x.kind → d ≢ x.domain → step_number t s i k d ≡ 29
      unfolding step_number
      number_29 e n = rw (lt-leb t.threads i h, a, eq-eqb k (kind_number x.kind) e, ne_eqb d x.domain n)

      pub number_0 : k ≡ kind_number x.kind → d ≡ x.domain → step_number t s i k d ≡ 0
      unfolding step_number
      number_0 e f = rw (lt-leb t.threads i h, a, eq-eqb k (kind_number x.kind) e, eq-eqb d x.domain f)

-- THE FIRST NAMED STEPS ARE RIGHT
abbrev pub number_at : Tree → LockState → (threads kinds domains : List ℕ) → (position : ℕ) → ℕ
number_at t s is ks ds j = step_number t (after_first t s is j) (get_or is j 0) (get_or ks j 0) (get_or ds j 0)

abbrev pub Right : Tree → LockState → (threads kinds domains : List ℕ) → (count : ℕ) → Type 0
Right t s is ks ds m = (j : ℕ) → j < m → number_at t s is ks ds j ≡ 0

-- the number of the first step, and of those after it
pub first_number : (t : Tree) (s : LockState) (i k d : ℕ) (is ks ds : List ℕ) → number_at t s (i ∷ is) (k ∷ ks) (d ∷ ds) 0 ≡ step_number t s i k d
first_number t s i k d is ks ds = ap (λ v. step_number t v i k d) (after_none t s (i ∷ is))

pub later_number : (t : Tree) (s : LockState) (i k d : ℕ) (is ks ds : List ℕ) (j : ℕ) → number_at t s (i ∷ is) (k ∷ ks) (d ∷ ds) (suc j) ≡ number_at t (next t s i) is ks ds j
later_number t s i k d is ks ds j = ap (λ v. step_number t v (get_or is j 0) (get_or ks j 0) (get_or ds j 0)) (after_next t s i is j)

-- if the first named step is right, and if it is not
goes_on : (t : Tree) (s : LockState) (i k d : ℕ) (is ks ds : List ℕ) → step_number t s i k d ≡ 0 → checked t s (i ∷ is) (k ∷ ks) (d ∷ ds) ≡ one_more (checked t (next t s i) is ks ds)
unfolding checked
goes_on t s i k d is ks ds e = rw (eq-eqb (step_number t s i k d) 0 e)

-- all are right
pub all_right :
    (t : Tree) (s : LockState) (is ks ds : List ℕ) → length ks ≡ length is → length ds ≡ length is → Right t s is ks ds (length is) →
    checked t s is ks ds ≡ record { number = 0; steps = length is; state = after_first t s is (length is) }
unfolding checked
all_right t s [] ks ds a b r = ap ended (sym (after_none t s []))
all_right t s (i ∷ is) [] ds a b r = absurd (omega arith)
all_right t s (i ∷ is) (k ∷ ks) [] a b r = absurd (omega arith)
all_right t s (i ∷ is) (k ∷ ks) (d ∷ ds) a b r =
    let z : length is + 1 ≡ suc (length is) = omega arith in
    goes_on t s i k d is ks ds (sym (first_number t s i k d is ks ds) ∙ r 0 (omega arith))
    ∙ ap one_more (all_right t (next t s i) is ks ds (omega arith) (omega arith) (λ j h. sym (later_number t s i k d is ks ds j) ∙ r (suc j) (omega arith)))
    ∙ rw (z, after_next t s i is (length is))

-- one is not, and those before it are
pub stops_at :
    (t : Tree) (s : LockState) (is ks ds : List ℕ) (m n : ℕ) → length ks ≡ length is → length ds ≡ length is → m < length is → Right t s is ks ds m →
    number_at t s is ks ds m ≡ n → n ≢ 0 → checked t s is ks ds ≡ record { number = n; steps = m; state = after_first t s is m }
unfolding checked
stops_at t s [] ks ds m n a b h r e z = absurd (omega arith)
stops_at t s (i ∷ is) [] ds m n a b h r e z = absurd (omega arith)
stops_at t s (i ∷ is) (k ∷ ks) [] m n a b h r e z = absurd (omega arith)
stops_at t s (i ∷ is) (k ∷ ks) (d ∷ ds) zero n a b h r e z =
    let f : step_number t s i k d ≡ n = sym (first_number t s i k d is ks ds) ∙ e in
    rw (ne_eqb (step_number t s i k d) 0 (λ y. z (sym f ∙ y)), f, after_none t s (i ∷ is))
stops_at t s (i ∷ is) (k ∷ ks) (d ∷ ds) (suc m) n a b h r e z =
    let y : m + 1 ≡ suc m = omega arith in
    goes_on t s i k d is ks ds (sym (first_number t s i k d is ks ds) ∙ r 0 (omega arith))
    ∙ ap one_more (stops_at t (next t s i) is ks ds m n (omega arith) (omega arith) (omega arith) (λ j l. sym (later_number t s i k d is ks ds j) ∙ r (suc j) (omega arith)) (sym (later_number t s i k d is ks ds m) ∙ e) z)
    ∙ rw (y, after_next t s i is m)

-- ONE LIST AFTER ANOTHER: the steps of the second are added to those of the first
abbrev pub shifted : (count : ℕ) → Checked → Checked
shifted n c = record { number = c.number; steps = n + c.steps; state = c.state }

unfoldable pub then_checked : Checked → (LockState → Checked) → Checked
then_checked c f = cond (eqb c.number 0) (shifted c.steps (f c.state)) c

more_then : (c : Checked) (f : LockState → Checked) → one_more (then_checked c f) ≡ then_checked (one_more c) f
unfolding then_checked
more_then c f = by (eqb c.number 0) refl
  where
    by : (b : Bool) → eqb c.number 0 ≡ b → one_more (cond b (shifted c.steps (f c.state)) c) ≡ cond b (shifted (c.steps + 1) (f c.state)) (one_more c)
    by true e = let z : c.steps + (f c.state).steps + 1 ≡ c.steps + 1 + (f c.state).steps = omega arith in rw z
    by false e = refl

-- with one step at the front, right or not
join_step :
    (n : ℕ) (s : LockState) (whole c : Checked) (f : LockState → Checked) → whole ≡ then_checked c f → (v : Bool) → eqb n 0 ≡ v →
    cond v (one_more whole) (stopped n s) ≡ then_checked (cond v (one_more c) (stopped n s)) f
unfolding then_checked
join_step n s whole c f g true e = ap one_more g ∙ more_then c f
join_step n s whole c f g false e = rw e

pub checked_join :
    (t : Tree) (s : LockState) (is ks ds js ls es : List ℕ) → length ks ≡ length is → length ds ≡ length is →
    checked t s (is ++ js) (ks ++ ls) (ds ++ es) ≡ then_checked (checked t s is ks ds) (λ s'. checked t s' js ls es)
unfolding checked then_checked
checked_join t s [] [] [] js ls es a b = let z : 0 + (checked t s js ls es).steps ≡ (checked t s js ls es).steps = omega arith in rw z
checked_join t s [] [] (d ∷ ds) js ls es a b = absurd (omega arith)
checked_join t s [] (k ∷ ks) ds js ls es a b = absurd (omega arith)
checked_join t s (i ∷ is) [] ds js ls es a b = absurd (omega arith)
checked_join t s (i ∷ is) (k ∷ ks) [] js ls es a b = absurd (omega arith)
checked_join t s (i ∷ is) (k ∷ ks) (d ∷ ds) js ls es a b =
    join_step (step_number t s i k d) s _ (checked t (next t s i) is ks ds) (λ s'. checked t s' js ls es)
    (checked_join t (next t s i) is ks ds js ls es (omega arith) (omega arith)) (eqb (step_number t s i k d) 0) refl
