-- Right steps are exactly those of the step table.
use mathlib.Core.Path.{◌≡◌, refl, sym, ap, ◌∙◌, subst}
use mathlib.Core.Bool.{Bool, true, false, not, cond}
use mathlib.Core.List.{List, [], ◌∷◌}
use mathlib.Core.Logic.{◌≢◌, inl, inr}
use Prim.Native.Nat.{ℕ, zero, suc, ◌≤◌, ◌<◌}
use native.Mathlib.Omega.{arith}
use lib.Dec.{eqb, leb}
use lib.ListN.{length, take, drop, get_or}
use lib.Seq.{length-take-le, get_or-take, take-take}
use borrow.Author.Tests.{eqb-true, eqb-false, leb-true, leb-false, not-false, not-true}
use Rattle.model.specs.declared.LockState.{LockState}
use Rattle.model.specs.Trees.{Tree}
use Rattle.model.specs.Steps.{kind_number, Step, step}
use Rattle.model.specs.Runs.{steps, state_after}
use Rattle.model.specs.Counters.{counters_after, any_above, lock_after}
use Rattle.model.specs.Refusals.{bad_counter}
use Rattle.model.specs.Laws.{AllThreads}
use Rattle.model.proofs.Laws.Counters.{count_first, count_later}
use Rattle.model.proofs.Laws.Refusals.{lowest}
use Rattle.journal.specs.StepCheck.Answers.{step_number, next, checked}
use Rattle.journal.specs.StepCheck.Laws.{kinds_reported, domains_reported, OfTheTable, after_first, RefusedStep, no_thread, counter_full, other_kind, other_domain}
use Rattle.journal.proofs.step_check.Checking.{number_12, number_19, number_26, number_29, number_0, number_at, Right, first_number, later_number, all_right, stops_at}
use Rattle.journal.proofs.step_check.Keeping.{named_right}

-- RIGHT STEPS are of the table
pub table_of : (t : Tree) (s : LockState) (is ks ds : List ℕ) → length ks ≡ length is → length ds ≡ length is → Right t s is ks ds (length is) → OfTheTable t s is ks ds
unfolding AllThreads kinds_reported domains_reported steps lock_after state_after
table_of t s [] [] [] a b r = record { threads_known = tt; counters_fit = λ p h. absurd (omega arith); kinds_given = refl; domains_given = refl }
table_of t s [] [] (d ∷ ds) a b r = absurd (omega arith)
table_of t s [] (k ∷ ks) ds a b r = absurd (omega arith)
table_of t s (i ∷ is) [] ds a b r = absurd (omega arith)
table_of t s (i ∷ is) (k ∷ ks) [] a b r = absurd (omega arith)
table_of t s (i ∷ is) (k ∷ ks) (d ∷ ds) a b r =
    let one = named_right t s i k d (sym (first_number t s i k d is ks ds) ∙ r 0 (omega arith)) in
    let rest = table_of t (next t s i) is ks ds (omega arith) (omega arith) (λ j h. sym (later_number t s i k d is ks ds j) ∙ r (suc j) (omega arith)) in
    record {
      threads_known = (one.known, rest.threads_known);
      counters_fit = fits t s i is one.low rest.counters_fit;
      kinds_given = rw one.kind (ap (λ (l : List ℕ). kind_number (step t i s.words).kind ∷ l) rest.kinds_given);
      domains_given = rw one.domain (ap (λ (l : List ℕ). (step t i s.words).domain ∷ l) rest.domains_given);
    }
  where
    fits :
        (t : Tree) (s : LockState) (i : ℕ) (is : List ℕ) → any_above (counters_after t s.counters (step t i s.words ∷ [])) ≡ false →
        ((p : ℕ) → p < length is → bad_counter t (next t s i) is p ≡ false) → (p : ℕ) → p < length (i ∷ is) → bad_counter t s (i ∷ is) p ≡ false
    fits t s i is low rest zero h = count_first t s i is ∙ low
    fits t s i is low rest (suc p) h = count_later t s i is p ∙ rest p (omega arith)

-- and steps of the table are right
pub right_of : (t : Tree) (s : LockState) (is ks ds : List ℕ) → OfTheTable t s is ks ds → Right t s is ks ds (length is)
unfolding AllThreads kinds_reported domains_reported steps lock_after state_after
right_of t s [] ks ds g j h = absurd (omega arith)
right_of t s (i ∷ is) [] ds g j h = absurd (let z = ap length g.kinds_given in omega arith)
right_of t s (i ∷ is) (k ∷ ks) [] g j h = absurd (let z = ap length g.domains_given in omega arith)
right_of t s (i ∷ is) (k ∷ ks) (d ∷ ds) g zero h =
    first_number t s i k d is ks ds
    ∙ number_0 t s i k d g.threads_known.0 (sym (count_first t s i is) ∙ g.counters_fit 0 (omega arith)) (ap (λ (l : List ℕ). get_or l 0 0) g.kinds_given) (ap (λ (l : List ℕ). get_or l 0 0) g.domains_given)
right_of t s (i ∷ is) (k ∷ ks) (d ∷ ds) g (suc j) h =
    later_number t s i k d is ks ds j
    ∙ right_of t (next t s i) is ks ds
    (record {
      threads_known = g.threads_known.1;
      counters_fit = λ p l. sym (count_later t s i is p) ∙ g.counters_fit (suc p) (omega arith);
      kinds_given = ap (λ (l : List ℕ). drop 1 l) g.kinds_given;
      domains_given = ap (λ (l : List ℕ). drop 1 l) g.domains_given;
    })
    j (omega arith)

-- THE FIRST STEPS of the lists, as lists of their own
module _ (t : Tree) (s : LockState) (is ks ds : List ℕ) (m : ℕ) where
  taken_number : (j : ℕ) → j < m → number_at t s (take m is) (take m ks) (take m ds) j ≡ number_at t s is ks ds j
  taken_number j h =
      rw (get_or-take m is j 0 h, get_or-take m ks j 0 h, get_or-take m ds j 0 h)
      (ap (λ l. step_number t (lock_after t s (steps t l s.words)) (get_or is j 0) (get_or ks j 0) (get_or ds j 0)) (take-take j m is (omega arith)))

  pub first_table : m ≤ length is → length ks ≡ length is → length ds ≡ length is → Right t s is ks ds m → OfTheTable t s (take m is) (take m ks) (take m ds)
  first_table h a b r =
      let l = length-take-le m is h in
      table_of t s (take m is) (take m ks) (take m ds) (length-take-le m ks (omega arith) ∙ sym l) (length-take-le m ds (omega arith) ∙ sym l) (λ j q. taken_number j (omega (arith, l)) ∙ r j (omega (arith, l)))

  pub first_right : m ≤ length is → OfTheTable t s (take m is) (take m ks) (take m ds) → Right t s is ks ds m
  first_right h g j q = sym (taken_number j q) ∙ right_of t s (take m is) (take m ks) (take m ds) g j (omega (arith, length-take-le m is h))

-- WHAT A NUMBER SAYS about a step, and the converse
module _ (t : Tree) (s : LockState) (i k d : ℕ) where
  abbrev x : Step
  x = step t i s.words

  by_tests :
      (a b c f : Bool) → leb t.threads i ≡ a → any_above (counters_after t s.counters (x ∷ [])) ≡ b → eqb k (kind_number x.kind) ≡ c → eqb d x.domain ≡ f →
      (n : ℕ) → n ≢ 0 → ◌≡◌ {A = ℕ} (cond a 12 (cond b 19 (cond c (cond f 0 29) 26))) n → RefusedStep t s i k d n
  by_tests true b c f p q r v n z e = subst (RefusedStep t s i k d) e (no_thread (leb-true t.threads i p))
  by_tests false true c f p q r v n z e = subst (RefusedStep t s i k d) e (counter_full (leb-false t.threads i p) (count_first t s i [] ∙ q))
  by_tests false false false f p q r v n z e =
      subst (RefusedStep t s i k d) e (other_kind (leb-false t.threads i p) (count_first t s i [] ∙ q) (eqb-false k (kind_number x.kind) r))
  by_tests false false true false p q r v n z e =
      subst (RefusedStep t s i k d) e (other_domain (leb-false t.threads i p) (count_first t s i [] ∙ q) (eqb-true k (kind_number x.kind) r) (eqb-false d x.domain v))
  by_tests false false true true p q r v n z e = absurd (z (sym e))

  pub refused_step : (n : ℕ) → n ≢ 0 → step_number t s i k d ≡ n → RefusedStep t s i k d n
  unfolding step_number
  refused_step n z e = by_tests _ _ _ _ refl refl refl refl n z e

  pub number_of : (n : ℕ) → RefusedStep t s i k d n → step_number t s i k d ≡ n
  number_of _ (no_thread h) = number_12 t s i k d h
  number_of _ (counter_full h a) = number_19 t s i k d h (sym (count_first t s i []) ∙ a)
  number_of _ (other_kind h a n) = number_26 t s i k d h (sym (count_first t s i []) ∙ a) n
  number_of _ (other_domain h a e n) = number_29 t s i k d h (sym (count_first t s i []) ∙ a) e n

-- EITHER all are right, or there is a first wrong one
pub data Outcome (t : Tree) (s : LockState) (is ks ds : List ℕ) : Type 0 where
  all : Right t s is ks ds (length is) → checked t s is ks ds ≡ record { number = 0; steps = length is; state = after_first t s is (length is) } → Outcome t s is ks ds
  first_wrong :
      (m : ℕ) → m < length is → Right t s is ks ds m → number_at t s is ks ds m ≢ 0 →
      checked t s is ks ds ≡ record { number = number_at t s is ks ds m; steps = m; state = after_first t s is m } → Outcome t s is ks ds

pub outcome : (t : Tree) (s : LockState) (is ks ds : List ℕ) → length ks ≡ length is → length ds ≡ length is → Outcome t s is ks ds
outcome t s is ks ds a b =
    elim (lowest (λ j. not (eqb (number_at t s is ks ds j) 0)) (length is)) [
      | inl none ↦
          let r : Right t s is ks ds (length is) = λ j h. eqb-true (number_at t s is ks ds j) 0 (not-false _ (none j h)) in
          all r (all_right t s is ks ds a b r)
      | inr L ↦
          let r : Right t s is ks ds L.place = λ j h. eqb-true (number_at t s is ks ds j) 0 (not-false _ (L.none_below j h)) in
          let n : number_at t s is ks ds L.place ≢ 0 = eqb-false (number_at t s is ks ds L.place) 0 (not-true _ L.bad) in
          first_wrong L.place L.within r n (stops_at t s is ks ds L.place _ a b L.within r refl n)
    ]
