-- Right steps keep a state well formed; and if none is wrong, all are counted.
use mathlib.Core.Path.{◌≡◌, refl}
use mathlib.Core.Bool.{Bool, true, false, cond}
use mathlib.Core.List.{List, [], ◌∷◌}
use Prim.Native.Nat.{ℕ, suc, ◌≤◌, ◌<◌}
use native.Mathlib.Omega.{arith}
use lib.Dec.{eqb, leb}
use lib.ListN.{length}
use borrow.Author.Tests.{eqb-true, eqb-false, leb-false}
use Rattle.model.specs.declared.LockState.{LockState}
use Rattle.model.specs.Trees.{Tree}
use Rattle.model.specs.Steps.{kind_number, Step, step}
use Rattle.model.specs.Runs.{state_after}
use Rattle.model.specs.Counters.{counters_after, any_above, lock_after, good_counts}
use Rattle.model.specs.Refusals.{tree_refusal}
use Rattle.model.specs.Laws.{SixteenBit, Formed, FormLaw}
use Rattle.model.proofs.Laws.Counters.{one_kept}
use Rattle.model.proofs.Laws.Form.{form_law}
use Rattle.journal.specs.StepCheck.Answers.{step_number, Checked, stopped, one_more, next, checked}

-- what number 0 implies about a named step
pub record NamedRight (t : Tree) (s : LockState) (i k d : ℕ) : Type 0 where
  pub known : i < t.threads
  pub low : any_above (counters_after t s.counters (step t i s.words ∷ [])) ≡ false
  pub kind : k ≡ kind_number (step t i s.words).kind
  pub domain : d ≡ (step t i s.words).domain

module _ (t : Tree) (s : LockState) (i k d : ℕ) where
  abbrev x : Step
  x = step t i s.words

  by_tests :
      (a b c f : Bool) → leb t.threads i ≡ a → any_above (counters_after t s.counters (x ∷ [])) ≡ b → eqb k (kind_number x.kind) ≡ c → eqb d x.domain ≡ f →
      ◌≡◌ {A = ℕ} (cond a 12 (cond b 19 (cond c (cond f 0 29) 26))) 0 → NamedRight t s i k d
  by_tests true b c f p q r v e = absurd (omega arith)
  by_tests false true c f p q r v e = absurd (omega arith)
  by_tests false false false f p q r v e = absurd (omega arith)
  by_tests false false true false p q r v e = absurd (omega arith)
  by_tests false false true true p q r v e =
      record { known = leb-false t.threads i p; low = q; kind = eqb-true k (kind_number x.kind) r; domain = eqb-true d x.domain v }

  pub named_right : step_number t s i k d ≡ 0 → NamedRight t s i k d
  unfolding step_number
  named_right e = by_tests _ _ _ _ refl refl refl refl e

-- a state that the next call accepts
pub record Kept (t : Tree) (s : LockState) : Type 0 where
  pub form : Formed t s.words
  pub counts : good_counts t s.counters ≡ true

module _ (t : Tree) (ok : (tree_refusal t).number ≡ 0) (bits : SixteenBit t) where
  pub step_kept : (s : LockState) (i k d : ℕ) → step_number t s i k d ≡ 0 → Kept t s → Kept t (next t s i)
  unfolding FormLaw lock_after state_after
  step_kept s i k d e g =
      let r = named_right t s i k d e in
      record {
        form = (form_law t bits ok).of_step i s.words r.known g.form;
        counts = one_kept t ok bits i s r.known g.form g.counts r.low;
      }

  either : (n : ℕ) (c : Checked) (s : LockState) → Kept t s → (n ≡ 0 → Kept t c.state) → (v : Bool) → eqb n 0 ≡ v → Kept t (cond v (one_more c) (stopped n s)).state
  either n c s g f true e = f (eqb-true n 0 e)
  either n c s g f false e = g

  pub checked_kept : (s : LockState) (is ks ds : List ℕ) → Kept t s → Kept t (checked t s is ks ds).state
  unfolding checked
  checked_kept s [] ks ds g = g
  checked_kept s (i ∷ is) [] ds g = g
  checked_kept s (i ∷ is) (k ∷ ks) [] g = g
  checked_kept s (i ∷ is) (k ∷ ks) (d ∷ ds) g =
      either (step_number t s i k d) (checked t (next t s i) is ks ds) s g (λ e. checked_kept (next t s i) is ks ds (step_kept s i k d e g)) (eqb (step_number t s i k d) 0) refl

-- if none is wrong, all are counted
all_or_stop : (n m : ℕ) (c : Checked) (s : LockState) → (c.number ≡ 0 → c.steps ≡ m) → (v : Bool) → eqb n 0 ≡ v → (cond v (one_more c) (stopped n s)).number ≡ 0 → (cond v (one_more c) (stopped n s)).steps ≡ suc m
all_or_stop n m c s f true e z = let y = f z in omega arith
all_or_stop n m c s f false e z = absurd (eqb-false n 0 e z)

pub checked_full : (t : Tree) (s : LockState) (is ks ds : List ℕ) → length ks ≡ length is → length ds ≡ length is → (checked t s is ks ds).number ≡ 0 → (checked t s is ks ds).steps ≡ length is
unfolding checked
checked_full t s [] ks ds a b e = refl
checked_full t s (i ∷ is) [] ds a b e = absurd (omega arith)
checked_full t s (i ∷ is) (k ∷ ks) [] a b e = absurd (omega arith)
checked_full t s (i ∷ is) (k ∷ ks) (d ∷ ds) a b e =
    all_or_stop (step_number t s i k d) (length is) (checked t (next t s i) is ks ds) s (λ z. checked_full t (next t s i) is ks ds (omega arith) (omega arith) z) (eqb (step_number t s i k d) 0) refl e

-- at most as many are counted as are named
few_or_stop : (n m : ℕ) (c : Checked) (s : LockState) → c.steps ≤ m → (v : Bool) → (cond v (one_more c) (stopped n s)).steps ≤ suc m
few_or_stop n m c s f true = omega arith
few_or_stop n m c s f false = omega arith

pub checked_few : (t : Tree) (s : LockState) (is ks ds : List ℕ) → (checked t s is ks ds).steps ≤ length is
unfolding checked
checked_few t s [] ks ds = omega arith
checked_few t s (i ∷ is) [] ds = omega arith
checked_few t s (i ∷ is) (k ∷ ks) [] = omega arith
checked_few t s (i ∷ is) (k ∷ ks) (d ∷ ds) =
    few_or_stop (step_number t s i k d) (length is) (checked t (next t s i) is ks ds) s (checked_few t (next t s i) is ks ds) (eqb (step_number t s i k d) 0)
