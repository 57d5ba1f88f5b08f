-- A thread's attempts, and their total wait, are at most the number of entries, since no two of its attempts overlap.
use mathlib.Core.Path.{◌≡◌, refl, ap}
use mathlib.Core.Bool.{Bool, true, false, cond}
use mathlib.Core.List.{List, [], ◌∷◌, ◌++◌}
use Prim.Native.Nat.{ℕ, zero, suc, ◌+◌, ◌-◌, ◌*◌, ◌≤◌}
use native.Mathlib.Omega.{arith}
use native.Mathlib.Nat.{suc-mul}
use lib.Dec.{eqb}
use lib.ListN.{length, get_or, length-append}
use borrow.Author.Tests.{ne_eqb, eqb-true}
use Rattle.model.specs.Trees.{Tree}
use Rattle.model.specs.Steps.{is_entry, Step}
use Rattle.model.specs.Runs.{steps, how_many, counts_of, run_of, run}
use Rattle.model.proofs.Counted.{how_many_most}
use Rattle.model.proofs.Laws.Runs.{steps_length}
use Rattle.model.proofs.Tests.{and_both}
use Rattle.schedules.specs.Rows.{total}
use Rattle.waits.specs.Attempts.{begins, enters, begun, counted, under_way_after, finished, finished_by, waits_from, under_way_from, waits_below_from}
use Rattle.waits.specs.Rows.{largest}
use Rattle.waits.specs.Laws.{BoundLaw}
use Rattle.waits.specs.GoingOn.{BoundOnLaw}
use Rattle.waits.proofs.Sums.{total_join, largest_join}

abbrev pub entries_in : List Step → ℕ
entries_in xs = how_many is_entry xs

-- ONE STEP. A step is an entry, or not
abbrev one : Step → ℕ
one x = cond (is_entry x.kind) 1 0

counted_more : (x : Step) (p : ℕ) → counted x p - 1 ≤ p - 1 + one x
unfolding counted
counted_more x zero = omega arith
counted_more x (suc p) = omega arith

begun_less : (t : Tree) (i : ℕ) (x : Step) (a : ℕ) → begun t i x a - 1 ≤ a - 1
unfolding begun
begun_less t i x a = by (begins t i x)
  where
    by : (b : Bool) → cond b 1 a - 1 ≤ a - 1
    by true = omega arith
    by false = omega arith

finished_few : (p : ℕ) → (length (finished p) ≤ 1) × ((total (finished p) ≡ p - 1) × (largest (finished p) ≡ p - 1))
unfolding finished total largest
finished_few zero = (omega arith, (refl, refl))
finished_few (suc p) = (omega arith, (omega arith, omega arith))

own_entry : (i : ℕ) (x : Step) → enters i x ≡ true → one x ≡ 1
unfolding enters
own_entry i x e = ap (λ b. cond b 1 0) (and_both (eqb x.thread i) (is_entry x.kind) e).1

-- SOME STEPS and their number of entries; the entries already counted for an attempt are added
abbrev Few : (start entries : ℕ) → (waits : List ℕ) → (number : ℕ) → Type 0
Few a e ws n = (length ws ≤ e) × ((total ws + (n - 1) ≤ a - 1 + e) × (largest ws ≤ a - 1 + e))

one_more :
    (t : Tree) (i a e : ℕ) (x : Step) (b : Bool) → enters i x ≡ b → (ws : ℕ → List ℕ) (n : ℕ → ℕ) → ((c : ℕ) → Few c e (ws c) (n c)) →
    (let p = begun t i x a in let next = cond b 0 (counted x p) in Few a (one x + e) (cond b (finished p) [] ++ ws next) (n next))
one_more t i a e x true own ws n r =
    let p = begun t i x a in
    let f = finished_few p in
    let l = length-append (finished p) (ws 0) in
    let s = total_join (finished p) (ws 0) in
    let m = largest_join (finished p) (ws 0) in
    let u = own_entry i x own in
    let q = r 0 in
    let d = begun_less t i x a in
    (omega (arith, q.0, f.0, l, u), (omega (arith, q.1.0, f.1.0, s, u, d), omega (arith, q.1.1, f.1.1, m, u, d)))
one_more t i a e x false own ws n r =
    let q = r (counted x (begun t i x a)) in
    let d = begun_less t i x a in
    let m = counted_more x (begun t i x a) in
    (omega (arith, q.0), (omega (arith, q.1.0, d, m), omega (arith, q.1.1, d, m)))

pub bounded : (t : Tree) (i a : ℕ) (xs : List Step) → Few a (entries_in xs) (waits_from t i a xs) (under_way_from t i a xs)
unfolding waits_from under_way_from finished_by under_way_after total largest how_many
bounded t i a [] = (omega arith, (omega arith, omega arith))
bounded t i a (x ∷ xs) =
    one_more t i a (entries_in xs) x (enters i x) refl (λ c. waits_from t i c xs) (λ c. under_way_from t i c xs) (λ c. bounded t i c xs)

-- ALL THREADS. A thread's entries
own : (thread : ℕ) → List Step → ℕ
own i [] = 0
own i (x ∷ xs) = cond (enters i x) 1 0 + own i xs

finished_own : (t : Tree) (i a : ℕ) (xs : List Step) → length (waits_from t i a xs) ≤ own i xs
unfolding waits_from finished_by own
finished_own t i a [] = omega arith
finished_own t i a (x ∷ xs) = by (enters i x) (begun t i x a) (under_way_after t i x a) (finished_own t i (under_way_after t i x a) xs)
  where
    by : (b : Bool) (p c : ℕ) → length (waits_from t i c xs) ≤ own i xs → length (cond b (finished p) [] ++ waits_from t i c xs) ≤ cond b 1 0 + own i xs
    by true p c h = omega (arith, length-append (finished p) (waits_from t i c xs), (finished_few p).0, h)
    by false p c h = omega (arith, h)

-- a step is the entry of at most one thread
entered_by : (threads : ℕ) → Step → ℕ
entered_by zero x = 0
entered_by (suc n) x = entered_by n x + cond (enters n x) 1 0

not_below : (x : Step) (n : ℕ) → n ≤ x.thread → entered_by n x ≡ 0
unfolding entered_by enters
not_below x zero h = refl
not_below x (suc n) h = rw (not_below x n (omega arith), ne_eqb x.thread n (omega arith))

one_thread : (x : Step) (n : ℕ) → entered_by n x ≤ one x
unfolding entered_by enters
one_thread x zero = omega arith
one_thread x (suc n) = by (enters n x) refl (one_thread x n)
  where
    by : (b : Bool) → enters n x ≡ b → entered_by n x ≤ one x → entered_by n x + cond b 1 0 ≤ one x
    by false e h = omega (arith, h)
    by true e h =
        let mine = eqb-true x.thread n (and_both (eqb x.thread n) (is_entry x.kind) e).0 in
        omega (arith, not_below x n (omega (arith, mine)), own_entry n x e)

all_own : (threads : ℕ) → List Step → ℕ
all_own zero xs = 0
all_own (suc n) xs = all_own n xs + own n xs

all_own_step : (n : ℕ) (x : Step) (xs : List Step) → all_own n (x ∷ xs) ≡ entered_by n x + all_own n xs
unfolding all_own entered_by own
all_own_step zero x xs = refl
all_own_step (suc n) x xs = let e = all_own_step n x xs in omega arith

all_own_none : (n : ℕ) → all_own n [] ≡ 0
unfolding all_own own
all_own_none zero = refl
all_own_none (suc n) = let e = all_own_none n in omega arith

all_own_few : (n : ℕ) (xs : List Step) → all_own n xs ≤ entries_in xs
unfolding how_many
all_own_few n [] = let e = all_own_none n in omega arith
all_own_few n (x ∷ xs) = omega (arith, all_own_step n x xs, one_thread x n, all_own_few n xs)

attempts_own : (t : Tree) (us : List ℕ) (n : ℕ) (xs : List Step) → length (waits_below_from t us n xs) ≤ all_own n xs
unfolding waits_below_from all_own
attempts_own t us zero xs = omega arith
attempts_own t us (suc n) xs =
    omega (arith, length-append (waits_below_from t us n xs) (waits_from t n (get_or us n 0) xs), attempts_own t us n xs, finished_own t n (get_or us n 0) xs)

-- the sum of the first numbers of a list
sum_first : (n : ℕ) → List ℕ → ℕ
sum_first zero us = 0
sum_first (suc n) us = sum_first n us + get_or us n 0

first_of_none : (n : ℕ) → sum_first n [] ≡ 0
unfolding sum_first
first_of_none zero = refl
first_of_none (suc n) = let e = first_of_none n in omega arith

first_of_more : (n u : ℕ) (us : List ℕ) → sum_first (suc n) (u ∷ us) ≡ u + sum_first n us
unfolding sum_first
first_of_more zero u us = omega arith
first_of_more (suc n) u us = let e = first_of_more n u us in omega arith

first_few : (n : ℕ) (us : List ℕ) → sum_first n us ≤ total us
unfolding total sum_first
first_few zero us = omega arith
first_few (suc n) [] = let e = first_of_none (suc n) in omega arith
first_few (suc n) (u ∷ us) = omega (arith, first_of_more n u us, first_few n us)

totals_first : (t : Tree) (us : List ℕ) (n : ℕ) (xs : List Step) → total (waits_below_from t us n xs) ≤ sum_first n us + n * entries_in xs
unfolding waits_below_from sum_first total
totals_first t us zero xs = omega arith
totals_first t us (suc n) xs =
    let b = (bounded t n (get_or us n 0) xs).1.0 in
    omega (arith, total_join (waits_below_from t us n xs) (waits_from t n (get_or us n 0) xs), totals_first t us n xs, b, suc-mul n (entries_in xs))

pub totals_few : (t : Tree) (us : List ℕ) (n : ℕ) (xs : List Step) → total (waits_below_from t us n xs) ≤ total us + n * entries_in xs
totals_few t us n xs = omega (arith, totals_first t us n xs, first_few n us)

pub attempts_few : (t : Tree) (us : List ℕ) (n : ℕ) (xs : List Step) → length (waits_below_from t us n xs) ≤ entries_in xs
attempts_few t us n xs = omega (arith, attempts_own t us n xs, all_own_few n xs)

largest_few : (t : Tree) (n : ℕ) (xs : List Step) → largest (waits_below_from t [] n xs) ≤ entries_in xs
unfolding waits_below_from largest
largest_few t zero xs = omega arith
largest_few t (suc n) xs =
    let b = (bounded t n 0 xs).1.1 in
    omega (arith, largest_join (waits_below_from t [] n xs) (waits_from t n 0 xs), largest_few t n xs, b)

pub bound_law : BoundLaw
unfolding BoundLaw run run_of counts_of total
bound_law t is s =
    let xs = steps t is s in
    record {
      attempts = λ i. (bounded t i 0 xs).0;
      total_wait = λ i. (let b = (bounded t i 0 xs).1.0 in omega (arith, b));
      largest_wait = λ i. (let b = (bounded t i 0 xs).1.1 in omega (arith, b));
      all_attempts = attempts_few t [] t.threads xs;
      all_total = (let b = totals_few t [] t.threads xs in omega (arith, b));
      all_largest = largest_few t t.threads xs;
      entries = omega (arith, how_many_most is_entry xs, steps_length t is s);
    }

pub bound_on_law : BoundOnLaw
unfolding BoundOnLaw run run_of counts_of
bound_on_law t is s i a =
    let b = bounded t i a (steps t is s) in
    record { attempts = b.0; total_wait = omega (arith, b.1.0); largest_wait = b.1.1; number = omega (arith, b.1.0) }
