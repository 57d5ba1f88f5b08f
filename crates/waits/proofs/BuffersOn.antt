-- THE BUFFERS after a call that continues: rows and numbers are at their places.
use mathlib.Core.Path.{◌≡◌, refl, sym, ap, ◌∙◌}
use mathlib.Core.Bool.{Bool, true, false, cond}
use mathlib.Core.List.{List, [], ◌∷◌, ◌++◌, append_assoc}
use mathlib.Core.Logic.{◌≢◌, ◌⊎◌, inl, inr, ⊎_elim}
use Prim.Native.Nat.{ℕ, zero, suc, ◌+◌, ◌-◌, ◌*◌, ◌≤◌, ◌<◌}
use native.Mathlib.Omega.{arith}
use native.Mathlib.Decide.{ℕ_discrete}
use lib.ListN.{length, drop, get_or, replicate, length-append, length-replicate}
use borrow.Author.Tests.{eq-eqb, ne_eqb}
use Rattle.model.specs.declared.TreeWords.{TreeWords}
use Rattle.model.specs.declared.LockState.{LockState}
use Rattle.model.specs.Trees.{Tree, tree_of}
use Rattle.model.specs.Steps.{Step}
use Rattle.model.specs.Runs.{steps, counts_of, run_of, run}
use Rattle.model.specs.Refusals.{Refusal, refusal, accepted, lowest_bad, first_refusal, run_refusal}
use Rattle.model.specs.Answers.{counters_after_run, run_reply, run_buffer, run_answer, trace_answer}
use Rattle.model.proofs.Trees.Accepted as trees
use Rattle.model.proofs.Laws.Calls.{run_facts}
use Rattle.model.proofs.Places.{zero_everywhere}
use Rattle.schedules.specs.Answers.{row_buffer}
use Rattle.waits.specs.Attempts.{under_way_from, under_way_below, waits_below_from}
use Rattle.waits.specs.Rows.{rows_below_from, row_of_all, all_rows_from}
use Rattle.waits.specs.Refusals.{bad_under_way}
use Rattle.waits.specs.Answers.{waits_reply, refused_by, refused_on, waits_on_answer, waits_on_trace, waits_on_rows, waits_on_under_way}
use Rattle.waits.specs.Laws.{WaitsRefusalLaw, row_at}
use Rattle.waits.specs.GoingOn.{RunsOnAs, WaitsOnRunLaw, SaysOn, RowOnLaw, KeepsRestOn, BuffersOnLaw}
use Rattle.waits.proofs.Bounds.{totals_few}
use Rattle.waits.proofs.Zeros.{uncut}
use Rattle.waits.proofs.Refusing.{early, early_passes, early_zero, waits_refusal_law}
use Rattle.waits.proofs.RefusingOn.{on_early, waits_refused, numbers_decide, on_early_decides, on_early_passes, numbers_fit, on_accepted}
use Rattle.waits.proofs.Buffers.{same_refusal, taken_all, row_there, row_after, attempts_column, totals_column, largest_column, numbers_long, all_from_long, front_long, front_rest}

-- NUMBERS and where they are in the buffer
at_seam : (l : List ℕ) (x : ℕ) (rest : List ℕ) → get_or (l ++ (x ∷ rest)) (length l) 0 ≡ x
at_seam [] x rest = refl
at_seam (y ∷ l) x rest = at_seam l x rest

after_front : (l : List ℕ) (m i : ℕ) → length l ≤ i → get_or (l ++ replicate m 0) i 0 ≡ 0
after_front [] m i h = zero_everywhere m i
after_front (y ∷ l) m zero h = absurd (omega arith)
after_front (y ∷ l) m (suc i) h = after_front l m i (omega arith)

module _ (t : Tree) (us : List ℕ) (xs : List Step) where
  pub number_in : (n i : ℕ) (rest : List ℕ) → i < n → get_or (under_way_below t us n xs ++ rest) i 0 ≡ under_way_from t i (get_or us i 0) xs
  unfolding under_way_below
  number_in zero i rest h = absurd (omega arith)
  number_in (suc n) i rest h =
      let new = under_way_from t n (get_or us n 0) xs in
      let long = numbers_long t us xs n in
      rw (append_assoc (under_way_below t us n xs) (new ∷ []) rest)
      (elim (ℕ_discrete i n) [
        | yes z ↦ rw z (ap (λ k. get_or (under_way_below t us n xs ++ (new ∷ rest)) k 0) (sym long) ∙ at_seam (under_way_below t us n xs) new rest)
        | no z ↦ number_in n i (new ∷ rest) (omega arith)
      ])

-- a test gives its own number, or the answer of the tests after it
one_number : (n : ℕ) (f : ℕ → Bool) (k p : ℕ) (r : Refusal) → ((lowest_bad n f k p r).number ≡ n) ⊎ (lowest_bad n f k p r ≡ r)
unfolding lowest_bad refusal
one_number n f zero p r = inr refl
one_number n f (suc k) p r = by (f p) (one_number n f k (suc p) r)
  where
    by :
        (b : Bool) → ((lowest_bad n f k (suc p) r).number ≡ n) ⊎ (lowest_bad n f k (suc p) r ≡ r) →
        ((cond b (refusal n p) (lowest_bad n f k (suc p) r)).number ≡ n) ⊎ (cond b (refusal n p) (lowest_bad n f k (suc p) r) ≡ r)
    by true e = inl refl
    by false e = e

-- THE CALL by its refusal
module _ (w : TreeWords) (s : LockState) (is b rs us : List ℕ) where
  abbrev t : Tree
  t = tree_of w

  abbrev xs : List Step
  xs = steps t is s.words

  abbrev met : Refusal
  met = refused_on w s is b rs us

  pub rows_accepted : met.number ≡ 0 → waits_on_rows w s is b rs us ≡ all_rows_from t us xs ++ drop (length (all_rows_from t us xs)) rs
  unfolding waits_on_rows row_buffer
  rows_accepted e = rw (eq-eqb met.number 0 e)

  pub numbers_accepted : met.number ≡ 0 → waits_on_under_way w s is b rs us ≡ under_way_below t us t.threads xs ++ replicate (256 - t.threads) 0
  unfolding waits_on_under_way
  numbers_accepted e = rw (eq-eqb met.number 0 e)

  -- an accepted call: the run is accepted, and the rows fit
  passes : met.number ≡ 0 → ((run_refusal t s is (length b)).number ≡ 0) × (5 * (t.threads + 1) ≤ length rs)
  unfolding refused_on WaitsRefusalLaw
  passes e =
      let ok = (on_accepted t s is (length b) (length rs) us e).0 in
      let p = early_passes t s is (length b) (length rs) (early_zero t s is (length b) (length rs) ok) in
      (sym (ap (λ r. r.number) ((waits_refusal_law t s is (length b) (length rs)).rows_fit p.0 p.1)) ∙ ok, p.1)

  pub few_threads : met.number ≡ 0 → t.threads ≤ 256
  few_threads e = (trees.accepted t (run_facts t s is (length b) (passes e).0).tree).few_threads

  rest_accepted : met.number ≡ 0 → KeepsRestOn w s is b rs us
  unfolding waits_on_answer waits_reply
  rest_accepted e =
      let l = all_from_long t us xs in
      let long = numbers_long t us xs t.threads in
      record {
        long = ap length (rows_accepted e) ∙ front_long (5 * (t.threads + 1)) (all_rows_from t us xs) rs l (passes e).1;
        after = ap (drop (5 * (t.threads + 1))) (rows_accepted e) ∙ front_rest (5 * (t.threads + 1)) (all_rows_from t us xs) rs l;
        as_many = λ _.
            (ap length (numbers_accepted e) ∙ length-append (under_way_below t us t.threads xs) (replicate (256 - t.threads) 0)
            ∙ omega (arith, long, few_threads e, length-replicate {A = ℕ} (256 - t.threads) 0));
        zeros = λ _ i h. ap (λ v. get_or v i 0) (numbers_accepted e) ∙ after_front (under_way_below t us t.threads xs) (256 - t.threads) i (omega (arith, long, h));
        rows_counted = λ _. rw (eq-eqb met.number 0 e);
        refused = λ n. absurd (n e);
      }

  rest_refused : met.number ≢ 0 → KeepsRestOn w s is b rs us
  unfolding waits_on_answer waits_reply run_reply waits_on_trace run_buffer waits_on_rows row_buffer waits_on_under_way
  rest_refused n =
      let z = ne_eqb met.number 0 n in
      record {
        long = rw z;
        after = rw z;
        as_many = λ e. absurd (n e);
        zeros = λ e i h. absurd (n e);
        rows_counted = λ e. absurd (n e);
        refused = λ _. record { reply = rw z; traced = rw z; written = rw z; numbers = rw z };
      }

  -- if neither 18 nor 27 refuses, refusal, reply and trace are the run's
  module _ (not_18 : met.number ≢ 18) (not_27 : met.number ≢ 27) where
    numbers_passed : (early t s is (length b) (length rs)).number ≡ 0 → (on_early t s is (length b) (length rs) us).number ≡ 0
    unfolding refused_on first_refusal accepted refusal
    numbers_passed z =
        let d = numbers_decide t s is (length b) (length rs) us z in
        ⊎_elim
        (λ e. absurd (not_27 (ap (λ r. r.number) (on_early_decides t s is (length b) (length rs) us (λ q. let m = sym (ap (λ r. r.number) d ∙ e) ∙ q in omega arith) ∙ d) ∙ e)))
        (λ e. ap (λ r. r.number) (d ∙ e)) (one_number 27 (bad_under_way t us) 256 0 (first_refusal []))

    as_waits : met ≡ refused_by w s is b rs
    unfolding refused_on refused_by
    as_waits =
        elim (ℕ_discrete (early t s is (length b) (length rs)).number 0) [
          | no z ↦ waits_refused t s is (length b) (length rs) us z
          | yes z ↦ numbers_fit t s is (length b) (length rs) us z (on_early_passes t s is (length b) (length rs) us (numbers_passed z)).1
        ]

    as_run : met ≡ run_refusal t s is (length b)
    as_run = as_waits ∙ same_refusal w s is b rs (λ e. not_18 (ap (λ r. r.number) as_waits ∙ e))

    runs_as : RunsOnAs w s is b rs us
    unfolding waits_on_answer waits_reply waits_on_trace run_answer trace_answer
    runs_as = record { reply = ap (λ r. run_reply r s (run t is s.words) (counters_after_run t is s)) as_run; traced = ap (λ r. run_buffer r b (run t is s.words)) as_run }

  -- what the buffers report
  module _ (e : met.number ≡ 0) where
    abbrev B : List ℕ
    B = waits_on_rows w s is b rs us

    buffer : B ≡ rows_below_from t us t.threads xs ++ (row_of_all (waits_below_from t us t.threads xs) ++ drop (length (all_rows_from t us xs)) rs)
    unfolding all_rows_from
    buffer = rows_accepted e ∙ append_assoc (rows_below_from t us t.threads xs) (row_of_all (waits_below_from t us t.threads xs)) (drop (length (all_rows_from t us xs)) rs)

    pub last_row : row_at t.threads B ≡ row_of_all (waits_below_from t us t.threads xs)
    last_row = row_after t us xs t.threads B _ buffer ∙ taken_all (waits_below_from t us t.threads xs) _

    pub says : SaysOn w s is b rs us
    unfolding row_of_all run run_of counts_of
    says =
        let n = t.threads in
        let totals = totals_column t us xs n B _ buffer n (omega arith) in
        record {
          of_thread = row_there t us xs n B _ buffer;
          number = λ i h. ap (λ v. get_or v i 0) (numbers_accepted e) ∙ number_in t us xs n i _ h;
          of_all =
              last_row
              ∙ rw (attempts_column t us xs n B _ buffer n (omega arith), totals, largest_column t us xs n B _ buffer n (omega arith));
          exact = λ h. uncut _ (omega (arith, totals, totals_few t us n xs, h));
        }

pub waits_on_run_law : WaitsOnRunLaw
unfolding WaitsOnRunLaw
waits_on_run_law w s is b rs us n m = runs_as w s is b rs us n m

pub row_on_law : RowOnLaw
unfolding RowOnLaw
row_on_law w s is b rs us e = says w s is b rs us e

pub buffers_on_law : BuffersOnLaw
unfolding BuffersOnLaw
buffers_on_law w s is b rs us =
    elim (ℕ_discrete (refused_on w s is b rs us).number 0) [ yes e ↦ rest_accepted w s is b rs us e | no n ↦ rest_refused w s is b rs us n ]
