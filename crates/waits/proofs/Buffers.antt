-- THE ROW BUFFER after a call: each row is at its place, and the rest is unchanged.
use mathlib.Core.Path.{◌≡◌, refl, ap, ◌∙◌}
use mathlib.Core.List.{List, [], ◌∷◌, ◌++◌, append_assoc}
use mathlib.Core.Logic.{◌≢◌}
use Prim.Native.Nat.{ℕ, zero, suc, ◌+◌, ◌*◌, ◌≤◌, ◌<◌}
use native.Mathlib.Omega.{arith, by_contra}
use native.Mathlib.Decide.{ℕ_discrete}
use lib.ListN.{length, take, drop, get_or, length-append, length-drop}
use borrow.Author.Tests.{eq-eqb, ne_eqb}
use lib.Seq.{drop_at}
use Rattle.model.specs.declared.TreeWords.{TreeWords}
use Rattle.model.specs.declared.LockState.{LockState}
use Rattle.model.specs.Trees.{Tree, tree_of}
use Rattle.model.specs.Steps.{Step}
use Rattle.model.specs.Runs.{steps, run}
use Rattle.model.specs.Refusals.{refusal, first_refusal, run_tests_before_19, run_refusal}
use Rattle.model.specs.Answers.{counters_after_run, run_reply, run_buffer, run_answer, trace_answer}
use Rattle.schedules.specs.Rows.{total}
use Rattle.schedules.specs.Answers.{row_buffer}
use Rattle.waits.specs.Attempts.{waits_from, under_way_from, waits_below_from, under_way_below, waits_below}
use Rattle.waits.specs.Rows.{largest, row_with, row_of, rows_below_from, rows_below, all_rows, capped, row_of_all, all_rows_from}
use Rattle.waits.specs.Answers.{waits_reply, refused_by, waits_answer, waits_trace, waits_rows}
use Rattle.waits.specs.Laws.{WaitsRefusalLaw, RunsAs, WaitsRunLaw, WaitsRefusedLaw, row_at, column, Says, RowLaw, KeepsRest, RowBufferLaw}
use Rattle.waits.proofs.Refusing.{early_passes, early_zero, waits_refusal_law}
use Rattle.waits.proofs.Sums.{total_join, largest_join}

-- ROWS and where they are in the buffer
take_row : (n w m : ℕ) (l : List ℕ) → take 5 (row_with n w m ++ l) ≡ row_with n w m
unfolding row_with
take_row n w m l = refl

pub taken : (ws l : List ℕ) → take 5 (row_of ws ++ l) ≡ row_of ws
unfolding row_of
taken ws l = take_row (length ws) (total ws) (largest ws) l

pub taken_all : (ws l : List ℕ) → take 5 (row_of_all ws ++ l) ≡ row_of_all ws
unfolding row_of_all
taken_all ws l = take_row (length ws) (capped (total ws)) (largest ws) l

module _ (t : Tree) (us : List ℕ) (xs : List Step) where
  pub rows_long : (k : ℕ) → length (rows_below_from t us k xs) ≡ 5 * k
  unfolding rows_below_from row_of row_with
  rows_long zero = refl
  rows_long (suc k) = length-append (rows_below_from t us k xs) (row_of (waits_from t k (get_or us k 0) xs)) ∙ (let e = rows_long k in omega arith)

  row_in : (n i : ℕ) (rest : List ℕ) → i < n → row_at i (rows_below_from t us n xs ++ rest) ≡ row_of (waits_from t i (get_or us i 0) xs)
  unfolding rows_below_from
  row_in zero i rest h = absurd (omega arith)
  row_in (suc n) i rest h =
      let new = row_of (waits_from t n (get_or us n 0) xs) in
      elim (ℕ_discrete i n) [
        | yes z ↦ rw (z, append_assoc (rows_below_from t us n xs) new rest, drop_at (rows_below_from t us n xs) (new ++ rest) (5 * n) (rows_long n)) (taken (waits_from t n (get_or us n 0) xs) rest)
        | no z ↦ rw (append_assoc (rows_below_from t us n xs) new rest) (row_in n i (new ++ rest) (omega arith))
      ]

  -- a buffer with the rows of the first threads at its front
  module _ (n : ℕ) (B rest : List ℕ) (buffer : B ≡ rows_below_from t us n xs ++ rest) where
    pub row_there : (i : ℕ) → i < n → row_at i B ≡ row_of (waits_from t i (get_or us i 0) xs)
    row_there i h = ap (row_at i) buffer ∙ row_in n i rest h

    pub row_after : row_at n B ≡ take 5 rest
    row_after = ap (row_at n) buffer ∙ ap (take 5) (drop_at (rows_below_from t us n xs) rest (5 * n) (rows_long n))

    pub attempts_column : (k : ℕ) → k ≤ n → total (column 0 k B) ≡ length (waits_below_from t us k xs)
    unfolding column total waits_below_from row_of row_with
    attempts_column zero h = refl
    attempts_column (suc k) h =
        let ws = waits_from t k (get_or us k 0) xs in
        total_join (column 0 k B) (get_or (row_at k B) 0 0 ∷ [])
        ∙ (let a = attempts_column k (omega arith) in let c : get_or (row_at k B) 0 0 ≡ length ws = ap (λ (r : List ℕ). get_or r 0 0) (row_there k (omega arith)) in let d = length-append (waits_below_from t us k xs) ws in omega arith)

    pub totals_column : (k : ℕ) → k ≤ n → total (column 1 k B) ≡ total (waits_below_from t us k xs)
    unfolding column total waits_below_from row_of row_with
    totals_column zero h = refl
    totals_column (suc k) h =
        let ws = waits_from t k (get_or us k 0) xs in
        total_join (column 1 k B) (get_or (row_at k B) 1 0 ∷ [])
        ∙ (let a = totals_column k (omega arith) in let c : get_or (row_at k B) 1 0 ≡ total ws = ap (λ (r : List ℕ). get_or r 1 0) (row_there k (omega arith)) in let d = total_join (waits_below_from t us k xs) ws in omega arith)

    pub largest_column : (k : ℕ) → k ≤ n → largest (column 2 k B) ≡ largest (waits_below_from t us k xs)
    unfolding column largest waits_below_from row_of row_with
    largest_column zero h = refl
    largest_column (suc k) h =
        let ws = waits_from t k (get_or us k 0) xs in
        largest_join (column 2 k B) (get_or (row_at k B) 2 0 ∷ [])
        ∙ (let a = largest_column k (omega arith) in let c : get_or (row_at k B) 2 0 ≡ largest ws = ap (λ (r : List ℕ). get_or r 2 0) (row_there k (omega arith)) in let d = largest_join (waits_below_from t us k xs) ws in omega arith)

  pub numbers_long : (k : ℕ) → length (under_way_below t us k xs) ≡ k
  unfolding under_way_below
  numbers_long zero = refl
  numbers_long (suc k) = length-append (under_way_below t us k xs) (under_way_from t k (get_or us k 0) xs ∷ []) ∙ (let e = numbers_long k in omega arith)

  pub all_from_long : length (all_rows_from t us xs) ≡ 5 * (t.threads + 1)
  unfolding all_rows_from row_of_all row_with
  all_from_long = length-append (rows_below_from t us t.threads xs) (row_of_all (waits_below_from t us t.threads xs)) ∙ (let e = rows_long t.threads in omega arith)

pub all_long : (t : Tree) (xs : List Step) → length (all_rows t xs) ≡ 5 * (t.threads + 1)
unfolding all_rows row_of row_with
all_long t xs = length-append (rows_below t t.threads xs) (row_of (waits_below t t.threads xs)) ∙ (let e = rows_long t [] xs t.threads in omega arith)

-- writing at the front of a buffer keeps its length and its rest
pub front_long : (n : ℕ) (xs rs : List ℕ) → length xs ≡ n → n ≤ length rs → length (xs ++ drop (length xs) rs) ≡ length rs
front_long n xs rs l h = length-append xs (drop (length xs) rs) ∙ (let d = length-drop (length xs) rs in omega arith)

pub front_rest : (n : ℕ) (xs rs : List ℕ) → length xs ≡ n → drop n (xs ++ drop (length xs) rs) ≡ drop n rs
front_rest n xs rs l = drop_at xs (drop (length xs) rs) n l ∙ rw l

-- THE CALL by its refusal
module _ (w : TreeWords) (s : LockState) (is b rs : List ℕ) where
  abbrev t : Tree
  t = tree_of w

  abbrev xs : List Step
  xs = steps t is s.words

  rows_accepted : (refused_by w s is b rs).number ≡ 0 → waits_rows w s is b rs ≡ all_rows t xs ++ drop (length (all_rows t xs)) rs
  unfolding waits_rows row_buffer
  rows_accepted e = rw (eq-eqb (refused_by w s is b rs).number 0 e)

  rows_refused : (refused_by w s is b rs).number ≢ 0 → waits_rows w s is b rs ≡ rs
  unfolding waits_rows row_buffer
  rows_refused n = rw (ne_eqb (refused_by w s is b rs).number 0 n)

  rows_fit : (refused_by w s is b rs).number ≡ 0 → 5 * (t.threads + 1) ≤ length rs
  unfolding refused_by
  rows_fit e = (early_passes t s is (length b) (length rs) (early_zero t s is (length b) (length rs) e)).1

  rest_accepted : (refused_by w s is b rs).number ≡ 0 → KeepsRest w s is b rs
  unfolding waits_answer waits_reply
  rest_accepted e =
      let a = rows_accepted e in
      let l = all_long t xs in
      record {
        long = ap length a ∙ front_long (5 * (t.threads + 1)) (all_rows t xs) rs l (rows_fit e);
        after = ap (drop (5 * (t.threads + 1))) a ∙ front_rest (5 * (t.threads + 1)) (all_rows t xs) rs l;
        refused = λ n. absurd (n e);
        rows_counted = λ _. rw (eq-eqb (refused_by w s is b rs).number 0 e);
        none_reported = λ n. absurd (n e);
      }

  rest_kept : KeepsRest w s is b rs
  unfolding waits_answer waits_reply
  rest_kept =
      elim (ℕ_discrete (refused_by w s is b rs).number 0) [
        | yes e ↦ rest_accepted e
        | no n ↦
            record {
              long = ap length (rows_refused n);
              after = ap (drop (5 * (t.threads + 1))) (rows_refused n);
              refused = λ _. rows_refused n;
              rows_counted = λ e. absurd (n e);
              none_reported = λ _. rw (ne_eqb (refused_by w s is b rs).number 0 n);
            }
      ]

  -- if 18 does not refuse, refusal, reply and trace are the run's
  module _ (n : (refused_by w s is b rs).number ≢ 18) where
    pub same_refusal : refused_by w s is b rs ≡ run_refusal t s is (length b)
    unfolding WaitsRefusalLaw refusal refused_by
    same_refusal =
        elim (ℕ_discrete (first_refusal (run_tests_before_19 t s is (length b))).number 0) [
          | no z ↦ (waits_refusal_law t s is (length b) (length rs)).run_refused z
          | yes z ↦
              (waits_refusal_law t s is (length b) (length rs)).rows_fit z
              (by_contra (5 * (t.threads + 1)) (length rs) (λ h. n (ap (λ r. r.number) ((waits_refusal_law t s is (length b) (length rs)).room_refused z h))))
        ]

    runs_as : RunsAs w s is b rs
    unfolding waits_answer waits_reply waits_trace run_answer trace_answer
    runs_as = record { reply = ap (λ r. run_reply r s (run t is s.words) (counters_after_run t is s)) same_refusal; traced = ap (λ r. run_buffer r b (run t is s.words)) same_refusal }

  -- what the rows report
  module _ (e : (refused_by w s is b rs).number ≡ 0) where
    abbrev B : List ℕ
    B = waits_rows w s is b rs

    buffer : B ≡ rows_below t t.threads xs ++ (row_of (waits_below t t.threads xs) ++ drop (length (all_rows t xs)) rs)
    unfolding all_rows
    buffer = rows_accepted e ∙ append_assoc (rows_below t t.threads xs) (row_of (waits_below t t.threads xs)) (drop (length (all_rows t xs)) rs)

    says : Says w s is b rs
    unfolding row_of
    says =
        record {
          of_thread = row_there t [] xs t.threads B _ buffer;
          of_all =
              row_after t [] xs t.threads B _ buffer ∙ taken (waits_below t t.threads xs) _
              ∙ rw (
                attempts_column t [] xs t.threads B _ buffer t.threads (omega arith),
                totals_column t [] xs t.threads B _ buffer t.threads (omega arith),
                largest_column t [] xs t.threads B _ buffer t.threads (omega arith),
              );
        }

pub row_law : RowLaw
unfolding RowLaw
row_law w s is b rs e = says w s is b rs e

pub row_buffer_law : RowBufferLaw
unfolding RowBufferLaw
row_buffer_law w s is b rs = rest_kept w s is b rs

pub waits_run_law : WaitsRunLaw
unfolding WaitsRunLaw
waits_run_law w s is b rs n = runs_as w s is b rs n

pub waits_refused_law : WaitsRefusedLaw
unfolding WaitsRefusedLaw waits_answer waits_reply waits_trace run_reply run_buffer
waits_refused_law w s is b rs n =
    let e = ne_eqb (refused_by w s is b rs).number 0 n in
    record { counts = rw e; state = rw e; traced = rw e }
