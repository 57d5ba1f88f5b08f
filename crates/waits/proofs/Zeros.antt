-- Numbers that are all 0 mean no attempt, and then no total is capped.
use mathlib.Core.Path.{◌≡◌, refl, sym, ap, ◌∙◌}
use mathlib.Core.List.{List, []}
use Prim.Native.Nat.{ℕ, zero, suc, ◌*◌, ◌≤◌}
use native.Mathlib.Omega.{arith}
use native.Mathlib.Nat.{suc-mul}
use native.Mathlib.Decide.{ℕ_discrete}
use lib.ListN.{length, replicate}
use borrow.Author.Tests.{eq-eqb, ne_eqb}
use Rattle.model.specs.declared.TreeWords.{TreeWords}
use Rattle.model.specs.declared.LockState.{LockState}
use Rattle.model.specs.Trees.{Tree, tree_of}
use Rattle.model.specs.Steps.{is_entry, Step}
use Rattle.model.specs.Runs.{steps, run}
use Rattle.model.specs.Answers.{counters_after_run, run_buffer}
use Rattle.model.proofs.Counted.{how_many_most}
use Rattle.model.proofs.Trees.Accepted.{accepted}
use Rattle.model.proofs.Laws.Runs.{steps_length}
use Rattle.model.proofs.Laws.Calls.{run_facts}
use Rattle.model.proofs.Places.{zero_everywhere}
use Rattle.schedules.specs.Rows.{total}
use Rattle.schedules.specs.Answers.{row_buffer}
use Rattle.waits.specs.Attempts.{waits_below_from, waits_below}
use Rattle.waits.specs.Rows.{row_of, rows_below_from, rows_below, all_rows, capped, row_of_all, all_rows_from}
use Rattle.waits.specs.Answers.{waits_reply, refused_by, waits_answer, waits_trace, waits_rows, refused_on, waits_on_answer, waits_on_trace, waits_on_rows}
use Rattle.waits.specs.Laws.{WaitsRefusalLaw}
use Rattle.waits.specs.GoingOn.{NumberFits, ZerosLaw}
use Rattle.waits.proofs.Bounds.{entries_in, totals_few}
use Rattle.waits.proofs.Refusing.{early, early_passes, early_zero, waits_refusal_law}
use Rattle.waits.proofs.RefusingOn.{waits_refused, numbers_fit}

-- a total that fits in 64 bits is not capped
pub uncut : (n : ℕ) → n ≤ 18446744073709551615 → capped n ≡ n
unfolding capped
uncut n h = omega arith

pub mul_few : (n e : ℕ) → e ≤ 65536 → n * e ≤ n * 65536
mul_few zero e h = omega arith
mul_few (suc n) e h = omega (arith, suc-mul n e, mul_few n e h)

module _ (t : Tree) (m : ℕ) (xs : List Step) where
  rows_zero : (n : ℕ) → rows_below_from t (replicate m 0) n xs ≡ rows_below t n xs
  unfolding rows_below_from
  rows_zero zero = refl
  rows_zero (suc n) = rw (rows_zero n, zero_everywhere m n)

  waits_zero : (n : ℕ) → waits_below_from t (replicate m 0) n xs ≡ waits_below t n xs
  unfolding waits_below_from
  waits_zero zero = refl
  waits_zero (suc n) = rw (waits_zero n, zero_everywhere m n)

  pub rows_by_zeros : t.threads ≤ 256 → length xs ≤ 65536 → all_rows_from t (replicate m 0) xs ≡ all_rows t xs
  unfolding all_rows_from all_rows row_of_all row_of total
  rows_by_zeros few short =
      let small : total (waits_below t t.threads xs) ≤ 18446744073709551615 =
      omega (arith, totals_few t [] t.threads xs, mul_few t.threads (entries_in xs) (omega (arith, how_many_most is_entry xs))) in
      rw (rows_zero t.threads, waits_zero t.threads, uncut _ small)

module _ (w : TreeWords) (s : LockState) (is b rs : List ℕ) where
  abbrev t : Tree
  t = tree_of w

  zero_fits : (i : ℕ) → NumberFits t (replicate 256 0) i
  zero_fits i = (omega (arith, zero_everywhere 256 i), λ _. zero_everywhere 256 i)

  same_refusal : refused_on w s is b rs (replicate 256 0) ≡ refused_by w s is b rs
  unfolding refused_on refused_by
  same_refusal =
      elim (ℕ_discrete (early t s is (length b) (length rs)).number 0) [
        | no z ↦ waits_refused t s is (length b) (length rs) (replicate 256 0) z
        | yes z ↦ numbers_fit t s is (length b) (length rs) (replicate 256 0) z (λ i h. zero_fits i)
      ]

  -- an accepted call has few threads and a short schedule
  few : (refused_by w s is b rs).number ≡ 0 → (t.threads ≤ 256) × (length (steps t is s.words) ≤ 65536)
  unfolding refused_by WaitsRefusalLaw
  few e =
      let passes = early_passes t s is (length b) (length rs) (early_zero t s is (length b) (length rs) e) in
      let r = run_facts t s is (length b) (sym (ap (λ r. r.number) ((waits_refusal_law t s is (length b) (length rs)).rows_fit passes.0 passes.1)) ∙ e) in
      ((accepted t r.tree).few_threads, omega (arith, r.short, steps_length t is s.words))

  same_rows : waits_on_rows w s is b rs (replicate 256 0) ≡ waits_rows w s is b rs
  unfolding waits_on_rows waits_rows row_buffer
  same_rows =
      elim (ℕ_discrete (refused_by w s is b rs).number 0) [
        | yes e ↦ rw (same_refusal, eq-eqb (refused_by w s is b rs).number 0 e, rows_by_zeros t 256 (steps t is s.words) (few e).0 (few e).1)
        | no n ↦ rw (same_refusal, ne_eqb (refused_by w s is b rs).number 0 n)
      ]

pub zeros_law : ZerosLaw
unfolding ZerosLaw waits_on_answer waits_answer waits_on_trace waits_trace
zeros_law w s is b rs =
    let t = tree_of w in
    record {
      reply = ap (λ r. waits_reply r s (run t is s.words) (counters_after_run t is s) t.threads) (same_refusal w s is b rs);
      traced = ap (λ r. run_buffer r b (run t is s.words)) (same_refusal w s is b rs);
      written = same_rows w s is b rs;
    }
