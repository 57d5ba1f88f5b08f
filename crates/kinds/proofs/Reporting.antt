-- A row is what single calls report: a run of the entries before it, then a step.
use mathlib.Core.Path.{◌≡◌, sym, ap, ◌∙◌}
use mathlib.Core.List.{List, [], ◌∷◌, ◌++◌}
use Prim.Native.Nat.{ℕ, zero, suc, ◌+◌, ◌<◌}
use native.Mathlib.Omega.{arith}
use lib.ListN.{length, take, get_or}
use lib.Seq.{length-take-le, take-suc, take-take}
use borrow.Author.Tests.{eq-eqb}
use Rattle.model.specs.declared.TreeWords.{TreeWords}
use Rattle.model.specs.declared.LockState.{LockState}
use Rattle.model.specs.Trees.{Tree, tree_of}
use Rattle.model.specs.Steps.{kind_number, step}
use Rattle.model.specs.Runs.{steps, state_after, run_of, run}
use Rattle.model.specs.Counters.{lock_state, counters_after, any_above}
use Rattle.model.specs.CounterLaws.{CounterFormLaw}
use Rattle.model.specs.Refusals.{accepted, bad_counter, step_refusal, run_refusal}
use Rattle.model.specs.Answers.{counters_after_run, first_kind, first_domain, step_reply, step_answer, run_reply, run_answer}
use Rattle.model.specs.Laws.{AllThreads, Formed, FormLaw}
use Rattle.model.proofs.Counted.{counters_join}
use Rattle.model.proofs.Laws.Calls.{GoodRun, CountsPass, step_accepted, run_accepted, run_facts, run_counted}
use Rattle.model.proofs.Laws.Counters.{counter_form_law}
use Rattle.model.proofs.Laws.Form.{form_law}
use Rattle.model.proofs.Laws.Refusals.{accepted_number}
use Rattle.model.proofs.Laws.Runs.{steps_join, steps_take}
use Rattle.model.proofs.Trees.Accepted.{sixteen_bit}
use Rattle.kinds.specs.Laws.{RowLaw, SingleStepLaw}
use Rattle.kinds.proofs.Buffers.{same_refusal, row_law}

-- if all entries are threads, so are the first ones, and each of them
pub threads_taken : (t : Tree) (k : ℕ) (is : List ℕ) → AllThreads t is → AllThreads t (take k is)
unfolding AllThreads
threads_taken t zero is all = tt
threads_taken t (suc k) [] all = tt
threads_taken t (suc k) (i ∷ is) all = (all.0, threads_taken t k is all.1)

thread_there : (t : Tree) (is : List ℕ) → AllThreads t is → (k : ℕ) → k < length is → get_or is k 0 < t.threads
unfolding AllThreads
thread_there t [] all k h = absurd (omega arith)
thread_there t (i ∷ is) all zero h = all.0
thread_there t (i ∷ is) all (suc k) h = thread_there t is all.1 k (omega arith)

-- an accepted run of all entries, and one of its entries
module _ (w : TreeWords) (s : LockState) (is b : List ℕ) (f : Formed (tree_of w) s.words) (e : (run_refusal (tree_of w) s is (length b)).number ≡ 0) (k : ℕ) (h : k < length is) where
  abbrev t : Tree
  t = tree_of w

  abbrev i : ℕ
  i = get_or is k 0

  -- the entries before it, and the state after them
  abbrev js : List ℕ
  js = take k is

  abbrev s' : LockState
  s' = lock_state (run t js s.words).state (counters_after_run t js s)

  good : GoodRun t s is (length b)
  good = run_facts t s is (length b) e

  long : length js ≡ k
  long = length-take-le k is (omega arith)

  low : CountsPass t s js
  unfolding bad_counter
  low p l =
      rw (steps_take t k is s.words, take-take (p + 1) k (steps t is s.words) (omega (arith, long)))
      (run_counted t s is (length b) e p (omega (arith, long)))

  threads : AllThreads t js
  threads = threads_taken t k is good.threads

  before_accepted : run_refusal t s js (length b) ≡ accepted
  before_accepted =
      run_accepted t s js (length b)
      (record { tree = good.tree; form = good.form; counts = good.counts; short = omega (arith, long, good.short); threads = threads; fits = omega (arith, long, good.fits) })
      low

  before_zero : (run_refusal t s js (length b)).number ≡ 0
  before_zero = ap (λ r. r.number) before_accepted ∙ accepted_number

  returned : (run_answer w s js b).state ≡ s'
  unfolding run_answer run_reply
  returned = rw (eq-eqb (run_refusal t s js (length b)).number 0 before_zero)

  numbered : (run_answer w s js b).number ≡ 0
  unfolding run_answer run_reply
  numbered = rw (eq-eqb (run_refusal t s js (length b)).number 0 before_zero)

  -- 19 does not refuse this step alone if it does not refuse the whole run
  one_low : CountsPass t s' (i ∷ [])
  unfolding bad_counter steps counters_after_run run run_of
  one_low p l =
      let z : p ≡ 0 = omega arith in
      let y : k + 1 ≡ suc k = omega arith in
      let x = step t i (state_after s.words (steps t js s.words)) in
      let joined : take (k + 1) (steps t is s.words) ≡ steps t js s.words ++ (x ∷ []) =
      sym (steps_take t (k + 1) is s.words) ∙ rw (y, take-suc is k 0 h) (steps_join t js (i ∷ []) s.words) in
      rw z (ap any_above (sym (counters_join t s.counters (steps t js s.words) (x ∷ []))) ∙ ap (λ v. any_above (counters_after t s.counters v)) (sym joined) ∙ run_counted t s is (length b) e k h)

  step_passes : step_refusal t s' i ≡ accepted
  unfolding FormLaw CounterFormLaw
  step_passes =
      step_accepted t s' i
      (record {
        tree = good.tree;
        form = ((form_law t (sixteen_bit w) good.tree).of_run js s.words threads f).form;
        counts = (counter_form_law t good.tree (sixteen_bit w)).of_run js s threads f good.counts low;
        thread = thread_there t is good.threads k h;
      })
      one_low

  step_zero : (step_refusal t s' i).number ≡ 0
  step_zero = ap (λ r. r.number) step_passes ∙ accepted_number

  single : (let r = step_answer w s' i in let x = step t i s'.words in (r.number ≡ 0) × ((r.kind ≡ kind_number x.kind) × (r.domain ≡ x.domain)))
  unfolding step_answer step_reply first_kind first_domain steps
  single =
      let z = eq-eqb (step_refusal t s' i).number 0 step_zero in
      (rw z, (rw z, rw z))

pub single_step_law : SingleStepLaw
unfolding SingleStepLaw RowLaw
single_step_law w s is b rs f e k h =
    let z = ap (λ r. r.number) (sym (same_refusal w s is b rs (λ n. let m = sym e ∙ n in absurd (omega arith)))) ∙ e in
    let back = returned w s is b f z k h in
    let one = single w s is b f z k h in
    record {
      run_accepted = numbered w s is b f z k h;
      step_accepted = rw back one.0;
      row = row_law w s is b rs e k h ∙ rw back (rw (one.1.0, one.1.1));
    }
