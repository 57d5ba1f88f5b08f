-- The answers of the calls, from those of the refusals and the run.
use mathlib.Core.Path.{◌≡◌, refl, sym, ap, ◌∙◌}
use mathlib.Core.Bool.{Bool, true, false, cond}
use mathlib.Core.List.{List, [], ◌∷◌, ◌++◌}
use Prim.Native.Nat.{ℕ, ◌/◌, ◌%◌, ◌≤◌, ◌<◌}
use native.Mathlib.Omega.{arith}
use native.Mathlib.Decide.{ℕ_discrete}
use lib.Dec.{eqb}
use lib.ListN.{length, get_or}
use borrow.Author.Tests.{ne_eqb, eq-eqb}
use Rattle.model.specs.declared.TreeWords.{TreeWords}
use Rattle.model.specs.declared.Counters.{Counters}
use Rattle.model.specs.declared.LockState.{LockState}
use Rattle.model.specs.declared.Counts.{Counts}
use Rattle.model.specs.declared.RunReply.{RunReply}
use Rattle.model.specs.declared.StepReply.{StepReply}
use Rattle.model.specs.Trees.{Tree, tree_of}
use Rattle.model.specs.Steps.{Step, step, kind_number}
use Rattle.model.specs.Runs.{steps, state_after, counts_of, Run, run_of, run}
use Rattle.model.specs.Counters.{counters_after}
use Rattle.model.specs.Refusals as model
use Rattle.model.specs.Refusals.{refusal, accepted, Test, first_refusal, entry_tests, room_tests, tree_tests, counter_tests, has_number, bad_length, bad_entry, bad_room, step_tests_before_19, step_tests, run_tests_before_19, run_tests, step_refusal, run_refusal}
use Rattle.model.specs.Answers.{counters_after_run, first_kind, first_domain, step_reply, step_answer, run_refused, run_reply, run_buffer, run_answer, trace_answer}
use Rattle.model.proofs.Laws.Runs.{steps_length}
use Rattle.model.specs.Laws.{Numbered}
use Rattle.model.proofs.Refusing.{numbered}
use Rattle.model.proofs.Laws.Calls.{early_accepted, run_facts}
use Rattle.model.proofs.Laws.Refusals.{accepted_number, run_numbered_before_19}
use Rattle.refusals.specs.declared.reasons.Refusal.{Refusal}
use Rattle.refusals.specs.Reasons.{number_of}
use Rattle.refusals.specs.Arrays.{tree_state_tests, schedule_room_tests}
use Rattle.refusals.proofs.Scanning.{single_hit, single_missed}
use Rattle.refusals.proofs.Joining.{first_decides, other_decides, state_numbered}
use Rattle.refusals.proofs.Refusing.{ok_numbered, error_numbered}
use Rattle.lock.proofs.steps.SoFar.{kind_small, counts_kinds, thread_at, below}
use Rattle.lock.proofs.steps.StepCodes.{code_kind, domain_of_code}
use Rattle.rows.specs.Common.Standing.{row_domain}
use Rattle.rows.specs.Kinds.{number_of_kind}
use Rattle.lock.specs.declared.TakenStep.{TakenStep}
use Rattle.lock.specs.Lent.{TakenIs}
use Rattle.lock.specs.Steps.Running.{kinds_of, counts_by, trace_front, step_code, codes_front}

-- a run that is not refused passes the tests before 19
early_run : (t : Tree) (s : LockState) (is : List ℕ) (room : ℕ) → (run_refusal t s is room).number ≡ 0 → (first_refusal (run_tests_before_19 t s is room)).number ≡ 0
early_run t s is room e = ap (λ x. x.number) (early_accepted t s is room (run_facts t s is room e)) ∙ accepted_number

-- what is reported for the first step
first_code : (b : List ℕ) (x : Step) (xs : List Step) → 0 < length b → get_or (codes_front b (x ∷ xs)) 0 0 ≡ step_code x
unfolding codes_front
first_code [] x xs h = absurd (omega arith)
first_code (c ∷ b) x xs h = refl

-- A STEP is refused like a run of its one entry, with a trace buffer of length 1
module _ (t : Tree) (i : ℕ) where
  abbrev entry : List Test
  entry = entry_tests t (i ∷ [])

  abbrev fits : List Test
  fits = room_tests (i ∷ []) 1

  abbrev one_run : List Test
  one_run = schedule_room_tests t (i ∷ []) 1

  one_schedule : first_refusal one_run ≡ first_refusal entry
  unfolding bad_length bad_room
  one_schedule = single_missed _ (entry ++ fits) refl refl ∙ by (bad_entry t (i ∷ []) 0) refl
    where
      by : (b : Bool) → bad_entry t (i ∷ []) 0 ≡ b → first_refusal (entry ++ fits) ≡ first_refusal entry
      by true e = single_hit _ fits refl e ∙ sym (single_hit _ [] refl e)
      by false e = single_missed _ fits refl e ∙ single_missed _ [] refl refl ∙ sym (single_missed _ [] refl e)

  early_refusal : (s : LockState) → first_refusal (step_tests_before_19 t s i) ≡ first_refusal (run_tests_before_19 t s (i ∷ []) 1)
  unfolding tree_tests
  early_refusal s =
      let xs = tree_state_tests t s in
      elim (ℕ_discrete (first_refusal xs).number 0) [
        | yes z ↦
            other_decides xs entry (state_numbered t s) z ∙ sym one_schedule
            ∙ sym (other_decides xs one_run (state_numbered t s) z)
        | no z ↦ first_decides xs entry z ∙ sym (first_decides xs one_run z)
      ]

  step_numbered : (s : LockState) → Numbered (step_tests_before_19 t s i)
  unfolding has_number tree_tests
  step_numbered s = numbered (step_tests_before_19 t s i) refl

  one_refusal : (s : LockState) → step_refusal t s i ≡ run_refusal t s (i ∷ []) 1
  unfolding step_refusal step_tests run_refusal run_tests
  one_refusal s =
      let xs = step_tests_before_19 t s i in
      let ys = run_tests_before_19 t s (i ∷ []) 1 in
      let zs = counter_tests t s (i ∷ []) in
      elim (ℕ_discrete (first_refusal xs).number 0) [
        | yes z ↦
            other_decides xs zs (step_numbered s) z
            ∙ sym (other_decides ys zs (run_numbered_before_19 t s (i ∷ []) 1) (sym (ap (λ r. r.number) (early_refusal s)) ∙ z))
        | no z ↦ first_decides xs zs z ∙ early_refusal s ∙ sym (first_decides ys zs (λ y. z (ap (λ r. r.number) (early_refusal s) ∙ y)))
      ]

-- a run's reply without the counts, with kind and domain of its first step
reply_reported :
    (r : model.Refusal) (s : LockState) (xs : List Step) (x : Run) (c : Counters) → x.state ≡ state_after s.words xs → (b : Bool) → eqb r.number 0 ≡ b →
    (let y = run_reply r s x c in
    record { number = y.number; place = y.place; kind = cond (eqb y.number 0) (first_kind xs) 0; domain = cond (eqb y.number 0) (first_domain xs) 0; state = y.state } ≡ step_reply r s xs c)
unfolding step_reply run_reply
reply_reported r s xs x c f true e = rw (e, f)
reply_reported r s xs x c f false e = rw (e, e)

-- a step is a run of its one entry, so this is its reply
pub step_reported :
    (w : TreeWords) (s : LockState) (i : ℕ) (b : List ℕ) → length b ≡ 1 →
    (let y = run_answer w s (i ∷ []) b in let xs = steps (tree_of w) (i ∷ []) s.words in
    record { number = y.number; place = y.place; kind = cond (eqb y.number 0) (first_kind xs) 0; domain = cond (eqb y.number 0) (first_domain xs) 0; state = y.state } ≡ step_answer w s i)
unfolding step_answer run_answer run run_of
step_reported w s i b e =
    rw (e, one_refusal (tree_of w) i s)
    (reply_reported (run_refusal (tree_of w) s (i ∷ []) 1) s (steps (tree_of w) (i ∷ []) s.words) (run_of s.words (steps (tree_of w) (i ∷ []) s.words)) (counters_after_run (tree_of w) (i ∷ []) s) refl _ refl)

-- what is reported for a step, from its number
module _ (w : TreeWords) (s : LockState) (i room : ℕ) (z : (run_refusal (tree_of w) s (i ∷ []) room).number ≡ 0) where
  pub thread_small : i < 256
  thread_small = let R = run_facts (tree_of w) s (i ∷ []) room z in below (tree_of w) (i ∷ []) R.tree R.threads 0 (omega arith)

  pub taken_is :
      (codes₀ codes : List ℕ) → length codes₀ ≡ 1 → codes ≡ codes_front codes₀ (steps (tree_of w) (i ∷ []) s.words) → (q : TakenStep) →
      (get_or codes 0 0 % 8 < 6 → number_of_kind q.kind ≡ get_or codes 0 0 % 8) →
      q.domain ≡ row_domain (get_or w.homes i 0) ((get_or codes 0 0 / 8) % 16) (get_or codes 0 0 / 128) → TakenIs q (tree_of w) s.words i
  unfolding steps first_kind first_domain
  taken_is codes₀ codes l e q k d =
      let R = run_facts (tree_of w) s (i ∷ []) room z in
      let x = step (tree_of w) i s.words in
      let code : get_or codes 0 0 ≡ step_code x = ap (λ v. get_or v 0 0) e ∙ first_code codes₀ x [] (omega (arith, l)) in
      let kind : get_or codes 0 0 % 8 ≡ kind_number x.kind = ap (λ v. v % 8) code ∙ code_kind x in (
        k (omega (arith, kind, kind_small x.kind)) ∙ kind,
        d ∙ ap (λ v. row_domain (get_or w.homes i 0) ((v / 8) % 16) (v / 128)) code
            ∙ domain_of_code w s.words i R.form (thread_at (tree_of w) (i ∷ []) R.threads 0 (omega arith)) thread_small,
      )

-- A STEP's reply: that of the run of its one entry
module _ (w : TreeWords) (s : LockState) (i : ℕ) (b : List ℕ) (one : length b ≡ 1) where
  abbrev run_reply_is : RunReply
  run_reply_is = run_answer w s (i ∷ []) b

  pub step_refusal_is : (r : model.Refusal) → r ≡ run_refusal (tree_of w) s (i ∷ []) (length b) → r ≡ step_refusal (tree_of w) s i
  step_refusal_is r e = e ∙ ap (run_refusal (tree_of w) s (i ∷ [])) one ∙ sym (one_refusal (tree_of w) i s)

  pub step_state_is : run_reply_is.state ≡ (step_answer w s i).state
  step_state_is = ap (λ (r : StepReply). r.state) (step_reported w s i b one)

module _ (w : TreeWords) (s left : LockState) (i : ℕ) (e : left ≡ (step_answer w s i).state) where
  pub step_passes : (q : TakenStep) → TakenIs q (tree_of w) s.words i → accepted ≡ step_refusal (tree_of w) s i →
      record { number = 0; place = 0; kind = number_of_kind q.kind; domain = q.domain; state = left } ≡ step_answer w s i
  unfolding step_answer step_reply
  step_passes q f z = let p = eq-eqb (step_refusal (tree_of w) s i).number 0 (ok_numbered z) in rw (f.0, f.1, e, p)

  pub step_refuses : (x : Refusal) → refusal (number_of x.reason) x.place ≡ step_refusal (tree_of w) s i →
      record { number = number_of x.reason; place = x.place; kind = 0; domain = 0; state = left } ≡ step_answer w s i
  unfolding step_answer step_reply refusal
  step_refuses x f = let p = ne_eqb (step_refusal (tree_of w) s i).number 0 (error_numbered x f) in rw (e, p, sym f)

-- A RUN
module _ (w : TreeWords) (s : LockState) (is b : List ℕ) where
  module _ (n : (run_refusal (tree_of w) s is (length b)).number ≡ 0 → ⊥) where
    pub refused_state : s ≡ (run_answer w s is b).state
    unfolding run_answer run_reply
    refused_state = rw (ne_eqb (run_refusal (tree_of w) s is (length b)).number 0 n)

    pub refused_trace : b ≡ trace_answer w s is b
    unfolding trace_answer run_buffer
    refused_trace = rw (ne_eqb (run_refusal (tree_of w) s is (length b)).number 0 n)

  module _ (z : (run_refusal (tree_of w) s is (length b)).number ≡ 0) where
    pub early_passes : (first_refusal (run_tests_before_19 (tree_of w) s is (length b))).number ≡ 0
    early_passes = early_run (tree_of w) s is (length b) z

    pub kinds_few : (kinds : List ℕ) → kinds ≡ kinds_of (steps (tree_of w) is s.words) → (counts_by kinds).steps ≤ 65536
    unfolding counts_of
    kinds_few kinds f =
        let n : (counts_by kinds).steps ≡ length (steps (tree_of w) is s.words) = ap (λ v. (counts_by v).steps) f ∙ ap (λ v. v.steps) (counts_kinds (steps (tree_of w) is s.words)) in
        omega (arith, n, steps_length (tree_of w) is s.words, (run_facts (tree_of w) s is (length b) z).short)

    pub passed_state : (left : LockState) → left.words ≡ (run (tree_of w) is s.words).state → left.counters ≡ counters_after (tree_of w) s.counters (steps (tree_of w) is s.words) →
        left ≡ (run_answer w s is b).state
    unfolding run_answer run_reply counters_after_run
    passed_state left g f =
        let p = eq-eqb (run_refusal (tree_of w) s is (length b)).number 0 z in
        let each : record { words = left.words; counters = left.counters } ≡ (run_answer w s is b).state = rw (g, f, p) in
        each

    pub passed_trace : (b' : List ℕ) → b' ≡ trace_front b (run (tree_of w) is s.words) → b' ≡ trace_answer w s is b
    unfolding trace_answer run_buffer
    passed_trace b' h = h ∙ rw (eq-eqb (run_refusal (tree_of w) s is (length b)).number 0 z)

-- the counts of a run, from how many of its steps are of each kind
pub counts_run : (w : TreeWords) (s : LockState) (is : List ℕ) (kinds : List ℕ) (counts : Counts) → kinds ≡ kinds_of (steps (tree_of w) is s.words) → counts ≡ counts_by kinds → counts ≡ (run (tree_of w) is s.words).counts
unfolding run run_of
counts_run w s is kinds counts k f = rw (f, k) (counts_kinds (steps (tree_of w) is s.words))

-- the parts of a run's reply
module _ (w : TreeWords) (s : LockState) (is b : List ℕ) where
  module _ (z : (run_refusal (tree_of w) s is (length b)).number ≡ 0) where
    pub passed_counts : (counts : Counts) → counts ≡ (run (tree_of w) is s.words).counts → counts ≡ (run_answer w s is b).counts
    unfolding run_answer run_reply
    passed_counts counts e = e ∙ rw (eq-eqb (run_refusal (tree_of w) s is (length b)).number 0 z)

    pub run_accepts : (counts : Counts) (left : LockState) → counts ≡ (run_answer w s is b).counts → left ≡ (run_answer w s is b).state →
        record { number = 0; place = 0; counts = counts; state = left } ≡ run_answer w s is b
    unfolding run_answer run_reply
    run_accepts counts left c f = let p = eq-eqb (run_refusal (tree_of w) s is (length b)).number 0 z in rw (c, f, p)

  pub run_refuses : (x : Refusal) → refusal (number_of x.reason) x.place ≡ run_refusal (tree_of w) s is (length b) → (left : LockState) → left ≡ (run_answer w s is b).state →
      run_refused (refusal (number_of x.reason) x.place) left ≡ run_answer w s is b
  unfolding run_answer run_reply
  run_refuses x e left f = let p = ne_eqb (run_refusal (tree_of w) s is (length b)).number 0 (error_numbered x e) in rw (f, e, p)
