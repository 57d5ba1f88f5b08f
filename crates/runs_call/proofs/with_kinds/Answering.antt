-- The answer of the call, from the refusals, the run and the rows.
use mathlib.Core.Path.{◌≡◌, refl, sym, ap, ◌∙◌}
use mathlib.Core.Bool.{Bool, true, false}
use mathlib.Core.List.{List, [], ◌∷◌}
use Prim.Native.Nat.{ℕ, zero, suc, ◌+◌, ◌-◌, ◌*◌, ◌/◌, ◌%◌, ◌≤◌, ◌<◌}
use native.Mathlib.Omega.{arith}
use native.Mathlib.Decide.{ℕ_discrete}
use lib.Dec.{ltb}
use lib.ListN.{length, take, drop, get_or}
use lib.Seq.{get_or-take, get_or-drop, ext_get_or}
use borrow.Author.Tests.{eq-eqb, ne_eqb, ltb-true, ltb-false}
use Rattle.model.specs.declared.TreeWords.{TreeWords}
use Rattle.model.specs.declared.State.{State}
use Rattle.model.specs.declared.Counts.{Counts}
use Rattle.model.specs.declared.LockState.{LockState}
use Rattle.model.specs.Trees.{Tree, tree_of}
use Rattle.model.specs.Steps.{kind_number, Step, step}
use Rattle.model.specs.Runs.{steps, state_after, counts_of, run_of, run}
use Rattle.model.specs.Counters.{counters_after}
use Rattle.model.specs.Refusals.{Refusal, refusal, run_refusal}
use Rattle.model.specs.Answers.{counters_after_run, no_counts, run_reply, run_buffer}
use Rattle.model.specs.Laws.{Typed, Formed, FormLaw}
use Rattle.model.proofs.Laws.Calls.{GoodRun, run_facts}
use Rattle.model.proofs.Laws.Form.{form_law}
use Rattle.model.proofs.Laws.Runs.{steps_length}
use Rattle.model.proofs.Trees.Accepted.{sixteen_bit}
use Rattle.rows.specs.Common.Standing.{row_domain}
use Rattle.refusals.specs.declared.reasons.Refusal as refusals
use Rattle.refusals.specs.Reasons.{number_of}
use Rattle.refusals.proofs.Refusing.{error_numbered}
use Rattle.schedules.specs.Answers.{row_buffer}
use Rattle.lock.specs.Steps.Running.{trace_front, step_code, codes_front}
use Rattle.lock.proofs.steps.SoFar.{thread_at, below}
use Rattle.lock.proofs.steps.StepCodes.{code_kind, domain_of_code}
use Rattle.lock.proofs.steps.Reporting.{reported_front_length}
use Rattle.kinds.specs.Answers.{kinds_refusal, kinds_reply, refused_by, kinds_answer, kinds_trace, kinds_rows}
use Rattle.kinds.specs.Laws.{row_at, RowLaw, KindsBufferLaw}
use Rattle.kinds.proofs.Reporting.{threads_taken}
use Rattle.kinds.proofs.Refusing.{early_passes, early_zero}
use Rattle.kinds.proofs.Buffers.{same_refusal, row_law, kinds_buffer_law}
use Rattle.runs_call.specs.WithKinds.Spreading.{ThreadsFit, Spread}

-- WHAT THE LOOP REPORTED for each step, and what it left unchanged
code_at :
    (b : List ℕ) (t : Tree) (is : List ℕ) (s : State) (k : ℕ) → k < length is → length is ≤ length b →
    get_or (codes_front b (steps t is s)) k 0 ≡ step_code (step t (get_or is k 0) (state_after s (steps t (take k is) s)))
unfolding codes_front steps state_after
code_at b t [] s k h l = absurd (omega arith)
code_at [] t (i ∷ is) s k h l = absurd (omega arith)
code_at (c ∷ b) t (i ∷ is) s zero h l = refl
code_at (c ∷ b) t (i ∷ is) s (suc k) h l = code_at b t is (step t i s).state k (omega arith) (omega arith)

code_after : (b : List ℕ) (xs : List Step) (j : ℕ) → length xs ≤ j → get_or (codes_front b xs) j 0 ≡ get_or b j 0
unfolding codes_front
code_after [] xs j h = refl
code_after (c ∷ b) [] j h = refl
code_after (c ∷ b) (x ∷ xs) zero h = absurd (omega arith)
code_after (c ∷ b) (x ∷ xs) (suc j) h = code_after b xs j (omega arith)

-- a number is below another, or not
same_or_less : (j n : ℕ) (C : Type 0) → (j < n → C) → (n ≤ j → C) → C
same_or_less j n C f g = by (ltb j n) refl
  where
    by : (b : Bool) → ltb j n ≡ b → C
    by true e = f (ltb-true j n e)
    by false e = g (ltb-false j n e)

module _ (w : TreeWords) (s : LockState) (is b rs : List ℕ) where
  abbrev t : Tree
  t = tree_of w

  abbrev xs : List Step
  xs = steps t is s.words

  abbrev refused : Refusal
  refused = kinds_refusal t s is (length b) (length rs)

  module _ (n : refused.number ≡ 0 → ⊥) where
    pub kept_state : s ≡ (kinds_answer w s is b rs).state
    unfolding kinds_answer kinds_reply run_reply refused_by
    kept_state = rw (ne_eqb refused.number 0 n)

    pub kept_trace : b ≡ kinds_trace w s is b rs
    unfolding kinds_trace run_buffer refused_by
    kept_trace = rw (ne_eqb refused.number 0 n)

    pub kept_rows : rs ≡ kinds_rows w s is b rs
    unfolding kinds_rows row_buffer refused_by
    kept_rows = rw (ne_eqb refused.number 0 n)

  -- the reply with the state that is left
  pub reply_refused : (x : refusals.Refusal) → refusal (number_of x.reason) x.place ≡ refused → (left : LockState) → left ≡ (kinds_answer w s is b rs).state →
      record { number = number_of x.reason; place = x.place; counts = no_counts; rows = 0; state = left } ≡ kinds_answer w s is b rs
  unfolding kinds_answer kinds_reply run_reply refused_by refusal
  reply_refused x e left f = let m = ne_eqb refused.number 0 (error_numbered x e) in rw (f, m, sym e)

  module _ (z : refused.number ≡ 0) where
    accepted : (refused_by w s is b rs).number ≡ 0
    unfolding refused_by
    accepted = z

    -- the run itself is accepted, and the rows fit
    pub as_run : (run_refusal t s is (length b)).number ≡ 0
    unfolding refused_by
    as_run = ap (λ q. q.number) (sym (same_refusal w s is b rs (λ n. let m = sym accepted ∙ n in absurd (omega arith)))) ∙ z

    good : GoodRun t s is (length b)
    good = run_facts t s is (length b) as_run

    pub short : length is ≤ 65536
    short = good.short

    pub rows_fit : 2 * length is ≤ length rs
    unfolding refused_by
    rows_fit = (early_passes t s is (length b) (length rs) (early_zero t s is (length b) (length rs) accepted)).1

    pub codes_fit : (codes : List ℕ) → codes ≡ codes_front rs xs → 2 * length is ≤ length codes
    codes_fit codes f = omega (arith, ap length f, reported_front_length rs xs, rows_fit)

    pub threads_fit : ThreadsFit is
    threads_fit = record { fits = below t is good.tree good.threads }

    -- THE ROWS, by what was reported for the steps
    module _ (ty : Typed s.words) (codes rows : List ℕ) (f : codes ≡ codes_front rs xs) (g : Spread w.homes is codes 0 rows) where
      abbrev B : List ℕ
      B = kinds_rows w s is b rs

      module _ (k : ℕ) (h : k < length is) where
        abbrev before : State
        before = (run t (take k is) s.words).state

        abbrev x : Step
        x = step t (get_or is k 0) before

        code : get_or codes k 0 ≡ step_code x
        unfolding run run_of
        code = ap (λ v. get_or v k 0) f ∙ code_at rs t is s.words k h (omega (arith, rows_fit))

        row : row_at k B ≡ kind_number x.kind ∷ x.domain ∷ []
        unfolding RowLaw
        row = row_law w s is b rs accepted k h

        kind_there : get_or rows (2 * k) 0 ≡ get_or B (2 * k) 0
        kind_there =
            let y : 2 * k + 0 ≡ 2 * k = omega arith in
            g.kind k (omega arith) h ∙ ap (λ v. v % 8) code ∙ code_kind x ∙ sym (ap (λ v. get_or v 0 0) row) ∙ get_or-take 2 (drop (2 * k) B) 0 0 (omega arith) ∙ get_or-drop (2 * k) B 0 0
            ∙ rw y

        formed : Formed t before
        unfolding FormLaw
        formed = (form_law t (sixteen_bit w) good.tree).of_run (take k is) s.words (threads_taken t k is good.threads) (record { typed = ty; form = good.form })

        domain_there : get_or rows (2 * k + 1) 0 ≡ get_or B (2 * k + 1) 0
        domain_there =
            g.domain k (omega arith) h ∙ ap (λ v. row_domain (get_or w.homes (get_or is k 0) 0) ((v / 8) % 16) (v / 128)) code
            ∙ domain_of_code w before (get_or is k 0) formed.form (thread_at t is good.threads k h) (below t is good.tree good.threads k h)
            ∙ sym (ap (λ v. get_or v 1 0) row) ∙ get_or-take 2 (drop (2 * k) B) 1 0 (omega arith) ∙ get_or-drop (2 * k) B 1 0

      after_there : (j : ℕ) → 2 * length is ≤ j → get_or rows j 0 ≡ get_or B j 0
      unfolding KindsBufferLaw
      after_there j h =
          let y : 2 * length is + (j - 2 * length is) ≡ j = omega arith in
          let m = j - 2 * length is in
          g.rest j h ∙ ap (λ v. get_or v j 0) f ∙ code_after rs xs j (omega (arith, steps_length t is s.words))
          ∙ rw (← y) (sym (get_or-drop (2 * length is) rs m 0) ∙ ap (λ v. get_or v m 0) (sym (kinds_buffer_law w s is b rs).after) ∙ get_or-drop (2 * length is) B m 0)

      each : (j : ℕ) → get_or rows j 0 ≡ get_or B j 0
      each j =
          let q = j / 2 in
          same_or_less j (2 * length is) _ (λ l.
          elim (ℕ_discrete (j % 2) 0) [
            | yes y ↦ let z : j ≡ 2 * q = omega arith in rw z (kind_there q (omega arith))
            | no y ↦ let z : j ≡ 2 * q + 1 = omega arith in rw z (domain_there q (omega arith))
          ]) (after_there j)

      pub rows_reported : rows ≡ B
      unfolding KindsBufferLaw
      rows_reported = ext_get_or 0 rows B (g.long ∙ ap length f ∙ reported_front_length rs xs ∙ sym (kinds_buffer_law w s is b rs).long) (λ j h. each j)

    -- THE REPLY AND THE TRACE are the run's
    pub passed_trace : (b' : List ℕ) → b' ≡ trace_front b (run t is s.words) → b' ≡ kinds_trace w s is b rs
    unfolding kinds_trace run_buffer refused_by
    passed_trace b' h = h ∙ rw (eq-eqb refused.number 0 z)

    pub passed_state : (left : LockState) → left.words ≡ (run t is s.words).state → left.counters ≡ counters_after t s.counters xs → left ≡ (kinds_answer w s is b rs).state
    unfolding kinds_answer kinds_reply run_reply refused_by counters_after_run
    passed_state left g f =
        let p = eq-eqb refused.number 0 z in
        let each : record { words = left.words; counters = left.counters } ≡ (kinds_answer w s is b rs).state = rw (g, f, p) in
        each

    pub steps_counted : (counts : Counts) → counts ≡ (run t is s.words).counts → counts.steps ≡ length is
    unfolding run run_of counts_of
    steps_counted counts k = ap (λ (c : Counts). c.steps) k ∙ steps_length t is s.words

    pub reply_accepted : (counts : Counts) (m : ℕ) (left : LockState) → counts ≡ (run t is s.words).counts → m ≡ length is → left ≡ (kinds_answer w s is b rs).state →
        record { number = 0; place = 0; counts = counts; rows = m; state = left } ≡ kinds_answer w s is b rs
    unfolding kinds_answer kinds_reply run_reply refused_by
    reply_accepted counts m left k q f = let p = eq-eqb refused.number 0 z in rw (f, k, q, p)
