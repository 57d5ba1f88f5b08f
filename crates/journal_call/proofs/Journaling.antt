-- The check of a journal piece by piece: the state so far, the entries left, and the result of a piece.
use mathlib.Core.Path.{◌≡◌, sym, ap, ◌∙◌, subst}
use Rattle.std.specs.Prelude.{Option, Some, None, Result, min}
use Rattle.std.proofs.lemmas.Bool.{cases_lt}
use Rattle.std.specs.Result.{IsErrAnd}
use Rattle.std.proofs.lemmas.Result.{err_from_is_err_and}
use mathlib.Core.List.{List, [], ◌∷◌}
use mathlib.Core.Logic.{◌≢◌, inl, inr}
use Prim.Native.Nat.{ℕ, zero, suc, ◌%◌, ◌≤◌, ◌<◌}
use native.Mathlib.Omega.{arith}
use lib.ListN.{length, get_or, take}
use lib.Seq.{length-take-le, get_or-take}
use borrow.Author.Tests.{eqb-true, eqb-false, eq-eqb, ne_eqb, not-false, not-true}
use Rattle.model.specs.declared.TreeWords.{TreeWords}
use Rattle.model.specs.declared.State.{State}
use Rattle.model.specs.Trees.{Tree, tree_of}
use Rattle.model.specs.States.{fresh_words}
use Rattle.model.specs.Steps.{Step}
use Rattle.model.specs.Runs.{steps, state_after, run_of, run}
use Rattle.model.specs.Counters.{lock_state, fresh_counters}
use Rattle.model.specs.Refusals.{Refusal, refusal, accepted, first_refusal, tree_refusal, run_tests_before_19}
use Rattle.model.specs.Answers.{fresh_answer}
use Rattle.model.specs.Laws.{Formed, FormLaw}
use Rattle.model.specs.CounterLaws.{CounterFormLaw}
use Rattle.model.proofs.Laws.Form.{fresh_at_zero, form_law}
use Rattle.model.proofs.Trees.Accepted.{sixteen_bit}
use Rattle.model.proofs.Laws.Runs.{steps_length}
use Rattle.model.proofs.Laws.Calls.{early_accepted}
use Rattle.model.proofs.Laws.Counters.{counter_form_law}
use Rattle.model.proofs.Laws.Refusals.{accepted_number}
use Rattle.refusals.specs.Lowest.{Lowest}
use Rattle.refusals.specs.declared.reasons.Refusal as refusals
use Rattle.refusals.specs.declared.reasons.Reason.{Reason}
use Rattle.refusals.specs.Reasons.{number_of}
use Rattle.refusals.proofs.Refusing.{reason_numbered}
use Rattle.journal_call.specs.declared.reader.Piece.{Piece}
use Rattle.journal_call.specs.Reader.Stretches.{position_after, Stretch, Stops}
use Rattle.journal_call.specs.Pieces.Pieces.{PieceRead}
use Rattle.journal.specs.Answers.{fresh_lock, checked, journal_refusal}
use Rattle.journal.specs.Laws.{kind_numbers}
use Rattle.journal_call.proofs.Stepping.{stretch_threads, stretch_moves, stretch_within, SameKinds, goes_on, stops_here, stopped_by, ended}
use Rattle.lock.specs.Steps.Running.{codes_front, fresh_from}
use Rattle.journal_call.specs.Kinds.{other_kind}
use Rattle.journal_call.specs.declared.journals.Refused.{Refused}
use Rattle.journal_call.specs.Journals.{SoFar, refused_by}
use Rattle.lock.proofs.steps.Starting.{fresh_from_zero}
use Rattle.lock.proofs.steps.StepCodes.{code_kind}

-- WHAT IS REPORTED FOR A STEP has its kind in the lowest three bits
kind_of_code : (b : List ℕ) (xs : List Step) (j : ℕ) → j < length xs → length xs ≤ length b → get_or (codes_front b xs) j 0 % 8 ≡ get_or (kind_numbers xs) j 0
unfolding codes_front kind_numbers
kind_of_code b [] j h f = absurd (omega arith)
kind_of_code [] (x ∷ xs) j h f = absurd (omega arith)
kind_of_code (c ∷ b) (x ∷ xs) zero h f = code_kind x
kind_of_code (c ∷ b) (x ∷ xs) (suc j) h f = kind_of_code b xs j (omega arith) (omega arith)

-- WHAT `?` passes on
pub refusal_passed : {A : Type 0} (r : Result A Refused) (x : Refused) {m : Refusal} → IsErrAnd r (λ y. y ≡ x) → refusal (number_of x.reason) x.place ≡ m → refused_by r ≡ m
refusal_passed r x h e = let y = err_from_is_err_and r h in rw (y.1, y.2) e

-- the fronts of two lists are equally long
pub fronts_long : (n : ℕ) (ks cs : List ℕ) → n ≤ length ks → n ≤ length cs → min (length (take n ks)) (length (take n cs)) ≡ n
fronts_long n ks cs a b = omega (arith, length-take-le n ks a, length-take-le n cs b)

-- the first other kind of the front of two lists is that of the lists
pub lowest_of_front :
    (n : ℕ) (ks cs : List ℕ) → n ≤ length ks → n ≤ length cs → (m : ℕ) →
    Lowest (min (length (take n ks)) (length (take n cs))) (other_kind (take n ks) (take n cs)) m → Lowest n (other_kind ks cs) m
lowest_of_front n ks cs a b m L =
    let long = fronts_long n ks cs a b in
    record {
      within = omega (arith, L.within, long);
      passed = λ j h. sym (same j (omega (arith, L.within, long))) ∙ L.passed j h;
      fails = λ h. sym (same m h) ∙ L.fails (omega (arith, long));
    }
  where
    same : (j : ℕ) → j < n → other_kind (take n ks) (take n cs) j ≡ other_kind ks cs j
    same j h = rw (get_or-take n ks j 0 h, get_or-take n cs j 0 h)

module _ (w : TreeWords) (bs : List ℕ) where
  abbrev t : Tree
  t = tree_of w

  -- the answer of a check that has come this far
  answers : (tree_refusal t).number ≡ 0 → (s : State) (p b : ℕ) → SoFar w bs s p b → (r : Refusal) → checked (length bs) t s bs p b ≡ r → r ≡ journal_refusal w bs
  unfolding journal_refusal
  answers ok s p b g r e = rw (eq-eqb (tree_refusal t).number 0 ok) (sym e ∙ g.ahead)

  -- the answer if the tests of the tree refuse it
  pub tree_refused : (x : refusals.Refusal) → refusal (number_of x.reason) x.place ≡ tree_refusal t → refusal (number_of x.reason) x.place ≡ journal_refusal w bs
  unfolding journal_refusal refusal
  tree_refused x e = rw (sym e, ne_eqb (number_of x.reason) 0 (reason_numbered x.reason))

  module _ (ok : (tree_refusal t).number ≡ 0) where
    fresh_is : fresh_lock w ≡ fresh_words
    unfolding fresh_answer
    fresh_is = rw (eq-eqb (tree_refusal t).number 0 ok) (fresh_at_zero t)

    pub start : (s : State) → s ≡ fresh_from 0 → SoFar w bs s 0 0
    unfolding FormLaw
    start s e =
        let z : s ≡ fresh_words = e ∙ fresh_from_zero in
        record {
          passes = ok;
          formed = subst (λ x. Formed t x) (fresh_at_zero t ∙ sym z) ((form_law t (sixteen_bit w) ok).of_fresh 0);
          ahead = ap (λ x. checked (length bs) t x bs 0 0) (z ∙ sym fresh_is);
        }

    -- the end of the journal
    pub ends : (s : State) (p b : ℕ) → SoFar w bs s p b → length bs ≤ p → accepted ≡ journal_refusal w bs
    unfolding accepted
    ends s p b g n = answers ok s p b g accepted (ended t bs s p b n)

    -- A PIECE: its threads and its kinds
    module _ (s : State) (p b : ℕ) (g : SoFar w bs s p b) (threads kinds : List ℕ) (c : Piece (Option Reason)) (r : PieceRead w.threads bs p b threads kinds c) where
      abbrev is : List ℕ
      is = take c.count threads

      abbrev ks : List ℕ
      ks = take c.count kinds

      read : Stretch t.threads bs p b is ks c.position c.before
      unfolding tree_of
      read = r.read

      long : length is ≡ c.count
      long = length-take-le c.count threads r.threads_fit

      pub runs : (room : ℕ) → c.count ≤ room → c.count ≤ 65536 → (first_refusal (run_tests_before_19 t (lock_state s fresh_counters) is room)).number ≡ 0
      unfolding CounterFormLaw
      runs room h f =
          ap (λ x. x.number)
          (early_accepted t (lock_state s fresh_counters) is room
          (record { tree = ok; form = g.formed.form; counts = (counter_form_law t ok (sixteen_bit w)).of_fresh; short = omega (arith, long); threads = stretch_threads t read; fits = omega (arith, long) }))
          ∙ accepted_number

      -- no piece is empty while a byte is left
      pub further : c.refused ≡ None → (room : ℕ) → 0 < room → room ≤ length threads → room ≤ length kinds → p < length bs → p < c.position
      further none room some fit fit' left =
          elim (cases_lt c.position (length bs)) [
            | inl more ↦ omega (arith, stretch_moves read, long, r.full none more room fit fit', some)
            | inr end ↦ omega (arith, end, left)
          ]

      -- a piece ends within the journal
      pub within : p < length bs → c.position ≤ length bs
      within left = stretch_within read (omega (arith, left))

      -- its kinds, compared with those of the steps
      module _ (codes₀ codes : List ℕ) (e : codes ≡ codes_front codes₀ (steps t is s)) (room : c.count ≤ length codes₀) (m : ℕ) (low : Lowest c.count (other_kind kinds codes) m) where
        kind_of_step : (j : ℕ) → j < c.count → get_or codes j 0 % 8 ≡ get_or (kind_numbers (steps t is s)) j 0
        kind_of_step j h =
            let n : length (steps t is s) ≡ c.count = steps_length t is s ∙ long in
            ap (λ v. get_or v j 0 % 8) e ∙ kind_of_code codes₀ (steps t is s) j (omega (arith, n)) (omega (arith, n))

        same_kinds : (n : ℕ) → n ≤ m → SameKinds t s is ks n
        same_kinds n h j l =
            let q : j < c.count = omega (arith, low.within) in
            get_or-take c.count kinds j 0 q ∙ eqb-true (get_or kinds j 0) (get_or codes j 0 % 8) (not-false _ (low.passed j (omega arith))) ∙ kind_of_step j q

        -- 26 at the first entry with another kind
        pub differs : m < c.count → (place : ℕ) → place ≡ position_after m bs p b → refusal 26 place ≡ journal_refusal w bs
        differs h place f =
            let other : get_or kinds m 0 ≢ get_or codes m 0 % 8 = eqb-false (get_or kinds m 0) (get_or codes m 0 % 8) (not-true _ (low.fails h)) in
            let stops = stops_here t bs read s m (omega (arith, long)) (same_kinds m (omega arith)) (λ z. other (sym (get_or-take c.count kinds m 0 h) ∙ z ∙ sym (kind_of_step m h))) in
            rw f (answers ok s p b g (refusal 26 (position_after m bs p b)) stops)

        module _ (h : c.count ≤ m) where
          rest_checked : checked (length bs) t s bs p b ≡ checked (length bs) t (state_after s (steps t is s)) bs c.position c.before
          rest_checked = goes_on t bs read s (same_kinds (length is) (omega (arith, long)))

          -- reading stopped for a reason
          pub stops : (why : Reason) → c.refused ≡ Some why → refusal (number_of why) c.position ≡ journal_refusal w bs
          unfolding tree_of
          stops why e =
              let stopped : Stops w.threads bs c.position c.before (Some why) = subst (λ x. Stops w.threads bs c.position c.before x) e r.stops in
              answers ok s p b g (refusal (number_of why) c.position) (rest_checked ∙ stopped_by t bs _ c.position c.before why stopped)

          -- the next piece
          pub turn : (s' : State) → s' ≡ (run t is s).state → SoFar w bs s' c.position c.before
          unfolding run run_of FormLaw
          turn s' f =
              record {
                passes = ok;
                formed = subst (λ x. Formed t x) (sym f) ((form_law t (sixteen_bit w) ok).of_run is s (stretch_threads t read) g.formed);
                ahead = ap (λ x. checked (length bs) t x bs c.position c.before) f ∙ sym rest_checked ∙ g.ahead;
              }
