-- A piece of named steps: what was reported for its steps compared with what is named.
use mathlib.Core.Path.{◌≡◌, refl, sym, ap, ◌∙◌, subst}
use mathlib.Core.Bool.{Bool, true, false, ◌&&◌, not, cond}
use mathlib.Core.List.{List, [], ◌∷◌}
use mathlib.Core.Logic.{◌≢◌}
use Prim.Native.Nat.{ℕ, zero, suc, ◌/◌, ◌%◌, ◌≤◌, ◌<◌}
use native.Mathlib.Omega.{arith}
use Rattle.std.specs.Prelude.{Option, Some, None, is_some}
use native.Mathlib.Decide.{ℕ_discrete}
use lib.Dec.{eqb}
use lib.ListN.{length, take, get_or}
use lib.Seq.{length-take-le, get_or-take}
use borrow.Author.Tests.{eq-eqb, ne_eqb, eqb-true, eqb-false, not-false}
use Rattle.model.specs.declared.TreeWords.{TreeWords}
use Rattle.model.specs.declared.State.{State}
use Rattle.model.specs.declared.LockState.{LockState}
use Rattle.model.specs.Trees.{Tree, tree_of}
use Rattle.model.specs.Steps.{kind_number, Step, step}
use Rattle.model.specs.Runs.{steps, state_after, run_of, run}
use Rattle.model.specs.Counters.{counters_after, any_above, lock_after}
use Rattle.model.specs.Refusals.{first_refusal, run_tests_before_19}
use Rattle.model.specs.Laws.{AllThreads, Formed, FormLaw}
use Rattle.model.proofs.Tests.{and_both}
use Rattle.model.proofs.Laws.Calls.{early_accepted}
use Rattle.model.proofs.Laws.Form.{form_law}
use Rattle.model.proofs.Laws.Refusals.{accepted_number}
use Rattle.model.proofs.Trees.Accepted.{sixteen_bit}
use Rattle.model.proofs.Trees.Reading.{few_threads}
use Rattle.rows.specs.Common.Standing.{row_domain}
use Rattle.refusals.specs.Lowest.{Lowest}
use Rattle.refusals.specs.declared.reasons.Reason.{Reason}
use Rattle.refusals.specs.Reasons.{number_of}
use Rattle.refusals.proofs.Refusing.{reason_numbered}
use Rattle.lock.specs.Steps.Running.{step_code, codes_front}
use Rattle.lock.proofs.steps.StepCodes.{code_kind, domain_of_code}
use Rattle.lock.proofs.steps.Reporting.{reported_front_length}
use Rattle.journal.specs.StepCheck.Answers.{Checked, checked}
use Rattle.journal.specs.StepCheck.Laws.{after_first}
use Rattle.journal.proofs.step_check.Checking.{above_at, number_26, number_29, number_0, number_at, Right, all_right, stops_at}
use Rattle.journal_call.specs.declared.step_check.pieces.Found.{Found}
use Rattle.journal_call.specs.StepCheck.Stretches.{refused_number, Ready, Stretch, same_kind, same_domain, differs, HaveHomes}
use Rattle.journal_call.proofs.step_check.Stretching.{all_known}

-- the parts of what is found for named steps
pub record Says (c : Checked) (n m : ℕ) (left : LockState) : Type 0 where
  pub number : n ≡ c.number
  pub steps : m ≡ c.steps
  pub state : left ≡ c.state

pub says : {c : Checked} {n m : ℕ} {s : LockState} → record { number = n; steps = m; state = s } ≡ c → Says c n m s
says e = record { number = ap (λ v. v.number) e; steps = ap (λ v. v.steps) e; state = ap (λ v. v.state) e }

-- a step is refused by a number, and by none if nothing refuses it
pub some_refused : (r : Option Reason) → is_some r ≡ true → refused_number r ≢ 0
some_refused (Some reason) e z = reason_numbered reason z
some_refused None e z = absurd (let y : ◌≡◌ {A = ℕ} 0 1 = ap (λ v. cond v 1 0) e in omega arith)

pub none_refused : (r : Option Reason) → is_some r ≡ false → refused_number r ≡ 0
none_refused (Some reason) e = absurd (let y : ◌≡◌ {A = ℕ} 1 0 = ap (λ v. cond v 1 0) e in omega arith)
none_refused None e = refl

-- the state that the run's loop leaves, from its words and counters
pub stepped : (t : Tree) (s : LockState) (is : List ℕ) (m : ℕ) (left : LockState) → left.words ≡ (run t (take m is) s.words).state → left.counters ≡ counters_after t s.counters (steps t (take m is) s.words) → left ≡ after_first t s is m
unfolding run run_of lock_after
stepped t s is m left e f = let each : record { words = left.words; counters = left.counters } ≡ after_first t s is m = rw (e, f) in each

-- what the loop reported for each step
code_at :
    (b : List ℕ) (t : Tree) (is : List ℕ) (s : State) (n k : ℕ) → k < n → n ≤ length is → n ≤ length b →
    get_or (codes_front b (steps t (take n is) s)) k 0 ≡ step_code (step t (get_or is k 0) (state_after s (steps t (take k is) s)))
unfolding codes_front steps state_after
code_at b t is s zero k h l r = absurd (omega arith)
code_at b t [] s (suc n) k h l r = absurd (omega arith)
code_at [] t (i ∷ is) s (suc n) k h l r = absurd (omega arith)
code_at (c ∷ b) t (i ∷ is) s (suc n) zero h l r = refl
code_at (c ∷ b) t (i ∷ is) s (suc n) (suc k) h l r = code_at b t is (step t i s).state n k (omega arith) (omega arith) (omega arith)

module _ (w : TreeWords) (s : LockState) (is ks ds : List ℕ) (g : Ready (tree_of w) s) (st : Found) (S : Stretch (tree_of w) s is st) where
  abbrev t : Tree
  t = tree_of w

  -- the first threads of the piece, which are stepped
  first_known : (m : ℕ) → m ≤ st.steps → AllThreads t (take m is)
  first_known m h =
      let long : length (take m is) ≡ m = length-take-le m is (omega (arith, S.within)) in
      all_known t (take m is) (λ j l. subst (λ v. v < t.threads) (sym (get_or-take m is j 0 (omega (arith, long)))) (S.known j (omega (arith, long))))

  pub tests : (m room : ℕ) → m ≤ st.steps → m ≤ 1024 → m ≤ room → (first_refusal (run_tests_before_19 t s (take m is) room)).number ≡ 0
  tests m room h few fits =
      let long : length (take m is) ≡ m = length-take-le m is (omega (arith, S.within)) in
      ap (λ r. r.number)
      (early_accepted t s (take m is) room
      (record { tree = g.tree; form = g.form; counts = g.counts; short = omega (arith, long); threads = first_known m h; fits = omega (arith, long) }))
      ∙ accepted_number

  small : (j : ℕ) → j < st.steps → get_or is j 0 < 256
  unfolding tree_of
  small j h = omega (arith, S.known j h, few_threads w g.tree)

  -- the lists of the stretch have equal length, and its threads have homes
  pub front_long : (l : List ℕ) → st.steps ≤ length l → length (take st.steps l) ≡ length (take st.steps is)
  front_long l h = length-take-le st.steps l h ∙ sym (length-take-le st.steps is S.within)

  pub front_small : HaveHomes (take st.steps is) (length (take st.steps is))
  front_small j h =
      let inside : j < st.steps = omega (arith, h, length-take-le st.steps is S.within) in
      rw (get_or-take st.steps is j 0 inside) (small j inside)

  module _ (ks_long : length ks ≡ length is) (ds_long : length ds ≡ length is) (codes₀ codes : List ℕ) (room : length codes₀ ≡ 1024) (few : length is ≤ 1024) (reported : codes ≡ codes_front codes₀ (steps t (take st.steps is) s.words)) where
    -- the codes are as many as the steps, at least
    pub codes_long : st.steps ≤ length codes
    codes_long = omega (arith, S.within, few, room, ap length reported, reported_front_length codes₀ (steps t (take st.steps is) s.words))

    -- the first difference of the stretch is that of the piece
    pub lowest_of_front :
        (m : ℕ) → Lowest (length (take st.steps is)) (differs w.homes (take st.steps is) (take st.steps ks) (take st.steps ds) (take st.steps codes)) m →
        Lowest st.steps (differs w.homes is ks ds codes) m
    lowest_of_front m L =
        let long : length (take st.steps is) ≡ st.steps = length-take-le st.steps is S.within in
        record {
          within = omega (arith, L.within, long);
          passed = λ j h. sym (same j (omega (arith, L.within, long))) ∙ L.passed j h;
          fails = λ h. sym (same m h) ∙ L.fails (omega (arith, long));
        }
      where
        same : (j : ℕ) → j < st.steps → differs w.homes (take st.steps is) (take st.steps ks) (take st.steps ds) (take st.steps codes) j ≡ differs w.homes is ks ds codes j
        same j h = rw (get_or-take st.steps is j 0 h, get_or-take st.steps ks j 0 h, get_or-take st.steps ds j 0 h, get_or-take st.steps codes j 0 h)

    module _ (m : ℕ) (L : Lowest st.steps (differs w.homes is ks ds codes) m) where
      -- one step, as it was reported
      module _ (j : ℕ) (h : j < st.steps) where
        abbrev before : LockState
        before = after_first t s is j

        abbrev x : Step
        x = step t (get_or is j 0) before.words

        code : get_or codes j 0 ≡ step_code x
        unfolding lock_after
        code = ap (λ v. get_or v j 0) reported ∙ code_at codes₀ t is s.words st.steps j h S.within (omega (arith, S.within, few, room))

        formed : Formed t before.words
        unfolding FormLaw lock_after run run_of
        formed = (form_law t (sixteen_bit w) g.tree).of_run (take j is) s.words (first_known j (omega arith)) (record { typed = g.typed; form = g.form })

        kind_is : get_or codes j 0 % 8 ≡ kind_number x.kind
        kind_is = ap (λ v. v % 8) code ∙ code_kind x

        domain_is : row_domain (get_or w.homes (get_or is j 0) 0) ((get_or codes j 0 / 8) % 16) (get_or codes j 0 / 128) ≡ x.domain
        domain_is =
            ap (λ v. row_domain (get_or w.homes (get_or is j 0) 0) ((v / 8) % 16) (v / 128)) code
            ∙ domain_of_code w before.words (get_or is j 0) formed.form (S.known j h) (small j h)

        low : any_above (counters_after t before.counters (x ∷ [])) ≡ false
        low = above_at t s is j (omega (arith, S.within)) ∙ S.low j h

        right : differs w.homes is ks ds codes j ≡ false → number_at t s is ks ds j ≡ 0
        right e =
            let both = and_both (same_kind ks codes j) (same_domain w.homes is ds codes j) (not-false _ e) in
            number_0 t before (get_or is j 0) (get_or ks j 0) (get_or ds j 0) (S.known j h) low
            (eqb-true (get_or ks j 0) (get_or codes j 0 % 8) both.0 ∙ kind_is)
            (eqb-true (get_or ds j 0) (row_domain (get_or w.homes (get_or is j 0) 0) ((get_or codes j 0 / 8) % 16) (get_or codes j 0 / 128)) both.1 ∙ domain_is)

        wrong : differs w.homes is ks ds codes j ≡ true → number_at t s is ks ds j ≡ cond (eqb (get_or ks j 0) (get_or codes j 0 % 8)) 29 26
        wrong e =
            elim (ℕ_discrete (get_or ks j 0) (get_or codes j 0 % 8)) [
              | no n ↦
                  rw (ne_eqb (get_or ks j 0) (get_or codes j 0 % 8) n)
                  (number_26 t before (get_or is j 0) (get_or ks j 0) (get_or ds j 0) (S.known j h) low (λ z. n (z ∙ sym kind_is)))
              | yes y ↦
                  let same = eq-eqb (get_or ks j 0) (get_or codes j 0 % 8) y in
                  let D = row_domain (get_or w.homes (get_or is j 0) 0) ((get_or codes j 0 / 8) % 16) (get_or codes j 0 / 128) in
                  rw same
                  (number_29 t before (get_or is j 0) (get_or ks j 0) (get_or ds j 0) (S.known j h) low (y ∙ kind_is)
                  (λ z. eqb-false (get_or ds j 0) D (other (same_kind ks codes j) (same_domain w.homes is ds codes j) e same) (z ∙ sym domain_is)))
            ]
          where
            other : (a b : Bool) → not (a && b) ≡ true → a ≡ true → b ≡ false
            other true true e f = sym e
            other true false e f = refl
            other false b e f = absurd (let z : ◌≡◌ {A = ℕ} 0 1 = ap (λ v. cond v 1 0) f in omega arith)

      so_far : (n : ℕ) → n ≤ m → Right t s is ks ds n
      so_far n h j l = right j (omega (arith, L.within)) (L.passed j (omega arith))

      -- no step is wrong
      pub piece_passes : st.steps ≤ m → Says (checked t s is ks ds) (refused_number st.refused) st.steps (after_first t s is st.steps)
      piece_passes h =
          let n = refused_number st.refused in
          let all : checked t s is ks ds ≡ record { number = n; steps = st.steps; state = after_first t s is st.steps } =
          elim (ℕ_discrete n 0) [
            | yes z ↦
                let whole = S.goes_on z in
                all_right t s is ks ds ks_long ds_long (so_far (length is) (omega (arith, whole))) ∙ rw (whole, z)
            | no z ↦ stops_at t s is ks ds st.steps n ks_long ds_long (S.stops z) (so_far st.steps h) (S.refuses z _ _) z
          ] in
          says (sym all)

      -- a step is wrong
      pub piece_stops :
          m < st.steps → (reason : Reason) → number_of reason ≡ cond (eqb (get_or ks m 0) (get_or codes m 0 % 8)) 29 26 →
          Says (checked t s is ks ds) (number_of reason) m (after_first t s is m)
      piece_stops h reason e =
          let n = wrong m h (L.fails h) in
          says (sym (stops_at t s is ks ds m (number_of reason) ks_long ds_long (omega (arith, S.within)) (so_far m (omega arith)) (n ∙ sym e) (reason_numbered reason)))
