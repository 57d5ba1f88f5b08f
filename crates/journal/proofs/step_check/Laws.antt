-- The laws of the check of steps.
use mathlib.Core.Path.{◌≡◌, sym, ap, ◌∙◌}
use mathlib.Core.Bool.{true}
use mathlib.Core.List.{List, ◌++◌}
use mathlib.Core.Logic.{◌≢◌}
use Prim.Native.Nat.{ℕ, ◌+◌, ◌≤◌}
use native.Mathlib.Omega.{arith}
use native.Mathlib.Decide.{ℕ_discrete}
use lib.ListN.{length, take, get_or, length-append}
use borrow.Author.Tests.{eq-eqb, ne_eqb}
use Rattle.model.specs.declared.TreeWords.{TreeWords}
use Rattle.model.specs.declared.LockState.{LockState}
use Rattle.model.specs.Trees.{Tree, tree_of}
use Rattle.model.specs.Runs.{steps, run_of, run}
use Rattle.model.specs.WellFormed.{well_formed}
use Rattle.model.specs.Counters.{lock_after, good_counts}
use Rattle.model.specs.Refusals.{tree_refusal, run_refusal}
use Rattle.model.specs.Answers.{counters_after_run, run_reply, run_answer}
use Rattle.model.specs.Laws.{Formed}
use Rattle.model.proofs.Laws.Calls.{run_reply_number}
use Rattle.model.proofs.Laws.Refusals.{accepted_number}
use Rattle.model.proofs.Trees.Accepted.{sixteen_bit}
use Rattle.refusals.specs.StateCheck.Answers.{check_refusal}
use Rattle.refusals.specs.StateCheck.Laws.{CheckRefusalLaw, AcceptedLaw}
use Rattle.refusals.proofs.state_check.Checking.{check_refusal_law, accepted_law}
use Rattle.journal.specs.declared.step_check.StepsReply.{StepsReply}
use Rattle.journal.specs.StepCheck.Answers.{early_refusal, Checked, checked, replied, refused, steps_answer}
use Rattle.journal.specs.StepCheck.Laws.{EarlyLaw, OfTheTable, after_first, RefusedAt, ExactlyLaw, StateLaw, Acceptable, ReturnedStateLaw, PiecesLaw}
use Rattle.journal.proofs.step_check.Checking.{after_none, number_at, all_right, stops_at, shifted, then_checked, checked_join}
use Rattle.journal.proofs.step_check.Keeping.{checked_kept, checked_full, checked_few}
use Rattle.journal.proofs.step_check.Early.{exactly, early_passes, lengths_pass}
use Rattle.journal.proofs.step_check.Tables.{right_of, first_table, first_right, table_of, refused_step, number_of, Outcome, all, first_wrong, outcome}

-- THE ANSWER, by whether anything refuses before the steps
module _ (w : TreeWords) (s : LockState) (is ks ds : List ℕ) where
  pub refused_early : (early_refusal (tree_of w) s is ks ds).number ≢ 0 → steps_answer w s is ks ds ≡ refused (early_refusal (tree_of w) s is ks ds) s
  unfolding steps_answer
  refused_early n = rw (ne_eqb (early_refusal (tree_of w) s is ks ds).number 0 n)

  pub checked_late : (early_refusal (tree_of w) s is ks ds).number ≡ 0 → steps_answer w s is ks ds ≡ replied (checked (tree_of w) s is ks ds)
  unfolding steps_answer
  checked_late z = rw (eq-eqb (early_refusal (tree_of w) s is ks ds).number 0 z)

pub early_law : EarlyLaw
unfolding EarlyLaw
early_law w s is ks ds =
    record {
      exactly = exactly (tree_of w) s is ks ds;
      lengths = λ z. (early_passes (tree_of w) s is ks ds z).1;
      untouched = refused_early w s is ks ds;
    }

-- EXACTLY WHEN IT ACCEPTS, AND WHICH STEP IT REFUSES
module _ (w : TreeWords) (s : LockState) (is ks ds : List ℕ) (z : (early_refusal (tree_of w) s is ks ds).number ≡ 0) where
  abbrev t : Tree
  t = tree_of w

  abbrev c : Checked
  c = checked t s is ks ds

  abbrev r : StepsReply
  r = steps_answer w s is ks ds

  ks_long : length ks ≡ length is
  ks_long = (early_passes t s is ks ds z).1.0

  ds_long : length ds ≡ length is
  ds_long = (early_passes t s is ks ds z).1.1

  number_is : r.number ≡ c.number
  number_is = ap (λ v. v.number) (checked_late w s is ks ds z)

  accepts_then : r.number ≡ 0 → OfTheTable t s is ks ds
  accepts_then e = by (outcome t s is ks ds ks_long ds_long)
    where
      by : Outcome (tree_of w) s is ks ds → OfTheTable (tree_of w) s is ks ds
      by (all g f) = table_of (tree_of w) s is ks ds ks_long ds_long g
      by (first_wrong m h g n f) = absurd (n (sym (ap (λ v. v.number) f) ∙ sym number_is ∙ e))

  accepts_if : OfTheTable t s is ks ds → r.number ≡ 0
  accepts_if g = number_is ∙ ap (λ v. v.number) (all_right t s is ks ds ks_long ds_long (right_of t s is ks ds g))

  -- if a step is wrong
  stopped_at : (n m : ℕ) → n ≢ 0 → c ≡ record { number = n; steps = m; state = after_first t s is m } → (r.number ≡ n) × (r.place ≡ m)
  stopped_at n m q f =
      let e = checked_late w s is ks ds z ∙ ap replied f in
      (ap (λ v. v.number) e, ap (λ v. v.place) e ∙ rw (ne_eqb n 0 q))

  refuses_then : (n p : ℕ) → n ≢ 0 → (r.number ≡ n) × (r.place ≡ p) → RefusedAt t s is ks ds n p
  refuses_then n p q e = by (outcome t s is ks ds ks_long ds_long)
    where
      by : Outcome (tree_of w) s is ks ds → RefusedAt (tree_of w) s is ks ds n p
      by (all g f) = absurd (q (sym e.0 ∙ number_is ∙ ap (λ v. v.number) f))
      by (first_wrong m h g v f) =
          let stopped = stopped_at _ m v f in
          let at : p ≡ m = sym e.1 ∙ stopped.1 in
          let same : number_at (tree_of w) s is ks ds m ≡ n = sym stopped.0 ∙ e.0 in
          rw at
          (record {
            within = h;
            before = first_table (tree_of w) s is ks ds m (omega arith) ks_long ds_long g;
            refused_step = refused_step (tree_of w) (after_first (tree_of w) s is m) (get_or is m 0) (get_or ks m 0) (get_or ds m 0) n q same;
          })

  refuses_if : (n p : ℕ) → n ≢ 0 → RefusedAt t s is ks ds n p → (r.number ≡ n) × (r.place ≡ p)
  refuses_if n p q g =
      let h = g.within in
      let right = first_right t s is ks ds p (omega arith) g.before in
      let number = number_of t (after_first t s is p) (get_or is p 0) (get_or ks p 0) (get_or ds p 0) n g.refused_step in
      stopped_at n p q (stops_at t s is ks ds p n ks_long ds_long h right number q)

  -- the state that is left
  state_is : c.state ≡ after_first t s is c.steps
  state_is = by (outcome t s is ks ds ks_long ds_long)
    where
      by : Outcome (tree_of w) s is ks ds → (checked (tree_of w) s is ks ds).state ≡ after_first (tree_of w) s is (checked (tree_of w) s is ks ds).steps
      by (all g f) = rw f
      by (first_wrong m h g n f) = rw f

pub exactly_law : ExactlyLaw
unfolding ExactlyLaw
exactly_law w s is ks ds z =
    record {
      accepts = (accepts_then w s is ks ds z, accepts_if w s is ks ds z);
      refuses = λ n p q. (refuses_then w s is ks ds z n p q, refuses_if w s is ks ds z n p q);
    }

-- THE STATE
module _ (w : TreeWords) (s : LockState) (is ks ds : List ℕ) where
  few : (steps_answer w s is ks ds).checked ≤ length is
  few =
      elim (ℕ_discrete (early_refusal (tree_of w) s is ks ds).number 0) [
        | yes z ↦ omega (arith, ap (λ v. v.checked) (checked_late w s is ks ds z), checked_few (tree_of w) s is ks ds)
        | no n ↦ omega (arith, ap (λ v. v.checked) (refused_early w s is ks ds n))
      ]

  left : (steps_answer w s is ks ds).state ≡ after_first (tree_of w) s is (steps_answer w s is ks ds).checked
  left =
      elim (ℕ_discrete (early_refusal (tree_of w) s is ks ds).number 0) [
        | yes z ↦ rw (checked_late w s is ks ds z) (state_is w s is ks ds z)
        | no n ↦ rw (refused_early w s is ks ds n) (sym (after_none (tree_of w) s is))
      ]

  ran : (is' b : List ℕ) → (run_answer w s is' b).number ≡ 0 → (run_answer w s is' b).state ≡ lock_after (tree_of w) s (steps (tree_of w) is' s.words)
  unfolding run_answer run_reply lock_after run run_of counters_after_run
  ran is' b e =
      let q = run_refusal (tree_of w) s is' (length b) in
      let z : q.number ≡ 0 = sym (run_reply_number q s (run (tree_of w) is' s.words) (counters_after_run (tree_of w) is' s)) ∙ e in
      rw (eq-eqb q.number 0 z)

pub state_law : StateLaw
unfolding StateLaw
state_law w s is ks ds =
    record {
      few = few w s is ks ds;
      all = λ z e.
          let late = checked_late w s is ks ds z in
          let long = (early_passes (tree_of w) s is ks ds z).1 in
          ap (λ v. v.checked) late ∙ checked_full (tree_of w) s is ks ds long.0 long.1 (sym (ap (λ v. v.number) late) ∙ e);
      before_place = λ z n.
          let late = checked_late w s is ks ds z in
          rw late (rw (ne_eqb (checked (tree_of w) s is ks ds).number 0 (λ y. n (ap (λ v. v.number) late ∙ y))));
      state = left w s is ks ds;
      as_run = λ b e. left w s is ks ds ∙ sym (ran w s is ks ds (take (steps_answer w s is ks ds).checked is) b e);
    }

-- THE NEXT CALL ACCEPTS THE STATE
module _ (w : TreeWords) (s : LockState) (is ks ds : List ℕ) (f : Formed (tree_of w) s.words) (z : (early_refusal (tree_of w) s is ks ds).number ≡ 0) where
  facts : ((tree_refusal (tree_of w)).number ≡ 0) × (well_formed (tree_of w) s.words ≡ true) × (good_counts (tree_of w) s.counters ≡ true)
  unfolding check_refusal CheckRefusalLaw AcceptedLaw
  facts = (accepted_law (tree_of w) s).0 ((check_refusal_law (tree_of w) s).zero_accepted (early_passes (tree_of w) s is ks ds z).0)

  kept : Acceptable (tree_of w) (checked (tree_of w) s is ks ds).state
  kept =
      let k = checked_kept (tree_of w) facts.0 (sixteen_bit w) s is ks ds (record { form = f; counts = facts.2 }) in
      record { form = k.form; counts = k.counts }

  pub taken : Acceptable (tree_of w) (steps_answer w s is ks ds).state
  taken = rw (checked_late w s is ks ds z) kept

  -- so the next check refuses nothing before its steps if its lists have the same length
  pub next_passes :
      (is' ks' ds' : List ℕ) → length ks' ≡ length is' → length ds' ≡ length is' → (early_refusal (tree_of w) (steps_answer w s is ks ds).state is' ks' ds').number ≡ 0
  unfolding AcceptedLaw
  next_passes is' ks' ds' a b =
      let s' = (steps_answer w s is ks ds).state in
      let e = (accepted_law (tree_of w) s').1 (facts.0, taken.form.form, taken.counts) in
      ap (λ v. v.number) (lengths_pass (tree_of w) s' is' ks' ds' (ap (λ v. v.number) e ∙ accepted_number) a b) ∙ accepted_number

  -- and neither does one check of both lists
  pub both_pass :
      (is' ks' ds' : List ℕ) → length ks' ≡ length is' → length ds' ≡ length is' → (early_refusal (tree_of w) s (is ++ is') (ks ++ ks') (ds ++ ds')).number ≡ 0
  both_pass is' ks' ds' a b =
      let l = early_passes (tree_of w) s is ks ds z in
      ap (λ v. v.number)
      (lengths_pass (tree_of w) s (is ++ is') (ks ++ ks') (ds ++ ds') l.0
      (omega (arith, length-append ks ks', length-append is is', l.1.0)) (omega (arith, length-append ds ds', length-append is is', l.1.1)))
      ∙ accepted_number

pub returned_state_law : ReturnedStateLaw
unfolding ReturnedStateLaw
returned_state_law w s is ks ds f z = taken w s is ks ds f z

-- PIECES
module _ (w : TreeWords) (s : LockState) (is ks ds is' ks' ds' : List ℕ) (f : Formed (tree_of w) s.words) (z : (early_refusal (tree_of w) s is ks ds).number ≡ 0) (a : length ks' ≡ length is') (b : length ds' ≡ length is') where
  abbrev one : Checked
  one = checked (tree_of w) s is ks ds

  abbrev first : StepsReply
  first = steps_answer w s is ks ds

  abbrev second : StepsReply
  second = steps_answer w first.state is' ks' ds'

  abbrev whole : StepsReply
  whole = steps_answer w s (is ++ is') (ks ++ ks') (ds ++ ds')

  long : (length ks ≡ length is) × (length ds ≡ length is)
  long = (early_passes (tree_of w) s is ks ds z).1

  whole_is : whole ≡ replied (then_checked one (λ s'. checked (tree_of w) s' is' ks' ds'))
  whole_is =
      checked_late w s (is ++ is') (ks ++ ks') (ds ++ ds') (both_pass w s is ks ds f z is' ks' ds' a b)
      ∙ ap replied (checked_join (tree_of w) s is ks ds is' ks' ds' long.0 long.1)

  first_is : first ≡ replied one
  first_is = checked_late w s is ks ds z

  stops_first : first.number ≢ 0 → whole ≡ first
  unfolding then_checked
  stops_first n = whole_is ∙ rw (ne_eqb one.number 0 (λ y. n (ap (λ v. v.number) first_is ∙ y))) (sym first_is)

  second_is : second ≡ replied (checked (tree_of w) first.state is' ks' ds')
  second_is = checked_late w first.state is' ks' ds' (next_passes w s is ks ds f z is' ks' ds' a b)

  -- if the first is accepted
  module _ (e : first.number ≡ 0) where
    zero : one.number ≡ 0
    zero = sym (ap (λ v. v.number) first_is) ∙ e

    all_counted : one.steps ≡ length is
    all_counted = checked_full (tree_of w) s is ks ds long.0 long.1 zero

    joined : whole ≡ replied (shifted (length is) (checked (tree_of w) first.state is' ks' ds'))
    unfolding then_checked
    joined = whole_is ∙ rw (eq-eqb one.number 0 zero) (rw (all_counted, ap (λ v. v.state) first_is))

pub pieces_law : PiecesLaw
unfolding PiecesLaw
pieces_law w s is ks ds is' ks' ds' f z a b =
    record {
      first_refused = stops_first w s is ks ds is' ks' ds' f z a b;
      number = λ e. ap (λ v. v.number) (joined w s is ks ds is' ks' ds' f z a b e) ∙ sym (ap (λ v. v.number) (second_is w s is ks ds is' ks' ds' f z a b));
      place = λ e n.
          let two = second_is w s is ks ds is' ks' ds' f z a b in
          let q = ne_eqb (checked (tree_of w) (steps_answer w s is ks ds).state is' ks' ds').number 0 (λ y. n (ap (λ v. v.number) two ∙ y)) in
          ap (λ v. v.place) (joined w s is ks ds is' ks' ds' f z a b e) ∙ rw q (ap (λ v. length is + v) (sym (ap (λ v. v.place) two ∙ rw q)));
      as_many = λ e. ap (λ v. v.checked) (joined w s is ks ds is' ks' ds' f z a b e) ∙ ap (λ v. length is + v) (sym (ap (λ v. v.checked) (second_is w s is ks ds is' ks' ds' f z a b)));
      state = λ e. ap (λ v. v.state) (joined w s is ks ds is' ks' ds' f z a b e) ∙ sym (ap (λ v. v.state) (second_is w s is ks ds is' ks' ds' f z a b));
    }
