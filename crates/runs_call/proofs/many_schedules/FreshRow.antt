-- A row of many schedules: the schedule's tests and the run from fresh words give the row of its run alone.
use mathlib.Core.Path.{◌≡◌, sym, ap, ◌∙◌}
use mathlib.Core.List.{List}
use Prim.Native.Nat.{ℕ, ◌≤◌}
use native.Mathlib.Omega.{arith}
use lib.ListN.{length, replicate, length-replicate}
use Rattle.model.specs.declared.TreeWords.{TreeWords}
use Rattle.model.specs.declared.Counts.{Counts}
use Rattle.model.specs.Trees.{tree_of}
use Rattle.model.specs.States.{fresh_words}
use Rattle.model.specs.Counters.{fresh_lock}
use Rattle.model.specs.Runs.{steps}
use Rattle.model.specs.Refusals.{Refusal, refusal, accepted, first_refusal, bad_entry, tree_refusal, run_tests_before_19, run_refusal}
use Rattle.model.specs.Answers.{no_counts, run_reply, run_answer}
use Rattle.model.proofs.Laws.Refusals.{accepted_number}
use Rattle.model.proofs.Laws.Calls.{GoodRun, run_facts, early_accepted}
use Rattle.refusals.specs.declared.reasons.Refusal as refusals
use Rattle.refusals.specs.Reasons.{number_of}
use Rattle.refusals.proofs.Refusing.{error_numbered, ok_numbered}
use Rattle.refusals.specs.Arrays.{threads_in, schedule_room_tests}
use Rattle.schedules.specs.Rows.{alone, row_of}
use Rattle.runs_call.specs.ManySchedules.Numbers.{row_numbers}
use Rattle.schedules.proofs.Alone.{schedule_decides}
use Rattle.lock.specs.Steps.Running.{kinds_of, counts_by}
use borrow.Author.Tests.{eq-eqb}
use Rattle.lock.proofs.steps.Answering.{refused_state, run_refuses, kinds_few, counts_run}

module _ (w : TreeWords) (ok : (tree_refusal (tree_of w)).number ≡ 0) (is : List ℕ) where
  -- a trace buffer of the schedule's length, as in a run alone
  abbrev own : List ℕ
  own = replicate (length is) 0

  met : (q : Refusal) → q ≡ first_refusal (schedule_room_tests (threads_in w.threads) is (length is)) → q ≡ run_refusal (tree_of w) fresh_lock is (length own)
  unfolding bad_entry tree_of
  met q e = e ∙ sym (rw (length-replicate {A = ℕ} (length is) 0) (schedule_decides w ok is (length is)))

  pub row_refuses :
      (x : refusals.Refusal) → refusal (number_of x.reason) x.place ≡ first_refusal (schedule_room_tests (threads_in w.threads) is (length is)) →
      row_numbers (number_of x.reason) x.place no_counts ≡ row_of (alone w is)
  unfolding alone row_of refusal
  row_refuses x e = ap row_of (run_refuses w fresh_lock is own x (met _ e) fresh_lock (refused_state w fresh_lock is own (error_numbered x (met _ e))))

  module _ (z : accepted ≡ first_refusal (schedule_room_tests (threads_in w.threads) is (length is))) where
    abbrev facts : GoodRun (tree_of w) fresh_lock is (length own)
    facts = run_facts (tree_of w) fresh_lock is (length own) (ok_numbered (met _ z))

    pub steps_pass : (room : ℕ) → 65536 ≤ room → (first_refusal (run_tests_before_19 (tree_of w) fresh_lock is room)).number ≡ 0
    steps_pass room h =
        ap (λ x. x.number) (early_accepted (tree_of w) fresh_lock is room
        (record { tree = facts.tree; form = facts.form; counts = facts.counts; short = facts.short; threads = facts.threads; fits = omega (arith, facts.short) })) ∙ accepted_number

    module _ (kinds : List ℕ) (k : kinds ≡ kinds_of (steps (tree_of w) is fresh_words)) where
      pub kinds_of_row : (counts_by kinds).steps ≤ 65536
      kinds_of_row = kinds_few w fresh_lock is own (ok_numbered (met _ z)) kinds k

      pub row_answered : (counts : Counts) → counts ≡ counts_by kinds → row_numbers 0 0 counts ≡ row_of (alone w is)
      unfolding alone row_of run_answer run_reply
      row_answered counts c =
          let p = eq-eqb (run_refusal (tree_of w) fresh_lock is (length own)).number 0 (ok_numbered (met _ z)) in
          rw (p, counts_run w fresh_lock is kinds counts k c)
