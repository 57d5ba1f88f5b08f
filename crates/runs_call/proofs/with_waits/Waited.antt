-- The answers of a run with waits, from those of the refusals and the run in pieces.
use mathlib.Core.Path.{◌≡◌, sym, ap, ◌∙◌}
use mathlib.Core.List.{List, ◌++◌}
use Prim.Native.Nat.{ℕ, zero, suc, ◌+◌, ◌-◌, ◌*◌, ◌≤◌}
use native.Mathlib.Omega.{arith}
use lib.ListN.{length, drop, replicate, length-replicate}
use lib.Seq.{sets, sets-eq}
use borrow.Author.Tests.{ne_eqb, eq-eqb}
use Rattle.model.specs.declared.TreeWords.{TreeWords}
use Rattle.model.specs.declared.LockState.{LockState}
use Rattle.model.specs.Counters.{counters_after}
use Rattle.model.specs.declared.Counts.{Counts}
use Rattle.model.specs.Trees.{Tree, tree_of}
use Rattle.model.specs.Runs.{steps, counts_of, run}
use Rattle.model.specs.Refusals.{Refusal, refusal, run_refusal}
use Rattle.refusals.specs.declared.reasons.Refusal as refusals
use Rattle.refusals.specs.Reasons.{number_of}
use Rattle.refusals.proofs.Refusing.{error_numbered}
use Rattle.model.specs.Answers.{counters_after_run, no_counts, run_reply, run_buffer}
use Rattle.model.proofs.Laws.Runs.{steps_length}
use Rattle.model.proofs.Laws.Calls.{run_facts}
use Rattle.schedules.specs.Answers.{row_buffer}
use Rattle.waits.specs.Attempts.{under_way_below}
use Rattle.waits.specs.Rows.{all_rows_from}
use Rattle.waits.specs.Refusals.{waits_on_refusal}
use Rattle.waits.specs.Answers.{waits_reply, refused_on, waits_on_answer, waits_on_trace, waits_on_rows, waits_on_under_way}
use Rattle.waits.specs.Laws.{WaitsRefusalLaw}
use Rattle.waits.proofs.Refusing.{early_passes, early_zero, waits_refusal_law}
use Rattle.waits.proofs.RefusingOn.{on_accepted}
use Rattle.waits.proofs.Buffers.{all_from_long, numbers_long}
use Rattle.runs_call.specs.WithWaits.Waiting.{HandedIn}
use Rattle.runs_call.proofs.with_waits.Pieces.{threads_few}
use Rattle.lock.proofs.steps.SoFar.{counts_kinds}
use Rattle.lock.specs.Steps.Running.{kinds_of, counts_by, trace_front}

-- zeros without the first ones
drop_zeros : (m n : ℕ) → drop {A = ℕ} n (replicate m 0) ≡ replicate (m - n) 0
drop_zeros m zero = let z : m - 0 ≡ m = omega arith in rw z
drop_zeros zero (suc n) = let z : 0 - suc n ≡ 0 = omega arith in rw z
drop_zeros (suc m) (suc n) = let z : suc m - suc n ≡ m - n = omega arith in rw z (drop_zeros m n)

-- an accepted call: the run passes, the rows fit, and the numbers are valid
good :
    (t : Tree) (s : LockState) (is : List ℕ) (room n : ℕ) (us : List ℕ) → (waits_on_refusal t s is room n us).number ≡ 0 →
    ((run_refusal t s is room).number ≡ 0) × ((5 * (t.threads + 1) ≤ n) × HandedIn us)
unfolding WaitsRefusalLaw
good t s is room n us e =
    let ok = on_accepted t s is room n us e in
    let passes = early_passes t s is room n (early_zero t s is room n ok.0) in
    (sym (ap (λ r. r.number) ((waits_refusal_law t s is room n).rows_fit passes.0 passes.1)) ∙ ok.0, (passes.1, record { small = λ i h. (ok.1 i h).0 }))

module _ (w : TreeWords) (s : LockState) (is b rs us : List ℕ) where
  abbrev refused_by : Refusal
  refused_by = waits_on_refusal (tree_of w) s is (length b) (length rs) us

  -- state and buffers are those of the call
  abbrev Answers : LockState → (trace rows under_way : List ℕ) → Type 0
  Answers left b' rs' us' =
      (left ≡ (waits_on_answer w s is b rs us).state) × ((b' ≡ waits_on_trace w s is b rs us) × ((rs' ≡ waits_on_rows w s is b rs us) × (us' ≡ waits_on_under_way w s is b rs us)))

  pub waits_refuse : (refused_by.number ≡ 0 → ⊥) → Answers s b rs us
  unfolding waits_on_answer waits_reply run_reply waits_on_trace run_buffer waits_on_rows row_buffer waits_on_under_way refused_on
  waits_refuse n = let m = ne_eqb refused_by.number 0 n in (rw m, (rw m, (rw m, rw m)))

  -- the reply with the state that is left
  pub reply_refused : (x : refusals.Refusal) → refusal (number_of x.reason) x.place ≡ refused_on w s is b rs us → (left : LockState) → left ≡ (waits_on_answer w s is b rs us).state →
      record { number = number_of x.reason; place = x.place; counts = no_counts; rows = 0; state = left } ≡ waits_on_answer w s is b rs us
  unfolding waits_on_answer waits_reply run_reply refused_on refusal
  reply_refused x e left f = let m = ne_eqb refused_by.number 0 (error_numbered x e) in rw (f, m, sym e)

  module _ (z : refused_by.number ≡ 0) where
    pub waits_pass : ((run_refusal (tree_of w) s is (length b)).number ≡ 0) × ((5 * ((tree_of w).threads + 1) ≤ length rs) × HandedIn us)
    waits_pass = good (tree_of w) s is (length b) (length rs) us z

    pub waits_kinds_few : (kinds : List ℕ) → kinds ≡ kinds_of (steps (tree_of w) is s.words) → (counts_by kinds).steps ≤ 65536
    unfolding counts_of
    waits_kinds_few kinds f =
        let n : (counts_by kinds).steps ≡ length (steps (tree_of w) is s.words) = ap (λ v. (counts_by v).steps) f ∙ ap (λ v. v.steps) (counts_kinds (steps (tree_of w) is s.words)) in
        omega (arith, n, steps_length (tree_of w) is s.words, (run_facts (tree_of w) s is (length b) waits_pass.0).short)

    pub waits_threads_few : (tree_of w).threads ≤ 256
    waits_threads_few = threads_few w (run_facts (tree_of w) s is (length b) waits_pass.0).tree

    -- numbers stored at the front of a buffer that is long enough
    stored : (xs l l' : List ℕ) → l' ≡ sets l 0 xs → length xs ≤ length l → l' ≡ xs ++ drop (length xs) l
    stored xs l l' f h =
        let z0 : 0 + length xs ≡ length xs = omega arith in
        f ∙ sets-eq xs l 0 (omega arith) ∙ rw z0

    pub waits_answered :
        (left : LockState) (b' rs' us' : List ℕ) → left.words ≡ (run (tree_of w) is s.words).state → b' ≡ trace_front b (run (tree_of w) is s.words) →
        rs' ≡ sets rs 0 (all_rows_from (tree_of w) us (steps (tree_of w) is s.words)) →
        us' ≡ sets (replicate 256 0) 0 (under_way_below (tree_of w) us (tree_of w).threads (steps (tree_of w) is s.words)) →
        left.counters ≡ counters_after (tree_of w) s.counters (steps (tree_of w) is s.words) → Answers left b' rs' us'
    unfolding waits_on_answer waits_reply run_reply waits_on_trace run_buffer waits_on_rows row_buffer waits_on_under_way refused_on counters_after_run
    waits_answered left b' rs' us' g h f u c =
        let xs = steps (tree_of w) is s.words in
        let p = eq-eqb refused_by.number 0 z in
        let rows = stored (all_rows_from (tree_of w) us xs) rs rs' f (omega (arith, all_from_long (tree_of w) us xs, waits_pass.1.0)) in
        let long = numbers_long (tree_of w) us xs (tree_of w).threads in
        let numbers = stored (under_way_below (tree_of w) us (tree_of w).threads xs) (replicate 256 0) us' u (omega (arith, long, waits_threads_few, length-replicate {A = ℕ} 256 0)) in
        let each : record { words = left.words; counters = left.counters } ≡ (waits_on_answer w s is b rs us).state = rw (g, c, p) in
        (each, (h ∙ rw p, (rows ∙ rw p, numbers ∙ rw (long, drop_zeros 256 (tree_of w).threads, p))))

    pub reply_accepted : (counts : Counts) (left : LockState) → counts ≡ (run (tree_of w) is s.words).counts → left ≡ (waits_on_answer w s is b rs us).state →
        record { number = 0; place = 0; counts = counts; rows = (tree_of w).threads + 1; state = left } ≡ waits_on_answer w s is b rs us
    unfolding waits_on_answer waits_reply run_reply refused_on
    reply_accepted counts left k f = let p = eq-eqb refused_by.number 0 z in rw (f, k, p)
