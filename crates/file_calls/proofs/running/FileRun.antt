-- The run of the file call in buffers longer than needed: the same answer, with its trace at the front.
use mathlib.Core.Path.{◌≡◌, refl, ◌∙◌, ap}
use mathlib.Core.Bool.{Bool, true, false}
use mathlib.Core.List.{List}
use Prim.Native.Nat.{ℕ, ◌-◌, ◌/◌, ◌≤◌}
use native.Mathlib.Omega.{arith}
use lib.Dec.{eqb}
use lib.ListN.{length, take, drop, replicate, length-replicate}
use lib.Seq.{take_at}
use borrow.Author.Tests.{le-ltb, ne_eqb, eq-eqb}
use Rattle.model.specs.declared.TreeWords.{TreeWords}
use Rattle.model.specs.declared.State.{State}
use Rattle.model.specs.declared.Counters.{Counters}
use Rattle.model.specs.declared.LockState.{LockState}
use Rattle.model.specs.declared.Counts.{Counts}
use Rattle.model.specs.Counters.{lock_state, fresh_counters, fresh_lock}
use Rattle.model.specs.Trees.{Tree, tree_of}
use Rattle.model.specs.States.{fresh_words}
use Rattle.model.specs.Steps.{is_entry}
use Rattle.model.specs.Runs.{Run, steps, counts_of, run_of, run}
use Rattle.model.specs.Refusals.{Refusal, lowest_bad, first_refusal, bad_room, tree_tests, run_tests, refusal, accepted, run_refusal}
use Rattle.model.specs.Answers.{counters_after_run, run_accepted, run_refused, run_reply, run_buffer, run_answer, trace_answer}
use Rattle.model.specs.Laws.{CountLaw}
use Rattle.model.proofs.Tests.{by_test}
use Rattle.model.proofs.Laws.Runs.{steps_length, count_law}
use Rattle.model.proofs.Counted.{how_many_most}
use Rattle.lock_file.specs.Reading.{entries_from, entries_at, filled}
use Rattle.lock_file.proofs.Positions.{entries_length}
use Rattle.lock_file.specs.PrintedListing.Listing.{listing}
use Rattle.lock_file.specs.FileAnswers.FileAnswers.{refused_by, listing_outcome, tree_outcome, run_outcome, file_run, file_trace}
use Rattle.refusals.specs.declared.reasons.Refusal as reasons
use Rattle.refusals.specs.Reasons.{number_of}
use Rattle.refusals.proofs.Refusing.{error_numbered, ok_numbered}
use Rattle.lock.specs.Steps.Running.{fresh_from}

-- the schedule at the front of its buffer
pub schedule_front :
    (bs : List ℕ) (n at : ℕ) (l : List ℕ) → n ≤ length l → take n (filled (entries_from bs n at) l) ≡ entries_from bs n at
unfolding filled
schedule_front bs n at l h =
    let is = entries_from bs n at in
    let long = entries_length bs n at in
    rw (le-ltb (length l) (length is) (omega arith)) (take_at is (drop (length is) l) n long)

-- a run has at most one entry per step
pub entries_within : (t : Tree) (is : List ℕ) (s : State) → (run t is s).counts.entries ≤ length is
unfolding run run_of counts_of
entries_within t is s = omega (arith, how_many_most is_entry (steps t is s), steps_length t is s)

-- a longer trace buffer makes no difference
room_same :
    (t : Tree) (s : LockState) (is : List ℕ) (a b : ℕ) → length is ≤ a → length is ≤ b → run_refusal t s is a ≡ run_refusal t s is b
unfolding run_refusal run_tests tree_tests first_refusal lowest_bad bad_room
room_same t s is a b h g = rw (le-ltb a (length is) h, le-ltb b (length is) g)

pub run_same : (w : TreeWords) (is buffer : List ℕ) → length is ≤ length buffer → run_answer w fresh_lock is buffer ≡ file_run w is
unfolding file_run run_answer
run_same w is buffer h =
    let own : List ℕ = replicate (length is) 0 in
    let enough : length is ≤ length own = omega (arith, length-replicate {A = ℕ} (length is) 0) in
    rw (room_same (tree_of w) fresh_lock is (length buffer) (length own) h enough)

-- the listing of a run uses only the front of its trace buffer
front_listed :
    (r : Refusal) (s : LockState) (x : Run) (c : Counters) (buffer : List ℕ) (room : ℕ) → length x.trace ≡ x.counts.entries →
    run_outcome (run_reply r s x c) (take (run_reply r s x c).counts.entries (run_buffer r buffer x)) room
    ≡ run_outcome (run_reply r s x c) x.trace room
unfolding run_reply run_buffer run_outcome
front_listed r s x c buffer room h = by (eqb r.number 0) refl
  where
    by :
        (b : Bool) → eqb r.number 0 ≡ b →
        run_outcome (run_reply r s x c) (take (run_reply r s x c).counts.entries (run_buffer r buffer x)) room
        ≡ run_outcome (run_reply r s x c) x.trace room
    by true e = rw (e, take_at x.trace (drop (length x.trace) buffer) x.counts.entries h)
    by false e = rw (e, e)

pub run_listed :
    (w : TreeWords) (is buffer : List ℕ) (room : ℕ) → length is ≤ length buffer →
    run_outcome (run_answer w fresh_lock is buffer) (take (run_answer w fresh_lock is buffer).counts.entries (trace_answer w fresh_lock is buffer)) room
    ≡ tree_outcome w is room
unfolding run_answer trace_answer file_trace CountLaw
run_listed w is buffer room h =
    front_listed (run_refusal (tree_of w) fresh_lock is (length buffer)) fresh_lock (run (tree_of w) is fresh_words) (counters_after_run (tree_of w) is fresh_lock) buffer room
    (count_law (tree_of w) is fresh_words).traced
    ∙ ap (λ r. run_outcome r (run (tree_of w) is fresh_words).trace room) (run_same w is buffer h)

-- a run has at most as many entries as its schedule
pub replied_within : (w : TreeWords) (is buffer : List ℕ) → (run_answer w fresh_lock is buffer).counts.entries ≤ length is
unfolding run_answer run_reply
replied_within w is buffer =
    by_test (λ r. r.counts.entries ≤ length is) (eqb (run_refusal (tree_of w) fresh_lock is (length buffer)).number 0)
    (run_accepted (run (tree_of w) is fresh_words) (counters_after_run (tree_of w) is fresh_lock)) (run_refused (run_refusal (tree_of w) fresh_lock is (length buffer)) fresh_lock)
    (λ e. entries_within (tree_of w) is fresh_words) (λ e. omega arith)

-- the state that the code starts from
fresh_zero : lock_state (fresh_from 0) fresh_counters ≡ fresh_lock
unfolding fresh_words
fresh_zero = refl

-- the contents of the code's buffers together
pub run_in_buffers :
    (bs : List ℕ) (at : ℕ) (w : TreeWords) (s : LockState) (room_for_schedule schedule buffer trace : List ℕ) →
    let n = (length bs - at) / 2 in
    let r = run_answer w s (take n schedule) buffer in
    length bs ≤ 65536 → (length room_for_schedule ≡ 32768) × (length buffer ≡ 32768) →
    schedule ≡ filled (entries_at bs at) room_for_schedule → s ≡ lock_state (fresh_from 0) fresh_counters →
    trace ≡ trace_answer w s (take n schedule) buffer →
    (r.counts.entries ≤ n)
    × ((room : ℕ) →
    run_outcome r (take r.counts.entries trace) room ≡ tree_outcome w (entries_at bs at) room)
unfolding entries_at
run_in_buffers bs at w s free schedule buffer trace short rooms stored from_zero traced =
    let n = (length bs - at) / 2 in
    let is = entries_from bs n at in
    let fresh = from_zero ∙ fresh_zero in
    let read : take n schedule ≡ is = rw stored (schedule_front bs n at free (omega (arith, short, rooms.0))) in
    let left : trace ≡ trace_answer w fresh_lock is buffer = rw (← read, ← fresh) traced in
    let long = entries_length bs n at in
    rw (fresh, read, left) (omega (arith, replied_within w is buffer), λ room. run_listed w is buffer room (omega (arith, short, rooms.1)))

-- the outcome of a run that is refused, and of one that is not
module _ (w : TreeWords) (s : LockState) (is b trace : List ℕ) (room : ℕ) where
  pub run_refuses :
      (x : reasons.Refusal) → refusal (number_of x.reason) x.place ≡ run_refusal (tree_of w) s is (length b) →
      run_outcome (run_answer w s is b) trace room ≡ refused_by (refusal (number_of x.reason) x.place)
  unfolding run_outcome run_answer run_reply refusal
  run_refuses x e = let p = ne_eqb (run_refusal (tree_of w) s is (length b)).number 0 (error_numbered x e) in rw (p, p, e) refl

  pub run_lists :
      accepted ≡ run_refusal (tree_of w) s is (length b) → (counts : Counts) → counts ≡ (run_answer w s is b).counts →
      run_outcome (run_answer w s is b) (take (run_answer w s is b).counts.entries trace) room ≡ listing_outcome (listing counts (take counts.entries trace)) room
  unfolding run_outcome run_answer run_reply
  run_lists e counts f = let p = eq-eqb (run_refusal (tree_of w) s is (length b)).number 0 (ok_numbered e) in rw (f, p) refl
