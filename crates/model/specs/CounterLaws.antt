-- THE LAWS OF THE COUNTERS, document 02, (vii), of every state that a call may be handed. Each is a statement; proofs/ has its proof.
use Rattle.std.specs.Prelude.{◌≡◌, true, false, List, ◌++◌, ℕ, ◌+◌, ◌≤◌, ◌<◌, max, length, get_or}
use Rattle.model.specs.declared.TreeWords.{TreeWords}
use Rattle.model.specs.declared.State.{State}
use Rattle.model.specs.declared.Counters.{Counters}
use Rattle.model.specs.declared.LockState.{LockState}
use Rattle.model.specs.Trees.{Tree, tree_of}
use Rattle.model.specs.States.{fresh_state}
use Rattle.model.specs.Steps.{Step}
use Rattle.model.specs.Runs.{run}
use Rattle.model.specs.Tenures.{domain_entries, domain_tenures, longest_tenure}
use Rattle.model.specs.Counters.{lock_state, fresh_counters, counters_after, most_counted, good_counts}
use Rattle.model.specs.Refusals.{tree_refusal, bad_counter, step_refusal, run_refusal}
use Rattle.model.specs.Answers.{counters_after_run, step_answer, run_answer, trace_answer}
use Rattle.model.specs.Laws.{AllThreads, SixteenBit, Formed}

-- 1. COUNTERS ADD UP. After some steps the entries and tenures of a domain are those before plus what the steps count, and the longest is the largest of the one before and the lengths reported; the arrays keep their lengths, and steps after steps add up
pub record CountsSteps (t : Tree) (c : Counters) (xs : List Step) : Type 0 where
  pub entries : (d : ℕ) → d < length c.entries → get_or (counters_after t c xs).entries d 0 ≡ get_or c.entries d 0 + domain_entries t d xs
  pub tenures : (d : ℕ) → d < length c.tenures → get_or (counters_after t c xs).tenures d 0 ≡ get_or c.tenures d 0 + domain_tenures t d xs
  pub longest : (d : ℕ) → d < length c.longest → get_or (counters_after t c xs).longest d 0 ≡ max (get_or c.longest d 0) (longest_tenure t d xs)
  pub entries_room : length (counters_after t c xs).entries ≡ length c.entries
  pub tenures_room : length (counters_after t c xs).tenures ≡ length c.tenures
  pub longest_room : length (counters_after t c xs).longest ≡ length c.longest
  pub joined : (ys : List Step) → counters_after t c (xs ++ ys) ≡ counters_after t (counters_after t c xs) ys

unfoldable pub CounterLaw : Type 0
CounterLaw = (t : Tree) (c : Counters) (xs : List Step) → CountsSteps t c xs

-- 2. THEY CHANGE NO STEP: with any counters that are accepted a step and a run return the same words, kind, domain, counts and trace
pub record SameStep (w : TreeWords) (s : State) (i : ℕ) (c e : Counters) : Type 0 where
  pub words : (step_answer w (lock_state s c) i).state.words ≡ (step_answer w (lock_state s e) i).state.words
  pub kind : (step_answer w (lock_state s c) i).kind ≡ (step_answer w (lock_state s e) i).kind
  pub domain : (step_answer w (lock_state s c) i).domain ≡ (step_answer w (lock_state s e) i).domain

pub record SameRun (w : TreeWords) (s : State) (is b : List ℕ) (c e : Counters) : Type 0 where
  pub words : (run_answer w (lock_state s c) is b).state.words ≡ (run_answer w (lock_state s e) is b).state.words
  pub counts : (run_answer w (lock_state s c) is b).counts ≡ (run_answer w (lock_state s e) is b).counts
  pub trace : trace_answer w (lock_state s c) is b ≡ trace_answer w (lock_state s e) is b

pub record WordsAlone (w : TreeWords) (s : State) (c e : Counters) : Type 0 where
  pub of_step :
      (i : ℕ) → (step_refusal (tree_of w) (lock_state s c) i).number ≡ 0 → (step_refusal (tree_of w) (lock_state s e) i).number ≡ 0 → SameStep w s i c e
  pub of_run :
      (is b : List ℕ) → (run_refusal (tree_of w) (lock_state s c) is (length b)).number ≡ 0 → (run_refusal (tree_of w) (lock_state s e) is (length b)).number ≡ 0 →
      SameRun w s is b c e

unfoldable pub WordsAloneLaw : Type 0
WordsAloneLaw = (w : TreeWords) (s : State) (c e : Counters) → WordsAlone w s c e

-- 3. FORM. Fresh counters pass 10; and so do those that are left where 10 and 19 refused nothing, unused room and thresholds included
pub record KeepsCounts (t : Tree) : Type 0 where
  pub of_fresh : good_counts t fresh_counters ≡ true
  pub of_run :
      (is : List ℕ) (s : LockState) → AllThreads t is → Formed t s.words → good_counts t s.counters ≡ true →
      ((p : ℕ) → p < length is → bad_counter t s is p ≡ false) → good_counts t (counters_after_run t is s) ≡ true

unfoldable pub CounterFormLaw : Type 0
CounterFormLaw = (t : Tree) → (tree_refusal t).number ≡ 0 → SixteenBit t → KeepsCounts t

-- 4. NEVER 19 SOON: where no entries and no tenures are above 2^63 less the schedule's length, 19 refuses nothing; from fresh not before 2^63 entries of the schedule
pub record RoomLeft (c : Counters) (n : ℕ) : Type 0 where
  pub entries : (d : ℕ) → d < 64 → get_or c.entries d 0 + n ≤ most_counted
  pub tenures : (d : ℕ) → d < 64 → get_or c.tenures d 0 + n ≤ most_counted
  pub longest : (d : ℕ) → d < 64 → get_or c.longest d 0 ≤ most_counted

unfoldable pub RoomLaw : Type 0
RoomLaw =
    (t : Tree) → SixteenBit t → (s : LockState) (is : List ℕ) → RoomLeft s.counters (length is) → (p : ℕ) → p < length is → bad_counter t s is p ≡ false

unfoldable pub FreshRoomLaw : Type 0
FreshRoomLaw =
    (t : Tree) → SixteenBit t → (start : ℕ) (is js : List ℕ) → length is + length js ≤ most_counted →
    let s = fresh_state t start in
    (p : ℕ) → p < length js → bad_counter t (lock_state (run t is s).state (counters_after_run t is (lock_state s fresh_counters))) js p ≡ false
