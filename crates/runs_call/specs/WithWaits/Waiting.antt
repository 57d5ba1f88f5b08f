-- Counting attempts after a piece of a run, given the numbers that report its steps.
use Rattle.std.specs.Prelude.{◌≡◌, Bool, not, ◌&&◌, ◌||◌, List, [], ◌∷◌, ◌++◌, ◌≢◌, map, max, cond, ℕ, ◌+◌, ◌≤◌, ◌<◌, eqb, ltb, leb, length, get_or, take}
use Rattle.model.specs.declared.State.{State}
use Rattle.model.specs.Trees.{Tree}
use Rattle.model.specs.Steps.{Step, step}
use Rattle.model.specs.Runs.{steps, state_after}
use Rattle.model.specs.Counters.{most_counted}
use Rattle.model.specs.Refusals.{tree_refusal}
use Rattle.model.specs.Laws.{AllThreads}
use Rattle.runs_call.specs.WithWaits.Tallies.{first, mark_with, mark_of, wait_of, finishes, Tallies}
use Rattle.lock.specs.Steps.Running.{step_code}
use Rattle.runs_call.specs.declared.with_waits.waiting.ThreadTally.{ThreadTally}

-- the home is a ticket root, given the number of the kind of root
abbrev pub ticket_home : (kind home : ℕ) → Bool
ticket_home k h = not (eqb k 0) && eqb h 0

-- a thread's mark after a step that may have begun an attempt
abbrev pub mark_at : (marks : List ℕ) → (at entered : ℕ) → (begins : Bool) → ℕ
mark_at m at n b = mark_with b n (get_or m at 0)

-- the four numbers of each thread
abbrev pub marks_of : List ThreadTally → List ℕ
marks_of = map (λ r. r.mark)

abbrev pub attempts_of : List ThreadTally → List ℕ
attempts_of = map (λ r. r.attempts)

abbrev pub totals_of : List ThreadTally → List ℕ
totals_of = map (λ r. r.total)

abbrev pub longest_of : List ThreadTally → List ℕ
longest_of = map (λ r. r.longest)

-- what is kept for a thread after one more step of it
abbrev pub tally_noted : (begins enters : Bool) → (entered : ℕ) → ThreadTally → ThreadTally
tally_noted b e n r =
    let m = mark_with b n r.mark in
    let f = finishes e m in
    record {
      mark = cond e 0 m;
      attempts = cond f (r.attempts + 1) r.attempts;
      total = cond f (r.total + wait_of n m) r.total;
      longest = cond f (max r.longest (wait_of n m)) r.longest;
    }

-- the numbers of a thread are small enough for one more
pub record Fits (kept : ThreadTally) (entered : ℕ) : Type 0 where
  pub few : entered ≤ first + 65536
  pub mark : kept.mark ≤ entered + 1
  pub attempts_few : kept.attempts ≤ 65536
  pub total_small :
      (begins : Bool) → mark_with begins entered kept.mark ≢ 0 → kept.total + wait_of entered (mark_with begins entered kept.mark) ≤ 18446744073709551615

-- the steps of a schedule from a state, reported by one number each, after steps that are already counted
pub record Counting (t : Tree) (schedule codes marks attempts totals longest : List ℕ) (entered : ℕ) (under_way : List ℕ) (done : List Step) (s : State) : Type 0 where
  pub tree : (tree_refusal t).number ≡ 0
  pub threads : AllThreads t schedule
  pub long : length schedule ≤ length codes
  pub short : entered + length schedule ≤ first + 65536
  pub each_code : (k : ℕ) → k < length schedule → get_or codes k 0 ≡ step_code (step t (get_or schedule k 0) (state_after s (steps t (take k schedule) s)))
  pub tallied : Tallies t under_way done marks attempts totals longest entered

-- the same for some such state and earlier steps
pub record Countable (t : Tree) (schedule codes : List ℕ) (kept : List ThreadTally) (entered : ℕ) : Type 0 where
  pub under_way : List ℕ
  pub done : List Step
  pub state : State
  pub counting : Counting t schedule codes (marks_of kept) (attempts_of kept) (totals_of kept) (longest_of kept) entered under_way done state

-- afterwards these steps are counted too
pub record Counted (t : Tree) (schedule codes : List ℕ) (kept : List ThreadTally) (entered : ℕ) (kept' : List ThreadTally) (entered' : ℕ) : Type 0 where
  pub counted :
      (under_way : List ℕ) (done : List Step) (s : State) →
      Counting t schedule codes (marks_of kept) (attempts_of kept) (totals_of kept) (longest_of kept) entered under_way done s →
      Tallies t under_way (done ++ steps t schedule s) (marks_of kept') (attempts_of kept') (totals_of kept') (longest_of kept') entered'

-- the numbers of a table are at most 65,536
pub record Small (table : List ℕ) : Type 0 where
  pub small : (i : ℕ) → i < 256 → get_or table i 0 ≤ 65536

-- the table of marks for the numbers under way
pub record MarksOf (under_way marks : List ℕ) : Type 0 where
  pub long : length marks ≡ 256
  pub each : (i : ℕ) → i < 256 → get_or marks i 0 ≡ mark_of (get_or under_way i 0)

-- the numbers under way are at most 2^63
pub record HandedIn (under_way : List ℕ) : Type 0 where
  pub small : (i : ℕ) → i < 256 → get_or under_way i 0 ≤ most_counted

-- no mark is above the entries so far plus one
pub record MarksFit (marks : List ℕ) (entered : ℕ) : Type 0 where
  pub few : entered ≤ first + 65536
  pub each : (i : ℕ) → i < 256 → get_or marks i 0 ≤ entered + 1

-- the sums of two lists of counts by kind
abbrev pub kinds_added : (kinds more : List ℕ) → List ℕ
kinds_added a b =
    (get_or a 0 0 + get_or b 0 0) ∷ (get_or a 1 0 + get_or b 1 0) ∷ (get_or a 2 0 + get_or b 2 0) ∷ (get_or a 3 0 + get_or b 3 0) ∷ (get_or a 4 0 + get_or b 4 0)
    ∷ (get_or a 5 0 + get_or b 5 0) ∷ []

-- 27 refuses this number under way at this index
abbrev pub bad_number : (threads at number : ℕ) → Bool
bad_number n k v = ltb most_counted v || (leb n k && not (eqb v 0))
