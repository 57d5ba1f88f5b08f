-- The steps of a piece as the run's loop takes and reports them, compared with the named steps.
use Rattle.std.specs.Prelude.{◌≡◌, Bool, true, false, ◌&&◌, not, Option, None, Some, List, ◌≢◌, ℕ, ◌/◌, ◌%◌, ◌≤◌, ◌<◌, eqb, leb, length, get_or}
use Rattle.model.specs.declared.LockState.{LockState}
use Rattle.model.specs.Trees.{Tree}
use Rattle.model.specs.WellFormed.{well_formed}
use Rattle.model.specs.Counters.{good_counts}
use Rattle.model.specs.Refusals.{tree_refusal, bad_counter}
use Rattle.model.specs.Laws.{Typed}
use Rattle.refusals.specs.declared.reasons.Reason.{Reason}
use Rattle.refusals.specs.Reasons.{number_of}
use Rattle.rows.specs.Common.Standing.{row_domain}
use Rattle.journal.specs.StepCheck.Answers.{step_number}
use Rattle.journal.specs.StepCheck.Laws.{after_first}
use Rattle.journal_call.specs.declared.step_check.pieces.Found.{Found}

-- the number that refuses the next step; 0 if none does
abbrev pub refused_number : Option Reason → ℕ
refused_number None = 0
refused_number (Some reason) = number_of reason

-- an accepted tree and a state that a call accepts
pub record Ready (t : Tree) (s : LockState) : Type 0 where
  pub tree : (tree_refusal t).number ≡ 0
  pub typed : Typed s.words
  pub form : well_formed t s.words ≡ true
  pub counts : good_counts t s.counters ≡ true

-- the thread at a position is not known
abbrev pub unknown : (known : ℕ) → (threads : List ℕ) → (position : ℕ) → Bool
unknown n is j = leb n (get_or is j 0)

-- the first threads of a piece can be stepped; if a number stops them, it refuses the next one, whatever kind and domain it names
pub record Stretch (t : Tree) (s : LockState) (threads : List ℕ) (found : Found) : Type 0 where
  pub within : found.steps ≤ length threads
  pub known : (j : ℕ) → j < found.steps → get_or threads j 0 < t.threads
  pub low : (j : ℕ) → j < found.steps → bad_counter t s threads j ≡ false
  pub goes_on : refused_number found.refused ≡ 0 → found.steps ≡ length threads
  pub stops : refused_number found.refused ≢ 0 → found.steps < length threads
  pub refuses : refused_number found.refused ≢ 0 → (k d : ℕ) → step_number t (after_first t s threads found.steps) (get_or threads found.steps 0) k d ≡ refused_number found.refused

-- the named kind is the one that the run's loop reported for the step, in the lowest three bits of its number
abbrev pub same_kind : (kinds codes : List ℕ) → (position : ℕ) → Bool
same_kind ks cs j = eqb (get_or ks j 0) (get_or cs j 0 % 8)

-- the named domain is that of the step, given by the reported row and domain and by the thread's home
abbrev pub same_domain : (homes threads domains codes : List ℕ) → (position : ℕ) → Bool
same_domain hs is ds cs j = eqb (get_or ds j 0) (row_domain (get_or hs (get_or is j 0) 0) ((get_or cs j 0 / 8) % 16) (get_or cs j 0 / 128))

-- the named kind or domain is not the step's
abbrev pub differs : (homes threads kinds domains codes : List ℕ) → (position : ℕ) → Bool
differs hs is ks ds cs j = not (same_kind ks cs j && same_domain hs is ds cs j)

-- none of the first numbers is larger
abbrev pub NoneLarger : (numbers : List ℕ) → (count most : ℕ) → Type 0
NoneLarger ns n m = (j : ℕ) → j < n → get_or ns j 0 ≤ m

-- the first threads are in the table of homes
abbrev pub HaveHomes : (threads : List ℕ) → (count : ℕ) → Type 0
HaveHomes is n = (j : ℕ) → j < n → get_or is j 0 < 256

-- the homes of the first threads, in their order
pub record HomesOf (homes threads : List ℕ) (count : ℕ) (found : List ℕ) : Type 0 where
  pub room : length found ≡ 1024
  pub home : (j : ℕ) → j < count → get_or found j 0 ≡ get_or homes (get_or threads j 0) 0

-- the first named domains are those of the steps, given the homes of the threads in their order
abbrev pub AllSameDomains : (found domains codes : List ℕ) → (count : ℕ) → Type 0
AllSameDomains fs ds cs n = (j : ℕ) → j < n → not (eqb (get_or ds j 0) (row_domain (get_or fs j 0) ((get_or cs j 0 / 8) % 16) (get_or cs j 0 / 128))) ≡ false

-- the first named steps have the reported kinds and domains
abbrev pub AllSame : (homes threads kinds domains codes : List ℕ) → (count : ℕ) → Type 0
AllSame hs is ks ds cs n = (j : ℕ) → j < n → differs hs is ks ds cs j ≡ false

-- a piece, and arrays for what is traced and reported
pub record PieceFits (threads trace codes : List ℕ) : Type 0 where
  pub few : length threads ≤ 1024
  pub trace_room : length trace ≡ 1024
  pub codes_room : length codes ≡ 1024
