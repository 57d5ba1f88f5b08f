-- THE LAWS OF THE FILE CALL. These are statements; their proofs are in proofs/.
use Rattle.std.specs.Prelude.{◌≡◌, true, List, [], ◌∷◌, ◌⊎◌, ◌≢◌, ℕ, ◌≤◌, length, take, replicate}
use Rattle.model.specs.declared.TreeWords.{TreeWords}
use Rattle.model.specs.Trees.{Tree, tree_of}
use Rattle.model.specs.Counters.{fresh_lock}
use Rattle.model.specs.Runs.{occurrences}
use Rattle.model.specs.Refusals.{tree_tests, has_number}
use Rattle.model.specs.Answers.{fresh_answer, trace_answer}
use Rattle.model.specs.Calls.{Call, a_run, ran, answers, joined}
use Rattle.claims.specs.Claim.{Claim}
use Rattle.lock_file.specs.Format.{Describes}
use Rattle.lock_file.specs.FileAnswers.FileAnswers.{file_run, file_trace, tree_outcome, file_outcome, file_answer}

-- 1. REFUSALS. The file call is accepted, or refused by 1 to 3, a number of the tree's tests, 12 or 14: it runs from a fresh lock, its schedules are short, and its trace buffer is long enough
unfoldable pub Possible : (number : ℕ) → Type 0
Possible n = (n ≤ 3) ⊎ (((t : Tree) → has_number (tree_tests t) n ≡ true) ⊎ ((n ≡ 12) ⊎ (n ≡ 14)))

-- for every file and output buffer
unfoldable pub FileRefusalLaw : Type 0
FileRefusalLaw = (bytes output : List ℕ) → Possible (file_answer bytes output).number

-- these are all its numbers; `Witnesses` computes a file for each
unfoldable pub possible_numbers : List ℕ
possible_numbers = 0 ∷ 1 ∷ 2 ∷ 3 ∷ 4 ∷ 5 ∷ 6 ∷ 7 ∷ 8 ∷ 9 ∷ 16 ∷ 12 ∷ 14 ∷ []

-- no other number occurs
unfoldable pub PossibleNumbersLaw : Type 0
PossibleNumbersLaw = (number : ℕ) → Possible number → 1 ≤ occurrences number possible_numbers

-- 2. FILES. For a file that describes a tree and a schedule, the file call answers what a run of them from fresh answers
unfoldable pub DescribedLaw : Type 0
DescribedLaw =
    (bytes : List ℕ) (w : TreeWords) (schedule : List ℕ) (room : ℕ) → length bytes ≤ 65536 → Describes bytes w schedule →
    file_outcome bytes room ≡ tree_outcome w schedule room

-- 3. THE THIRD DEMAND. The run of the file call as a call on its own lock
abbrev pub file_call : TreeWords → (schedule : List ℕ) → Call
file_call w is = record { tree = w; ask = a_run is (replicate (length is) 0) }

-- the run is a list of one call, and the claim holds for it
pub record OneCall (w : TreeWords) (schedule : List ℕ) : Type 0 where
  pub answered :
      answers (file_call w schedule ∷ []) fresh_lock
      ≡ ran (file_run w schedule) (trace_answer w fresh_lock schedule (replicate (length schedule) 0)) ∷ []
  -- the listed trace is what an accepted run leaves at the front of the buffer
  pub listed :
      (file_run w schedule).number ≡ 0 →
      take (file_run w schedule).counts.entries (trace_answer w fresh_lock schedule (replicate (length schedule) 0)) ≡ file_trace w schedule
  pub claimed : Claim (tree_of w) fresh_lock (file_call w schedule ∷ []) (joined (file_call w schedule ∷ []) fresh_lock)

-- for every tree that the fresh call accepts, and every schedule
unfoldable pub FileClaimLaw : Type 0
FileClaimLaw = (w : TreeWords) (schedule : List ℕ) → (fresh_answer w 0).number ≡ 0 → OneCall w schedule

-- 4. ROOM. With an output buffer of this length, 14 never refuses: a file has at most 32,768 entries, and each thread at most three digits
abbrev pub listing_room : ℕ
listing_room = 131111

-- for every file
unfoldable pub RoomLaw : Type 0
RoomLaw = (bytes output : List ℕ) → listing_room ≤ length output → (file_answer bytes output).number ≢ 14
