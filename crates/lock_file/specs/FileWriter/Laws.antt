-- THE LAWS OF WRITING THE LOCK FILE. These are statements; their proofs are in proofs/.
use Rattle.std.specs.Prelude.{◌≡◌, List, ◌≢◌, ℕ, ◌≤◌, ◌<◌, length, take, drop}
use Rattle.model.specs.declared.TreeWords.{TreeWords}
use Rattle.model.specs.Trees.{Tree, tree_of}
use Rattle.model.specs.States.{fresh_words}
use Rattle.model.specs.Counters.{fresh_lock}
use Rattle.model.specs.Runs.{run}
use Rattle.model.specs.Refusals.{refusal, accepted, first_refusal, schedule_tests, tree_refusal}
use Rattle.model.specs.Answers.{fresh_answer, run_answer}
use Rattle.model.specs.Laws.{◌⟺◌, RefusesExactly}
use Rattle.lock_file.specs.Reading.{described, file_read}
use Rattle.lock_file.specs.Format.{Describes}
use Rattle.lock_file.specs.PrintedListing.Listing.{listing}
use Rattle.lock_file.specs.FileAnswers.FileAnswers.{listing_outcome, file_outcome}
use Rattle.lock_file.specs.FileWriter.Writing.{written_file}
use Rattle.lock_file.specs.FileWriter.Refusals.{write_tests, write_refusal}
use Rattle.lock_file.specs.FileWriter.Answers.{write_answer, file_buffer_answer}

-- 1. REFUSALS. The general law of refusals covers the list of tests; in plain numbers, one of these five holds for every call
pub record RefusesWrite (t : Tree) (schedule : List ℕ) (room : ℕ) : Type 0 where
  pub exactly : RefusesExactly (write_tests t schedule room)
  pub tree_refused : (tree_refusal t).number ≢ 0 → write_refusal t schedule room ≡ tree_refusal t
  pub schedule_refused :
      (tree_refusal t).number ≡ 0 → (first_refusal (schedule_tests t schedule)).number ≢ 0 →
      write_refusal t schedule room ≡ first_refusal (schedule_tests t schedule)
  pub length_refused :
      (tree_refusal t).number ≡ 0 → (first_refusal (schedule_tests t schedule)).number ≡ 0 → 65536 < length (written_file t schedule) →
      write_refusal t schedule room ≡ refusal 1 0
  pub room_refused :
      (tree_refusal t).number ≡ 0 → (first_refusal (schedule_tests t schedule)).number ≡ 0 → length (written_file t schedule) ≤ 65536 →
      room < length (written_file t schedule) → write_refusal t schedule room ≡ refusal 17 0
  pub accepts :
      (tree_refusal t).number ≡ 0 → (first_refusal (schedule_tests t schedule)).number ≡ 0 → length (written_file t schedule) ≤ 65536 →
      length (written_file t schedule) ≤ room → write_refusal t schedule room ≡ accepted

-- for every tree, schedule and buffer length
unfoldable pub WriteRefusalLaw : Type 0
WriteRefusalLaw = (t : Tree) (schedule : List ℕ) (room : ℕ) → RefusesWrite t schedule room

-- the file that an accepted call leaves at the front of its buffer
abbrev pub file_left : TreeWords → (schedule buffer : List ℕ) → List ℕ
file_left w is b = take (write_answer w is b).length (file_buffer_answer w is b)

-- the bytes are a lock file for the named tree, including its kind of root, and the schedule. Words that are not read may differ
pub record LockFileFor (bytes : List ℕ) (w : TreeWords) (schedule : List ℕ) : Type 0 where
  pub words : TreeWords
  pub same_tree : tree_of words ≡ tree_of w
  pub describes : Describes bytes words schedule

-- 2. READ BACK. Reading the file gives the same tree and schedule
pub record ReadsBack (bytes : List ℕ) (w : TreeWords) (schedule : List ℕ) : Type 0 where
  pub words : TreeWords
  pub same_tree : tree_of words ≡ tree_of w
  pub read : file_read bytes ≡ described words schedule

-- for every accepted call
unfoldable pub ReadBackLaw : Type 0
ReadBackLaw =
    (w : TreeWords) (schedule buffer : List ℕ) → (write_answer w schedule buffer).number ≡ 0 →
    ReadsBack (file_left w schedule buffer) w schedule

-- 3. SHORTEST. No lock file for the same tree and schedule is shorter
unfoldable pub ShortestLaw : Type 0
ShortestLaw =
    (w : TreeWords) (schedule buffer : List ℕ) → (write_answer w schedule buffer).number ≡ 0 →
    (bytes : List ℕ) → LockFileFor bytes w schedule → (write_answer w schedule buffer).length ≤ length bytes

-- 1 refuses exactly if they have no lock file of at most 65,536 bytes
unfoldable pub TooLongLaw : Type 0
TooLongLaw =
    (w : TreeWords) (schedule : List ℕ) (room : ℕ) → (tree_refusal (tree_of w)).number ≡ 0 →
    (first_refusal (schedule_tests (tree_of w) schedule)).number ≡ 0 →
    (write_refusal (tree_of w) schedule room ≡ refusal 1 0) ⟺ ((bytes : List ℕ) → LockFileFor bytes w schedule → 65536 < length bytes)

-- 4. RUNNING THE WRITTEN FILE. The file call on it answers what a fresh lock and a run answer: it is accepted, with the listing of the run, if that fits
pub record RunsAlike (bytes : List ℕ) (w : TreeWords) (schedule : List ℕ) : Type 0 where
  pub fresh : (fresh_answer w 0).state ≡ fresh_lock
  pub accepted_run : (trace : List ℕ) → length trace ≡ length schedule → (run_answer w fresh_lock schedule trace).number ≡ 0
  pub listed :
      (room : ℕ) →
      file_outcome bytes room
      ≡ listing_outcome (listing (run (tree_of w) schedule fresh_words).counts (run (tree_of w) schedule fresh_words).trace) room

-- for every accepted call
unfoldable pub RoundTripLaw : Type 0
RoundTripLaw =
    (w : TreeWords) (schedule buffer : List ℕ) → (write_answer w schedule buffer).number ≡ 0 →
    RunsAlike (file_left w schedule buffer) w schedule

-- 5. THE BUFFER keeps its length and what is after the file; a refused call changes nothing in it, and its length is 0
pub record KeepsRest (w : TreeWords) (schedule buffer : List ℕ) : Type 0 where
  pub long : length (file_buffer_answer w schedule buffer) ≡ length buffer
  pub after :
      drop (write_answer w schedule buffer).length (file_buffer_answer w schedule buffer) ≡ drop (write_answer w schedule buffer).length buffer
  pub refused :
      (write_answer w schedule buffer).number ≢ 0 →
      (file_buffer_answer w schedule buffer ≡ buffer) × ((write_answer w schedule buffer).length ≡ 0)

-- for every call
unfoldable pub BufferLaw : Type 0
BufferLaw = (w : TreeWords) (schedule buffer : List ℕ) → KeepsRest w schedule buffer
