-- What the file call answers and what it leaves in the output buffer, for every input.
use Rattle.std.specs.Prelude.{cond, List, ◌++◌, ℕ, ltb, eqb, length, drop}
use Rattle.model.specs.declared.TreeWords.{TreeWords}
use Rattle.model.specs.declared.RunReply.{RunReply}
use Rattle.model.specs.Trees.{tree_of}
use Rattle.model.specs.States.{fresh_words}
use Rattle.model.specs.Runs.{run}
use Rattle.model.specs.Refusals.{Refusal, refusal}
use Rattle.model.specs.Answers.{lone_answer}
use Rattle.lock_file.specs.declared.file_answers.FileReply.{FileReply}
use Rattle.lock_file.specs.Reading.{Reading, refused, described, file_read}
use Rattle.lock_file.specs.PrintedListing.Listing.{listing}

-- the outcome of the file call: a refusal, or a listing to write
pub data Outcome : Type 0 where
  refused_by : Refusal → Outcome
  lists : (bytes : List ℕ) → Outcome

-- 14: the listing does not fit into the output buffer
unfoldable pub listing_outcome : (bytes : List ℕ) → (room : ℕ) → Outcome
listing_outcome ls room = cond (ltb room (length ls)) (refused_by (refusal 14 0)) (lists ls)

-- the outcome of a run: 4 to 9, 16 and 12, or the listing of its counts and trace
unfoldable pub run_outcome : RunReply → (trace : List ℕ) → (room : ℕ) → Outcome
run_outcome r trace room =
    cond (eqb r.number 0) (listing_outcome (listing r.counts trace) room)
    (refused_by (refusal r.number r.place))

-- the run of the file call, on its own lock
unfoldable pub file_run : TreeWords → (schedule : List ℕ) → RunReply
file_run w is = lone_answer w is

-- the trace of this run
unfoldable pub file_trace : TreeWords → (schedule : List ℕ) → List ℕ
file_trace w is = (run (tree_of w) is fresh_words).trace

-- the outcome for a tree and a schedule
abbrev pub tree_outcome : TreeWords → (schedule : List ℕ) → (room : ℕ) → Outcome
tree_outcome w is room = run_outcome (file_run w is) (file_trace w is) room

-- the outcome of reading: 2 and 3, or that of the run
unfoldable pub reading_outcome : Reading → (room : ℕ) → Outcome
reading_outcome (refused r) room = refused_by r
reading_outcome (described w is) room = tree_outcome w is room

-- the outcome of the file call; 1 if the file has more than 65,536 bytes
unfoldable pub file_outcome : (bytes : List ℕ) → (room : ℕ) → Outcome
file_outcome bs room = let read = reading_outcome (file_read bs) room in cond (ltb 65536 (length bs)) (refused_by (refusal 1 0)) read

-- the reply: number, place and the length of the listing, which is 0 if refused
unfoldable pub outcome_reply : Outcome → FileReply
outcome_reply (refused_by r) = record { number = r.number; place = r.place; length = 0 }
outcome_reply (lists ls) = record { number = 0; place = 0; length = length ls }

-- the output buffer after the call: the listing at the front, the rest unchanged; if refused, all of it unchanged
unfoldable pub outcome_output : Outcome → (output : List ℕ) → List ℕ
outcome_output (refused_by r) output = output
outcome_output (lists ls) output = ls ++ drop (length ls) output

-- what the file call answers
unfoldable pub file_answer : (bytes output : List ℕ) → FileReply
file_answer bs output = outcome_reply (file_outcome bs (length output))

-- what the file call leaves in the output buffer
unfoldable pub output_answer : (bytes output : List ℕ) → List ℕ
output_answer bs output = outcome_output (file_outcome bs (length output)) output
