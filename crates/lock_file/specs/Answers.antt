-- What reading a lock file without running it answers, for every file: refusals 1 to 3, or the tree and the schedule.
use Rattle.std.specs.Prelude.{cond, List, ℕ, ◌≤◌, ltb, length, replicate}
use Rattle.model.specs.declared.TreeWords.{TreeWords}
use Rattle.model.specs.Refusals.{refusal}
use Rattle.lock_file.specs.declared.ReadReply.{ReadReply}
use Rattle.lock_file.specs.Reading.{Reading, refused, described, file_read, filled}

-- 1: the file has more than 65,536 bytes
unfoldable pub bounded_read : (bytes : List ℕ) → Reading
bounded_read bs = cond (ltb 65536 (length bs)) (refused (refusal 1 0)) (file_read bs)

-- the tree of a refused file: every word is 0
unfoldable pub no_tree : TreeWords
no_tree =
    record { domains = 0; threads = 0; parents = replicate 64 0; thresholds = replicate 64 0; homes = replicate 256 0; ticket_root = 0 }

-- the reply: number and place, the number of schedule entries, and the tree; if refused, no entries and no tree
unfoldable pub reading_reply : Reading → ReadReply
reading_reply (refused r) = record { number = r.number; place = r.place; length = 0; tree = no_tree }
reading_reply (described w is) = record { number = 0; place = 0; length = length is; tree = w }

-- the buffer after the call: the schedule at the front, the rest unchanged; if refused or too short, all of it unchanged
unfoldable pub reading_buffer : Reading → (schedule : List ℕ) → List ℕ
reading_buffer (refused r) b = b
reading_buffer (described w is) b = filled is b

-- what the call answers
unfoldable pub read_answer : (bytes : List ℕ) → ReadReply
read_answer bs = reading_reply (bounded_read bs)

-- what the call leaves in the schedule buffer
unfoldable pub schedule_answer : (bytes schedule : List ℕ) → List ℕ
schedule_answer bs b = reading_buffer (bounded_read bs) b

-- ROOM. 32,768 elements are enough for the schedule of any file
unfoldable pub ScheduleRoomLaw : Type 0
ScheduleRoomLaw = (bytes : List ℕ) → (read_answer bytes).length ≤ 32768
