-- Document 02, (vi): what a run with waits answers, and its buffers after it, for every input; and the same for a run that continues attempts under way.
use Rattle.std.specs.Prelude.{cond, List, ◌++◌, ℕ, ◌+◌, ◌-◌, eqb, length, replicate}
use Rattle.model.specs.declared.TreeWords.{TreeWords}
use Rattle.model.specs.declared.LockState.{LockState}
use Rattle.model.specs.declared.Counters.{Counters}
use Rattle.model.specs.declared.RunReply.{RunReply}
use Rattle.model.specs.Trees.{tree_of}
use Rattle.model.specs.Runs.{steps, Run, run}
use Rattle.model.specs.Refusals.{Refusal}
use Rattle.model.specs.Answers.{counters_after_run, run_reply, run_buffer}
use Rattle.schedules.specs.Answers.{row_buffer}
use Rattle.waits.specs.declared.WaitsReply.{WaitsReply}
use Rattle.waits.specs.Attempts.{under_way_below}
use Rattle.waits.specs.Rows.{all_rows, all_rows_from}
use Rattle.waits.specs.Refusals.{waits_refusal, waits_on_refusal}

-- the reply of a run, with the number of rows written
abbrev pub with_rows : RunReply → (rows : ℕ) → WaitsReply
with_rows y n = record { number = y.number; place = y.place; counts = y.counts; rows = n; state = y.state }

-- the run's part of a reply
abbrev pub run_part : WaitsReply → RunReply
run_part r = record { number = r.number; place = r.place; counts = r.counts; state = r.state }

-- the reply: what the run returns, and the number of rows written: one per thread and one for all threads, or none if refused
unfoldable pub waits_reply : Refusal → LockState → Run → Counters → (threads : ℕ) → WaitsReply
waits_reply r s x c n = with_rows (run_reply r s x c) (cond (eqb r.number 0) (n + 1) 0)

-- A RUN WITH WAITS. The number and place of its answer
unfoldable pub refused_by : TreeWords → LockState → (schedule trace rows : List ℕ) → Refusal
refused_by w s is b rs = waits_refusal (tree_of w) s is (length b) (length rs)

-- its reply
unfoldable pub waits_answer : TreeWords → LockState → (schedule trace rows : List ℕ) → WaitsReply
waits_answer w s is b rs =
    waits_reply (refused_by w s is b rs) s (run (tree_of w) is s.words) (counters_after_run (tree_of w) is s) (tree_of w).threads

-- the trace buffer after it: the entering threads at the front; if refused, unchanged
unfoldable pub waits_trace : TreeWords → LockState → (schedule trace rows : List ℕ) → List ℕ
waits_trace w s is b rs = run_buffer (refused_by w s is b rs) b (run (tree_of w) is s.words)

-- the row buffer after it: the rows at the front, the rest unchanged; if refused, all of it unchanged
unfoldable pub waits_rows : TreeWords → LockState → (schedule trace rows : List ℕ) → List ℕ
waits_rows w s is b rs = row_buffer (refused_by w s is b rs) rs (all_rows (tree_of w) (steps (tree_of w) is s.words))

-- A RUN THAT CONTINUES attempts under way. The number and place of its answer
unfoldable pub refused_on : TreeWords → LockState → (schedule trace rows under_way : List ℕ) → Refusal
refused_on w s is b rs us = waits_on_refusal (tree_of w) s is (length b) (length rs) us

-- its reply
unfoldable pub waits_on_answer : TreeWords → LockState → (schedule trace rows under_way : List ℕ) → WaitsReply
waits_on_answer w s is b rs us =
    waits_reply (refused_on w s is b rs us) s (run (tree_of w) is s.words) (counters_after_run (tree_of w) is s) (tree_of w).threads

-- the trace buffer after it
unfoldable pub waits_on_trace : TreeWords → LockState → (schedule trace rows under_way : List ℕ) → List ℕ
waits_on_trace w s is b rs us = run_buffer (refused_on w s is b rs us) b (run (tree_of w) is s.words)

-- the row buffer after it
unfoldable pub waits_on_rows : TreeWords → LockState → (schedule trace rows under_way : List ℕ) → List ℕ
waits_on_rows w s is b rs us = row_buffer (refused_on w s is b rs us) rs (all_rows_from (tree_of w) us (steps (tree_of w) is s.words))

-- the 256 numbers of attempts under way after it: new ones for the tree's threads, 0 for unused slots; if refused, unchanged
unfoldable pub waits_on_under_way : TreeWords → LockState → (schedule trace rows under_way : List ℕ) → List ℕ
waits_on_under_way w s is b rs us =
    let numbers = under_way_below (tree_of w) us (tree_of w).threads (steps (tree_of w) is s.words) in
    cond (eqb (refused_on w s is b rs us).number 0) (numbers ++ replicate (256 - (tree_of w).threads) 0) us
