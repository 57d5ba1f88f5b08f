-- Document 02, (xi): what the call answers, and the row buffer after it, for every input.
use Rattle.std.specs.Prelude.{cond, List, ◌++◌, ℕ, eqb, length, drop}
use Rattle.model.specs.declared.TreeWords.{TreeWords}
use Rattle.model.specs.Trees.{tree_of}
use Rattle.model.specs.Refusals.{Refusal}
use Rattle.schedules.specs.declared.ManyReply.{ManyReply}
use Rattle.schedules.specs.Rows.{cut, all_rows}
use Rattle.schedules.specs.Refusals.{many_refusal}

-- the number and place of the answer
unfoldable pub many_answer : TreeWords → (lengths entries buffer : List ℕ) → Refusal
many_answer w ns es b = many_refusal (tree_of w) ns (length es) (length b)

-- the reply: number and place, and the number of rows written: one per schedule, or none if refused
unfoldable pub many_reply : TreeWords → (lengths entries buffer : List ℕ) → ManyReply
many_reply w ns es b =
    let r = many_answer w ns es b in
    record { number = r.number; place = r.place; rows = cond (eqb r.number 0) (length ns) 0 }

-- the row buffer after the call: the rows at the front, the rest unchanged; if refused, all of it unchanged
unfoldable pub row_buffer : Refusal → (buffer rows : List ℕ) → List ℕ
row_buffer r b xs = cond (eqb r.number 0) (xs ++ drop (length xs) b) b

-- what the call leaves in the row buffer
unfoldable pub rows_answer : TreeWords → (lengths entries buffer : List ℕ) → List ℕ
rows_answer w ns es b = row_buffer (many_answer w ns es b) b (all_rows w (cut ns es))
