-- Document 02, (v): what the call answers, and the buffer after it, for every input.
use Rattle.std.specs.Prelude.{cond, List, ◌++◌, ℕ, eqb, length, drop}
use Rattle.model.specs.declared.TreeWords.{TreeWords}
use Rattle.model.specs.Trees.{Tree, tree_of}
use Rattle.model.specs.Refusals.{Refusal}
use Rattle.lock_file.specs.declared.file_writer.WriteReply.{WriteReply}
use Rattle.lock_file.specs.FileWriter.Writing.{written_file}
use Rattle.lock_file.specs.FileWriter.Refusals.{write_refusal}

-- the reply: number, place and the length of the file, which is 0 if refused
unfoldable pub write_reply : Refusal → (file_length : ℕ) → WriteReply
write_reply r n = record { number = r.number; place = r.place; length = cond (eqb r.number 0) n 0 }

-- the length of the file
abbrev pub answered_length : Tree → (schedule : List ℕ) → ℕ
answered_length t is = length (written_file t is)

-- the buffer after the call: the file at the front, the rest unchanged; if refused, all of it unchanged
unfoldable pub file_buffer : Refusal → (buffer file : List ℕ) → List ℕ
file_buffer r b bs = cond (eqb r.number 0) (bs ++ drop (length bs) b) b

-- what the call answers
unfoldable pub write_answer : TreeWords → (schedule buffer : List ℕ) → WriteReply
write_answer w is b = write_reply (write_refusal (tree_of w) is (length b)) (answered_length (tree_of w) is)

-- what the call leaves in the buffer
unfoldable pub file_buffer_answer : TreeWords → (schedule buffer : List ℕ) → List ℕ
file_buffer_answer w is b = file_buffer (write_refusal (tree_of w) is (length b)) b (written_file (tree_of w) is)
