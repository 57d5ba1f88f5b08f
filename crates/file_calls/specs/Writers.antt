-- What a writer is after some bytes.
use Rattle.std.specs.Prelude.{List, ℕ, ◌+◌, length}
use Rattle.std.proofs.lemmas.List.Edits.{sets}
use Rattle.file_calls.specs.declared.writing.writing.Writer.{Writer}

-- the writer with these bytes in its buffer from its position on, and the position after them
abbrev pub written : Writer → (bytes : List ℕ) → Writer
written w ls =
    record { buffer = record { ref_ptr = w.buffer.ref_ptr; ghost_name = w.buffer.ghost_name; now = sets w.buffer.now w.at ls }; at = w.at + length ls }
