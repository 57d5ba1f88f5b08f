-- How the code returns what reading gives: a position or a tree, or why reading stops.
use Rattle.std.specs.Prelude.{List, ℕ, Result, Ok, Err}
use Rattle.model.specs.Refusals.{refusal}
use Rattle.refusals.specs.declared.reasons.Refusal as reasons
use Rattle.refusals.specs.Reasons.{number_of}
use Rattle.lock_file.specs.declared.ReadError.{ReadError}
use Rattle.lock_file.specs.declared.ReadError.TheVariants.{FileCut, FileBit}
use Rattle.lock_file.specs.declared.TreeRead as declared
use Rattle.lock_file.specs.Reading.{Reached, At, Ended, BadMap, Reading, refused, described, entries_at}

-- how far reading came, from the result
abbrev pub reached_of : Result ℕ ReadError → Reached
reached_of (Ok at) = At at
reached_of (Err FileCut) = Ended
reached_of (Err (FileBit p)) = BadMap p

-- what was read, from the result: a refusal, or a tree and its schedule
abbrev pub reading_from : (bytes : List ℕ) → Result declared.TreeRead reasons.Refusal → Reading
reading_from bs (Ok r) = described r.tree (entries_at bs r.start)
reading_from bs (Err r) = refused (refusal (number_of r.reason) r.place)
