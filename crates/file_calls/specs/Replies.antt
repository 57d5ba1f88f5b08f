-- The replies of running and writing a lock file, from the results of the functions inside.
use Rattle.std.specs.Prelude.{ℕ, Result, Ok, Err}
use Rattle.refusals.specs.declared.reasons.Refusal.{Refusal}
use Rattle.refusals.specs.Reasons.{number_of}
use Rattle.lock_file.specs.declared.file_answers.FileReply.{FileReply}
use Rattle.lock_file.specs.declared.file_writer.WriteReply.{WriteReply}

-- the length of the file, or the number and place of a refusal with length 0
abbrev pub write_reply : Result ℕ Refusal → WriteReply
write_reply (Ok n) = record { number = 0; place = 0; length = n }
write_reply (Err r) = record { number = number_of r.reason; place = r.place; length = 0 }

-- the length of the listing, or the number and place of a refusal with length 0
abbrev pub file_reply : Result ℕ Refusal → FileReply
file_reply (Ok n) = record { number = 0; place = 0; length = n }
file_reply (Err r) = record { number = number_of r.reason; place = r.place; length = 0 }
