-- There is one schedule entry for every two bytes left.
use Rattle.lock_file.specs.Reading.{entries_at}
use Rattle.lock_file.specs.Answers.{reading_reply}
use Rattle.lock_file.proofs.Positions.{entries_length}
use Rattle.lock_file.proofs.answering.described_at.Goals as goal

pub returns-clause-value : goal.returns-clause-value
unfolding reading_reply entries_at
returns-clause-value c = rw (entries_length _ _ _)
