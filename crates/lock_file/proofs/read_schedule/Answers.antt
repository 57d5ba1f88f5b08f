-- All entries at the front, or a buffer that is too short for them.
use Rattle.std.proofs.Common.{◌∙◌, sym, rules}
use Rattle.lock_file.proofs.Filling.{short_filled, whole_filled}
use Rattle.lock_file.proofs.read_schedule.Goals as goal

pub returns-then-entries-schedule : goal.returns-then-entries-schedule
returns-then-entries-schedule c = (rw c.saturating_sub-entries.ensures at c.read_entries.ensures) ∙ whole_filled _ _ _ (search rules)

pub returns-else-entries-schedule : goal.returns-else-entries-schedule
returns-else-entries-schedule c = sym (short_filled _ _ _ (search rules))
