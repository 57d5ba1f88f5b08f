-- `refusals::of_runs::owners::owners_of` meets its contract: the homes and the parents are copied into the table.
use borrow.Author.Rules.{rules}
use Rattle.refusals.proofs.of_runs.Owning.{table_owns}
use Rattle.refusals.proofs.of_runs.owners.owners_of.Goals as goal

pub returns : goal.returns
returns c = rw (c.copy_from_slice.ensures.after, c.copy_from_slice-2.ensures.after) (table_owns c.args.tree.now c.requires.0 c.requires.1 c.requires.2 (search rules) (search rules))
