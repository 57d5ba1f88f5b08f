-- The smaller of the number and 64.
use Rattle.std.proofs.Common.{◌∙◌}
use Rattle.text_tree.specs.Words.{new_number, least}
use Rattle.text_tree_call.proofs.Limits.{min_least}
use Rattle.text_tree_call.proofs.tree.next_number.Goals as goal

pub returns : goal.returns
unfolding new_number least
returns c = c.min.ensures ∙ min_least 64 c.args.domains
