-- `refusals::of_runs::is_well_formed` meets its contract: the root, the unused slots, the domains and the threads are the parts of the state.
use borrow.Author.Rules.{rules}
use Rattle.model.specs.Trees.{tree_of}
use Rattle.model.proofs.Trees.Accepted.{accepted}
use Rattle.refusals.proofs.of_runs.Passing.{shape_of, homes_there, parts_are}
use Rattle.refusals.proofs.of_runs.is_well_formed.Goals as goal

pub owners_of-owners-requires : goal.owners_of-owners-requires
owners_of-owners-requires c = let k = shape_of c.args.tree.now.words.now c.args.tree.now.accepted in (k.some_domain, k.few_domains, k.few_threads)

pub is_clear-requires : goal.is_clear-requires
is_clear-requires c = let k = shape_of c.args.tree.now.words.now c.args.tree.now.accepted in (k.few_threads, k.few_domains)

pub good_domains-requires : goal.good_domains-requires
good_domains-requires c = (shape_of c.args.tree.now.words.now c.args.tree.now.accepted).few_domains

pub good_threads-requires : goal.good_threads-requires
good_threads-requires c = homes_there c.args.tree.now.words.now c.args.tree.now.accepted _ c.owners_of-owners.ensures

pub returns-then-good_domains : goal.returns-then-good_domains
unfolding tree_of
returns-then-good_domains c = rw (parts_are (tree_of c.args.tree.now.words.now) (accepted _ c.args.tree.now.accepted) _ c.owners_of-owners.ensures c.args.words.now) (search rules)

pub returns-else-good_domains : goal.returns-else-good_domains
unfolding tree_of
returns-else-good_domains c = rw (parts_are (tree_of c.args.tree.now.words.now) (accepted _ c.args.tree.now.accepted) _ c.owners_of-owners.ensures c.args.words.now) (search rules)
