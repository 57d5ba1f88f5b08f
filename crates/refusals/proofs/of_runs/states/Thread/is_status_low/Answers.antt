-- `refusals::of_runs::states::Thread::is_status_low` meets its contract: the record at the root is the tree's.
use mathlib.Core.Path.{refl}
use native.Mathlib.Omega.{arith}
use Rattle.model.specs.Trees.{tree_of}
use Rattle.refusals.specs.Arrays.{parents_in}
use Rattle.refusals.proofs.Meeting.{child_same}
use Rattle.refusals.proofs.of_runs.Passing.{shape_of}
use Rattle.refusals.proofs.of_runs.states.Thread.is_status_low.Goals as goal

pub record_at-r-requires : goal.record_at-r-requires
record_at-r-requires c =
    let shape = shape_of c.args.self.now.tree.now c.args.self.now.accepted in
    record { domains_bound = (shape.few_domains, omega (arith, shape.few_threads, c.args.self.now.there)); lower = shape.low; home_lt_domains = c.args.self.now.home_there }

pub returns : goal.returns
unfolding tree_of
returns c =
    let w = c.args.self.now.tree.now in
    rw (c.from.ensures, c.record_at-r.ensures.0, child_same 6 (parents_in w.domains w.parents) (tree_of w) 0 c.args.self.now.home (λ e. refl))
