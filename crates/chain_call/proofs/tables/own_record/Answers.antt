-- The record by the thread's home.
use mathlib.Core.Path.{refl, sym, ◌∙◌}
use native.Mathlib.Omega.{arith}
use Rattle.model.specs.Trees.{tree_of, child, own_record}
use Rattle.model.proofs.Trees.Reading.{few_threads, few_domains, home_read}
use Rattle.refusals.specs.Arrays.{parents_in}
use Rattle.refusals.proofs.Meeting.{child_same}
use Rattle.refusals.proofs.of_runs.Passing.{shape_of}
use Rattle.chain_call.proofs.Walking.{at_home, at_real}
use Rattle.chain_call.proofs.tables.own_record.Goals as goal

pub bounds-lock-from : goal.bounds-lock-from
bounds-lock-from c = omega (arith, few_threads _ c.args.lock.now.accepted, c.requires, c.from.ensures)

pub record_at-requires : goal.record_at-requires
record_at-requires c = record { domains_bound = (few_domains _ c.args.lock.now.accepted, omega (arith, few_threads _ c.args.lock.now.accepted, c.requires)); lower = (shape_of _ c.args.lock.now.accepted).low; home_lt_domains = rw c.from.ensures (at_real _ c.args.lock.now.accepted _ c.requires _ _ (at_home _ c.args.lock.now.accepted _ c.requires)) }

pub returns : goal.returns
unfolding own_record child tree_of
returns c = let w = c.args.lock.now.tree.now in let i = c.args.i in
    (c.record_at.ensures.0 ∙ rw (c.from.ensures, sym (home_read w i c.requires), child_same 6 (parents_in w.domains w.parents) (tree_of w) c.args.l ((tree_of w).home i) (λ e. refl)), c.record_at.ensures.1)
