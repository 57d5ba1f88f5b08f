-- The tests refuse nothing.
use mathlib.Core.Path.{sym, ap}
use Rattle.model.specs.Refusals.{Refusal, accepted, refusal}
use Rattle.model.proofs.Trees.Reading.{few_domains, few_threads}
use Rattle.refusals.proofs.accepted_tree.AcceptedTree.of.Goals as goal

pub invariant_of-result : goal.invariant_of-result
unfolding accepted refusal
invariant_of-result c =
    let ok = ap (λ (r : Refusal). r.number) (sym c.in_ok-tree_refusal_of.ensures) in
    record { accepted = ok; few_domains = few_domains _ ok; few_threads = few_threads _ ok }
