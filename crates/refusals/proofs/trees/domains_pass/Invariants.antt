-- `refusals::trees::domains_pass` meets its contract: the domains so far fail none of 6 to 8.
use Rattle.refusals.proofs.Domains.{Passed}
use Rattle.refusals.proofs.trees.domains_pass.Given as goal

abbrev pub invariant-loop-d : goal.invariant-loop-d
invariant-loop-d l = Passed l.tree.words.now l.levels l.d
