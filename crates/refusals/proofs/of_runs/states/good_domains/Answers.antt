-- `refusals::of_runs::states::good_domains` meets its contract: the words of all domains so far are good.
use mathlib.Core.Path.{sym}
use mathlib.Core.Bool.{false}
use native.Mathlib.Omega.{arith}
use borrow.Author.Rules.{rules}
use Rattle.refusals.proofs.Scanning.{all_fails, by_answer}
use Rattle.refusals.proofs.of_runs.states.good_domains.Goals as goal

pub returns-then-not-good_domain_at : goal.returns-then-not-good_domain_at
returns-then-not-good_domain_at c = sym (all_fails _ _ c.loop-d.d (omega arith) (by_answer _ false c.good_domain_at.ensures (search rules)))
