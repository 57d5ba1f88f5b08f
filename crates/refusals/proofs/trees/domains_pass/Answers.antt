-- `refusals::trees::domains_pass` meets its contract: the domains so far fail none of 6 to 8.
use Rattle.std.proofs.Common.{◌≡◌, ◌<◌, get_or, arith, rules}
use Rattle.refusals.proofs.Domains.{passed_first, passed_next, passed_all}
use Rattle.refusals.proofs.trees.domains_pass.Goals as goal

pub loop-d-init : goal.loop-d-init
loop-d-init c = passed_first _

pub loop-d-preserved : goal.loop-d-preserved
loop-d-preserved c = let small : get_or c.args.tree.now.words.now.thresholds c.loop-d.d 0 < 65536 = search rules in
    let some : get_or c.args.tree.now.words.now.thresholds c.loop-d.d 0 ≡ 0 → ⊥ = search rules in
    rw c.from-in-loop-d.ensures (passed_next _ _ _ c.args.tree.now.few_domains c.loop-d.invariant c.loop-d.auto.d c.loop-d-test.true (rw c.from.ensures at c.if-d-from.false) (rw c.from-in-loop-d.ensures at c.if-level-gt6.false) small some)

pub returns : goal.returns
returns c = record { sound = λ _. passed_all _ _ _ c.loop-d.invariant (omega (arith, c.args.tree.now.some_domain, c.loop-d.auto.d-end)) }
