-- `refusals::trees::unfit_homes` meets its contract: the domains are unmarked, then the parents of the domains so far are marked.
use Rattle.std.proofs.Common.{◌≡◌, ◌∙◌, ap, true, ◌<◌, false, replicate, get_or, arith, rules}
use Rattle.std.proofs.lemmas.List.{length-take-le}
use Rattle.refusals.proofs.Homes.{no_domains, marked_first, marked_next, marked_all}
use Rattle.refusals.proofs.trees.unfit_homes.Goals as goal

pub loop-d-init : goal.loop-d-init
loop-d-init c = let n = c.args.tree.now.words.now.domains in
    let all : c.fill.new.self ≡ replicate n false = c.fill.ensures.after (λ y h. search rules) ∙ ap (λ k. replicate k false) (length-take-le n (replicate 256 true) (omega (arith, c.args.tree.now.few_domains))) in
    marked_first _ _ _ (rw all (no_domains n (omega (arith, c.args.tree.now.few_domains))))

pub loop-d-preserved : goal.loop-d-preserved
loop-d-preserved c = let small : get_or c.args.tree.now.words.now.parents c.loop-d.d 0 < 256 = search rules in
    rw c.from-p.ensures (marked_next _ _ _ _ c.loop-d.invariant c.loop-d.auto.d c.loop-d-test.true small)

pub returns : goal.returns
returns c = marked_all _ _ _ _ c.loop-d.invariant (omega (arith, c.args.tree.now.some_domain, c.loop-d.auto.d-end))
