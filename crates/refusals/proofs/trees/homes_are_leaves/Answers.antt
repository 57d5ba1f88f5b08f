-- `refusals::trees::homes_are_leaves` meets its contract: the fold tests each byte of both tables.
use Rattle.std.proofs.Common.{◌≡◌, Bool, true, ◌&&◌, length, sym, ◌∙◌, rules, tests}
use Rattle.std.proofs.lemmas.Iterator.{YieldsList-from_slice, YieldsList-from_zip}
use Rattle.std.proofs.lemmas.Iterator.Consumers.{fold_from_yields_List}
use Rattle.refusals.proofs.Homes.{differ, fold_alike, tables_differ}
use Rattle.refusals.proofs.trees.homes_are_leaves.Goals as goal

pub returns : goal.returns
returns c =
    let ms = c.marked_homes-marked.result in
    let us = c.unfit_homes-unfit.result in
    let room = c.marked_homes-marked.ensures.room in
    let long : length us ≡ 256 = search rules in
    let folded = fold_from_yields_List _ (λ (same : Bool) (p : Bool × Bool). same && differ p.0 p.1) true c.fold.result c.fold.ensures.ran
    (YieldsList-from_zip (YieldsList-from_slice ms (cc)) (YieldsList-from_slice us (cc))) (λ a x b q k. search (rules, tests)) in
    tables_differ _ _ _ _ ms us _ c.args.tree.now.few_domains c.marked_homes-marked.ensures c.unfit_homes-unfit.ensures (rw room at (folded ∙ fold_alike ms us true (room ∙ sym long)))
