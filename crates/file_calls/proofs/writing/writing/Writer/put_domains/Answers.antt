-- At each turn of the loop, what remains to write gives the result of the whole.
use Rattle.std.proofs.Common.{refl, get_or, rules}
use Rattle.model.specs.Trees.{tree_of}
use Rattle.file_calls.proofs.writing.Stored.{domains_over, domain_stored}
use Rattle.file_calls.proofs.writing.Trees.{parent_read, threshold_read}
use Rattle.file_calls.proofs.writing.Writers.{room_first, rest_after, none_left}
use Rattle.file_calls.proofs.writing.writing.Writer.put_domains.Goals as goal

pub loop-d-init : goal.loop-d-init
unfolding tree_of
loop-d-init c = refl

pub put_domain-requires : goal.put_domain-requires
put_domain-requires c =
    let w = c.args.tree.now in
    let t = tree_of w in
    let next = domain_stored t.parent t.threshold w.domains c.loop-d.d (get_or w.parents c.loop-d.d 0) (get_or w.thresholds c.loop-d.d 0) c.loop-d-test.true (parent_read w c.loop-d.d (search rules) c.loop-d-test.true) (threshold_read w c.loop-d.d (search rules) c.loop-d-test.true (search rules)) in
    room_first _ _ _ _ _ _ next c.loop-d.invariant c.requires.domains_in_bounds

pub loop-d-preserved : goal.loop-d-preserved
loop-d-preserved c =
    let w = c.args.tree.now in
    let t = tree_of w in
    let next = domain_stored t.parent t.threshold w.domains c.loop-d.d (get_or w.parents c.loop-d.d 0) (get_or w.thresholds c.loop-d.d 0) c.loop-d-test.true (parent_read w c.loop-d.d (search rules) c.loop-d-test.true) (threshold_read w c.loop-d.d (search rules) c.loop-d-test.true (search rules)) in
    rest_after _ _ _ _ _ _ next c.loop-d.invariant c.put_domain.ensures

pub returns : goal.returns
returns c =
    let w = c.args.tree.now in
    let t = tree_of w in
    none_left _ _ _ (domains_over t.parent t.threshold w.domains c.loop-d.d c.loop-d-test.false) c.loop-d.invariant
