-- Stuck without a count or a parenthesis after it; otherwise that many more threads.
use Rattle.std.proofs.Common.{◌≡◌, Err, rules}
use Rattle.text_tree_call.proofs.Parts.{leaf_wrong, leaf_closed}
use Rattle.text_tree_call.proofs.domains.read_leaf.Goals as goal

pub returns-in_err-after : goal.returns-in_err-after
returns-in_err-after c =
    let e : c.from_residual-in_err-after.result ≡ Err c.in_err-after.field-0.0 = search rules in
    rw e (leaf_wrong _ _ _ _ _ c.read_count.ensures _ c.in_ok-end.was _ _ c.in_err-after.ensures)

pub returns : goal.returns
returns c = rw c.add_threads.ensures (leaf_closed _ _ _ _ _ c.read_count.ensures _ c.in_ok-end.was _ c.in_ok-after.ensures)
