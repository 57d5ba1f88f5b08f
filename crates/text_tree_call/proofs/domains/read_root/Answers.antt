-- Stuck without an opening parenthesis; otherwise the root is read as a domain with five levels left, and it ends at the end of the text or not.
use Rattle.std.proofs.Common.{◌≡◌, Err, rules}
use Rattle.text_tree_call.proofs.Parts.{root_stuck, root_wrong, root_whole, root_more}
use Rattle.text_tree_call.proofs.domains.read_root.Goals as goal

pub returns-in_err-inside : goal.returns-in_err-inside
returns-in_err-inside c =
    let e : c.from_residual.result ≡ Err c.in_err-inside.field-0.0 = search rules in
    rw e (root_stuck _ _ c.in_err-inside.ensures)

pub returns-in_err-end : goal.returns-in_err-end
returns-in_err-end c =
    let e : c.from_residual-in_err-end.result ≡ Err c.in_err-end.field-0.0 = search rules in
    let read = rw c.root_tree-tree.ensures at c.read_domain.ensures in
    rw e (root_wrong _ _ c.in_ok-inside.ensures _ _ read _ c.in_err-end.was)

pub returns-then-end-text : goal.returns-then-end-text
returns-then-end-text c =
    let read = rw c.root_tree-tree.ensures at c.read_domain.ensures in
    root_whole _ _ c.in_ok-inside.ensures _ _ read _ c.in_ok-end.was c.if-end-text.true

pub returns : goal.returns
returns c =
    let read = rw c.root_tree-tree.ensures at c.read_domain.ensures in
    root_more _ _ c.in_ok-inside.ensures _ _ read _ c.in_ok-end.was c.if-end-text.false
