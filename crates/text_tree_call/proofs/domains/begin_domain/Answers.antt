-- Stuck without a threshold or a parenthesis after it; otherwise one more domain.
use Rattle.std.proofs.Common.{◌≡◌, Err, rules}
use Rattle.text_tree_call.proofs.Parts.{begin_wrong, begin_opens}
use Rattle.text_tree_call.proofs.domains.begin_domain.Goals as goal

pub returns-in_err-inside : goal.returns-in_err-inside
returns-in_err-inside c =
    let e : c.from_residual-in_err-inside.result ≡ Err c.in_err-inside.field-0.0 = search rules in
    rw e (begin_wrong _ _ _ _ _ c.read_threshold.ensures _ c.in_ok-end.was _ _ c.in_err-inside.ensures)

pub returns : goal.returns
returns c = rw c.add_domain.ensures (begin_opens _ _ _ _ _ c.read_threshold.ensures _ c.in_ok-end.was _ c.in_ok-inside.ensures)
