-- A leaf, too many levels, or a list; and in a list: stuck, over, or one more domain, which begins later in the text.
use Rattle.std.proofs.Common.{sym, ◌∙◌, rules}
use Rattle.text_tree_call.proofs.Parts.{domain_leaf, domain_too_deep, domain_list, numbered, list_due, list_closed, list_wrong}
use Rattle.text_tree_call.proofs.domains.+read_domain_read_list.Goals as goal

pub read_domain-returns-then-byte_at-eq35 : goal.read_domain-returns-then-byte_at-eq35
read_domain-returns-then-byte_at-eq35 t c = domain_leaf _ _ _ _ _ _ _ (sym c.byte_at.ensures ∙ c.if-byte_at-eq35.true) c.read_leaf.ensures

pub read_domain-returns-then-left-eq0 : goal.read_domain-returns-then-left-eq0
read_domain-returns-then-left-eq0 t c = domain_too_deep _ _ _ _ _ _ (λ e. c.if-byte_at-eq35.false (c.byte_at.ensures ∙ e)) c.if-left-eq0.true

pub read_domain-returns : goal.read_domain-returns
read_domain-returns t c = domain_list _ _ _ _ _ _ _ (λ e. c.if-byte_at-eq35.false (c.byte_at.ensures ∙ e)) c.if-left-eq0.false c.read_list.ensures

pub read_list-loop-inside-preserved : goal.read_list-loop-inside-preserved
read_list-loop-inside-preserved t c =
    let read = numbered c.next_number-number.ensures c.read_domain.ensures in
    list_due _ _ _ _ _ _ _ c.loop-inside.invariant _ _ c.begin_domain.ensures _ c.in_ok-inside.was _ _ read _ c.in_ok-end.was (sym c.byte_at.ensures ∙ c.in-32.is)

pub read_list-returns-in-41 : goal.read_list-returns-in-41
read_list-returns-in-41 t c =
    let read = numbered c.next_number-number.ensures c.read_domain.ensures in
    list_closed _ _ _ _ _ _ _ c.loop-inside.invariant _ _ c.begin_domain.ensures _ c.in_ok-inside.was _ _ read _ c.in_ok-end.was (sym c.byte_at.ensures ∙ c.in-41.is)

pub read_list-returns-in_default : goal.read_list-returns-in_default
read_list-returns-in_default t c =
    let read = numbered c.next_number-number.ensures c.read_domain.ensures in
    list_wrong _ _ _ _ _ _ _ c.loop-inside.invariant _ _ c.begin_domain.ensures _ c.in_ok-inside.was _ _ read _ c.in_ok-end.was (search rules) (search rules)
