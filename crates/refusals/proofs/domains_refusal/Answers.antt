-- `refusals::domains_refusal` meets its contract: one pass, or the scans in order.
use Rattle.std.proofs.Common.{sym, arith, rules}
use Rattle.refusals.proofs.Ranges.{none_found}
use Rattle.refusals.proofs.TreeTests as tests
use Rattle.refusals.proofs.domains_refusal.Goals as goal

pub returns-then-domains_pass : goal.returns-then-domains_pass
returns-then-domains_pass c = sym (c.domains_pass.ensures.sound c.if-domains_pass.true)

pub returns-in-Some : goal.returns-in-Some
returns-in-Some c = let d = c.in-Some.ensures in
    rw c.at.ensures (sym (tests.parent_refused c.args.tree.now.words.now _ d.0 d.1))

pub lowest_too_deep-requires : goal.lowest_too_deep-requires
lowest_too_deep-requires c = tests.lower_by c.args.tree.now.words.now _ (none_found _ _ _ (search rules) c.lowest_bad_parent.ensures) (omega arith)

pub returns-in-Some-lowest_too_deep : goal.returns-in-Some-lowest_too_deep
returns-in-Some-lowest_too_deep c = let l₆ = none_found _ _ c.lowest_bad_parent.result (search rules) c.lowest_bad_parent.ensures in
    let d = c.in-Some-lowest_too_deep.ensures in
    rw c.at-in-Some-lowest_too_deep.ensures (sym (tests.level_refused c.args.tree.now.words.now _ l₆ (omega arith) _ d.0 d.1))

pub returns-in-Some-lowest_no_threshold : goal.returns-in-Some-lowest_no_threshold
returns-in-Some-lowest_no_threshold c = let l₆ = none_found _ _ c.lowest_bad_parent.result (search rules) c.lowest_bad_parent.ensures in
    let l₇ = none_found _ _ c.lowest_too_deep.result (search rules) c.lowest_too_deep.ensures in
    let d = c.in-Some-lowest_no_threshold.ensures in
    rw c.at-in-Some-lowest_no_threshold.ensures (sym (tests.threshold_refused c.args.tree.now.words.now _ l₆ (omega arith) _ l₇ (omega arith) _ d.0 d.1))

pub returns : goal.returns
returns c = let l₆ = none_found _ _ c.lowest_bad_parent.result (search rules) c.lowest_bad_parent.ensures in
    let l₇ = none_found _ _ c.lowest_too_deep.result (search rules) c.lowest_too_deep.ensures in
    let l₈ = none_found _ _ c.lowest_no_threshold.result (search rules) c.lowest_no_threshold.ensures in
    sym (tests.domains_pass c.args.tree.now.words.now _ l₆ (omega arith) _ l₇ (omega arith) _ l₈ (omega arith))
