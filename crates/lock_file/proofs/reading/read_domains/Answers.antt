-- At each turn of the loop, the remaining entries give the result of the whole.
use Rattle.std.proofs.Common.{◌≡◌, sym, ◌∙◌, Err, rules, arith}
use Rattle.lock_file.proofs.Positions.{domain_within, domains_next, domains_over}
use Rattle.lock_file.proofs.Results.{parent_is, domains_stopped}
use Rattle.lock_file.proofs.reading.read_domains.Goals as goal

pub returns-in_err-next : goal.returns-in_err-next
returns-in_err-next c =
    let e : c.from_residual.result ≡ Err c.in_err-next.field-0.0 = search rules in
    rw e (domains_stopped _ _ _ _ _ _ _ c.loop-d-test.true c.in_err-next.ensures ∙ c.loop-d.invariant)

pub given_byte-requires : goal.given_byte-requires
given_byte-requires c = (domain_within _ _ _ (sym c.in_ok-next.ensures)).inside

pub threshold_of-requires : goal.threshold_of-requires
threshold_of-requires c = let w = domain_within _ _ _ (sym c.in_ok-next.ensures) in omega (arith, w.reaches, w.within)

pub loop-d-preserved : goal.loop-d-preserved
loop-d-preserved c =
    rw (c.store-in-loop-d.ensures, c.threshold_of.ensures, c.store.ensures, c.given_byte.ensures, parent_is)
    (sym (domains_next _ _ _ _ _ _ _ c.loop-d-test.true (sym c.in_ok-next.ensures)) ∙ c.loop-d.invariant)

pub returns : goal.returns
returns c = sym (domains_over _ _ _ _ _ _ c.loop-d-test.false) ∙ c.loop-d.invariant
