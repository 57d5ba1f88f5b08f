-- At each turn of the loop, the remaining entries give the result of the whole.
use Rattle.std.proofs.Common.{◌≡◌, sym, ◌∙◌, Err, rules}
use Rattle.lock_file.proofs.Positions.{thread_within, threads_next, threads_over}
use Rattle.lock_file.proofs.Results.{threads_stopped}
use Rattle.lock_file.proofs.reading.read_threads.Goals as goal

pub returns-in_err-next : goal.returns-in_err-next
returns-in_err-next c =
    let e : c.from_residual.result ≡ Err c.in_err-next.field-0.0 = search rules in
    rw e (threads_stopped _ _ _ _ _ _ _ c.loop-i-test.true c.in_err-next.ensures ∙ c.loop-i.invariant)

pub given_byte-home-requires : goal.given_byte-home-requires
given_byte-home-requires c = (thread_within _ _ _ (sym c.in_ok-next.ensures)).inside

pub loop-i-preserved : goal.loop-i-preserved
loop-i-preserved c =
    rw (c.store.ensures, c.given_byte-home.ensures)
    (sym (threads_next _ _ _ _ _ _ _ c.loop-i-test.true (sym c.in_ok-next.ensures)) ∙ c.loop-i.invariant)

pub returns : goal.returns
returns c = sym (threads_over _ _ _ _ _ _ c.loop-i-test.false) ∙ c.loop-i.invariant
