-- `lock::steps::limits::has_room` meets its contract: no counter so far is above the OR of all of them.
use native.Mathlib.Omega.{arith}
use borrow.Author.Tests.{leb-true}
use Prim.Native.Nat.{◌≤◌}
use lib.Bits.{bit_or}
use lib.ListN.{get_or}
use Rattle.lock.proofs.steps.Above.{or_above_left, or_above_right, one_more_below}
use Rattle.lock.proofs.steps.limits.has_room.Goals as goal

pub loop-d-init : goal.loop-d-init
loop-d-init c = (λ j l. absurd (omega arith), λ j l. absurd (omega arith))

pub loop-d-preserved : goal.loop-d-preserved
loop-d-preserved c = let es = c.args.counters.now.entries in
    let ns = c.args.counters.now.tenures in
    let e = get_or es c.loop-d.d 0 in
    let n = get_or ns c.loop-d.d 0 in
    let all = c.loop-d.all in
    let kept : all ≤ bit_or all (bit_or e n) = or_above_left all (bit_or e n) in
    let more = or_above_right all (bit_or e n) in
    (one_more_below es c.loop-d.d all (bit_or all (bit_or e n)) c.loop-d.invariant.0 kept (omega (arith, or_above_left e n, more)), one_more_below ns c.loop-d.d all (bit_or all (bit_or e n)) c.loop-d.invariant.1 kept (omega (arith, or_above_right e n, more)))

pub returns : goal.returns
returns c = record { entries_fit = λ e j h. omega (arith, leb-true c.loop-d.all 9223372036854710272 e, c.loop-d.invariant.0 j (omega (arith, c.loop-d-test.false))); tenures_fit = λ e j h. omega (arith, leb-true c.loop-d.all 9223372036854710272 e, c.loop-d.invariant.1 j (omega (arith, c.loop-d-test.false))) }
