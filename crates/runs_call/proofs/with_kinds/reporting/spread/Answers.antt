-- `runs_call::with_kinds::reporting::spread` meets its contract: the steps from a given one on have two numbers each.
use mathlib.Core.Path.{◌≡◌}
use Prim.Native.Nat.{◌+◌, ◌-◌, ◌*◌, ◌%◌}
use native.Mathlib.Omega.{arith}
use lib.ListN.{get_or, length-set}
use Rattle.runs_call.proofs.with_kinds.Spreading.{spread_none, spread_one}
use Rattle.runs_call.proofs.with_kinds.reporting.spread.Goals as goal

pub loop-k-init : goal.loop-k-init
loop-k-init c = (omega arith, spread_none _ _ _)

pub bounds-rows-k : goal.bounds-rows-k
bounds-rows-k c = omega (arith, c.loop-k.invariant.0, c.loop-k.invariant.1.long, c.requires.schedule_in_bounds)

pub bounds-schedule-k : goal.bounds-schedule-k
bounds-schedule-k c = omega (arith, c.loop-k.invariant.0)

pub bounds-homes-from : goal.bounds-homes-from
bounds-homes-from c = let k = c.loop-k.k in
    rw c.from.ensures (c.requires.threads_fit.fits (k - 1) (omega (arith, c.loop-k.invariant.0)))

pub overflow_mul-rows : goal.overflow_mul-rows
overflow_mul-rows c = omega (arith, c.loop-k.invariant.0, c.loop-k.invariant.1.long, c.requires.schedule_in_bounds)

pub offset_bounds-rows-k-in-loop-k : goal.offset_bounds-rows-k-in-loop-k
offset_bounds-rows-k-in-loop-k c = omega (arith, c.loop-k.invariant.0, c.loop-k.invariant.1.long, c.requires.schedule_in_bounds)

pub bounds-rows-k-in-loop-k : goal.bounds-rows-k-in-loop-k
bounds-rows-k-in-loop-k c = omega (arith, c.loop-k.invariant.0, c.loop-k.invariant.1.long, c.requires.schedule_in_bounds)

pub overflow_mul-rows-in-loop-k : goal.overflow_mul-rows-in-loop-k
overflow_mul-rows-in-loop-k c = omega (arith, c.loop-k.invariant.0, c.loop-k.invariant.1.long, c.requires.schedule_in_bounds)

pub overflow_add-rows : goal.overflow_add-rows
overflow_add-rows c = omega (arith, c.loop-k.invariant.0, c.loop-k.invariant.1.long, c.requires.schedule_in_bounds)

pub offset_bounds-rows-k-in-loop-k-2 : goal.offset_bounds-rows-k-in-loop-k-2
offset_bounds-rows-k-in-loop-k-2 c = omega (arith, c.loop-k.invariant.0, c.loop-k.invariant.1.long, c.requires.schedule_in_bounds)

pub bounds-rows-k-in-loop-k-2 : goal.bounds-rows-k-in-loop-k-2
bounds-rows-k-in-loop-k-2 c = omega (arith, c.loop-k.invariant.0, c.loop-k.invariant.1.long, c.requires.schedule_in_bounds, length-set c.loop-k.rows (2 * (c.loop-k.k - 1)) (get_or c.loop-k.rows (c.loop-k.k - 1) 0 % 8))

pub loop-k-preserved : goal.loop-k-preserved
loop-k-preserved c = let k = c.loop-k.k in
    let z : k - 1 + 1 ≡ k = omega arith in
    (omega (arith, c.loop-k.invariant.0), spread_one _ _ _ c.loop-k.rows (k - 1) (omega (arith, c.loop-k.invariant.0)) c.requires.schedule_in_bounds (rw z c.loop-k.invariant.1) _ _ _ c.from.ensures c.from-in-loop-k.ensures c.domain_of_code-domain.ensures)

pub returns : goal.returns
returns c = let z : c.loop-k.k ≡ 0 = omega arith in
    rw z at c.loop-k.invariant.1
