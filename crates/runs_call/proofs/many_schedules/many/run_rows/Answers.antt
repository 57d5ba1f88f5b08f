-- `runs_call::many_schedules::many::run_rows` meets its contract: the rows stored so far, and those left.
use mathlib.Core.Path.{◌≡◌, refl, ap, ◌∙◌}
use Prim.Native.Nat.{◌+◌, ◌-◌}
use native.Mathlib.Omega.{arith}
use lib.ListN.{take, drop, get_or}
use Rattle.runs_call.proofs.many_schedules.Storing.{start, next_fits, turn, ends}
use borrow.Author.Rules.{rules}
use Rattle.runs_call.proofs.many_schedules.many.run_rows.Goals as goal

pub loop-n-init : goal.loop-n-init
loop-n-init c = (start _ _ _ _ c.requires.lengths_value, refl)

pub overflow_add-end : goal.overflow_add-end
overflow_add-end c = omega (arith, c.loop-n.invariant.0.ahead, next_fits _ _ _ _ _ _ _ _ c.loop-n.invariant.0 (omega arith))

pub slice_bounds-run_row-end : goal.slice_bounds-run_row-end
slice_bounds-run_row-end c = let h = next_fits _ _ _ _ _ _ _ _ c.loop-n.invariant.0 (omega arith) in search rules

pub run_row-requires : goal.run_row-requires
run_row-requires c = record { trace_len = omega (arith, c.loop-n.invariant.1, c.requires); at_in_bounds = omega (arith, c.loop-n.invariant.0.row_place, c.loop-n.invariant.0.long, c.loop-n-test.true, c.requires) }

pub overflow_add-at : goal.overflow_add-at
overflow_add-at c = omega (arith, c.loop-n.invariant.0.row_place, c.loop-n-test.true, c.requires)

pub loop-n-preserved : goal.loop-n-preserved
loop-n-preserved c = let part : c.loop-n.from + get_or c.args.lengths.now c.loop-n.n-index 0 - c.loop-n.from ≡ get_or c.args.lengths.now c.loop-n.n-index 0 = omega arith in (
  turn _ _ _ _ _ _ _ _ c.loop-n.invariant.0 c.loop-n-test.true _ _ (ap (λ m. take m (drop c.loop-n.from c.args.entries.now)) part) c.run_row.ensures,
  c.run_row.auto.trace ∙ c.loop-n.invariant.1,
)

pub returns : goal.returns
returns c = ends _ _ _ _ _ _ _ _ c.loop-n.invariant.0 (omega arith)
