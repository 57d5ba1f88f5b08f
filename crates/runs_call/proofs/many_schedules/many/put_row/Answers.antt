-- `runs_call::many_schedules::many::put_row` meets its contract: eight numbers are copied.
use mathlib.Core.Path.{ap, ◌∙◌}
use Prim.Native.Nat.{◌+◌, ◌-◌}
use native.Mathlib.Omega.{arith}
use lib.ListN.{length}
use lib.Seq.{sets}
use Rattle.runs_call.proofs.Copying.{put_stored}
use Rattle.runs_call.proofs.many_schedules.many.put_row.Goals as goal

pub returns : goal.returns
returns c = let a = c.args in
    let same = c.copy_from_slice.ensures.after in
    put_stored a.at (a.at + 8 - a.at) a.rows.now c.copy_from_slice.new.self (omega (arith, ap length same)) (omega (arith, c.requires)) ∙ ap (sets a.rows.now a.at) same
