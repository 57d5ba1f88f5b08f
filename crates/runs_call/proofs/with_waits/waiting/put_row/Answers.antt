-- `runs_call::with_waits::waiting::put_row` meets its contract: five stores in order.
use mathlib.Core.Path.{◌≡◌, sym, ap, ◌∙◌}
use Prim.Native.Nat.{◌+◌, ◌-◌}
use native.Mathlib.Omega.{arith}
use lib.ListN.{length, take, drop, length-drop}
use lib.Seq.{sets, length-take-le}
use Rattle.waits.specs.Rows.{row_with}
use Rattle.runs_call.proofs.Copying.{put_stored, five_stored}
use Rattle.runs_call.proofs.with_waits.waiting.put_row.Goals as goal

pub returns : goal.returns
unfolding row_with
returns c = let a = c.args in
    let row = take (a.at + 5 - a.at) (drop a.at a.rows.now) in
    let five : a.at + 5 - a.at ≡ 5 = omega arith in
    let long : length row ≡ 5 = length-take-le _ _ (omega (arith, length-drop a.at a.rows.now, c.requires)) ∙ five in
    rw c.mean_of-mean.ensures
    (put_stored a.at (a.at + 5 - a.at) a.rows.now _ (five ∙ sym (ap length (five_stored row _ _ _ _ _ long))) (omega (arith, c.requires))
    ∙ ap (sets a.rows.now a.at) (five_stored row _ _ _ _ _ long))
