-- `journal_call::reader::position_after` meets its contract: the position after the entries left is the same at every turn.
use mathlib.Core.Path.{◌≡◌, sym, ap, ◌∙◌}
use Prim.Native.Nat.{suc, ◌+◌, ◌-◌}
use native.Mathlib.Omega.{arith}
use Rattle.journal_call.specs.Reader.Stretches.{position_after}
use Rattle.journal_call.proofs.reader.Stretching.{position_next, position_stopped, position_none}
use Rattle.journal_call.proofs.reader.position_after.Goals as goal

pub loop-passed-preserved : goal.loop-passed-preserved
loop-passed-preserved c = let bs = c.args.reader.now.journal.now in
    let left : c.args.count - c.loop-passed._passed ≡ suc (c.args.count - (c.loop-passed._passed + 1)) = omega arith in
    let e = sym c.read_entry.ensures ∙ c.in-Named.is in
    sym (position_next _ bs c.loop-passed.at c.loop-passed.last _ _ _ e) ∙ sym (ap (λ n. position_after n bs c.loop-passed.at c.loop-passed.last) left) ∙ c.loop-passed.invariant

pub returns-in-Broken : goal.returns-in-Broken
returns-in-Broken c = sym (position_stopped _ c.args.reader.now.journal.now c.loop-passed.at c.loop-passed.last _ c.read_entry.ensures c.in-Broken.is) ∙ c.loop-passed.invariant

pub returns : goal.returns
returns c = sym (position_none (c.args.count - c.loop-passed._passed) c.args.reader.now.journal.now c.loop-passed.at c.loop-passed.last (omega arith)) ∙ c.loop-passed.invariant
