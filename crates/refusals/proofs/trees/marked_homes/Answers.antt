-- `refusals::trees::marked_homes` meets its contract: the homes of the threads so far are marked.
use Rattle.std.proofs.Common.{◌<◌, get_or, arith, rules}
use native.Mathlib.Decide.{ℕ_discrete}
use Rattle.refusals.proofs.Homes.{marked_none, marked_more}
use Rattle.refusals.proofs.trees.marked_homes.Goals as goal

pub loop-i-init : goal.loop-i-init
loop-i-init c = (marked_none _, λ j l. absurd (omega arith))

pub loop-i-preserved : goal.loop-i-preserved
loop-i-preserved c = let small : get_or c.args.tree.now.words.now.homes c.loop-i.i 0 < 256 = search rules in (
  rw c.from-h.ensures (marked_more _ _ _ c.loop-i.invariant.0 small),
  λ j h. elim (ℕ_discrete j c.loop-i.i) [ yes z ↦ rw z small | no z ↦ c.loop-i.invariant.1 j (omega arith) ],
)
