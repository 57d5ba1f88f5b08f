-- The threads so far are in the tables.
use native.Mathlib.Omega.{arith}
use Rattle.model.proofs.Trees.Reading.{few_threads}
use Rattle.chain_call.proofs.Filling.{fill_first}
use Rattle.chain_call.proofs.tables.Tables.of.Goals as goal

pub overflow_cast-j-end : goal.overflow_cast-j-end
overflow_cast-j-end c = omega (arith, few_threads _ c.args.lock.now.accepted)

pub loop-j-init : goal.loop-j-init
loop-j-init c = fill_first _ _
