-- `runs_call::with_waits::run_waits` meets its contract: the run that continues, with zeros.
use mathlib.Core.Path.{◌∙◌}
use Rattle.waits.specs.GoingOn.{ZerosLaw}
use Rattle.waits.proofs.Zeros.{zeros_law}
use Rattle.runs_call.proofs.with_waits.run_waits.Goals as goal

pub returns : goal.returns
unfolding ZerosLaw
returns c = let z = zeros_law _ _ _ _ _ in
    record { value = c.run_waits_on.ensures.value ∙ z.reply; trace_after = c.run_waits_on.ensures.trace_after ∙ z.traced; rows_after = c.run_waits_on.ensures.rows_after ∙ z.written }
