-- `lock::steps::fresh_counters` meets its contract: three arrays of 64 zeros are the definition.
use mathlib.Core.Path.{refl}
use Rattle.model.specs.Counters.{fresh_counters}
use Rattle.lock.proofs.steps.fresh_counters.Goals as goal

pub returns : goal.returns
unfolding fresh_counters
returns c = refl
