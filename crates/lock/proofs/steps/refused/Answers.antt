-- `lock::steps::refused` meets its contract: number, place and state as given, and every count 0.
use Rattle.model.specs.Refusals.{refusal}
use borrow.Author.Rules.{rules}
use Rattle.lock.proofs.steps.refused.Goals as goal

pub returns : goal.returns
unfolding refusal
returns c = search rules
