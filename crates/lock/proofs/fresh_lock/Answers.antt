-- `lock::fresh_lock` meets its contract: a fresh state, whatever the tree's refusal.
use mathlib.Core.Path.{sym, ◌∙◌}
use native.Mathlib.Omega.{arith}
use Rattle.model.specs.Refusals.{refusal}
use Rattle.model.specs.Answers.{fresh_answer}
use Rattle.lock.proofs.steps.Starting.{fresh_is}
use Rattle.lock.proofs.fresh_lock.Goals as goal

pub returns : goal.returns
unfolding fresh_answer refusal
returns c = rw (c.fresh.ensures, c.first_of-first.ensures, fresh_is c.args.tree.now c.numbers_of-number.result.0 c.args.start (omega arith), sym (c.numbers_of-number.ensures ∙ c.tree_refusal_of.ensures))
