-- `journal_call::check_journal` meets its contract: the reply has the refusal's number and place, or 0 and 0.
use mathlib.Core.Path.{ap}
use Rattle.model.specs.Refusals.{refusal, accepted}
use Rattle.journal.specs.Answers.{replied, journal_answer}
use Rattle.journal_call.proofs.check_journal.Goals as goal

pub returns-in-Ok : goal.returns-in-Ok
unfolding journal_answer accepted refusal
returns-in-Ok c = ap replied c.in-Ok.ensures

pub returns-in-Err : goal.returns-in-Err
unfolding journal_answer refusal
returns-in-Err c = rw c.number.ensures (ap replied c.in-Err.ensures)
