-- The answer is that of the bounded reading.
use Rattle.std.proofs.Common.{◌∙◌, ap}
use Rattle.lock_file.specs.Answers.{reading_reply, reading_buffer, read_answer, schedule_answer}
use Rattle.lock_file.proofs.answering.answer_file.Goals as goal

pub returns-in-Ok-clause-value : goal.returns-in-Ok-clause-value
unfolding read_answer
returns-in-Ok-clause-value c = c.described_at.ensures.value ∙ ap reading_reply c.in-Ok.ensures.value

pub returns-in-Ok-clause-schedule_after : goal.returns-in-Ok-clause-schedule_after
unfolding schedule_answer reading_buffer
returns-in-Ok-clause-schedule_after c = c.described_at.ensures.schedule_after ∙ ap (λ r. reading_buffer r c.args.schedule.now) c.in-Ok.ensures.value

pub returns-in-Err-clause-value : goal.returns-in-Err-clause-value
unfolding read_answer
returns-in-Err-clause-value c = c.refused_by.ensures ∙ ap reading_reply c.in-Err.ensures.value

pub returns-in-Err-clause-schedule_after : goal.returns-in-Err-clause-schedule_after
unfolding schedule_answer reading_buffer
returns-in-Err-clause-schedule_after c = ap (λ r. reading_buffer r c.args.schedule.now) c.in-Err.ensures.value
