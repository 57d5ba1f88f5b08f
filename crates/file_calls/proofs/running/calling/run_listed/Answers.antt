-- By the bounded reading.
use Rattle.std.proofs.Common.{◌∙◌, ap, sym, refl, length}
use Rattle.lock_file.specs.FileAnswers.FileAnswers.{reading_outcome, outcome_reply, outcome_output, file_answer, output_answer}
use Rattle.file_calls.proofs.running.Outcomes.{bounded_outcome, error_replied}
use Rattle.file_calls.proofs.running.calling.run_listed.Goals as goal

pub returns-in_err-read : goal.returns-in_err-read
unfolding file_answer output_answer reading_outcome outcome_output
returns-in_err-read c =
    let room = length c.args.output.now in
    let e = sym (bounded_outcome c.args.file.now room) ∙ ap (λ r. reading_outcome r room) (sym c.in_err-read.ensures.value) in
    record { value = error_replied c.from_residual.result _ _ c.from_residual.ensures.1 e; output_after = rw e refl }

pub returns : goal.returns
unfolding file_answer output_answer reading_outcome
returns c =
    let room = length c.args.output.now in
    let e = ap (λ r. reading_outcome r room) c.in_ok-read.ensures.value ∙ bounded_outcome c.args.file.now room in
    record {
      value = c.run_in.ensures.value ∙ ap outcome_reply e;
      output_after = c.run_in.ensures.output_after ∙ ap (λ o. outcome_output o c.args.output.now) e;
    }
