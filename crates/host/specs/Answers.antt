-- A refusal as the host gets it.
use Rattle.model.specs.Refusals.{Refusal}
use Rattle.host.specs.declared.Answer.{Answer}

-- number and place
abbrev pub answer_of : Refusal → Answer
answer_of r = record { number = r.number; place = r.place }
