-- What a step reports besides the state.
use Rattle.std.specs.Prelude.{◌≡◌, [], ◌∷◌, ℕ}
use Rattle.model.specs.declared.State.{State}
use Rattle.model.specs.Trees.{Tree}
use Rattle.model.specs.Runs.{steps}
use Rattle.model.specs.Answers.{first_kind, first_domain}
use Rattle.rows.specs.Kinds.{number_of_kind}
use Rattle.lock.specs.declared.TakenStep.{TakenStep}

-- the kind and domain of one step are the model's
abbrev pub TakenIs : TakenStep → Tree → State → (thread : ℕ) → Type 0
TakenIs r t s i = (number_of_kind r.kind ≡ first_kind (steps t (i ∷ []) s)) × (r.domain ≡ first_domain (steps t (i ∷ []) s))
