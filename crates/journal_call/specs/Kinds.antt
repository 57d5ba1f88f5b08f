-- The kinds that entries name, compared with those that the run's loop reports for their steps.
use Rattle.std.specs.Prelude.{◌≡◌, Bool, false, not, List, ℕ, ◌%◌, ◌<◌, eqb, get_or}

-- the kind that an entry names is not the one reported for its step, which is in the lowest three bits of the step's number
abbrev pub other_kind : (kinds codes : List ℕ) → (entry : ℕ) → Bool
other_kind ks cs j = not (eqb (get_or ks j 0) (get_or cs j 0 % 8))

-- the first entries name the kinds that were reported for their steps
abbrev pub AllSameKinds : (kinds codes : List ℕ) → (count : ℕ) → Type 0
AllSameKinds ks cs n = (j : ℕ) → j < n → other_kind ks cs j ≡ false
