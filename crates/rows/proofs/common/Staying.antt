-- A row that stays does not change the state.
use Rattle.std.proofs.Common.{◌≡◌, ℕ}
use Rattle.model.specs.declared.PlaceWords.{PlaceWords}
use Rattle.model.specs.declared.State.{State}
use Rattle.model.proofs.Places.{numbers_again}
use Rattle.rows.specs.Common.Rows.{with_place_words, place_at}

-- storing a place at the thread it was read from changes nothing
pub unmoved : (s : State) (i : ℕ) (q : PlaceWords) → q ≡ place_at s i → with_place_words i q s ≡ s
unmoved s i q e = rw (e, numbers_again s.places i)
