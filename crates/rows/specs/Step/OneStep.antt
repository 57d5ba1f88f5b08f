-- One step of a thread: what it requires, and that it does the row of its place.
use Rattle.std.specs.Prelude.{◌≡◌, ℕ, ◌<◌, true}
use Rattle.model.specs.declared.PlaceArrays.{PlaceArrays}
use Rattle.model.specs.declared.PlaceWords.{PlaceWords}
use Rattle.model.specs.declared.State.{State}
use Rattle.model.specs.Places.{place_of}
use Rattle.model.specs.States.{numbers_at}
use Rattle.model.specs.Trees.{Tree}
use Rattle.model.specs.Refusals.{tree_refusal}
use Rattle.model.specs.Steps.{row}
use Rattle.model.specs.WellFormed.{good_place}
use Rattle.rows.specs.declared.common.rows.Moved.{Moved}
use Rattle.rows.specs.Common.Rows.{with_places, Done}

-- an accepted tree, a thread of it, and a good place of that thread
pub record Ready (t : Tree) (i : ℕ) (q : PlaceWords) : Type 0 where
  pub tree : (tree_refusal t).number ≡ 0
  pub thread : i < t.threads
  pub place : good_place t i (place_of q) ≡ true

-- no place is written, and wherever the other threads are, if this one is at this place, the place's row is done
pub record StepDone (t : Tree) (i : ℕ) (q : PlaceWords) (m : Moved) (old new : State) : Type 0 where
  pub places_kept : new.places ≡ old.places
  pub does : (ps : PlaceArrays) → numbers_at ps i ≡ q → Done (row t i (place_of q) (with_places ps old)) i m (with_places ps new)
