-- A step that is done wherever the threads are is done where they stand.
use Rattle.std.proofs.Common.{◌≡◌, ℕ, sym}
use Rattle.model.specs.declared.PlaceArrays.{PlaceArrays}
use Rattle.model.specs.declared.PlaceWords.{PlaceWords}
use Rattle.model.specs.declared.State.{State}
use Rattle.model.specs.Places.{place_of}
use Rattle.model.specs.Trees.{Tree}
use Rattle.model.specs.Steps.{RowResult, row}
use Rattle.rows.specs.declared.common.rows.Moved.{Moved}
use Rattle.rows.specs.Common.Rows.{with_places, place_at, Done}
use Rattle.rows.specs.Step.OneStep.{StepDone}

with_its_own : (x : RowResult) (i : ℕ) (m : Moved) (left : State) (ps : PlaceArrays) → ps ≡ left.places → Done x i m (with_places ps left) → Done x i m left
with_its_own x i m left ps e done = rw e at done

pub done_here : {t : Tree} {i : ℕ} {q : PlaceWords} {m : Moved} {old new : State} → StepDone t i q m old new → place_at old i ≡ q → Done (row t i (place_of q) old) i m new
done_here {t} {i} {q} {m} {old} {new} step here = with_its_own (row t i (place_of q) old) i m new old.places (sym step.places_kept) (step.does old.places here)
