-- What each turn of the run's loop requires.
use mathlib.Core.List.{List}
use Prim.Native.Nat.{ℕ, ◌<◌}
use lib.ListN.{get_or, length}
use Rattle.model.specs.declared.State.{State}
use Rattle.model.specs.declared.LockState.{LockState}
use Rattle.model.specs.Trees.{Tree}
use Rattle.model.specs.Laws.{Formed}
use Rattle.model.specs.States.{numbers_at}
use Rattle.model.proofs.Laws.Facts.{well_formed_facts}
use Rattle.model.proofs.Laws.Calls.{GoodRun}
use Rattle.rows.specs.Step.OneStep.{Ready}
use Rattle.lock.proofs.steps.SoFar.{thread_at, below}

-- an entry of an accepted schedule
pub thread_small : (t : Tree) (s : LockState) (is : List ℕ) (room k : ℕ) → GoodRun t s is room → k < length is → get_or is k 0 < 256
thread_small t s is room k R h = below t is R.tree R.threads k h

pub ready : (t : Tree) (s₀ : LockState) (s : State) (is : List ℕ) (room k : ℕ) → GoodRun t s₀ is room → Formed t s → k < length is → Ready t (get_or is k 0) (numbers_at s.places (get_or is k 0))
ready t s₀ s is room k R f h =
    let i = thread_at t is R.threads k h in
    record { tree = R.tree; thread = i; place = ((well_formed_facts t s f).places (get_or is k 0)).used i }
