-- FROM FRESH. What the run of an accepted tree's threads leaves is a state from fresh, and every state from fresh is formed (model).
use mathlib.Core.Path.{refl}
use mathlib.Core.List.{List}
use Prim.Native.Nat.{ℕ}
use Rattle.model.specs.declared.State.{State}
use Rattle.model.specs.Trees.{Tree}
use Rattle.model.specs.States.{fresh_state}
use Rattle.model.specs.Runs.{run}
use Rattle.model.specs.Laws.{Formed, FormLaw, FreshRun, FromFresh}
use Rattle.model.proofs.Laws.Form.{form_law}

pub left_from_fresh : (t : Tree) (start : ℕ) (is : List ℕ) → FreshRun t is → FromFresh t (run t is (fresh_state t start)).state
left_from_fresh t start is k = record { start = start; schedule = is; fresh_run = k; reached = refl }

pub formed_from_fresh : (t : Tree) (s : State) → FromFresh t s → Formed t s
unfolding FormLaw
formed_from_fresh t s f =
    let k = f.fresh_run in
    let law = form_law t k.sixteen_bit k.tree_accepted in
    rw f.reached (law.of_run f.schedule (fresh_state t f.start) k.threads (law.of_fresh f.start))
