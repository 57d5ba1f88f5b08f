-- Passes bound the entries under a member while another stands ungranted.
use mathlib.Core.Path.{◌≡◌, refl, ap, ◌∙◌}
use mathlib.Core.Bool.{cond}
use mathlib.Core.List.{List, [], ◌∷◌}
use Prim.Native.Nat.{ℕ, ◌+◌}
use native.Mathlib.Omega.{arith}
use Rattle.model.specs.Trees.{Tree, is_child, meets, on_path, is_member, under}
use Rattle.model.specs.Steps.{is_entry, Step}
use Rattle.model.specs.Runs.{entries_under}
use Rattle.model.proofs.Trees.Accepted.{Accepted, accepted}
use Rattle.claims.proofs.Queues.Paths.{laws}
use Rattle.claims.proofs.Queues.Moves.{State, Event, Run, done, silent, more}
use Rattle.claims.proofs.Queues.Invariant.{Inv, inv_empty}
use Rattle.claims.proofs.Queues.Keeps.{keeps}
use Rattle.claims.proofs.Claims.Reached.{AllReal, from_fresh}
use Rattle.claims.proofs.Claims.Bounded.{bounded}
use Rattle.bounds.specs.LongestWait.Bounds.{effective, passes}
use Rattle.bounds.specs.LongestWait.Laws.{FewerPassesLaw, PassesLaw}
use Rattle.bounds.proofs.starvation_freedom.Fewer.{fewer_passes}
use Rattle.bounds.proofs.starvation_freedom.Effective.{effective_accepted, same_move}

module _ (t : Tree) (valid : Accepted t) where
  -- THE SAME RUNS with effective thresholds
  same_run : {st st' : State} {es : List Event} → Inv t st → Run t st es st' → Run (effective t) st es st'
  same_run inv done = done
  same_run inv (silent {st = st} m r) = silent (same_move t valid st inv m) (same_run (keeps t (laws t valid) st inv m) r)
  same_run inv (more {st = st} m r) = more (same_move t valid st inv m) (same_run (keeps t (laws t valid) st inv m) r)

  same_real : (xs : List Step) → AllReal t xs → AllReal (effective t) xs
  unfolding AllReal effective
  same_real [] l = tt
  same_real (x ∷ xs) l = (l.0, same_real xs l.1)

  same_entries : (q : ℕ) (xs : List Step) → entries_under (effective t) q xs ≡ entries_under t q xs
  unfolding entries_under under on_path meets effective
  same_entries q [] = refl
  same_entries q (x ∷ xs) = ap (λ n. cond (is_entry x.kind) (cond (under t q x.thread) 1 0) 0 + n) (same_entries q xs)

  pub same_member : (d q : ℕ) → is_member (effective t) d q ≡ is_member t d q
  unfolding is_member is_child effective
  same_member d q = refl

pub fewer_passes_law : FewerPassesLaw
unfolding FewerPassesLaw
fewer_passes_law t ok m e = fewer_passes t (accepted t ok) m e

pub passes_law : PassesLaw
unfolding PassesLaw passes
passes_law t start schedule k before meanwhile later x m q e st none mem n =
    let valid = accepted t k.tree_accepted in
    let l = from_fresh t valid k.sixteen_bit start schedule k.threads in
    let b = bounded (effective t) (effective_accepted t valid) _ l.there.queues (same_real t valid _ l.real) (same_run t valid (inv_empty t) l.follows) before meanwhile later x m q e st none (same_member t valid x.domain q ∙ mem) n in
    omega (arith, same_entries t valid q meanwhile)
