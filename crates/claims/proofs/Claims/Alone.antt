-- In every state reached from fresh, no two threads are Inside.
use mathlib.Core.Path.{◌≡◌}
use Prim.Native.Nat.{ℕ, ◌<◌}
use native.Mathlib.Omega.{arith}
use Rattle.model.specs.declared.Place.TheVariants.{Inside}
use Rattle.model.specs.declared.State.{State as WordState}
use Rattle.model.specs.Trees.{Tree}
use Rattle.model.specs.States.{place}
use Rattle.model.proofs.Trees.Accepted.{Accepted}
use Rattle.model.proofs.Laws.Facts.{Facts}
use Rattle.model.proofs.Lists.{less_or}
use Rattle.claims.proofs.Queues.Paths.{laws}
use Rattle.claims.proofs.Queues.Order.{one_inside}
use Rattle.claims.proofs.Words.View.{words_in}
use Rattle.claims.proofs.Words.Says.{Says, says_at}
use Rattle.claims.proofs.Claims.Reached.{Queued}

pub alone : (t : Tree) → Accepted t → (s : WordState) → Facts t s → Queued t s → (i j : ℕ) → place s i ≡ Inside → place s j ≡ Inside → i ≡ j
unfolding words_in Says
alone t valid s f q i j e z =
    let rep = q.represents in
    let real : (i : ℕ) → place s i ≡ Inside → i < t.threads = λ i e.
    less_or i t.threads _ (λ b. b) (λ b. absurd (let u = (f.places i).unused b in let z : ◌≡◌ {A = ℕ} 0 1 = cc in omega arith)) in
    one_inside t (laws t valid) q.queues rep.invariant i j (says_at e (rep.fits i (real i e))) (says_at z (rep.fits j (real j z)))
