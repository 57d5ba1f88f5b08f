-- What a thread's place implies about its stage, place by place.
use mathlib.Core.Path.{◌≡◌, sym, ap, ◌∙◌}
use Prim.Native.Nat.{ℕ, zero, suc, ◌≤◌, ◌<◌}
use native.Mathlib.Omega.{arith}
use borrow.Author.Tests.{ne_eqb}
use Rattle.model.specs.declared.Place.{Place}
use Rattle.model.specs.declared.Place.TheVariants.{Link, Wait, Check, Help, Cas, Linger, Grant, Raise}
use Rattle.model.specs.Trees.{Tree}
use Rattle.model.specs.States.{acquire_parent, place}
use Rattle.model.specs.Steps.{release_word}
use Rattle.model.proofs.Trees.Index.{ancestor, height}
use Rattle.model.proofs.Trees.Accepted.{Accepted}
use Rattle.model.proofs.Trees.Paths.{ancestor_inner, ancestor_injective}
use Rattle.claims.proofs.Queues.Moves.{queued, holding, down, Stage}
use Rattle.claims.proofs.Words.View.{words_in}
use Rattle.claims.proofs.Words.Represents.{letting_go, letting_go_lower}
pub use Rattle.claims.proofs.Words.Says.{Waiting, stands, woken, granted, Granting, pass, release, At}
unfoldable pub use Rattle.claims.proofs.Words.Says.{Says}
unfoldable pub use Rattle.claims.proofs.Words.Says.{Staged}
use Rattle.claims.proofs.Words.Says.{says_at, staged_at}
use Rattle.claims.proofs.Words.Releasing.{done_at}
use Rattle.bounds.proofs.starvation_freedom.Situations.{Situation, queues}

module _ (t : Tree) (valid : Accepted t) (c : Situation t) (i : ℕ) (h : i < t.threads) where
  -- what a thread's place implies, in a situation
  pub says : (p : Place) → place c.words i ≡ p → Says t (words_in c.words) (queues c) i p ((queues c).stage i)
  unfolding words_in
  says p e = says_at e (c.queued.represents.fits i h)

  -- and what its stage implies
  pub staged : (x : Stage) → (queues c).stage i ≡ x → Staged t (words_in c.words) (queues c) i (place c.words i) x
  unfolding words_in
  staged x e = staged_at e (c.queued.represents.fits i h)

  same_index : (k m : ℕ) → k ≤ height t i → At t i (ancestor t i k) m → m ≡ k
  same_index k m l (e, b) = sym (ancestor_injective t valid i h k m l b e)

  -- the stage at a place, if the place determines it
  pub link_stage : (k q : ℕ) → k ≤ height t i → place c.words i ≡ Link (ancestor t i k) q → (queues c).stage i ≡ queued k
  unfolding Says
  link_stage k q l e = let y = says _ e in y.2 ∙ ap queued (same_index k y.0 l y.1)

  pub wait_stage : (k : ℕ) → k ≤ height t i → place c.words i ≡ Wait (ancestor t i k) → Waiting t (words_in c.words) (queues c) i k ((queues c).stage i)
  unfolding Says
  wait_stage k l e = let y = says _ e in let z = same_index k y.0 l y.1 in rw z at y.2

  pub linger_stage : (k : ℕ) → k ≤ height t i → place c.words i ≡ Linger (ancestor t i k) → (queues c).stage i ≡ letting_go (height t i) k
  unfolding Says
  linger_stage k l e = let y = says _ e in y.2 ∙ ap (letting_go (height t i)) (same_index k y.0 l y.1)

  pub check_stage : (k : ℕ) → place c.words i ≡ Check (ancestor t i k) → (queues c).stage i ≡ holding
  unfolding Says
  check_stage k e = let y = says _ e in y.3

  pub help_stage : (k : ℕ) → k ≤ height t i → place c.words i ≡ Help (ancestor t i k) → (queues c).stage i ≡ letting_go (height t i) k
  unfolding Says
  help_stage k l e = let y = says _ e in y.2 ∙ ap (letting_go (height t i)) (same_index k y.0 l y.1)

  pub cas_stage : (k : ℕ) → k ≤ height t i → place c.words i ≡ Cas (ancestor t i k) → (queues c).stage i ≡ letting_go (height t i) k
  unfolding Says
  cas_stage k l e = let y = says _ e in y.2 ∙ ap (letting_go (height t i)) (same_index k y.0 l y.1)

  -- in Grant with the word of a release
  pub release_stage : (k r : ℕ) → k ≤ height t i → (k < height t i → t.threshold (ancestor t i k) ≤ 65535) → place c.words i ≡ Grant (ancestor t i k) r (release_word (ancestor t i k)) →
      (queues c).stage i ≡ letting_go (height t i) k
  unfolding Says
  release_stage k r l small e =
      let y = says _ e in
      let z = same_index k y.0 l y.1 in
      elim y.2 [
        | pass o x (_, f) ↦ absurd (
            let b : k < height t i = rw z at o in
            let n = ne_eqb (ancestor t i k) 0 (omega (arith, ancestor_inner t valid i h k b)) in
            let f' : acquire_parent ≤ t.threshold (ancestor t i k) = rw (z, n) at f in
            omega (arith, small b))
        | release x f ↦ x ∙ ap (letting_go (height t i)) z
      ]

  pub raise_stage : place c.words i ≡ Raise → (queues c).stage i ≡ holding
  unfolding Says
  raise_stage e = says _ e

  pub pass_stage : (k : ℕ) → k < height t i → (r v : ℕ) → v ≤ 65535 → place c.words i ≡ Grant (ancestor t i k) r v → (queues c).stage i ≡ holding
  unfolding Says
  pass_stage k b r v small e =
      let y = says _ e in
      let z = same_index k y.0 (omega arith) y.1 in
      elim y.2 [
        | pass o x f ↦ x
        | release x f ↦ absurd (let n = ne_eqb (ancestor t i k) 0 (omega (arith, ancestor_inner t valid i h k b)) in let f' : v ≡ acquire_parent = rw (z, n) at f in omega arith)
      ]

  -- at the place after a domain is released
  pub done_stage : (k : ℕ) → k ≤ height t i → place c.words i ≡ done_at t i k → (queues c).stage i ≡ down k
  unfolding Says down
  done_stage zero l e = says _ e
  done_stage (suc k) l e = let y = says _ e in y.2 ∙ ap (letting_go (height t i)) (same_index k y.0 (omega arith) y.1) ∙ letting_go_lower (height t i) k (omega arith)
