-- A state with the queues that it represents, and its steps, each with its move of the queues.
use mathlib.Core.Path.{◌≡◌, refl, ap, ◌∙◌}
use mathlib.Core.Logic.{◌≢◌}
use Prim.Native.Nat.{ℕ, ◌<◌}
use Rattle.model.specs.declared.State.{State as WordState}
use Rattle.model.specs.Trees.{Tree}
use Rattle.model.specs.States.{place}
use Rattle.model.specs.Steps.{row, step}
use Rattle.model.specs.Laws.{SixteenBit}
use Rattle.model.proofs.Trees.Accepted.{Accepted}
use Rattle.claims.proofs.Queues.Moves.{State}
use Rattle.claims.proofs.Queues.Invariant.{Inv}
use Rattle.claims.proofs.Claims.Reached.{Queued, outcome_at, queued_after}
use Rattle.chain.proofs.Reached.Rows.{place_kept}
use Rattle.bounds.specs.StarvationFreedom.Bounds.{effective}
pub use Rattle.claims.proofs.Queues.Changes.{Changed, unmoved, moved, begun}
use Rattle.bounds.proofs.starvation_freedom.Effective.{effective_keeps}
use Rattle.bounds.proofs.starvation_freedom.Stages.{Ones, ones_step}

-- SITUATIONS
pub record Situation (t : Tree) : Type 0 where
  pub words : WordState
  pub queued : Queued t words
  -- the counts are at most the effective thresholds
  pub effectively : Inv (effective t) queued.queues
  -- and 1 while their thread is acquiring
  pub ones : Ones t queued.queues

-- the queues of a situation
abbrev pub queues : {t : Tree} → Situation t → State
queues c = c.queued.queues

module _ (t : Tree) (valid : Accepted t) (bits : SixteenBit t) where
  -- the situation after a step
  unfoldable pub next : (c : Situation t) (i : ℕ) → i < t.threads → Situation t
  unfolding queued_after
  next c i h =
      let x = outcome_at t valid bits c.words c.queued i h in
      record {
        words = (step t i c.words).state;
        queued = queued_after t valid bits c.words c.queued i h;
        effectively = effective_keeps t valid c.queued.represents.invariant x.change c.effectively;
        ones = ones_step t valid c.queued.represents.invariant x.change c.ones;
      }

  pub next_words : (c : Situation t) (i : ℕ) (h : i < t.threads) → (next c i h).words ≡ (row t i (place c.words i) c.words).state
  unfolding next step
  next_words c i h = refl

  pub next_change : (c : Situation t) (i : ℕ) (h : i < t.threads) → Changed t (queues c) (queues (next c i h))
  unfolding next queued_after
  next_change c i h = (outcome_at t valid bits c.words c.queued i h).change

  -- another thread's place
  pub place_other : (c : Situation t) (i : ℕ) (h : i < t.threads) (j : ℕ) → j ≢ i → place (next c i h).words j ≡ place c.words j
  place_other c i h j n = ap (λ s. place s j) (next_words c i h) ∙ place_kept t c.words i j n (place c.words i)
