-- The run's loop: the counters of the domains at each turn.
use mathlib.Core.Path.{◌≡◌, sym, ap, ◌∙◌}
use mathlib.Core.List.{List, [], ◌∷◌, ◌++◌}
use Prim.Native.Nat.{ℕ, ◌+◌, ◌≤◌, ◌<◌}
use lib.ListN.{get_or, length, take}
use lib.Seq.{take_all}
use Rattle.model.specs.declared.State.{State}
use Rattle.model.specs.declared.Counters.{Counters}
use Rattle.model.specs.Trees.{Tree}
use Rattle.model.specs.Steps.{step}
use Rattle.model.specs.Runs.{steps, state_after}
use Rattle.model.specs.Counters.{counters_after}
use Rattle.model.proofs.Counted.{counters_none, counters_join}
use Rattle.lock.proofs.steps.SoFar.{next_step}

module _ (t : Tree) (is : List ℕ) (s₀ : State) (c₀ : Counters) where
  -- the counters after the first k entries
  pub record Tallied (c : Counters) (k : ℕ) : Type 0 where
    pub counters_are : c ≡ counters_after t c₀ (steps t (take k is) s₀)

  pub tallied_start : Tallied c₀ 0
  unfolding steps
  tallied_start = record { counters_are = sym (counters_none t c₀) }

  pub tallied_turn :
      (c c' : Counters) (s : State) (k : ℕ) → k < length is → s ≡ state_after s₀ (steps t (take k is) s₀) → Tallied c k →
      c' ≡ counters_after t c (step t (get_or is k 0) s ∷ []) → Tallied c' (k + 1)
  tallied_turn c c' s k h st g e =
      let x = step t (get_or is k 0) s in
      let xs = steps t (take k is) s₀ in
      let joined : steps t (take (k + 1) is) s₀ ≡ xs ++ (x ∷ []) = next_step t is [] s₀ k h ∙ ap (λ v. xs ++ (step t (get_or is k 0) v ∷ [])) (sym st) in
      record { counters_are = e ∙ ap (λ v. counters_after t v (x ∷ [])) g.counters_are ∙ sym (ap (counters_after t c₀) joined ∙ counters_join t c₀ xs (x ∷ [])) }

  pub tallied_ends : (c : Counters) (k : ℕ) → Tallied c k → length is ≤ k → c ≡ counters_after t c₀ (steps t is s₀)
  tallied_ends c k g h = g.counters_are ∙ ap (λ v. counters_after t c₀ (steps t v s₀)) (take_all k is h)
