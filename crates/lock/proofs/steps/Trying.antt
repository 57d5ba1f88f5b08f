-- The steps of a schedule tried one by one for 19: what holds after the first k of them.
use mathlib.Core.Path.{◌≡◌, refl, sym, ap, ◌∙◌}
use mathlib.Core.Bool.{true, false}
use mathlib.Core.List.{List, [], ◌∷◌, ◌++◌}
use Prim.Native.Nat.{ℕ, ◌+◌, ◌≤◌, ◌<◌}
use native.Mathlib.Omega.{arith}
use native.Mathlib.Decide.{ℕ_discrete}
use lib.ListN.{get_or, length, take}
use Rattle.model.specs.declared.State.{State}
use Rattle.model.specs.declared.Counters.{Counters}
use Rattle.model.specs.declared.LockState.{LockState}
use Rattle.model.specs.declared.TreeWords.{TreeWords}
use Rattle.model.specs.Trees.{Tree, tree_of}
use Rattle.model.specs.Steps.{step}
use Rattle.model.specs.Runs.{steps, state_after, run_of, run}
use Rattle.model.specs.Counters.{lock_state, counters_after, good_counts, any_above}
use Rattle.model.specs.Refusals.{first_refusal, run_tests_before_19, bad_counter}
use Rattle.model.specs.Laws.{AllThreads, SixteenBit, Formed, FormLaw}
use Rattle.model.proofs.Laws.Refusals.{accepted_number}
use Rattle.model.proofs.Laws.Runs.{steps_take, state_after_join}
use Rattle.model.proofs.Laws.Form.{form_law}
use Rattle.model.proofs.Laws.Calls.{GoodRun, early_accepted}
use Rattle.model.proofs.Laws.Counters.{one_kept}
use Rattle.model.proofs.Trees.Accepted.{sixteen_bit}
use Rattle.lock.proofs.steps.SoFar.{thread_at, next_step}
use Rattle.lock.proofs.steps.Tallying.{Tallied, tallied_start, tallied_turn}

module _ (t : Tree) (bits : SixteenBit t) (s₀ : LockState) (is : List ℕ) (room : ℕ) (R : GoodRun t s₀ is room) where
  pub record Tried (n : State) (c : Counters) (k : ℕ) : Type 0 where
    pub within : k ≤ length is
    pub formed : Formed t n
    pub state_is : n ≡ state_after s₀.words (steps t (take k is) s₀.words)
    pub tallied : Tallied t is s₀.words s₀.counters c k
    pub good : good_counts t c ≡ true
    pub passed : (p : ℕ) → p < k → bad_counter t s₀ is p ≡ false

  pub tried_start : Formed t s₀.words → Tried s₀.words s₀.counters 0
  unfolding steps state_after
  tried_start f =
      record { within = omega arith; formed = f; state_is = refl; tallied = tallied_start t is s₀.words s₀.counters; good = R.counts; passed = λ p h. absurd (omega arith) }

  module _ (n : State) (c : Counters) (k : ℕ) (h : k < length is) (g : Tried n c k) where
    abbrev i : ℕ
    i = get_or is k 0

    real : i < t.threads
    real = thread_at t is R.threads k h

    pub tried_asks : (first_refusal (run_tests_before_19 t (lock_state n c) (i ∷ []) 1)).number ≡ 0
    unfolding AllThreads
    tried_asks =
        ap (λ r. r.number)
        (early_accepted t (lock_state n c) (i ∷ []) 1 (record { tree = R.tree; form = g.formed.form; counts = g.good; short = omega arith; threads = (real, tt); fits = omega arith }))
        ∙ accepted_number

    module _ (n' : State) (c' : Counters) (e : n' ≡ (run t (i ∷ []) n).state) (f : c' ≡ counters_after t c (steps t (i ∷ []) n)) where
      after : Tallied t is s₀.words s₀.counters c' (k + 1)
      unfolding steps
      after = tallied_turn t is s₀.words s₀.counters c c' n k h g.state_is g.tallied f

      pub tried_count : any_above c' ≡ bad_counter t s₀ is k
      unfolding bad_counter
      tried_count = ap any_above (after.counters_are ∙ ap (counters_after t s₀.counters) (steps_take t (k + 1) is s₀.words))

      pub tried_next : any_above c' ≡ false → Tried n' c' (k + 1)
      unfolding steps state_after run run_of FormLaw
      tried_next low =
          let x = step t i n in
          let s = s₀.words in
          let joined : steps t (take (k + 1) is) s ≡ steps t (take k is) s ++ (x ∷ []) = next_step t is [] s k h ∙ ap (λ v. steps t (take k is) s ++ (step t i v ∷ [])) (sym g.state_is) in
          record {
            within = omega arith;
            formed = rw e ((form_law t bits R.tree).of_step i n real g.formed);
            state_is = e ∙ sym (ap (state_after s) joined ∙ state_after_join s (steps t (take k is) s) (x ∷ []));
            tallied = after;
            good = rw f (one_kept t R.tree bits i (lock_state n c) real g.formed g.good (sym (ap any_above f) ∙ low));
            passed = λ p l. elim (ℕ_discrete p k) [ yes z ↦ rw z (sym tried_count ∙ low) | no z ↦ g.passed p (omega arith) ];
          }

-- the same for the words, given what an accepted run implies
unfoldable pub Tries : TreeWords → LockState → (schedule : List ℕ) → State → Counters → (k : ℕ) → Type 0
Tries w s is n c k = (R : GoodRun (tree_of w) s is (length is)) → Tried (tree_of w) (sixteen_bit w) s is (length is) R n c k
