-- The tests of a run: the tree's, then the state's, then the schedule's.
use mathlib.Core.Path.{◌≡◌, refl, sym, ◌∙◌}
use mathlib.Core.Bool.{Bool, true, false, ◌&&◌, not}
use mathlib.Core.List.{List, ◌++◌}
use Prim.Native.Nat.{ℕ}
use Rattle.model.specs.declared.TreeWords.{TreeWords}
use Rattle.model.specs.declared.LockState.{LockState}
use Rattle.model.specs.Trees.{Tree, tree_of}
use Rattle.model.specs.Refusals.{Refusal, refusal, accepted, first_refusal, state_tests, tree_tests, tree_refusal, bad_state, bad_entry, run_tests_before_19}
use Rattle.model.specs.Counters.{good_counts}
use Rattle.model.specs.WellFormed.{well_formed}
use Rattle.model.proofs.Laws.Refusals.{tree_numbered}
use Rattle.refusals.specs.declared.reasons.Refusal as code
use Rattle.refusals.specs.Reasons.{number_of}
use Rattle.refusals.specs.Arrays.{threads_in, schedule_room_tests}
use Rattle.refusals.proofs.Scanning.{single_hit, single_missed}
use Rattle.refusals.proofs.Refusing.{refused_early, passed_early}

module _ (w : TreeWords) (s : LockState) (is : List ℕ) (room : ℕ) where
  abbrev t : Tree
  t = tree_of w

  abbrev answer : Refusal
  answer = first_refusal (run_tests_before_19 t s is room)

  pub tree_refuses : (x : code.Refusal) → refusal (number_of x.reason) x.place ≡ tree_refusal t → refusal (number_of x.reason) x.place ≡ answer
  unfolding tree_refusal
  tree_refuses x e = refused_early (tree_tests t) (state_tests t s ++ schedule_room_tests t is room) x e

  module _ (e : accepted ≡ tree_refusal t) where
    after_tree : answer ≡ first_refusal (state_tests t s ++ schedule_room_tests t is room)
    unfolding tree_refusal
    after_tree = passed_early (tree_tests t) (state_tests t s ++ schedule_room_tests t is room) (tree_numbered t) e

    -- 10 refuses
    pub counts_refuse : good_counts t s.counters ≡ false → refusal 10 0 ≡ answer
    unfolding bad_state
    counts_refuse f = sym (after_tree ∙ single_hit _ _ refl (rw f (by (well_formed t s.words))))
      where
        by : (b : Bool) → not (b && false) ≡ true
        by true = refl
        by false = refl

    pub words_refuse : well_formed t s.words ≡ false → refusal 10 0 ≡ answer
    unfolding bad_state
    words_refuse f = sym (after_tree ∙ single_hit _ _ refl (rw f))

    pub schedule_answers : good_counts t s.counters ≡ true → well_formed t s.words ≡ true → first_refusal (schedule_room_tests (threads_in w.threads) is room) ≡ answer
    unfolding bad_state bad_entry tree_of
    schedule_answers g f = sym (after_tree ∙ single_missed _ _ refl (rw (f, g)))
