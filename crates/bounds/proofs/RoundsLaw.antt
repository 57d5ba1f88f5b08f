-- The laws of the call for rounds.
use mathlib.Core.Path.{◌≡◌, ◌∙◌}
use Prim.Native.Nat.{ℕ, ◌+◌, ◌*◌, ◌<◌, ◌^◌}
use native.Mathlib.Omega.{arith}
use native.Mathlib.Nat.{le-mul_of_pos_right}
use borrow.Author.Tests.{eq-eqb}
use Rattle.model.specs.declared.TreeWords.{TreeWords}
use Rattle.model.specs.Trees.{tree_of}
use Rattle.model.specs.Refusals.{tree_refusal}
use Rattle.model.proofs.Trees.Accepted.{accepted}
use Rattle.bounds.specs.StarvationFreedom.Bounds.{everyone_bound}
use Rattle.bounds.specs.StarvationFreedom.Laws.{EveryoneLaw}
use Rattle.bounds.proofs.starvation_freedom.Law.{everyone_law}
use Rattle.bounds.specs.Answers.{capped, rounds_answer}
use Rattle.bounds.specs.Laws.{RoundsLaw, EnteringLaw}
use Rattle.bounds.proofs.Law.{small, large}

module _ (w : TreeWords) (ok : (tree_refusal (tree_of w)).number ≡ 0) where
  rounds_answered : (rounds_answer w).rounds ≡ capped (everyone_bound (tree_of w))
  unfolding rounds_answer
  rounds_answered = rw (eq-eqb (tree_refusal (tree_of w)).number 0 ok)

  turns_answered : (rounds_answer w).turns ≡ capped (everyone_bound (tree_of w) * w.threads)
  unfolding rounds_answer
  turns_answered = rw (eq-eqb (tree_refusal (tree_of w)).number 0 ok)

-- a number below 2 ^ 64 - 1 is not capped
uncut : (n m : ℕ) → m ≡ capped n → m + 1 < 2 ^ 64 → m ≡ n
unfolding capped
uncut n m e h = omega arith

pub rounds_law : RoundsLaw
unfolding RoundsLaw rounds_answer
rounds_law w ok =
    record {
      rounds_exact = λ h. rounds_answered w ok ∙ small _ h;
      rounds_cut = λ h. rw (rounds_answered w ok) (large _ h);
      turns_exact = λ h. turns_answered w ok ∙ small _ h;
      turns_cut = λ h. rw (turns_answered w ok) (large _ h);
    }

-- if the turns are not capped, neither are the rounds
rounds_whole : (w : TreeWords) → (tree_refusal (tree_of w)).number ≡ 0 → (rounds_answer w).turns + 1 < 2 ^ 64 → (rounds_answer w).rounds ≡ everyone_bound (tree_of w)
unfolding tree_of
rounds_whole w ok h =
    let some = (accepted (tree_of w) ok).some_thread in
    let turns = uncut _ _ (turns_answered w ok) h in
    let fewer = le-mul_of_pos_right (everyone_bound (tree_of w)) some in
    rounds_answered w ok ∙ small _ (omega arith)

pub entering_law : EnteringLaw
unfolding EnteringLaw EveryoneLaw rounds_answer tree_of
entering_law w s f =
    let ok = f.fresh_run.tree_accepted in
    let law = everyone_law (tree_of w) s f in
    record {
      in_rounds = λ h S rs i s. law.in_rounds S (rw (uncut _ _ (rounds_answered w ok) h) at rs) i s;
      by_round_robin = λ h i s. rw (uncut _ _ (rounds_answered w ok) h) (law.by_round_robin i s);
      turns = λ h. rw (rounds_whole w ok h, uncut _ _ (turns_answered w ok) h) law.turns;
    }
