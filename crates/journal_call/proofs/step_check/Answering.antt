-- The answer, from the tests and the pieces.
use mathlib.Core.Path.{◌≡◌, sym, ◌∙◌}
use mathlib.Core.List.{List}
use Prim.Native.Nat.{ℕ}
use lib.ListN.{length}
use borrow.Author.Tests.{eq-eqb, ne_eqb}
use Rattle.model.specs.declared.TreeWords.{TreeWords}
use Rattle.model.specs.declared.LockState.{LockState}
use Rattle.model.specs.Trees.{tree_of}
use Rattle.model.specs.Refusals as model
use Rattle.model.specs.Refusals.{refusal, accepted}
use Rattle.model.specs.Laws.{Typed}
use Rattle.refusals.specs.declared.reasons.Reason.{Reason}
use Rattle.refusals.specs.declared.reasons.Refusal.{Refusal}
use Rattle.refusals.specs.Reasons.{number_of}
use Rattle.refusals.proofs.Refusing.{reason_numbered, error_numbered, ok_numbered}
use Rattle.refusals.specs.StateCheck.Answers.{check_refusal, check_answer}
use Rattle.refusals.specs.StateCheck.Laws.{CheckRefusalLaw, AcceptedLaw}
use Rattle.refusals.proofs.state_check.Checking.{check_refusal_law, accepted_law}
use Rattle.journal.specs.StepCheck.Answers.{early_refusal, checked, steps_answer}
use Rattle.journal.proofs.step_check.Early.{state_decides, kinds_refuse, domains_refuse, lengths_pass, early_passes}
use Rattle.journal_call.specs.StepCheck.Stretches.{Ready}
use Rattle.journal_call.proofs.step_check.Piecing.{Says}

-- BEFORE THE STEPS, by the result of the state's check
module _ (w : TreeWords) (s : LockState) (is ks ds : List ℕ) where
  abbrev answer : model.Refusal
  answer = early_refusal (tree_of w) s is ks ds

  pub state_answered : (q : model.Refusal) → q ≡ check_answer w s → ((check_answer w s).number ≡ 0 → ⊥) → q ≡ answer
  unfolding check_answer
  state_answered q e n = e ∙ sym (state_decides (tree_of w) s is ks ds n)

  module _ (e : accepted ≡ check_answer w s) where
    passes : (check_refusal (tree_of w) s).number ≡ 0
    unfolding check_answer
    passes = ok_numbered e

    pub kinds_answered : (length ks ≡ length is → ⊥) → refusal 30 0 ≡ answer
    kinds_answered n = sym (kinds_refuse (tree_of w) s is ks ds passes n)

    pub domains_answered : length ks ≡ length is → (length ds ≡ length is → ⊥) → refusal 30 0 ≡ answer
    domains_answered a n = sym (domains_refuse (tree_of w) s is ks ds passes a n)

    pub lengths_answered : length ks ≡ length is → length ds ≡ length is → accepted ≡ answer
    lengths_answered a b = sym (lengths_pass (tree_of w) s is ks ds passes a b)

-- THE ANSWER
module _ (w : TreeWords) (s : LockState) (is ks ds : List ℕ) where
  pub refused_answered : (x : Refusal) → refusal (number_of x.reason) x.place ≡ early_refusal (tree_of w) s is ks ds → record { number = number_of x.reason; place = x.place; checked = 0; state = s } ≡ steps_answer w s is ks ds
  unfolding steps_answer refusal
  refused_answered x e = let n = ne_eqb (early_refusal (tree_of w) s is ks ds).number 0 (error_numbered x e) in rw (n, sym e)

  module _ (e : accepted ≡ early_refusal (tree_of w) s is ks ds) where
    zero : (early_refusal (tree_of w) s is ks ds).number ≡ 0
    zero = ok_numbered e

    pub ready : Typed s.words → Ready (tree_of w) s
    unfolding check_refusal CheckRefusalLaw AcceptedLaw
    ready ty =
        let facts = (accepted_law (tree_of w) s).0 ((check_refusal_law (tree_of w) s).zero_accepted (early_passes (tree_of w) s is ks ds zero).0) in
        record { tree = facts.0; typed = ty; form = facts.1; counts = facts.2 }

    pub kinds_long : length ks ≡ length is
    kinds_long = (early_passes (tree_of w) s is ks ds zero).1.0

    pub domains_long : length ds ≡ length is
    domains_long = (early_passes (tree_of w) s is ks ds zero).1.1

    -- a step is wrong, or all are right
    pub stop_answered : (reason : Reason) (m : ℕ) (left : LockState) → Says (checked (tree_of w) s is ks ds) (number_of reason) m left →
        record { number = number_of reason; place = m; checked = m; state = left } ≡ steps_answer w s is ks ds
    unfolding steps_answer
    stop_answered reason m left g =
        let n = ne_eqb (checked (tree_of w) s is ks ds).number 0 (λ z. reason_numbered reason (g.number ∙ z)) in
        rw (eq-eqb (early_refusal (tree_of w) s is ks ds).number 0 zero, n, g.number, g.steps, g.state)

    pub end_answered : (m : ℕ) (left : LockState) → Says (checked (tree_of w) s is ks ds) 0 m left →
        record { number = 0; place = 0; checked = m; state = left } ≡ steps_answer w s is ks ds
    unfolding steps_answer
    end_answered m left g =
        let n = eq-eqb (checked (tree_of w) s is ks ds).number 0 (sym g.number) in
        rw (eq-eqb (early_refusal (tree_of w) s is ks ds).number 0 zero, n, sym g.number, g.steps, g.state)
