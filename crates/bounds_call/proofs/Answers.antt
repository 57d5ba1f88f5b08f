-- What the calls answer, given the result of the tests of the tree.
use mathlib.Core.Path.{◌≡◌, refl, sym, ap, ◌∙◌}
use mathlib.Core.Bool.{cond}
use mathlib.Core.List.{List}
use Prim.Native.Nat.{ℕ, ◌*◌}
use borrow.Author.Tests.{eq-eqb, ne_eqb}
use lib.Dec.{eqb}
use Rattle.model.specs.declared.TreeWords.{TreeWords}
use Rattle.model.specs.Trees.{tree_of}
use Rattle.model.specs.Refusals as model
use Rattle.model.specs.Refusals.{tree_refusal, accepted, refusal}
use Rattle.refusals.proofs.Refusing.{reason_numbered}
use Rattle.refusals.specs.declared.reasons.Refusal.{Refusal}
use Rattle.refusals.specs.Reasons.{number_of}
use Rattle.bounds.specs.StarvationFreedom.Bounds.{everyone_bound}
use Rattle.bounds.specs.declared.RoundsReply.{RoundsReply}
use Rattle.bounds.specs.Answers.{capped, rounds_answer}
use Rattle.bounds_call.proofs.Capped.{capped_first}

module _ (x : model.Refusal) (r : Refusal) (ws b : List ℕ) where
  pub left_refused : refusal (number_of r.reason) r.place ≡ x → b ≡ cond (eqb x.number 0) ws b
  unfolding refusal
  left_refused e = rw (ne_eqb x.number 0 (λ z. reason_numbered r.reason (ap (λ (y : model.Refusal). y.number) e ∙ z))) refl

pub left_accepted : (x : model.Refusal) (c ws b : List ℕ) → accepted ≡ x → c ≡ ws → c ≡ cond (eqb x.number 0) ws b
unfolding accepted refusal
left_accepted x c ws b e f = rw (eq-eqb x.number 0 (ap (λ (y : model.Refusal). y.number) (sym e))) f

pub rounds_refused :
    (w : TreeWords) (r : Refusal) → refusal (number_of r.reason) r.place ≡ tree_refusal (tree_of w) →
    ◌≡◌ {A = RoundsReply} (record { number = number_of r.reason; place = r.place; rounds = 0; turns = 0 }) (rounds_answer w)
unfolding rounds_answer refusal
rounds_refused w r e = rw (← e, ne_eqb (number_of r.reason) 0 (reason_numbered r.reason)) refl

pub rounds_accepted :
    (w : TreeWords) (most turns : ℕ) → accepted ≡ tree_refusal (tree_of w) → most ≡ capped (everyone_bound (tree_of w)) → turns ≡ capped (everyone_bound (tree_of w) * w.threads) →
    ◌≡◌ {A = RoundsReply} (record { number = 0; place = 0; rounds = most; turns = turns }) (rounds_answer w)
unfolding rounds_answer accepted refusal
rounds_accepted w most turns e m u = rw (← e, m, u) refl

pub turns_capped : (turns most threads everyone m : ℕ) → turns ≡ capped (most * threads) → most ≡ capped everyone → threads ≡ m → turns ≡ capped (everyone * m)
turns_capped turns most threads everyone m e f g = e ∙ rw (f, g) (capped_first everyone m)
