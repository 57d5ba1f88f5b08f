-- The answer of the call, from the refusals and the links.
use mathlib.Core.Path.{◌≡◌, refl, sym, ap, ◌∙◌}
use mathlib.Core.Bool.{Bool, true, false, false≢true}
use mathlib.Core.List.{List, [], ◌∷◌, ◌++◌}
use mathlib.Core.Logic.{◌≢◌}
use Prim.Native.Nat.{ℕ, ◌≤◌, ◌<◌}
use native.Mathlib.Omega.{arith}
use lib.ListN.{length, take, drop}
use borrow.Author.Tests.{ne_eqb}
use Rattle.std.specs.Prelude.{Option, None, Some}
use Rattle.model.specs.declared.TreeWords.{TreeWords}
use Rattle.model.specs.declared.LockState.{LockState}
use Rattle.model.specs.Trees.{tree_of}
use Rattle.model.specs.WellFormed.{well_formed}
use Rattle.model.specs.Refusals as model
use Rattle.model.specs.Refusals.{refusal, accepted, first_refusal, run_tests_before_19, tree_refusal}
use Rattle.model.specs.Laws.{AllThreads}
use Rattle.model.proofs.Laws.Calls.{early_facts}
use Rattle.model.proofs.Trees.Reading.{threads_read}
use Rattle.refusals.specs.declared.reasons.Refusal.{Refusal}
use Rattle.refusals.specs.Reasons.{number_of}
use Rattle.refusals.proofs.Refusing.{reason_numbered, error_numbered, ok_numbered}
use Rattle.chain.specs.declared.ChainReply.{ChainReply}
use Rattle.chain.specs.Chain.{chain}
use Rattle.chain.specs.Answers.{chain_refusal, chain_reply, chain_buffer, chain_answer, buffer_answer}
use Rattle.chain.proofs.Refusing.{refused_early, refused_20, refused_21, not_refused}
use Rattle.chain_call.specs.Tables.{some_length, Followed}

-- LENGTHS
is_some : Option ℕ → Bool
is_some None = false
is_some (Some x) = true

or_zero : Option ℕ → ℕ
or_zero None = 0
or_zero (Some x) = x

no_length : (c : List ℕ) → None ≡ some_length c → length c ≡ 0
unfolding is_some
no_length [] e = refl
no_length (j ∷ js) e = absurd (false≢true (ap is_some e))

this_length : (c : List ℕ) (n : ℕ) → Some n ≡ some_length c → (n ≡ length c) × (length c ≢ 0)
unfolding is_some or_zero
this_length [] n e = absurd (false≢true (sym (ap is_some e)))
this_length (j ∷ js) n e = (ap or_zero e, λ z. omega arith)

-- THE CALL
module _ (w : TreeWords) (s : LockState) (i : ℕ) (b : List ℕ) where
  abbrev early : model.Refusal
  early = first_refusal (run_tests_before_19 (tree_of w) s (i ∷ []) 1)

  abbrev answer : model.Refusal
  answer = chain_refusal (tree_of w) s i (length b)

  abbrev followed : List ℕ
  followed = chain (tree_of w) s.words i

  module _ (x : Refusal) where
    pub early_refused : refusal (number_of x.reason) x.place ≡ early → refusal (number_of x.reason) x.place ≡ answer
    early_refused e = e ∙ sym (refused_early (tree_of w) s i (length b) (error_numbered x e))

    pub buffer_refused : refusal (number_of x.reason) x.place ≡ answer → b ≡ buffer_answer w s i b
    unfolding buffer_answer chain_buffer refusal
    buffer_refused e = rw (← e, ne_eqb (number_of x.reason) 0 (reason_numbered x.reason)) refl

    pub reply_refused : refusal (number_of x.reason) x.place ≡ answer → ◌≡◌ {A = ChainReply} (record { number = number_of x.reason; place = x.place; length = 0 }) (chain_answer w s i b)
    unfolding chain_answer chain_reply refusal
    reply_refused e = rw (← e, ne_eqb (number_of x.reason) 0 (reason_numbered x.reason)) refl

  pub replied : (n : ℕ) → accepted ≡ answer → n ≡ length followed → ◌≡◌ {A = ChainReply} (record { number = 0; place = 0; length = n }) (chain_answer w s i b)
  unfolding chain_answer chain_reply accepted refusal
  replied n e f = rw (← e, f) refl

  module _ (e : accepted ≡ early) where
    passed : early.number ≡ 0
    passed = ok_numbered e

    pub answered_20 : length b < w.threads → refusal 20 0 ≡ answer
    answered_20 h = sym (refused_20 (tree_of w) s i (length b) passed (rw (threads_read w) h))

    -- what the links need
    pub tree_good : (tree_refusal (tree_of w)).number ≡ 0
    tree_good = (early_facts _ _ _ _ passed).tree

    pub form_good : well_formed (tree_of w) s.words ≡ true
    form_good = (early_facts _ _ _ _ passed).form

    pub thread_good : i < w.threads
    unfolding AllThreads
    thread_good = rw (threads_read w) at (early_facts _ _ _ _ passed).threads.0

    module _ (h : w.threads ≤ length b) (found : List ℕ) (o : Option ℕ) (f : Followed w.threads followed found o) where
      enough : (tree_of w).threads ≤ length b
      enough = rw (threads_read w) h

      pub answered_21 : o ≡ None → refusal 21 0 ≡ answer
      answered_21 z = sym (refused_21 (tree_of w) s i (length b) passed enough (no_length followed (sym z ∙ f.length_is)))

      module _ (n : ℕ) (z : o ≡ Some n) where
        measured : (n ≡ length followed) × (length followed ≢ 0)
        measured = this_length followed n (sym z ∙ f.length_is)

        pub answered : accepted ≡ answer
        answered = sym (not_refused (tree_of w) s i (length b) passed enough measured.1)

        pub buffer_answered : take n found ++ drop n b ≡ buffer_answer w s i b
        unfolding buffer_answer chain_buffer accepted refusal
        buffer_answered = rw (← answered, measured.0, f.front) refl
