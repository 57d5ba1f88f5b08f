-- THE CHECK, exactly: accepted if all entries are steps of the table, refused at the first that is not.
use mathlib.Core.Path.{◌≡◌, refl, sym, ap, ◌∙◌}
use mathlib.Core.List.{List, [], ◌++◌, append-nil}
use mathlib.Core.Logic.{◌≢◌}
use Prim.Native.Nat.{ℕ, suc, ◌+◌, ◌≤◌}
use native.Mathlib.Omega.{arith}
use lib.ListN.{length}
use borrow.Author.Tests.{eq-eqb, ne_eqb}
use Rattle.model.specs.declared.TreeWords.{TreeWords}
use Rattle.model.specs.declared.State.{State}
use Rattle.model.specs.Trees.{Tree, tree_of}
use Rattle.model.specs.Refusals.{Refusal, refusal, accepted, tree_refusal}
use Rattle.model.proofs.Laws.Refusals.{same_number, same_place}
use Rattle.journal.specs.declared.Entry.TheVariants.{Named, Broken}
use Rattle.journal.specs.Entries.{NamedStep, last_thread}
use Rattle.journal.specs.Reading.{entry_at}
use Rattle.journal.specs.Answers.{fresh_lock, checked, journal_refusal}
use Rattle.journal.specs.Laws.{StepsOf, BeginsWith, after_entries, RefusedEntry, no_entry, no_thread, other_kind, RefusedBy, CheckLaw}
use Rattle.journal.proofs.Fronts.{front_of, entry_there, broken_there, nothing_left, whole, broken}
use Rattle.journal.proofs.Checking as check
use Rattle.journal.proofs.Walking.{passes_over, Outcome, all_taken, stopped, comes_to}

module _ (w : TreeWords) (bs : List ℕ) where
  abbrev t : Tree
  t = tree_of w

  -- the whole check; any larger number of turns gives the same
  abbrev all : Refusal
  all = checked (length bs) t (fresh_lock w) bs 0 0

  all_with : (n : ℕ) → length bs ≤ n → all ≡ checked n t (fresh_lock w) bs 0 0
  all_with n h = check.enough t bs (length bs) n (fresh_lock w) 0 0 (omega arith) (omega arith)

  -- THE ANSWER HAS ITS REASON
  reason : Outcome t (fresh_lock w) 0 bs 0 all
  reason = subst_outcome (comes_to t bs (suc (length bs)) [] bs (fresh_lock w) 0 refl (omega arith))
    where
      subst_outcome : Outcome t (fresh_lock w) 0 bs 0 (checked (suc (length bs)) t (fresh_lock w) bs 0 0) → Outcome t (fresh_lock w) 0 bs 0 all
      subst_outcome o = rw (all_with (suc (length bs)) (omega arith)) o

  accepted_has : all ≡ accepted → StepsOf w bs
  unfolding accepted
  accepted_has e = elim reason [
    | all_taken xs es o d ↦ record { entries = xs; journal = es; of_the_table = o }
    | stopped front rest xs n g es o f z d ↦ absurd (z (same_number n _ 0 0 (sym d ∙ e)))
  ]

  refused_has : (n p : ℕ) → n ≢ 0 → all ≡ refusal n p → RefusedBy w bs n p
  unfolding accepted
  refused_has n p h e = elim reason [
    | all_taken xs es o d ↦ absurd (h (same_number n p 0 0 (sym e ∙ d)))
    | stopped front rest xs m g es o f z d ↦
        let same : m ≡ n = same_number m _ n p (sym d ∙ e) in
        let place : 0 + length front ≡ p = same_place m _ n p (sym d ∙ e) in
        record {
          front = front;
          rest = rest;
          together = g;
          there = omega (arith, place);
          steps_before = record { entries = xs; journal = es; of_the_table = o };
          refused_entry = rw (← same) f;
        }
  ]

  -- AND EVERY REASON GIVES ITS ANSWER
  accepts : StepsOf w bs → all ≡ accepted
  accepts s =
      let xs = s.entries in
      let whole_bytes : bs ≡ [] ++ (bs ++ []) = simp append-nil in
      all_with (length xs + length bs) (omega arith)
      ∙ passes_over t bs s.journal [] [] whole_bytes (fresh_lock w) s.of_the_table (length bs)
      ∙ check.journal_end t bs (length bs) _ (0 + length bs) (last_thread 0 xs) (check.past_end t bs (0 + length bs) (last_thread 0 xs) (omega arith))

  module _ (n p : ℕ) (r : RefusedBy w bs n p) where
    abbrev s : State
    s = after_entries w r.steps_before.entries

    abbrev b : ℕ
    b = last_thread 0 r.steps_before.entries

    -- up to the place, with enough turns for one more entry
    up_to : all ≡ checked (suc (length bs)) t s bs (length r.front) b
    up_to =
        let xs = r.steps_before.entries in
        let z : 0 + length r.front ≡ length r.front = omega arith in
        all_with (length xs + suc (length bs)) (omega arith)
        ∙ passes_over t bs r.steps_before.journal [] r.rest r.together (fresh_lock w) r.steps_before.of_the_table (suc (length bs))
        ∙ ap (λ q. checked (suc (length bs)) t s bs q b) z

    here : (x : NamedStep) (g : BeginsWith b r.rest x) → entry_at bs (length r.front) b ≡ Named x.thread x.kind (length r.front + length g.front)
    here x g = entry_there bs r.front g.further b g.entry (r.together ∙ ap (λ y. r.front ++ y) g.together)

    not_here : r.rest ≢ [] → ((x : NamedStep) → ¬ BeginsWith b r.rest x) → entry_at bs (length r.front) b ≡ Broken
    not_here ne none = elim (front_of b r.rest) [
      | nothing_left z ↦ absurd (ne z)
      | whole x g ↦ absurd (none x g)
      | broken _ _ h f ↦ broken_there bs r.front r.rest r.together b h f
    ]

    refuses_at : (m : ℕ) → RefusedEntry t s b r.rest m → checked (suc (length bs)) t s bs (length r.front) b ≡ refusal m (length r.front)
    refuses_at _ (no_entry ne none) = check.broken_entry t bs (length bs) s (length r.front) b (not_here ne none)
    refuses_at _ (no_thread x g h) = check.unknown_thread t bs (length bs) s (length r.front) b x.thread x.kind _ (here x g) h
    refuses_at _ (other_kind x g h f) = check.other_kind t bs (length bs) s (length r.front) b x.thread x.kind _ (here x g) h f

    refuses : all ≡ refusal n p
    refuses = up_to ∙ refuses_at n r.refused_entry ∙ ap (refusal n) (sym r.there)

pub check_law : CheckLaw
unfolding CheckLaw journal_refusal
check_law w bs =
    let number = (tree_refusal (tree_of w)).number in
    record {
      tree_refused = λ h. rw (ne_eqb number 0 h);
      accepts = λ z. rw (eq-eqb number 0 z) (accepted_has w bs, accepts w bs);
      refuses = λ z n p h. rw (eq-eqb number 0 z) (refused_has w bs n p h, refuses w bs n p);
    }
