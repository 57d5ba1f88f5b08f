-- The check of a journal agrees with the check of steps.
use mathlib.Core.Path.{◌≡◌, refl, sym, ap, ◌∙◌, subst}
use mathlib.Core.List.{List, [], ◌∷◌}
use Prim.Native.Nat.{ℕ, suc, ◌≤◌}
use native.Mathlib.Omega.{arith}
use lib.ListN.{length}
use borrow.Author.Tests.{eq-eqb}
use Rattle.model.specs.declared.TreeWords.{TreeWords}
use Rattle.model.specs.Trees.{Tree, tree_of}
use Rattle.model.specs.States.{fresh_words}
use Rattle.model.specs.Steps.{kind_number, Step}
use Rattle.model.specs.Runs.{steps}
use Rattle.model.specs.Counters.{fresh_lock, most_counted}
use Rattle.model.specs.CounterLaws.{RoomLaw}
use Rattle.model.specs.Refusals.{tree_refusal}
use Rattle.model.specs.Answers.{fresh_answer}
use Rattle.model.specs.Laws.{FormLaw, Formed}
use Rattle.model.proofs.Laws.Counters.{fresh_good, room_law, fresh_room}
use Rattle.model.proofs.Laws.Form.{form_law, fresh_at_zero}
use Rattle.model.proofs.Laws.Refusals.{accepted_number}
use Rattle.model.proofs.Laws.Runs.{steps_length}
use Rattle.model.proofs.Trees.Accepted.{sixteen_bit}
use Rattle.journal.specs.Entries.{NamedStep, threads_of, kinds_of}
use Rattle.journal.specs.Answers as journal
use Rattle.journal.specs.Laws as journal_laws
use Rattle.journal.specs.Laws.{kind_numbers, CheckLaw, OneReadingLaw}
use Rattle.journal.proofs.Deciding.{check_law}
use Rattle.journal.proofs.Writing.{one_reading_law}
use Rattle.refusals.specs.StateCheck.Laws.{AcceptedLaw}
use Rattle.refusals.proofs.state_check.Checking.{accepted_law}
use Rattle.journal.specs.StepCheck.Answers.{early_refusal}
use Rattle.journal.specs.StepCheck.Laws.{kinds_reported, domains_reported, OfTheTable, ExactlyLaw, JournalLaw}
use Rattle.journal.proofs.step_check.Early.{lengths_pass}
use Rattle.journal.proofs.step_check.Laws.{exactly_law}

same_kinds : (xs : List Step) → kinds_reported xs ≡ kind_numbers xs
unfolding kinds_reported kind_numbers
same_kinds [] = refl
same_kinds (x ∷ xs) = ap (λ (l : List ℕ). kind_number x.kind ∷ l) (same_kinds xs)

reported_long : (xs : List Step) → length (domains_reported xs) ≡ length xs
unfolding domains_reported
reported_long [] = refl
reported_long (x ∷ xs) = ap suc (reported_long xs)

named_long : (xs : List NamedStep) → (length (threads_of xs) ≡ length xs) × (length (kinds_of xs) ≡ length xs)
unfolding threads_of kinds_of
named_long [] = (refl, refl)
named_long (x ∷ xs) = let e = named_long xs in (ap suc e.0, ap suc e.1)

module _ (w : TreeWords) (ok : (tree_refusal (tree_of w)).number ≡ 0) (xs : List NamedStep) where
  abbrev t : Tree
  t = tree_of w

  abbrev is : List ℕ
  is = threads_of xs

  abbrev ds : List ℕ
  ds = domains_reported (steps t is fresh_lock.words)

  fresh_is : journal.fresh_lock w ≡ fresh_words
  unfolding fresh_answer
  fresh_is = rw (eq-eqb (tree_refusal t).number 0 ok) (fresh_at_zero t)

  early : (early_refusal t fresh_lock is (kinds_of xs) ds).number ≡ 0
  unfolding AcceptedLaw FormLaw
  early =
      let formed : Formed t fresh_words = subst (λ x. Formed t x) (fresh_at_zero t) ((form_law t (sixteen_bit w) ok).of_fresh 0) in
      let e = (accepted_law t fresh_lock).1 (ok, formed.form, fresh_good t) in
      let l = named_long xs in
      ap (λ v. v.number)
      (lengths_pass t fresh_lock is (kinds_of xs) ds (ap (λ v. v.number) e ∙ accepted_number) (l.1 ∙ sym l.0) (reported_long (steps t is fresh_lock.words) ∙ steps_length t is fresh_lock.words))
      ∙ accepted_number

  -- both say that the steps are of the table
  to_steps : length xs ≤ most_counted → journal_laws.OfTheTable t (journal.fresh_lock w) xs → OfTheTable t fresh_lock is (kinds_of xs) ds
  unfolding RoomLaw
  to_steps h g =
      record {
        threads_known = g.threads_known;
        counters_fit = room_law t (sixteen_bit w) fresh_lock is (fresh_room (length is) (omega (arith, (named_long xs).0)));
        kinds_given = g.kinds_given ∙ ap (λ s. kind_numbers (steps t is s)) fresh_is ∙ sym (same_kinds (steps t is fresh_words));
        domains_given = refl;
      }

  to_journal : OfTheTable t fresh_lock is (kinds_of xs) ds → journal_laws.OfTheTable t (journal.fresh_lock w) xs
  to_journal g =
      record {
        threads_known = g.threads_known;
        kinds_given = g.kinds_given ∙ same_kinds (steps t is fresh_words) ∙ sym (ap (λ s. kind_numbers (steps t is s)) fresh_is);
      }

pub journal_law : JournalLaw
unfolding JournalLaw CheckLaw OneReadingLaw ExactlyLaw
journal_law w bytes xs ok j h =
    let exact = (exactly_law w fresh_lock (threads_of xs) (kinds_of xs) _ (early w ok xs)).accepts in
    let check = (check_law w bytes).accepts ok in (
      λ e.
          let f = check.0 e in
          exact.1 (to_steps w ok xs h (subst (λ v. journal_laws.OfTheTable (tree_of w) (journal.fresh_lock w) v) (one_reading_law bytes f.entries xs f.journal j) f.of_the_table)),
      λ e. check.1 (record { entries = xs; journal = j; of_the_table = to_journal w ok xs (exact.0 e) }),
    )
