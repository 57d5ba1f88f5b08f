-- The check entry by entry, with any number of turns that is enough.
use mathlib.Core.Path.{◌≡◌, refl, sym, ap, ◌∙◌}
use mathlib.Core.Bool.{cond}
use mathlib.Core.List.{List}
use mathlib.Core.Logic.{◌≢◌}
use Prim.Native.Nat.{ℕ, zero, suc, ◌+◌, ◌≤◌, ◌<◌}
use native.Mathlib.Omega.{arith}
use lib.Dec.{eqb, leb}
use lib.ListN.{length}
use borrow.Author.Tests.{eq-eqb, ne_eqb, le-ltb, lt-leb, le-leb}
use Rattle.model.specs.declared.State.{State}
use Rattle.model.specs.Trees.{Tree}
use Rattle.model.specs.Steps.{kind_number, step}
use Rattle.model.specs.Refusals.{Refusal, refusal, accepted}
use Rattle.journal.specs.declared.Entry.{Entry}
use Rattle.journal.specs.declared.Entry.TheVariants.{Named, Broken, End}
use Rattle.journal.specs.Reading.{entry_at}
use Rattle.journal.specs.Answers.{kind_checked, entry_checked, checked}
use Rattle.journal.proofs.Facts.{moves_on}

module _ (t : Tree) (bs : List ℕ) where
  -- the check, by the next entry
  by_entry : (n : ℕ) (s : State) (p b : ℕ) (x : Entry) → entry_at bs p b ≡ x → checked (suc n) t s bs p b ≡ entry_checked x t s p (λ s' q j. checked n t s' bs q j)
  unfolding checked
  by_entry n s p b x e = ap (λ y. entry_checked y t s p (λ s' q j. checked n t s' bs q j)) e

  module _ (n : ℕ) (s : State) (p b i k next : ℕ) (e : entry_at bs p b ≡ Named i k next) where
    pub unknown_thread : t.threads ≤ i → checked (suc n) t s bs p b ≡ refusal 12 p
    unfolding entry_checked
    unknown_thread h = by_entry n s p b _ e ∙ rw (le-leb t.threads i h)

    module _ (h : i < t.threads) where
      by_kind : checked (suc n) t s bs p b ≡ kind_checked k p (step t i s) (λ s'. checked n t s' bs next i)
      unfolding entry_checked
      by_kind = by_entry n s p b _ e ∙ rw (lt-leb t.threads i h)

      pub same_kind : k ≡ kind_number (step t i s).kind → checked (suc n) t s bs p b ≡ checked n t (step t i s).state bs next i
      unfolding kind_checked
      same_kind f = by_kind ∙ rw (eq-eqb (kind_number (step t i s).kind) k (sym f))

      pub other_kind : k ≢ kind_number (step t i s).kind → checked (suc n) t s bs p b ≡ refusal 26 p
      unfolding kind_checked
      other_kind f = by_kind ∙ rw (ne_eqb (kind_number (step t i s).kind) k (λ g. f (sym g)))

  pub broken_entry : (n : ℕ) (s : State) (p b : ℕ) → entry_at bs p b ≡ Broken → checked (suc n) t s bs p b ≡ refusal 25 p
  unfolding entry_checked
  broken_entry n s p b e = by_entry n s p b _ e

  pub journal_end : (n : ℕ) (s : State) (p b : ℕ) → entry_at bs p b ≡ End → checked n t s bs p b ≡ accepted
  unfolding checked entry_checked
  journal_end zero s p b e = refl
  journal_end (suc n) s p b e = by_entry n s p b _ e

  pub past_end : (p b : ℕ) → length bs ≤ p → entry_at bs p b ≡ End
  past_end p b h = rw (le-ltb p (length bs) h)

  -- an entry's check depends only on what follows the entry
  same_following :
      (f g : State → ℕ → ℕ → Refusal) (s : State) (p : ℕ) (x : Entry) →
      ((i k q : ℕ) → x ≡ Named i k q → f (step t i s).state q i ≡ g (step t i s).state q i) → entry_checked x t s p f ≡ entry_checked x t s p g
  unfolding entry_checked kind_checked
  same_following f g s p (Named i k q) h =
      ap (λ r. cond (leb t.threads i) (refusal 12 p) (cond (eqb (kind_number (step t i s).kind) k) r (refusal 26 p))) (h i k q refl)
  same_following f g s p Broken h = refl
  same_following f g s p End h = refl

  -- as many turns as there are bytes left are enough
  pub enough : (n m : ℕ) (s : State) (p b : ℕ) → length bs ≤ n + p → length bs ≤ m + p → checked n t s bs p b ≡ checked m t s bs p b
  enough zero zero s p b h g = refl
  enough zero (suc m) s p b h g = let e = past_end p b (omega arith) in journal_end zero s p b e ∙ sym (journal_end (suc m) s p b e)
  enough (suc n) zero s p b h g = let e = past_end p b (omega arith) in journal_end (suc n) s p b e ∙ sym (journal_end zero s p b e)
  enough (suc n) (suc m) s p b h g =
      by_entry n s p b _ refl
      ∙ same_following _ _ s p (entry_at bs p b)
      (λ i k q e. let a = moves_on bs p b i k q e in enough n m (step t i s).state q i (omega (arith, a.0)) (omega (arith, a.0)))
      ∙ sym (by_entry m s p b _ refl)
