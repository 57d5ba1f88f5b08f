-- Consecutive entries of a journal.
use mathlib.Core.Path.{◌≡◌, refl, sym, ap, ◌∙◌, subst}
use mathlib.Core.List.{List, [], ◌∷◌, ◌++◌}
use mathlib.Core.Logic.{◌⊎◌, ⊎_elim}
use Rattle.std.specs.Prelude.{Some, None}
use Prim.Native.Nat.{ℕ, zero, suc, ◌+◌, ◌≤◌, ◌<◌}
use native.Mathlib.Omega.{arith}
use lib.ListN.{length, set, length-append}
use lib.Seq.{sets, length-sets}
use Rattle.journal.specs.declared.Entry.{Entry}
use Rattle.journal.specs.declared.Entry.TheVariants.{Named, Broken, End}
use Rattle.journal.specs.Reading.{entry_at}
use Rattle.refusals.specs.declared.reasons.Reason.TheVariants.{BadEntry, JournalBroken}
use Rattle.journal_call.specs.Reader.Stretches.{position_by, position_after, Stretch, none_read, one_read, for_room, for_broken, for_thread, piece_of, ReadOn, StoppedBefore}
use Rattle.journal.proofs.Facts.{at_end}

-- a reason is not none
some_not_none : {A : Type 0} {x : A} → Some x ≡ None → ⊥
some_not_none e = cc

-- CONSECUTIVE STRETCHES
stretch_join :
    {known : ℕ} {bs : List ℕ} {p b e l e' l' : ℕ} {is ks js ms : List ℕ} → Stretch known bs p b is ks e l → Stretch known bs e l js ms e' l' →
    Stretch known bs p b (is ++ js) (ks ++ ms) e' l'
stretch_join none_read r = r
stretch_join (one_read g j s) r = one_read g j (stretch_join s r)

pub as_many : {known : ℕ} {bs : List ℕ} {p b e l : ℕ} {is ks : List ℕ} → Stretch known bs p b is ks e l → length ks ≡ length is
as_many none_read = refl
as_many (one_read g j s) = ap suc (as_many s)

still : {known : ℕ} {bs : List ℕ} {p b e l : ℕ} {is ks : List ℕ} → Stretch known bs p b is ks e l → length is ≡ 0 → (is ≡ []) × (ks ≡ []) × (e ≡ p) × (l ≡ b)
still none_read z = (refl, refl, refl, refl)
still (one_read g j s) z = absurd (omega arith)

-- stores, and more stores after them
sets_join : (xs : List ℕ) (n : ℕ) (is js : List ℕ) → sets (sets xs n is) (n + length is) js ≡ sets xs n (is ++ js)
sets_join xs n [] js = let z : n + 0 ≡ n = omega arith in rw z
sets_join xs n (i ∷ is) js = let z : n + suc (length is) ≡ suc n + length is = omega arith in rw z (sets_join (set xs n i) (suc n) is js)

module _ (known : ℕ) (bs : List ℕ) where
  -- nothing is read
  pub nothing : (p b : ℕ) (is ks : List ℕ) (n : ℕ) → n ≤ length is → n ≤ length ks → ReadOn known bs p b is ks n is ks n p b
  nothing p b is ks n h g =
      record { new_threads = []; new_kinds = []; read = none_read; threads_stored = refl; kinds_stored = refl; counted = omega arith; threads_fit = h; kinds_fit = g }

  -- one entry is read
  pub one : (p b : ℕ) (is ks : List ℕ) (n i k next : ℕ) → n < length is → n < length ks → entry_at bs p b ≡ Named i k next → i < known →
      ReadOn known bs p b is ks n (set is n i) (set ks n k) (n + 1) next i
  one p b is ks n i k next h g e f =
      record {
        new_threads = i ∷ [];
        new_kinds = k ∷ [];
        read = one_read e f none_read;
        threads_stored = refl;
        kinds_stored = refl;
        counted = refl;
        threads_fit = omega arith;
        kinds_fit = omega arith;
      }

  module _ (p b : ℕ) (is₀ ks₀ : List ℕ) (from : ℕ) (is ks : List ℕ) (n at last : ℕ) (s : ReadOn known bs p b is₀ ks₀ from is ks n at last) where
    pub threads_long : length is ≡ length is₀
    threads_long = ap length s.threads_stored ∙ length-sets is₀ from s.new_threads

    pub kinds_long : length ks ≡ length ks₀
    kinds_long = ap length s.kinds_stored ∙ length-sets ks₀ from s.new_kinds

    -- and then more entries
    pub more : (is' ks' : List ℕ) (m e l : ℕ) → ReadOn known bs at last is ks n is' ks' m e l → ReadOn known bs p b is₀ ks₀ from is' ks' m e l
    more is' ks' m e l r =
        let kinds_too : n ≡ from + length s.new_kinds = s.counted ∙ ap (λ k. from + k) (sym (as_many s.read)) in
        record {
          new_threads = s.new_threads ++ r.new_threads;
          new_kinds = s.new_kinds ++ r.new_kinds;
          read = stretch_join s.read r.read;
          threads_stored = r.threads_stored ∙ rw (s.threads_stored, s.counted) (sets_join is₀ from s.new_threads r.new_threads);
          kinds_stored = r.kinds_stored ∙ rw (s.kinds_stored, kinds_too) (sets_join ks₀ from s.new_kinds r.new_kinds);
          counted = r.counted ∙ rw s.counted (omega (arith, length-append s.new_threads r.new_threads));
          threads_fit = omega (arith, r.threads_fit, threads_long);
          kinds_fit = omega (arith, r.kinds_fit, kinds_long);
        }

    -- or nothing was read, and reading is tried again
    pub again : n ≤ from → (is' ks' : List ℕ) (m e l : ℕ) → ReadOn known bs p b is ks from is' ks' m e l → ReadOn known bs p b is₀ ks₀ from is' ks' m e l
    again h is' ks' m e l r =
        let z = still s.read (omega (arith, s.counted, h)) in
        let same_threads : is ≡ is₀ = s.threads_stored ∙ ap (sets is₀ from) z.0 in
        let same_kinds : ks ≡ ks₀ = s.kinds_stored ∙ ap (sets ks₀ from) z.1 in
        subst (λ xs. ReadOn known bs p b xs ks₀ from is' ks' m e l) same_threads (subst (λ ys. ReadOn known bs p b is ys from is' ks' m e l) same_kinds r)

  -- WHY READING STOPS, by the entry at the position
  pub ended : (n p b end : ℕ) → entry_at bs p b ≡ End → StoppedBefore known bs end (piece_of n p b None)
  ended n p b end e = record { stops = for_room; full = λ z l. absurd (omega (arith, at_end bs p b e)) }

  pub broken : (n p b end : ℕ) → entry_at bs p b ≡ Broken → StoppedBefore known bs end (piece_of n p b (Some JournalBroken))
  broken n p b end e = record { stops = for_broken e; full = λ z. absurd (some_not_none z) }

  pub unknown : (n p b end i k next : ℕ) → entry_at bs p b ≡ Named i k next → known ≤ i → StoppedBefore known bs end (piece_of n p b (Some BadEntry))
  unknown n p b end i k next e h = record { stops = for_thread e h; full = λ z. absurd (some_not_none z) }

  pub reached : (n p b end : ℕ) → end ≤ n → StoppedBefore known bs end (piece_of n p b None)
  reached n p b end h = record { stops = for_room; full = λ z l. h }

-- POSITIONS after one more entry, or none
pub position_next :
    (n : ℕ) (bs : List ℕ) (p b i k next : ℕ) → entry_at bs p b ≡ Named i k next → position_after (suc n) bs p b ≡ position_after n bs next i
unfolding position_after
position_next n bs p b i k next e = ap (λ x. position_by x p (λ q j. position_after n bs q j)) e

position_broken : (n : ℕ) (bs : List ℕ) (p b : ℕ) → entry_at bs p b ≡ Broken → position_after n bs p b ≡ p
unfolding position_after
position_broken zero bs p b e = refl
position_broken (suc n) bs p b e = ap (λ x. position_by x p (λ q j. position_after n bs q j)) e

position_end : (n : ℕ) (bs : List ℕ) (p b : ℕ) → entry_at bs p b ≡ End → position_after n bs p b ≡ p
unfolding position_after
position_end zero bs p b e = refl
position_end (suc n) bs p b e = ap (λ x. position_by x p (λ q j. position_after n bs q j)) e

pub position_stopped : (n : ℕ) (bs : List ℕ) (p b : ℕ) (e : Entry) → e ≡ entry_at bs p b → (e ≡ Broken) ⊎ (e ≡ End) → position_after n bs p b ≡ p
position_stopped n bs p b e f z = ⊎_elim (λ y. position_broken n bs p b (sym f ∙ y)) (λ y. position_end n bs p b (sym f ∙ y)) z

pub position_none : (n : ℕ) (bs : List ℕ) (p b : ℕ) → n ≡ 0 → position_after n bs p b ≡ p
unfolding position_after
position_none n bs p b e = rw e
