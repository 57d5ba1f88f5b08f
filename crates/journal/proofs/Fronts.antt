-- An entry at the front of the bytes, by the relation and by reading.
use mathlib.Core.Path.{◌≡◌, refl, ap, ◌∙◌}
use mathlib.Core.Bool.{Bool, true, false, cond}
use mathlib.Core.List.{List, [], ◌∷◌, ◌++◌}
use mathlib.Core.Logic.{◌≢◌, ◌⊎◌, inl, inr}
use Prim.Native.Nat.{ℕ, zero, suc, ◌+◌, ◌-◌, ◌*◌, ◌≤◌, ◌<◌}
use native.Mathlib.Omega.{arith}
use lib.Dec.{ltb, lit≤}
use lib.ListN.{length, get_or, length-append}
use borrow.Author.Tests.{lt-ltb, le-ltb}
use Rattle.journal.specs.declared.Entry.TheVariants.{Named, Broken, End}
use Rattle.journal.specs.Entries.{NamedStep, named, EntryBytes, neither, thread_given, kind_given, both_given}
use Rattle.journal.specs.Reading.{entry_size, entry_by, entry_at}
use Rattle.journal.specs.Laws.{BeginsWith}
use Rattle.journal.proofs.Facts.{whole_entry}

-- bytes that follow other bytes
first_after : (xs ys : List ℕ) → get_or (xs ++ ys) (length xs) 0 ≡ get_or ys 0 0
first_after [] ys = refl
first_after (x ∷ xs) ys = first_after xs ys

each_after : (xs ys : List ℕ) (j : ℕ) → get_or (xs ++ ys) (length xs + j) 0 ≡ get_or ys j 0
each_after [] ys j = let z : 0 + j ≡ j = omega arith in rw z
each_after (x ∷ xs) ys j = let z : suc (length xs) + j ≡ suc (length xs + j) = omega arith in rw z (each_after xs ys j)

module _ (bs done rest : List ℕ) (e : bs ≡ done ++ rest) where
  long : length bs ≡ length done + length rest
  long = ap length e ∙ length-append done rest

  first_is : get_or bs (length done) 0 ≡ get_or rest 0 0
  first_is = ap (λ xs. get_or xs (length done) 0) e ∙ first_after done rest

  byte_is : (j : ℕ) → get_or bs (length done + j) 0 ≡ get_or rest j 0
  byte_is j = ap (λ xs. get_or xs (length done + j) 0) e ∙ each_after done rest j

  -- the end of the bytes
  pub end_there : (b : ℕ) → rest ≡ [] → entry_at bs (length done) b ≡ End
  end_there b z = rw (le-ltb (length done) (length bs) (omega (arith, long, ap length z)))

  -- an entry that is cut short, or has another bit set
  pub broken_there : (b : ℕ) → 0 < length rest → (3 < get_or rest 0 0) ⊎ (length rest < entry_size (get_or rest 0 0)) → entry_at bs (length done) b ≡ Broken
  broken_there b h f = rw (lt-ltb (length done) (length bs) (omega (arith, long)), first_is) (by f)
    where
      by : (3 < get_or rest 0 0) ⊎ (length rest < entry_size (get_or rest 0 0)) → entry_by bs (length done) b (get_or rest 0 0) ≡ Broken
      by (inl g) = rw (lt-ltb 3 (get_or rest 0 0) g)
      by (inr g) = rw (lt-ltb (length bs - length done) (entry_size (get_or rest 0 0)) (omega (arith, long))) (either (ltb 3 (get_or rest 0 0)))
        where
          either : (x : Bool) → cond x Broken Broken ≡ Broken
          either true = refl
          either false = refl

-- a whole entry
pub entry_there :
    (bs done further : List ℕ) (b : ℕ) {front : List ℕ} {x : NamedStep} → EntryBytes b front x → bs ≡ done ++ (front ++ further) →
    entry_at bs (length done) b ≡ Named x.thread x.kind (length done + length front)
unfolding named
entry_there bs done further b neither e =
    whole_entry bs (length done) b 0 (omega (arith, long bs done _ e)) (first_is bs done _ e) (lit≤ tt) (omega (arith, long bs done _ e))
entry_there bs done further b (thread_given low high) e =
    whole_entry bs (length done) b 1 (omega (arith, long bs done _ e)) (first_is bs done _ e) (lit≤ tt) (omega (arith, long bs done _ e))
    ∙ rw (byte_is bs done _ e 1, byte_is bs done _ e 2)
entry_there bs done further b (kind_given kind) e =
    whole_entry bs (length done) b 2 (omega (arith, long bs done _ e)) (first_is bs done _ e) (lit≤ tt) (omega (arith, long bs done _ e))
    ∙ rw (byte_is bs done _ e 1)
entry_there bs done further b (both_given low high kind) e =
    whole_entry bs (length done) b 3 (omega (arith, long bs done _ e)) (first_is bs done _ e) (lit≤ tt) (omega (arith, long bs done _ e))
    ∙ rw (byte_is bs done _ e 1, byte_is bs done _ e 2, byte_is bs done _ e 3)

-- what an entry implies about the bytes that begin with it
entry_shape :
    {b : ℕ} {front : List ℕ} {x : NamedStep} → EntryBytes b front x → (bs further : List ℕ) → bs ≡ front ++ further →
    (get_or bs 0 0 ≤ 3) × (entry_size (get_or bs 0 0) ≤ length bs)
entry_shape neither bs further e = rw e (lit≤ tt, omega arith)
entry_shape (thread_given low high) bs further e = rw e (lit≤ tt, omega arith)
entry_shape (kind_given kind) bs further e = rw e (lit≤ tt, omega arith)
entry_shape (both_given low high kind) bs further e = rw e (lit≤ tt, omega arith)

pub entry_long : {b : ℕ} {front : List ℕ} {x : NamedStep} → EntryBytes b front x → 0 < length front
entry_long neither = omega arith
entry_long (thread_given low high) = omega arith
entry_long (kind_given kind) = omega arith
entry_long (both_given low high kind) = omega arith

-- THE FRONT OF SOME BYTES: nothing, an entry, or something that is no entry
pub data Front (before : ℕ) (bytes : List ℕ) : Type 0 where
  nothing_left : bytes ≡ [] → Front before bytes
  whole : (x : NamedStep) → BeginsWith before bytes x → Front before bytes
  broken :
      bytes ≢ [] → ((x : NamedStep) → ¬ BeginsWith before bytes x) → 0 < length bytes →
      (3 < get_or bytes 0 0) ⊎ (length bytes < entry_size (get_or bytes 0 0)) → Front before bytes

module _ (b : ℕ) where
  broken_front : (bs : List ℕ) → 0 < length bs → (3 < get_or bs 0 0) ⊎ (length bs < entry_size (get_or bs 0 0)) → Front b bs
  broken_front bs h f = broken (λ e. absurd (omega (arith, ap length e))) (λ x g. refuted x g f) h f
    where
      refuted : (x : NamedStep) → BeginsWith b bs x → (3 < get_or bs 0 0) ⊎ (length bs < entry_size (get_or bs 0 0)) → ⊥
      refuted x g (inl l) = let s = entry_shape g.entry bs g.further g.together in omega (arith, s.0, l)
      refuted x g (inr l) = let s = entry_shape g.entry bs g.further g.together in omega (arith, s.1, l)

  pub front_of : (bs : List ℕ) → Front b bs
  front_of [] = nothing_left refl
  front_of (zero ∷ r) = whole (named b 0) (record { front = 0 ∷ []; further = r; together = refl; entry = neither })
  front_of (suc zero ∷ []) = broken_front _ (omega arith) (inr (omega arith))
  front_of (suc zero ∷ l ∷ []) = broken_front _ (omega arith) (inr (omega arith))
  front_of (suc zero ∷ l ∷ h ∷ r) = whole (named (l + 256 * h) 0) (record { front = 1 ∷ l ∷ h ∷ []; further = r; together = refl; entry = thread_given l h })
  front_of (suc (suc zero) ∷ []) = broken_front _ (omega arith) (inr (omega arith))
  front_of (suc (suc zero) ∷ k ∷ r) = whole (named b k) (record { front = 2 ∷ k ∷ []; further = r; together = refl; entry = kind_given k })
  front_of (suc (suc (suc zero)) ∷ []) = broken_front _ (omega arith) (inr (omega arith))
  front_of (suc (suc (suc zero)) ∷ l ∷ []) = broken_front _ (omega arith) (inr (omega arith))
  front_of (suc (suc (suc zero)) ∷ l ∷ h ∷ []) = broken_front _ (omega arith) (inr (omega arith))
  front_of (suc (suc (suc zero)) ∷ l ∷ h ∷ k ∷ r) =
      whole (named (l + 256 * h) k) (record { front = 3 ∷ l ∷ h ∷ k ∷ []; further = r; together = refl; entry = both_given l h k })
  front_of (suc (suc (suc (suc m))) ∷ r) = broken_front _ (omega arith) (inl (omega arith))
