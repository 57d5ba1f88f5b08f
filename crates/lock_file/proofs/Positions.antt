-- Reading one entry at a time: what is known at the end of an entry, and the next entry.
use mathlib.Core.Path.{◌≡◌, refl}
use mathlib.Core.Bool.{Bool, true, false, cond}
use mathlib.Core.List.{List}
use Prim.Native.Nat.{ℕ, zero, suc, ◌+◌, ◌-◌, ◌%◌, ◌≤◌, ◌<◌}
use native.Mathlib.Omega.{arith}
use native.Mathlib.Numerals.{add-one}
use lib.Dec.{ltb, leb}
use lib.ListN.{length, set}
use lib.Seq.{sets}
use borrow.Author.Tests.{ltb-false, leb-false}
use Rattle.lock_file.specs.Reading.{Reached, At, Ended, BadMap, byte, field_end, entry_end, domain_size, domain_end, parent_at, threshold_at, stored, domains_at, domains_from, thread_end, home_at, threads_at, threads_from, two_bytes, entries_from}

-- a field or an entry that ends at a position is within the file
pub field_within :
    (bs : List ℕ) (at size next : ℕ) → 0 < size → field_end bs at size ≡ At next → (at + size ≡ next) × (next ≤ length bs)
unfolding field_end
field_within bs at size next h e = by (ltb (length bs - at) size) refl e
  where
    by : (b : Bool) → ltb (length bs - at) size ≡ b → cond b Ended (At (at + size)) ≡ At next → (at + size ≡ next) × (next ≤ length bs)
    by true p q = absurd (let z : ◌≡◌ {A = ℕ} 0 1 = cc in omega arith)
    by false p q = let same : at + size ≡ next = cc in (same, omega (arith, ltb-false (length bs - at) size p))

-- if an entry ends at a position, its map has a meaning
pub record EntryWithin (bs : List ℕ) (largest at size next : ℕ) : Type 0 where
  pub inside : at < length bs
  pub meaningful : byte bs at ≤ largest
  pub reaches : at + size ≡ next
  pub within : next ≤ length bs

pub entry_within :
    (bs : List ℕ) (largest at size next : ℕ) → 0 < size → entry_end bs largest at size ≡ At next → EntryWithin bs largest at size next
unfolding entry_end
entry_within bs largest at size next h e = by (leb (length bs) at) (ltb largest (byte bs at)) refl refl e
  where
    by :
        (b c : Bool) → leb (length bs) at ≡ b → ltb largest (byte bs at) ≡ c →
        cond b Ended (cond c (BadMap at) (field_end bs at size)) ≡ At next → EntryWithin bs largest at size next
    by true c p q e = absurd (let z : ◌≡◌ {A = ℕ} 0 1 = cc in omega arith)
    by false true p q e = absurd (let z : ◌≡◌ {A = ℕ} 0 1 = cc in omega arith)
    by false false p q e =
        let f = field_within bs at size next h e in
        record {
          inside = leb-false (length bs) at p;
          meaningful = ltb-false largest (byte bs at) q;
          reaches = f.0;
          within = f.1;
        }

pub domain_within :
    (bs : List ℕ) (at next : ℕ) → domain_end bs at ≡ At next → EntryWithin bs 3 at (domain_size (byte bs at)) next
unfolding domain_end domain_size
domain_within bs at next e = entry_within bs 3 at (domain_size (byte bs at)) next (omega arith) e

-- by how far reading came
pub reached_cases :
    {C : Type 0} (r : Reached) → ((next : ℕ) → r ≡ At next → C) → (r ≡ Ended → C) → ((p : ℕ) → r ≡ BadMap p → C) → C
reached_cases (At next) f g h = f next refl
reached_cases Ended f g h = g refl
reached_cases (BadMap p) f g h = h p refl

-- one domain's entry, and those after it
module _ (bs : List ℕ) (k d at : ℕ) (ps hs : List ℕ) where
  pub domain_then :
      (next : ℕ) → domain_end bs at ≡ At next →
      domains_from bs (suc k) d at ps hs
      ≡ domains_from bs k (d + 1) next (stored 64 ps d (parent_at bs at)) (stored 64 hs d (threshold_at bs at))
  unfolding domains_from
  domain_then next e = rw (e, domains_from)

  pub domain_ended : domain_end bs at ≡ Ended → domains_from bs (suc k) d at ps hs ≡ domains_at Ended ps hs
  unfolding domains_from
  domain_ended e = rw (e, domains_from)

  pub domain_bad : (p : ℕ) → domain_end bs at ≡ BadMap p → domains_from bs (suc k) d at ps hs ≡ domains_at (BadMap p) ps hs
  unfolding domains_from
  domain_bad p e = rw (e, domains_from)

-- the domains from d to D − 1: the next entry, the end, or a refusal
module _ (bs : List ℕ) (D d at : ℕ) (ps hs : List ℕ) where
  pub domains_next :
      (next : ℕ) → d < D → domain_end bs at ≡ At next →
      domains_from bs (D - d) d at ps hs
      ≡ domains_from bs (D - (d + 1)) (d + 1) next (stored 64 ps d (parent_at bs at)) (stored 64 hs d (threshold_at bs at))
  domains_next next h e =
      let z : D - d ≡ suc (D - (d + 1)) = omega arith in
      rw z (domain_then bs (D - (d + 1)) d at ps hs next e)

  pub domains_over : D ≤ d → domains_from bs (D - d) d at ps hs ≡ domains_at (At at) ps hs
  unfolding domains_from
  domains_over h = let z : D - d ≡ 0 = omega arith in rw z

  pub domains_ended : d < D → domain_end bs at ≡ Ended → domains_from bs (D - d) d at ps hs ≡ domains_at Ended ps hs
  domains_ended h e =
      let z : D - d ≡ suc (D - (d + 1)) = omega arith in
      rw z (domain_ended bs (D - (d + 1)) d at ps hs e)

  pub domains_bad :
      (p : ℕ) → d < D → domain_end bs at ≡ BadMap p → domains_from bs (D - d) d at ps hs ≡ domains_at (BadMap p) ps hs
  domains_bad p h e =
      let z : D - d ≡ suc (D - (d + 1)) = omega arith in
      rw z (domain_bad bs (D - (d + 1)) d at ps hs p e)

pub thread_within : (bs : List ℕ) (at next : ℕ) → thread_end bs at ≡ At next → EntryWithin bs 1 at (1 + byte bs at % 2) next
unfolding thread_end
thread_within bs at next e = entry_within bs 1 at (1 + byte bs at % 2) next (omega arith) e

-- one thread's entry, and those after it
module _ (bs : List ℕ) (k i before at : ℕ) (hs : List ℕ) where
  pub thread_then :
      (next : ℕ) → thread_end bs at ≡ At next →
      threads_from bs (suc k) i before at hs
      ≡ threads_from bs k (i + 1) (home_at bs before at) next (stored 256 hs i (home_at bs before at))
  unfolding threads_from
  thread_then next e = rw (e, threads_from)

  pub thread_ended : thread_end bs at ≡ Ended → threads_from bs (suc k) i before at hs ≡ threads_at Ended hs
  unfolding threads_from
  thread_ended e = rw (e, threads_from)

  pub thread_bad : (p : ℕ) → thread_end bs at ≡ BadMap p → threads_from bs (suc k) i before at hs ≡ threads_at (BadMap p) hs
  unfolding threads_from
  thread_bad p e = rw (e, threads_from)

-- the threads from i to T − 1: the next entry, the end, or a refusal
module _ (bs : List ℕ) (T i before at : ℕ) (hs : List ℕ) where
  pub threads_next :
      (next : ℕ) → i < T → thread_end bs at ≡ At next →
      threads_from bs (T - i) i before at hs
      ≡ threads_from bs (T - (i + 1)) (i + 1) (home_at bs before at) next (stored 256 hs i (home_at bs before at))
  threads_next next h e =
      let z : T - i ≡ suc (T - (i + 1)) = omega arith in
      rw z (thread_then bs (T - (i + 1)) i before at hs next e)

  pub threads_over : T ≤ i → threads_from bs (T - i) i before at hs ≡ threads_at (At at) hs
  unfolding threads_from
  threads_over h = let z : T - i ≡ 0 = omega arith in rw z

  pub threads_ended : i < T → thread_end bs at ≡ Ended → threads_from bs (T - i) i before at hs ≡ threads_at Ended hs
  threads_ended h e =
      let z : T - i ≡ suc (T - (i + 1)) = omega arith in
      rw z (thread_ended bs (T - (i + 1)) i before at hs e)

  pub threads_bad :
      (p : ℕ) → i < T → thread_end bs at ≡ BadMap p → threads_from bs (T - i) i before at hs ≡ threads_at (BadMap p) hs
  threads_bad p h e =
      let z : T - i ≡ suc (T - (i + 1)) = omega arith in
      rw z (thread_bad bs (T - (i + 1)) i before at hs p e)

-- the schedule entries from the k-th on, stored in order
module _ (bs : List ℕ) (n k at : ℕ) (l : List ℕ) where
  pub schedule_next :
      k < n →
      sets l k (entries_from bs (n - k) at) ≡ sets (set l k (two_bytes bs at)) (k + 1) (entries_from bs (n - (k + 1)) (at + 2))
  unfolding entries_from
  schedule_next h = let z : n - k ≡ suc (n - (k + 1)) = omega arith in rw (z, add-one k)

  pub schedule_over : n ≤ k → sets l k (entries_from bs (n - k) at) ≡ l
  unfolding entries_from
  schedule_over h = let z : n - k ≡ 0 = omega arith in rw z

-- there are as many entries as were left
pub entries_length : (bs : List ℕ) (k at : ℕ) → length (entries_from bs k at) ≡ k
unfolding entries_from
entries_length bs zero at = refl
entries_length bs (suc k) at = let rest = entries_length bs k (at + 2) in omega arith
