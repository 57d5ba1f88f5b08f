-- Reading a tree in two parts: D with the domains' entries, T with the threads' entries.
use mathlib.Core.Path.{◌≡◌, refl}
use mathlib.Core.List.{List}
use Prim.Native.Nat.{ℕ, zero, suc, ◌+◌, ◌-◌, ◌≤◌, ◌<◌, ◌%◌}
use native.Mathlib.Omega.{arith}
use native.Mathlib.Decide.{ℕ_discrete}
use lib.ListN.{length, replicate}
use borrow.Author.Tests.{lt-ltb, le-ltb, eq-eqb, ne_eqb}
use Rattle.lock_file.specs.Reading.{Reached, At, Ended, BadMap, domain_count, byte, two_bytes, bit_0, field_end, domain_size, domain_end, parent_at, threshold_at, stored, domains_from, domains_read, thread_end, home_at, threads_from, threads_after, threads_read, schedule_start, tree_read}
use Rattle.lock_file.proofs.Positions.{reached_cases, domain_then, domain_ended, domain_bad, thread_then, thread_ended, thread_bad}
use Rattle.lock_file.proofs.Parts.{Part, PartReader, SameBefore, onward, entries_reader, counted_reader, counted_part, both_part}

pub domain_positive : (map : ℕ) → 0 < domain_size map
unfolding domain_size
domain_positive m = omega arith

abbrev pub thread_size : (map : ℕ) → ℕ
thread_size m = 1 + bit_0 m

pub thread_positive : (map : ℕ) → 0 < thread_size map
thread_positive m = omega arith

pub one_positive : 0 < 1
one_positive = omega arith

pub two_positive : 0 < 2
two_positive = omega arith

abbrev pub entry_count : (bytes : List ℕ) → (at : ℕ) → ℕ
entry_count bs at = byte bs at % 128 - 1

pub domains_counted : (bs cs : List ℕ) (at : ℕ) → SameBefore (at + 1) bs cs → entry_count bs at ≡ entry_count cs at
domains_counted bs cs at same = rw (same at (omega arith))

pub threads_counted : (bs cs : List ℕ) (at : ℕ) → SameBefore (at + 2) bs cs → two_bytes bs at ≡ two_bytes cs at
threads_counted bs cs at same = rw (same at (omega arith), same (at + 1) (omega arith))

abbrev pub domains_reader : PartReader
domains_reader = counted_reader 3 domain_size domain_positive 1 one_positive entry_count domains_counted

abbrev pub threads_reader : PartReader
threads_reader = counted_reader 1 thread_size thread_positive 2 two_positive two_bytes threads_counted

abbrev pub tree_reader : PartReader
tree_reader bs at = onward (domains_reader bs at) (threads_reader bs)

pub tree_part : Part tree_reader
tree_part =
    both_part domains_reader (λ bs at. 0) (λ v. threads_reader)
    (counted_part 3 domain_size domain_positive 1 one_positive entry_count domains_counted)
    (λ v. counted_part 1 thread_size thread_positive 2 two_positive two_bytes threads_counted) (λ bs cs at next e same. refl)

-- reading a tree is reading these parts
domains_reach :
    (bs : List ℕ) (k d at : ℕ) (ps hs : List ℕ) →
    (domains_from bs k d at ps hs).reached ≡ entries_reader 3 domain_size domain_positive k bs at
unfolding domains_from entries_reader onward domain_end
domains_reach bs zero d at ps hs = refl
domains_reach bs (suc k) d at ps hs =
    reached_cases (domain_end bs at)
    (λ next e.
    rw (domain_then bs k d at ps hs next e, e)
    (domains_reach bs k (d + 1) next (stored 64 ps d (parent_at bs at)) (stored 64 hs d (threshold_at bs at))))
    (λ e. rw (domain_ended bs k d at ps hs e, e))
    (λ p e. rw (domain_bad bs k d at ps hs p e, e))

threads_reach :
    (bs : List ℕ) (k i before at : ℕ) (hs : List ℕ) →
    (threads_from bs k i before at hs).reached ≡ entries_reader 1 thread_size thread_positive k bs at
unfolding threads_from entries_reader onward thread_end
threads_reach bs zero i before at hs = refl
threads_reach bs (suc k) i before at hs =
    reached_cases (thread_end bs at)
    (λ next e.
    rw (thread_then bs k i before at hs next e, e)
    (threads_reach bs k (i + 1) (home_at bs before at) next (stored 256 hs i (home_at bs before at))))
    (λ e. rw (thread_ended bs k i before at hs e, e))
    (λ p e. rw (thread_bad bs k i before at hs p e, e))

domains_read_reach : (bs : List ℕ) → (domains_read bs).reached ≡ domains_reader bs 0
unfolding domains_read onward field_end
domains_read_reach bs =
    elim (ℕ_discrete (length bs) 0) [
      | yes none ↦
          let short : length bs - 0 < 1 = omega arith in
          rw (eq-eqb (length bs) 0 none, lt-ltb (length bs - 0) 1 short)
      | no some ↦
          let long : 1 ≤ length bs - 0 = omega arith in
          rw (ne_eqb (length bs) 0 some, le-ltb (length bs - 0) 1 long)
          (domains_reach bs (domain_count bs - 1) 1 1 (replicate 64 0) (replicate 64 0))
    ]

threads_read_reach : (bs : List ℕ) (r : Reached) → (threads_read bs r).reached ≡ onward r (threads_reader bs)
unfolding threads_read threads_after onward
threads_read_reach bs (At q) =
    reached_cases (field_end bs q 2)
    (λ next e. rw e (threads_reach bs (two_bytes bs q) 0 0 next (replicate 256 0)))
    (λ e. rw e)
    (λ p e. rw e)
threads_read_reach bs Ended = refl
threads_read_reach bs (BadMap p) = refl

pub tree_reach : (bs : List ℕ) → (tree_read bs).reached ≡ schedule_start bs (tree_reader bs 0)
unfolding tree_read
tree_reach bs = rw (threads_read_reach bs (domains_read bs).reached, domains_read_reach bs)
