-- A written file, one entry at a time: the next entry and those after it, or none.
use mathlib.Core.Path.{◌≡◌, refl}
use mathlib.Core.List.{List, [], ◌++◌}
use Prim.Native.Nat.{ℕ, suc, ◌+◌, ◌-◌, ◌≤◌, ◌<◌}
use native.Mathlib.Omega.{arith}
use native.Mathlib.Numerals.{add-one}
use lib.ListN.{length, drop, get_or, drop_of_length-le}
use lib.Seq.{drop-cons}
use Rattle.lock_file.specs.FileWriter.Writing.{low_first_bytes, written_domain, written_domains, written_thread, written_threads, written_schedule}

module _ (parent threshold : ℕ → ℕ) (n d : ℕ) where
  pub domains_next :
      d < n → written_domains parent threshold (n - d) d ≡ written_domain (parent d) (threshold d) ++ written_domains parent threshold (n - (d + 1)) (d + 1)
  unfolding written_domains
  domains_next h = let e : n - d ≡ suc (n - (d + 1)) = omega arith in rw e

  pub domains_over : n ≤ d → written_domains parent threshold (n - d) d ≡ []
  unfolding written_domains
  domains_over h = let e : n - d ≡ 0 = omega arith in rw e

module _ (home : ℕ → ℕ) (n i b : ℕ) where
  pub threads_next :
      i < n → written_threads home (n - i) i b ≡ written_thread b (home i) ++ written_threads home (n - (i + 1)) (i + 1) (home i)
  unfolding written_threads
  threads_next h = let e : n - i ≡ suc (n - (i + 1)) = omega arith in rw e

  pub threads_over : n ≤ i → written_threads home (n - i) i b ≡ []
  unfolding written_threads
  threads_over h = let e : n - i ≡ 0 = omega arith in rw e

pub schedule_next :
    (is : List ℕ) (k : ℕ) → k < length is → written_schedule (drop k is) ≡ low_first_bytes (get_or is k 0) ++ written_schedule (drop (k + 1) is)
unfolding written_schedule
schedule_next is k h = rw (drop-cons is k 0 h, add-one)

pub schedule_over : (is : List ℕ) (k : ℕ) → length is ≤ k → written_schedule (drop k is) ≡ []
unfolding written_schedule
schedule_over is k h = rw (drop_of_length-le is h)

-- an entry as the code reads it, and those after it
pub thread_stored :
    (home : ℕ → ℕ) (n i b h : ℕ) → i < n → home i ≡ h →
    written_threads home (n - i) i b ≡ written_thread b h ++ written_threads home (n - (i + 1)) (i + 1) h
thread_stored home n i b h q e = rw (threads_next home n i b q, e) refl

pub domain_stored :
    (parent threshold : ℕ → ℕ) (n d p h : ℕ) → d < n → parent d ≡ p → threshold d ≡ h →
    written_domains parent threshold (n - d) d ≡ written_domain p h ++ written_domains parent threshold (n - (d + 1)) (d + 1)
domain_stored parent threshold n d p h q e f = rw (domains_next parent threshold n d q, e, f) refl
