-- The lengths of the parts of a written file.
use mathlib.Core.Path.{◌≡◌, refl}
use mathlib.Core.Bool.{Bool, true, false, cond}
use mathlib.Core.List.{List, [], ◌∷◌, ◌++◌}
use Prim.Native.Nat.{ℕ, zero, suc, ◌+◌, ◌*◌, ◌-◌, ◌≤◌}
use native.Mathlib.Omega.{arith}
use lib.Dec.{eqb}
use lib.ListN.{length, length-append}
use Rattle.model.specs.Trees.{Tree}
use Rattle.model.proofs.Tests.{by_test}
use Rattle.lock_file.specs.FileWriter.Writing.{low_first_bytes, absent_parent, absent_threshold, absent_home, written_domain, written_domains, written_thread, written_threads, written_schedule, written_tree, written_file}

pub domain_length : (p h : ℕ) → length (written_domain p h) ≤ 4
unfolding written_domain
domain_length p h = by (eqb p absent_parent) (eqb h absent_threshold)
  where
    by : (a b : Bool) → length (cond a (cond b (0 ∷ []) (2 ∷ low_first_bytes h)) (cond b (1 ∷ p ∷ []) (3 ∷ p ∷ low_first_bytes h))) ≤ 4
    by true true = omega arith
    by true false = omega arith
    by false true = omega arith
    by false false = omega arith

pub thread_length : (b h : ℕ) → length (written_thread b h) ≤ 2
unfolding written_thread
thread_length b h = by_test (λ (xs : List ℕ). length xs ≤ 2) (eqb h (absent_home b)) (0 ∷ []) (1 ∷ h ∷ []) (λ e. omega arith) (λ e. omega arith)

pub domains_length : (parent threshold : ℕ → ℕ) (k d : ℕ) → length (written_domains parent threshold k d) ≤ 4 * k
unfolding written_domains
domains_length parent threshold zero d = omega arith
domains_length parent threshold (suc k) d =
    omega (arith, length-append (written_domain (parent d) (threshold d)) (written_domains parent threshold k (d + 1)), domain_length (parent d) (threshold d), domains_length parent threshold k (d + 1))

pub threads_length : (home : ℕ → ℕ) (k i b : ℕ) → length (written_threads home k i b) ≤ 2 * k
unfolding written_threads
threads_length home zero i b = omega arith
threads_length home (suc k) i b =
    omega (arith, length-append (written_thread b (home i)) (written_threads home k (i + 1) (home i)), thread_length b (home i), threads_length home k (i + 1) (home i))

pub schedule_length : (is : List ℕ) → length (written_schedule is) ≡ 2 * length is
unfolding written_schedule
schedule_length [] = refl
schedule_length (i ∷ is) = let rest = schedule_length is in omega arith

-- the length of a tree, from the lengths of its parts
pub tree_length :
    (t : Tree) →
    length (written_tree t)
    ≡ 3 + length (written_domains t.parent t.threshold (t.domains - 1) 1) + length (written_threads t.home t.threads 0 0)
unfolding written_tree
tree_length t =
    let ds = written_domains t.parent t.threshold (t.domains - 1) 1 in
    let ts = written_threads t.home t.threads 0 0 in
    omega (arith, length-append ds (low_first_bytes t.threads ++ ts), length-append (low_first_bytes t.threads) ts)

-- a tree that passes 4 and 5 takes at most 1 byte, 63 entries of 4, 2 bytes and 256 entries of 2
pub tree_short : (t : Tree) → t.domains ≤ 64 → t.threads ≤ 256 → length (written_tree t) ≤ 767
tree_short t h g =
    omega (arith, tree_length t, domains_length t.parent t.threshold (t.domains - 1) 1, threads_length t.home t.threads 0 0)

pub file_length : (t : Tree) (is : List ℕ) → length (written_file t is) ≡ length (written_tree t) + 2 * length is
unfolding written_file
file_length t is = omega (arith, length-append (written_tree t) (written_schedule is), schedule_length is)
