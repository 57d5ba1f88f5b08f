-- No lock file for a tree and a schedule is shorter than the written one.
use mathlib.Core.Path.{◌≡◌, refl, ap, ◌∙◌}
use mathlib.Core.List.{List, [], ◌∷◌, ◌++◌}
use Prim.Native.Nat.{ℕ, ◌+◌, ◌*◌, ◌-◌, ◌%◌, ◌≤◌, ◌<◌}
use native.Mathlib.Omega.{arith}
use lib.Dec.{eqb}
use lib.ListN.{length, length-append, get_or}
use Rattle.model.specs.declared.TreeWords.{TreeWords}
use Rattle.model.specs.Trees.{tree_of}
use Rattle.model.proofs.Tests.{by_test}
use Rattle.model.proofs.Trees.Reading.{read_in}
use Rattle.lock_file.specs.Reading.{low_first}
use Rattle.lock_file.specs.Format.{DomainEntry, no_field, parent_only, threshold_only, both_fields, ThreadEntry, home_before, home_given, DomainEntries, no_domain, next_domain, ThreadEntries, no_thread, next_thread, ScheduleEntries, no_entry, next_entry, Describes}
use Rattle.lock_file.specs.FileWriter.Writing.{low_first_bytes, absent_parent, absent_threshold, written_domain, written_domains, written_thread, written_threads, written_file}
use Rattle.lock_file.proofs.file_writer.Entries.{thread_same}
use Rattle.lock_file.proofs.file_writer.Lengths.{domain_length, thread_length, tree_length, file_length}

-- no entry for the same values is shorter than the written one
domain_least : (p h : ℕ) (xs : List ℕ) → DomainEntry p h xs → length (written_domain p (h % 65536)) ≤ length xs
unfolding written_domain
domain_least p h xs no_field = omega arith
domain_least p h xs (parent_only q) = by_test (λ (ys : List ℕ). length ys ≤ 2) (eqb q absent_parent) (0 ∷ []) (1 ∷ q ∷ []) (λ e. omega arith) (λ e. omega arith)
domain_least p h xs (threshold_only low high) =
    let v = low_first low high % 65536 in
    by_test (λ (ys : List ℕ). length ys ≤ 3) (eqb v absent_threshold) (0 ∷ []) (2 ∷ low_first_bytes v) (λ e. omega arith) (λ e. omega arith)
domain_least p h xs (both_fields q low high) = domain_length q (low_first low high % 65536)

thread_least : (b h : ℕ) (xs : List ℕ) → ThreadEntry b h xs → length (written_thread b h) ≤ length xs
thread_least b h xs (home_before g) = rw (thread_same g g refl) (omega arith)
thread_least b h xs (home_given c g) = thread_length c g

domains_least :
    (ps ts : List ℕ) (parent threshold : ℕ → ℕ) (n d k : ℕ) (bytes : List ℕ) → d + k ≤ n → n ≤ length ps → n ≤ length ts →
    ((e : ℕ) → d ≤ e → e < n → parent e ≡ get_or ps e 0) → ((e : ℕ) → d ≤ e → e < n → threshold e ≡ get_or ts e 0 % 65536) →
    DomainEntries ps ts d k bytes → length (written_domains parent threshold k d) ≤ length bytes
unfolding written_domains
domains_least ps ts parent threshold n d k bytes r a b x y (no_domain c) = omega arith
domains_least ps ts parent threshold n d k bytes r a b x y (next_domain c j p h xs ys entry hp hh more) =
    let first : length (written_domain (parent d) (threshold d)) ≤ length xs =
    rw (x d (omega arith) (omega arith), y d (omega arith) (omega arith), hp (omega arith), hh (omega arith)) (domain_least p h xs entry) in
    let rest =
    domains_least ps ts parent threshold n (d + 1) j ys (omega arith) a b (λ e l m. x e (omega arith) m) (λ e l m. y e (omega arith) m) more in
    omega
    (arith, first, rest, length-append xs ys, length-append (written_domain (parent d) (threshold d)) (written_domains parent threshold j (d + 1)))

threads_least :
    (hs : List ℕ) (home : ℕ → ℕ) (n i k b : ℕ) (bytes : List ℕ) → i + k ≤ n → n ≤ length hs →
    ((j : ℕ) → j < n → home j ≡ get_or hs j 0) → ThreadEntries hs i k b bytes → length (written_threads home k i b) ≤ length bytes
unfolding written_threads
threads_least hs home n i k b bytes r a x (no_thread c d) = omega arith
threads_least hs home n i k b bytes r a x (next_thread c j d h xs ys entry hh more) =
    let e : home i ≡ h = x i (omega arith) ∙ hh (omega arith) in
    let first : length (written_thread b (home i)) ≤ length xs = rw e (thread_least b h xs entry) in
    let rest : length (written_threads home j (i + 1) (home i)) ≤ length ys = rw e (threads_least hs home n (i + 1) j h ys (omega arith) a x more) in
    omega (arith, first, rest, length-append xs ys, length-append (written_thread b (home i)) (written_threads home j (i + 1) (home i)))

schedule_least : (is bytes : List ℕ) → ScheduleEntries is bytes → length bytes ≡ 2 * length is
schedule_least is bytes no_entry = refl
schedule_least is bytes (next_entry low high js bs more) = let rest = schedule_least js bs more in omega arith

module _ (bytes : List ℕ) (w : TreeWords) (is : List ℕ) (few_domains : w.domains ≤ 64) (few_threads : w.threads ≤ 256) (x : Describes bytes w is) where
  pub least : length (written_file (tree_of w) is) ≤ length bytes
  unfolding tree_of
  least =
      let t = tree_of w in
      let n = w.domains in
      let ds =
      domains_least w.parents w.thresholds t.parent t.threshold (1 + (n - 1)) 1 (n - 1) x.domain_bytes (omega arith)
      (omega (arith, x.room.parents_room)) (omega (arith, x.room.thresholds_room))
      (λ e l m. read_in 1 n w.parents e l (omega arith)) (λ e l m. ap (λ v. v % 65536) (read_in 1 n w.thresholds e l (omega arith)))
      x.domains_given in
      let ts =
      threads_least w.homes t.home w.threads 0 w.threads 0 x.thread_bytes (omega arith) (omega (arith, x.room.homes_room))
      (λ i l. read_in 0 w.threads w.homes i (omega arith) l) x.threads_given in
      let ss = schedule_least is x.schedule_bytes x.schedule_given in
      let whole = ap length x.joined in
      omega (
        arith,
        ds,
        ts,
        ss,
        whole,
        file_length t is,
        tree_length t,
        length-append x.domain_bytes (x.low ∷ x.high ∷ (x.thread_bytes ++ x.schedule_bytes)),
        length-append x.thread_bytes x.schedule_bytes,
      )
