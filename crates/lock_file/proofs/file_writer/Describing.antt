-- A written file describes the tree and the schedule.
use mathlib.Core.Path.{◌≡◌, refl, sym, ap, subst, fun_ext, ◌∙◌}
use mathlib.Core.Bool.{Bool, true, false, cond, not, ◌&&◌}
use mathlib.Core.List.{List, [], ◌∷◌, ◌++◌, append_assoc}
use mathlib.Core.Logic.{◌⊎◌, inl, inr}
use Prim.Native.Nat.{ℕ, zero, suc, ◌+◌, ◌*◌, ◌-◌, ◌/◌, ◌%◌, ◌≤◌, ◌<◌}
use native.Mathlib.Omega.{arith}
use lib.Dec.{eqb, leb, ltb}
use lib.ListN.{length, get_or}
use borrow.Author.Tests.{eqb-true, eqb-false, leb-true, leb-false, ltb-true, ltb-false}
use Rattle.model.specs.declared.TreeWords.{TreeWords}
use Rattle.model.specs.Trees.{Tree, read_word, tree_of}
use Rattle.model.proofs.Tests.{and_both}
use Rattle.lock_file.specs.Reading.{low_first}
use Rattle.lock_file.specs.Format.{DomainEntry, no_field, parent_only, threshold_only, both_fields, ThreadEntry, home_before, home_given, Holds, DomainEntries, no_domain, next_domain, ThreadEntries, no_thread, next_thread, ScheduleEntries, no_entry, next_entry, FullRoom, Describes}
use Rattle.lock_file.specs.FileWriter.Writing.{low_first_bytes, absent_parent, absent_threshold, absent_home, written_domain, written_domains, written_thread, written_threads, written_schedule, first_byte, written_tree, written_file}
use Rattle.lock_file.proofs.file_writer.Entries.{domain_none, domain_threshold, domain_parent, domain_both, thread_same, thread_other}

-- the first values of a function, as an array
abbrev listed : (n : ℕ) → (ℕ → ℕ) → (from : ℕ) → List ℕ
listed zero f k = []
listed (suc n) f k = f k ∷ listed n f (suc k)

listed_length : (n : ℕ) (f : ℕ → ℕ) (k : ℕ) → length (listed n f k) ≡ n
listed_length zero f k = refl
listed_length (suc n) f k = ap suc (listed_length n f (suc k))

listed_at : (n : ℕ) (f : ℕ → ℕ) (k j : ℕ) → j < n → get_or (listed n f k) j 0 ≡ f (k + j)
listed_at zero f k j h = absurd (omega arith)
listed_at (suc n) f k zero h = let e : k ≡ k + 0 = omega arith in ap f e
listed_at (suc n) f k (suc j) h = let e : suc k + j ≡ k + suc j = omega arith in listed_at n f (suc k) j (omega arith) ∙ ap f e

-- if a function is 0 at an argument, so is its array there
listed_zero : (n : ℕ) (f : ℕ → ℕ) (k j : ℕ) → f (k + j) ≡ 0 → get_or (listed n f k) j 0 ≡ 0
listed_zero zero f k j z = refl
listed_zero (suc n) f k zero z = let e : k ≡ k + 0 = omega arith in ap f e ∙ z
listed_zero (suc n) f k (suc j) z = let e : suc k + j ≡ k + suc j = omega arith in listed_zero n f (suc k) j (ap f e ∙ z)

-- the words of a tree, 0 where the tree reads none
abbrev pub words_of : Tree → TreeWords
words_of t =
    record {
      domains = t.domains;
      threads = t.threads;
      parents = listed 64 t.parent 0;
      thresholds = listed 64 t.threshold 0;
      homes = listed 256 t.home 0;
      ticket_root = cond t.ticket_root 1 0;
    }

two_bytes_back : (v : ℕ) → low_first (v % 256) (v / 256) ≡ v
two_bytes_back v = omega arith

domain_described : (p h : ℕ) → DomainEntry p h (written_domain p h)
domain_described p h = by (eqb p absent_parent) (eqb h absent_threshold) refl refl
  where
    by : (a b : Bool) → eqb p absent_parent ≡ a → eqb h absent_threshold ≡ b → DomainEntry p h (written_domain p h)
    by true true e f = rw (domain_none p h (eqb-true p absent_parent e) (eqb-true h absent_threshold f), eqb-true p absent_parent e, eqb-true h absent_threshold f) no_field
    by true false e f =
        rw (domain_threshold p h (eqb-true p absent_parent e) (eqb-false h absent_threshold f), eqb-true p absent_parent e)
        (subst (λ v. DomainEntry 0 v (2 ∷ low_first_bytes h)) (two_bytes_back h) (threshold_only (h % 256) (h / 256)))
    by false true e f = rw (domain_parent p h (eqb-false p absent_parent e) (eqb-true h absent_threshold f), eqb-true h absent_threshold f) (parent_only p)
    by false false e f =
        rw (domain_both p h (eqb-false p absent_parent e) (eqb-false h absent_threshold f))
        (subst (λ v. DomainEntry p v (3 ∷ p ∷ low_first_bytes h)) (two_bytes_back h) (both_fields p (h % 256) (h / 256)))

thread_described : (b h : ℕ) → ThreadEntry b h (written_thread b h)
thread_described b h = by (eqb h (absent_home b)) refl
  where
    by : (a : Bool) → eqb h (absent_home b) ≡ a → ThreadEntry b h (written_thread b h)
    by true e = rw (thread_same b h (eqb-true h (absent_home b) e), eqb-true h (absent_home b) e) (home_before b)
    by false e = rw (thread_other b h (eqb-false h (absent_home b) e)) (home_given b h)

domains_described :
    (ps ts : List ℕ) (parent threshold : ℕ → ℕ) → ((d : ℕ) → Holds ps d (parent d)) → ((d : ℕ) → Holds ts d (threshold d)) →
    (k d : ℕ) → DomainEntries ps ts d k (written_domains parent threshold k d)
unfolding written_domains
domains_described ps ts parent threshold x y zero d = no_domain d
domains_described ps ts parent threshold x y (suc k) d =
    next_domain d k (parent d) (threshold d) (written_domain (parent d) (threshold d)) (written_domains parent threshold k (d + 1))
    (domain_described (parent d) (threshold d)) (x d) (y d) (domains_described ps ts parent threshold x y k (d + 1))

threads_described :
    (hs : List ℕ) (home : ℕ → ℕ) → ((i : ℕ) → Holds hs i (home i)) → (k i b : ℕ) → ThreadEntries hs i k b (written_threads home k i b)
unfolding written_threads
threads_described hs home x zero i b = no_thread i b
threads_described hs home x (suc k) i b =
    next_thread i k b (home i) (written_thread b (home i)) (written_threads home k (i + 1) (home i)) (thread_described b (home i)) (x i)
    (threads_described hs home x k (i + 1) (home i))

schedule_described : (is : List ℕ) → ScheduleEntries is (written_schedule is)
unfolding written_schedule
schedule_described [] = no_entry
schedule_described (i ∷ is) =
    subst (λ v. ScheduleEntries (v ∷ is) (i % 256 ∷ i / 256 ∷ written_schedule is)) (two_bytes_back i)
    (next_entry (i % 256) (i / 256) is (written_schedule is) (schedule_described is))

holds_listed : (n : ℕ) (f : ℕ → ℕ) (j : ℕ) → Holds (listed n f 0) j (f j)
holds_listed n f j h = let e : 0 + j ≡ j = omega arith in listed_at n f 0 j (omega (arith, listed_length n f 0)) ∙ ap f e

-- a word that is not read is 0
read_outside : (a b : ℕ) (ws : List ℕ) (k : ℕ) → (k < a) ⊎ (b ≤ k) → read_word a b ws k ≡ 0
unfolding read_word
read_outside a b ws k h = by (leb a k && ltb k b) refl
  where
    by : (c : Bool) → leb a k && ltb k b ≡ c → cond (leb a k && ltb k b) (get_or ws k 0) 0 ≡ 0
    by true e = let both = and_both (leb a k) (ltb k b) e in out h (leb-true _ _ both.0) (ltb-true _ _ both.1)
      where
        out : (k < a) ⊎ (b ≤ k) → a ≤ k → k < b → cond (leb a k && ltb k b) (get_or ws k 0) 0 ≡ 0
        out (inl x) p q = absurd (omega arith)
        out (inr x) p q = absurd (omega arith)
    by false e = rw e

-- reading a function's array gives the function, if it is 0 outside what is read
read_listed : (a b n : ℕ) (f : ℕ → ℕ) (k : ℕ) → b ≤ n → ((k < a) ⊎ (b ≤ k) → f k ≡ 0) → read_word a b (listed n f 0) k ≡ f k
unfolding read_word
read_listed a b n f k h z = by (leb a k) (ltb k b) refl refl
  where
    by : (x y : Bool) → leb a k ≡ x → ltb k b ≡ y → cond (leb a k && ltb k b) (get_or (listed n f 0) k 0) 0 ≡ f k
    by true true e g = rw (e, g) (holds_listed n f k (omega (arith, listed_length n f 0, ltb-true k b g)))
    by true false e g = rw (e, g) (sym (z (inr (ltb-false k b g))))
    by false y e g = rw e (sym (z (inl (leb-false a k e))))

root_back : (b : Bool) → not (eqb (cond b 1 0) 0) ≡ b
root_back true = refl
root_back false = refl

module _ (w : TreeWords) (few_domains : w.domains ≤ 64) (few_threads : w.threads ≤ 256) where
  pub same_tree : tree_of (words_of (tree_of w)) ≡ tree_of w
  unfolding tree_of
  same_tree =
      let n = w.domains in
      let parent = read_word 1 n w.parents in
      let threshold : ℕ → ℕ = λ d. read_word 1 n w.thresholds d % 65536 in
      let home = read_word 0 w.threads w.homes in
      let parents : read_word 1 n (listed 64 parent 0) ≡ parent = fun_ext (λ d. read_listed 1 n 64 parent d few_domains (read_outside 1 n w.parents d)) in
      let thresholds : (λ d. read_word 1 n (listed 64 threshold 0) d % 65536) ≡ threshold =
      fun_ext
      (λ d.
      ap (λ v. v % 65536) (read_listed 1 n 64 threshold d few_domains (λ out. ap (λ v. v % 65536) (read_outside 1 n w.thresholds d out)))
      ∙ omega arith) in
      let homes : read_word 0 w.threads (listed 256 home 0) ≡ home = fun_ext (λ i. read_listed 0 w.threads 256 home i few_threads (read_outside 0 w.threads w.homes i)) in
      rw (parents, thresholds, homes, root_back (not (eqb w.ticket_root 0)))

  room : FullRoom (words_of (tree_of w))
  unfolding tree_of
  room =
      record {
        parents_room = listed_length 64 (tree_of w).parent 0;
        thresholds_room = listed_length 64 (tree_of w).threshold 0;
        homes_room = listed_length 256 (tree_of w).home 0;
        no_parent = λ d out. listed_zero 64 (tree_of w).parent 0 d (read_outside 1 w.domains w.parents (0 + d) (above d out));
        no_threshold = λ d out.
            listed_zero 64 (tree_of w).threshold 0 d (ap (λ v. v % 65536) (read_outside 1 w.domains w.thresholds (0 + d) (above d out)));
        no_home = λ i out. listed_zero 256 (tree_of w).home 0 i (read_outside 0 w.threads w.homes (0 + i) (inr (omega arith)));
      }
    where
      above : (d : ℕ) → (d ≡ 0) ⊎ (w.domains ≤ d) → (0 + d < 1) ⊎ (w.domains ≤ 0 + d)
      above d (inl e) = inl (omega arith)
      above d (inr e) = inr (omega arith)

  first_back : first_byte (tree_of w) ≡ w.domains + 128 * (words_of (tree_of w)).ticket_root
  unfolding first_byte tree_of
  first_back = by (not (eqb w.ticket_root 0))
    where
      by : (b : Bool) → w.domains + cond b 128 0 ≡ w.domains + 128 * cond b 1 0
      by true = omega arith
      by false = omega arith

  pub describes : (is : List ℕ) → Describes (written_file (tree_of w) is) (words_of (tree_of w)) is
  unfolding written_file written_tree tree_of
  describes is =
      let t = tree_of w in
      let ds = written_domains t.parent t.threshold (w.domains - 1) 1 in
      let ts = written_threads t.home w.threads 0 0 in
      record {
        domain_bytes = ds;
        low = w.threads % 256;
        high = w.threads / 256;
        thread_bytes = ts;
        schedule_bytes = written_schedule is;
        joined = rw (← first_back) (ap (λ xs. first_byte t ∷ xs) (append_assoc ds (low_first_bytes w.threads ++ ts) (written_schedule is)));
        domains_counted = omega arith;
        threads_counted = sym (two_bytes_back w.threads);
        domains_given = domains_described _ _ t.parent t.threshold (holds_listed 64 t.parent) (holds_listed 64 t.threshold) (w.domains - 1) 1;
        threads_given = threads_described _ t.home (holds_listed 256 t.home) w.threads 0 0;
        schedule_given = schedule_described is;
        room = room;
      }
