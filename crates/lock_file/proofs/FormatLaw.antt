-- THE FORMAT: reading accepts a file exactly if the file describes a tree and a schedule.
use mathlib.Core.Path.{◌≡◌, refl, sym, ◌∙◌, ap}
use mathlib.Core.List.{List, ◌∷◌, ◌++◌}
use mathlib.Core.Logic.{◌≢◌, ◌⊎◌, inl, inr}
use Prim.Native.Nat.{ℕ, ◌+◌, ◌-◌, ◌%◌, ◌≤◌, ◌<◌, ◌*◌}
use native.Mathlib.Omega.{arith}
use native.Mathlib.Decide.{ℕ_discrete}
use lib.ListN.{length, drop, replicate}
use borrow.Author.Tests.{eq-eqb, ne_eqb}
use Rattle.model.specs.declared.TreeWords.{TreeWords}
use Rattle.model.proofs.Laws.Counters.{zeros}
use Rattle.lock_file.specs.Reading.{At, DomainsRead, ThreadsRead, domain_count, root_number, byte, two_bytes, field_end, domains_from, domains_read, threads_from, threads_after, threads_read, thread_count, schedule_start, tree_read, entries_at, described, reading_of, file_read}
use Rattle.lock_file.specs.Format.{FullRoom, Describes}
use Rattle.lock_file.specs.ReadingLaws.{FormatLaw}
use Rattle.lock_file.proofs.Bytes.{next_byte, starts, field_reached}
use Rattle.lock_file.proofs.Stored.{same_words}
use Rattle.lock_file.proofs.DomainEntries.{domains_room, domains_kept, domains_bytes, DomainsStored, domains_stored}
use Rattle.lock_file.proofs.ThreadEntries.{threads_room, threads_kept, threads_within, threads_bytes, ThreadsStored, threads_stored}
use Rattle.lock_file.proofs.ScheduleEntries.{schedule_bytes, schedule_stored}
use Rattle.lock_file.proofs.Accepted.{reading_accepted, schedule_started, threads_started, domains_started}

abbrev domains_of : (bytes : List ℕ) → DomainsRead
domains_of bs = domains_from bs (domain_count bs - 1) 1 1 (replicate 64 0) (replicate 64 0)

abbrev threads_of : (bytes : List ℕ) → (at : ℕ) → ThreadsRead
threads_of bs q = threads_from bs (two_bytes bs q) 0 0 (q + 2) (replicate 256 0)

abbrev tree_words : (bytes : List ℕ) → (at : ℕ) → TreeWords
tree_words bs q =
    record {
      domains = domain_count bs;
      threads = two_bytes bs q;
      parents = (domains_of bs).parents;
      thresholds = (domains_of bs).thresholds;
      homes = (threads_of bs q).homes;
      ticket_root = root_number bs;
    }

-- a domain without an entry: the root, or an unused slot
no_entry : (D d : ℕ) → (d ≡ 0) ⊎ (D ≤ d) → (d < 1) ⊎ (1 + (D - 1) ≤ d)
no_entry D d (inl e) = inl (omega arith)
no_entry D d (inr h) = elim (ℕ_discrete d 0) [ yes z ↦ inl (omega arith) | no z ↦ inr (omega arith) ]

read_room : (bs : List ℕ) (q : ℕ) → FullRoom (tree_words bs q)
read_room bs q =
    let room = domains_room bs (domain_count bs - 1) 1 1 (replicate 64 0) (replicate 64 0) in
    let kept = domains_kept bs (domain_count bs - 1) 1 1 (replicate 64 0) (replicate 64 0) in
    record {
      parents_room = room.0;
      thresholds_room = room.1;
      homes_room = threads_room bs (two_bytes bs q) 0 0 (q + 2) (replicate 256 0);
      no_parent = λ d o. (kept d (no_entry (domain_count bs) d o)).0 ∙ zeros 64 d;
      no_threshold = λ d o. (kept d (no_entry (domain_count bs) d o)).1 ∙ zeros 64 d;
      no_home = λ i h. threads_kept bs (two_bytes bs q) 0 0 (q + 2) (replicate 256 0) i (inr (omega arith)) ∙ zeros 256 i;
    }

-- what is read describes the file
read_describes :
    (bs : List ℕ) (q s : ℕ) → length bs ≢ 0 → (domains_of bs).reached ≡ At q → q + 2 ≤ length bs → (threads_of bs q).reached ≡ At s →
    (length bs - s) % 2 ≡ 0 → Describes bs (tree_words bs q) (entries_at bs s)
read_describes bs q s h d w t e =
    let domains = domains_bytes bs (domain_count bs - 1) 1 1 q (replicate 64 0) (replicate 64 0) refl refl d in
    let threads = threads_bytes bs (two_bytes bs q) 0 0 (q + 2) s (replicate 256 0) refl t in
    let within = threads_within bs (two_bytes bs q) 0 0 (q + 2) s (replicate 256 0) w t in
    let z : q + 1 + 1 ≡ q + 2 = omega arith in
    record {
      domain_bytes = domains.bytes;
      low = byte bs q;
      high = byte bs (q + 1);
      thread_bytes = threads.bytes;
      schedule_bytes = drop s bs;
      joined =
          next_byte bs 0 (omega arith)
          ∙ ap (λ b. b ∷ drop 1 bs) (let z : byte bs 0 ≡ domain_count bs + 128 * root_number bs = omega arith in z)
          ∙ ap (λ l. (domain_count bs + 128 * root_number bs) ∷ l)
          (domains.split
          ∙ ap (λ l. domains.bytes ++ l)
          (next_byte bs q (omega arith)
          ∙ ap (λ l. byte bs q ∷ l) (next_byte bs (q + 1) (omega arith) ∙ ap (λ l. byte bs (q + 1) ∷ l) (rw z threads.split))));
      domains_counted = omega arith;
      threads_counted = refl;
      domains_given = domains.entries;
      threads_given = threads.entries;
      schedule_given = schedule_bytes bs s within e;
      room = read_room bs q;
    }

-- the tree that is read, if the domains end at a position and T is there
tree_read_is :
    (bs : List ℕ) (q : ℕ) → domains_read bs ≡ domains_of bs → (domains_of bs).reached ≡ At q → threads_read bs (At q) ≡ threads_of bs q →
    tree_read bs ≡ record { reached = schedule_start bs (threads_of bs q).reached; tree = tree_words bs q }
unfolding tree_read thread_count
tree_read_is bs q d r t = rw (d, r, t)

accepted_parts :
    (bs : List ℕ) (w : TreeWords) (is : List ℕ) (q s : ℕ) → domains_read bs ≡ domains_of bs → (domains_read bs).reached ≡ At q →
    threads_read bs (domains_read bs).reached ≡ threads_of bs q → length bs ≢ 0 → q + 2 ≤ length bs →
    (threads_read bs (domains_read bs).reached).reached ≡ At s → (length bs - s) % 2 ≡ 0 → (tree_read bs).tree ≡ w → entries_at bs s ≡ is →
    Describes bs w is
accepted_parts bs w is q s d r t some within threads even same entries =
    let reached : (domains_of bs).reached ≡ At q = rw d at r in
    let read : threads_read bs (At q) ≡ threads_of bs q = rw r at t in
    let tree : tree_words bs q ≡ w = sym (ap (λ x. x.tree) (tree_read_is bs q d reached read)) ∙ same in
    rw (← tree, ← entries) (read_describes bs q s some reached within (rw t at threads) even)

accepted_describes : (bs : List ℕ) (w : TreeWords) (is : List ℕ) → file_read bs ≡ described w is → Describes bs w is
unfolding file_read tree_read
accepted_describes bs w is e =
    let a = reading_accepted bs (tree_read bs).reached (tree_read bs).tree w is e in
    let s = schedule_started bs (threads_read bs (domains_read bs).reached).reached a.at a.reached in
    let t = threads_started bs (domains_read bs).reached a.at s.0 in
    let d = domains_started bs t.at t.domains_ended in
    accepted_parts bs w is t.at a.at d.1 t.domains_ended t.read d.0 t.within s.0 s.1 a.same_tree a.entries

-- the words that are read are the ones described
domains_same :
    (bs : List ℕ) (w : TreeWords) (xs rest : List ℕ) → domain_count bs ≡ w.domains → FullRoom w →
    DomainsStored bs 1 (domain_count bs - 1) 1 (domains_of bs) w.parents w.thresholds xs rest →
    ((domains_of bs).parents ≡ w.parents) × ((domains_of bs).thresholds ≡ w.thresholds)
domains_same bs w xs rest e room r =
    let own = read_room bs 0 in (
      same_words 64 1 w.domains (domains_of bs).parents w.parents own.parents_room room.parents_room
          (λ j l m n. r.parents_given j l (omega arith) n) (λ j o. own.no_parent j (unread j o)) (λ j o. room.no_parent j (without j o)),
      same_words 64 1 w.domains (domains_of bs).thresholds w.thresholds own.thresholds_room room.thresholds_room
          (λ j l m n. r.thresholds_given j l (omega arith) n) (λ j o. own.no_threshold j (unread j o)) (λ j o. room.no_threshold j (without j o)),
    )
  where
    without : (j : ℕ) → (j < 1) ⊎ (w.domains ≤ j) → (j ≡ 0) ⊎ (w.domains ≤ j)
    without j (inl h) = inl (omega arith)
    without j (inr h) = inr h

    unread : (j : ℕ) → (j < 1) ⊎ (w.domains ≤ j) → (j ≡ 0) ⊎ (domain_count bs ≤ j)
    unread j (inl h) = inl (omega arith)
    unread j (inr h) = inr (omega arith)

threads_same :
    (bs : List ℕ) (q : ℕ) (w : TreeWords) (xs rest : List ℕ) → two_bytes bs q ≡ w.threads → FullRoom w →
    ThreadsStored bs 0 (two_bytes bs q) (q + 2) (threads_of bs q) w.homes xs rest → (threads_of bs q).homes ≡ w.homes
threads_same bs q w xs rest e room r =
    let own = read_room bs q in
    same_words 256 0 w.threads (threads_of bs q).homes w.homes own.homes_room room.homes_room
    (λ j l m n. r.homes_given j l (omega arith) n) (λ j o. own.no_home j (unread j o)) (λ j o. room.no_home j (without j o))
  where
    without : (j : ℕ) → (j < 0) ⊎ (w.threads ≤ j) → w.threads ≤ j
    without j (inl h) = absurd (omega arith)
    without j (inr h) = h

    unread : (j : ℕ) → (j < 0) ⊎ (w.threads ≤ j) → two_bytes bs q ≤ j
    unread j (inl h) = absurd (omega arith)
    unread j (inr h) = omega arith

-- how far reading comes in a file that describes a tree and a schedule
record ReadThrough (bs : List ℕ) (w : TreeWords) (is : List ℕ) : Type 0 where
  at : ℕ
  start : ℕ
  some : length bs ≢ 0
  domains_counted : domain_count bs ≡ w.domains
  root_counted : root_number bs ≡ w.ticket_root
  domains_reached : (domains_of bs).reached ≡ At at
  counted : field_end bs at 2 ≡ At (at + 2)
  threads_counted : two_bytes bs at ≡ w.threads
  threads_reached : (threads_of bs at).reached ≡ At start
  even : (length bs - start) % 2 ≡ 0
  entries : entries_at bs start ≡ is
  parents_same : (domains_of bs).parents ≡ w.parents
  thresholds_same : (domains_of bs).thresholds ≡ w.thresholds
  homes_same : (threads_of bs at).homes ≡ w.homes

read_through : (bs : List ℕ) (w : TreeWords) (is : List ℕ) → Describes bs w is → ReadThrough bs w is
read_through bs w is x =
    let a = starts bs 0 (w.domains + 128 * w.ticket_root) _ x.joined in
    let few = x.domains_counted in
    let count : domain_count bs ≡ w.domains = omega (arith, a.first) in
    let root : root_number bs ≡ w.ticket_root = omega (arith, a.first) in
    let domains =
    rw (← count) at
    (domains_stored bs w.parents w.thresholds (w.domains - 1) 1 1 (replicate 64 0) (replicate 64 0) x.domain_bytes _ refl refl
    x.room.parents_room x.room.thresholds_room x.domains_given a.after)
    in
    let q = 1 + length x.domain_bytes in
    let b = starts bs q x.low _ domains.after in
    let c = starts bs (q + 1) x.high _ b.after in
    let z : q + 1 + 1 ≡ q + 2 = omega arith in
    let counted : two_bytes bs q ≡ w.threads = rw (b.first, c.first) (sym x.threads_counted) in
    let threads =
    rw (← counted) at
    (threads_stored bs w.homes w.threads 0 0 (q + 2) (replicate 256 0) x.thread_bytes _ refl x.room.homes_room x.threads_given
    (rw z at c.after))
    in
    let schedule = schedule_stored bs (q + 2 + length x.thread_bytes) is x.schedule_bytes x.schedule_given threads.after in
    let same = domains_same bs w x.domain_bytes _ count x.room domains in
    record {
      at = q;
      start = q + 2 + length x.thread_bytes;
      some = λ none. omega arith;
      domains_counted = count;
      root_counted = root;
      domains_reached = domains.reached;
      counted = field_reached bs q 2 (omega arith);
      threads_counted = counted;
      threads_reached = threads.reached;
      even = schedule.even;
      entries = schedule.read;
      parents_same = same.0;
      thresholds_same = same.1;
      homes_same = threads_same bs q w x.thread_bytes _ counted x.room threads;
    }

describes_accepted : (bs : List ℕ) (w : TreeWords) (is : List ℕ) → Describes bs w is → file_read bs ≡ described w is
unfolding file_read domains_read threads_read threads_after schedule_start reading_of
describes_accepted bs w is x =
    let r = read_through bs w is x in
    let domains : domains_read bs ≡ domains_of bs = rw (ne_eqb (length bs) 0 r.some) in
    let threads : threads_read bs (At r.at) ≡ threads_of bs r.at = rw r.counted in
    let tree = tree_read_is bs r.at domains r.domains_reached threads in
    rw (
      tree,
      r.threads_reached,
      eq-eqb _ _ r.even,
      r.entries,
      r.parents_same,
      r.thresholds_same,
      r.homes_same,
      r.domains_counted,
      r.root_counted,
      r.threads_counted,
    )

pub format_law : FormatLaw
unfolding FormatLaw
format_law bs w is = (accepted_describes bs w is, describes_accepted bs w is)
