-- What the code returns: a position or a tree, or why reading stops.
use Rattle.std.proofs.Common.{◌≡◌, refl, sym, ◌∙◌, ap, ℕ, ◌-◌, ◌%◌, ◌<◌, ◌≢◌, List, length, replicate, Err}
use borrow.Author.Tests.{eq-eqb, ne_eqb}
use Rattle.model.specs.declared.TreeWords.{TreeWords}
use Rattle.lock_file.specs.declared.ReadError.{ReadError}
use Rattle.lock_file.specs.declared.ReadError.TheVariants.{FileCut, FileBit}
use Rattle.lock_file.specs.Reading.{Reached, At, Ended, DomainsRead, ThreadsRead, domain_count, root_number, two_bytes, field_end, domain_end, parent_at, domains_at, domains_from, domains_read, thread_end, home_at, threads_at, threads_from, threads_after, threads_read, thread_count, schedule_start, tree_at, tree_read}
use Rattle.lock_file.specs.Results.{reached_of}
use Rattle.lock_file.proofs.Positions.{domains_ended, domains_bad, threads_ended, threads_bad}

pub parent_is : (bs : List ℕ) (at : ℕ) → home_at bs 0 at ≡ parent_at bs at
unfolding home_at parent_at
parent_is bs at = refl

-- where reading stops: nothing more is read
abbrev pub stopped : ReadError → Reached
stopped e = reached_of (Err e)

pub domains_stopped :
    (bs : List ℕ) (D d at : ℕ) (ps hs : List ℕ) (e : ReadError) → d < D → stopped e ≡ domain_end bs at →
    domains_at (stopped e) ps hs ≡ domains_from bs (D - d) d at ps hs
domains_stopped bs D d at ps hs FileCut h z = sym (domains_ended bs D d at ps hs h (sym z))
domains_stopped bs D d at ps hs (FileBit p) h z = sym (domains_bad bs D d at ps hs p h (sym z))

pub threads_stopped :
    (bs : List ℕ) (T i before at : ℕ) (hs : List ℕ) (e : ReadError) → i < T → stopped e ≡ thread_end bs at →
    threads_at (stopped e) hs ≡ threads_from bs (T - i) i before at hs
threads_stopped bs T i before at hs FileCut h z = sym (threads_ended bs T i before at hs h (sym z))
threads_stopped bs T i before at hs (FileBit p) h z = sym (threads_bad bs T i before at hs p h (sym z))

no_threads : (bs : List ℕ) (e : ReadError) → threads_read bs (stopped e) ≡ threads_at (stopped e) (replicate 256 0)
unfolding threads_read
no_threads bs FileCut = refl
no_threads bs (FileBit p) = refl

no_count : (bs : List ℕ) (at : ℕ) (e : ReadError) → threads_after bs at (stopped e) ≡ threads_at (stopped e) (replicate 256 0)
unfolding threads_after
no_count bs at FileCut = refl
no_count bs at (FileBit p) = refl

no_schedule : (bs : List ℕ) (e : ReadError) → schedule_start bs (stopped e) ≡ stopped e
unfolding schedule_start
no_schedule bs FileCut = refl
no_schedule bs (FileBit p) = refl

none_counted : (bs : List ℕ) (e : ReadError) → thread_count bs (stopped e) ≡ 0
unfolding thread_count
none_counted bs FileCut = refl
none_counted bs (FileBit p) = refl

-- THE TREE, from its two parts
module _ (bs : List ℕ) where
  abbrev words_with : (threads : ℕ) → (parents thresholds homes : List ℕ) → TreeWords
  words_with t ps hs ms =
      record {
        domains = domain_count bs;
        threads = t;
        parents = ps;
        thresholds = hs;
        homes = ms;
        ticket_root = root_number bs;
      }

  tree_is :
      (ds : DomainsRead) (ts : ThreadsRead) → ds ≡ domains_read bs → ts ≡ threads_read bs ds.reached →
      tree_at (schedule_start bs ts.reached) (words_with (thread_count bs ds.reached) ds.parents ds.thresholds ts.homes) ≡ tree_read bs
  unfolding tree_read
  tree_is ds ts e f = rw (f, e)

  pub tree_empty : length bs ≡ 0 → tree_at Ended (words_with 0 (replicate 64 0) (replicate 64 0) (replicate 256 0)) ≡ tree_read bs
  unfolding domains_read
  tree_empty h =
      let ds = domains_at Ended (replicate 64 0) (replicate 64 0) in
      let ts = threads_at Ended (replicate 256 0) in
      rw (no_schedule bs FileCut, none_counted bs FileCut) at (tree_is ds ts (rw (eq-eqb _ _ h)) (sym (no_threads bs FileCut)))

  module _ (some : length bs ≢ 0) where
    all_domains : domains_from bs (domain_count bs - 1) 1 1 (replicate 64 0) (replicate 64 0) ≡ domains_read bs
    unfolding domains_read
    all_domains = rw (ne_eqb _ _ some)

    pub tree_domains_stopped :
        (e : ReadError) (ps hs : List ℕ) →
        domains_at (stopped e) ps hs ≡ domains_from bs (domain_count bs - 1) 1 1 (replicate 64 0) (replicate 64 0) →
        tree_at (stopped e) (words_with 0 ps hs (replicate 256 0)) ≡ tree_read bs
    tree_domains_stopped e ps hs h =
        let ds = domains_at (stopped e) ps hs in
        let ts = threads_at (stopped e) (replicate 256 0) in
        rw (no_schedule bs e, none_counted bs e) at (tree_is ds ts (h ∙ all_domains) (sym (no_threads bs e)))

    module _
        (at : ℕ) (ps hs : List ℕ)
        (domains : domains_at (At at) ps hs ≡ domains_from bs (domain_count bs - 1) 1 1 (replicate 64 0) (replicate 64 0))
      where
        tree_after_domains :
            (ts : ThreadsRead) → ts ≡ threads_read bs (At at) →
            tree_at (schedule_start bs ts.reached) (words_with (two_bytes bs at) ps hs ts.homes) ≡ tree_read bs
        unfolding thread_count
        tree_after_domains ts f = tree_is (domains_at (At at) ps hs) ts (domains ∙ all_domains) f

        pub tree_count_stopped :
            (e : ReadError) → stopped e ≡ field_end bs at 2 →
            tree_at (stopped e) (words_with (two_bytes bs at) ps hs (replicate 256 0)) ≡ tree_read bs
        unfolding threads_read
        tree_count_stopped e h =
            let ts = threads_at (stopped e) (replicate 256 0) in
            rw (no_schedule bs e) at (tree_after_domains ts (sym (no_count bs at e) ∙ ap (threads_after bs at) h))

        module _ (next : ℕ) (counted : At next ≡ field_end bs at 2) where
          all_threads : threads_from bs (two_bytes bs at) 0 0 next (replicate 256 0) ≡ threads_read bs (At at)
          unfolding threads_read threads_after
          all_threads = rw (← counted)

          pub tree_threads_stopped :
              (e : ReadError) (ms : List ℕ) → threads_at (stopped e) ms ≡ threads_from bs (two_bytes bs at) 0 0 next (replicate 256 0) →
              tree_at (stopped e) (words_with (two_bytes bs at) ps hs ms) ≡ tree_read bs
          tree_threads_stopped e ms h = rw (no_schedule bs e) at (tree_after_domains (threads_at (stopped e) ms) (h ∙ all_threads))

          module _
              (start : ℕ) (ms : List ℕ)
              (threads : threads_at (At start) ms ≡ threads_from bs (two_bytes bs at) 0 0 next (replicate 256 0))
            where
              pub tree_odd :
                  (length bs - start) % 2 ≢ 0 → tree_at Ended (words_with (two_bytes bs at) ps hs ms) ≡ tree_read bs
              unfolding schedule_start
              tree_odd h = rw (ne_eqb _ _ h) at (tree_after_domains (threads_at (At start) ms) (threads ∙ all_threads))

              pub tree_whole :
                  (length bs - start) % 2 ≡ 0 → tree_at (At start) (words_with (two_bytes bs at) ps hs ms) ≡ tree_read bs
              unfolding schedule_start
              tree_whole h = rw (eq-eqb _ _ h) at (tree_after_domains (threads_at (At start) ms) (threads ∙ all_threads))
