-- A file that reading accepts: where each part ends.
use mathlib.Core.Path.{◌≡◌, refl}
use mathlib.Core.Bool.{Bool, true, false, cond}
use mathlib.Core.List.{List}
use mathlib.Core.Logic.{◌≢◌}
use Prim.Native.Nat.{ℕ, ◌+◌, ◌-◌, ◌%◌, ◌≤◌}
use native.Mathlib.Omega.{arith}
use lib.Dec.{eqb}
use lib.ListN.{length, replicate}
use borrow.Author.Tests.{eqb-true, eqb-false}
use Rattle.model.specs.declared.TreeWords.{TreeWords}
use Rattle.lock_file.specs.Reading.{Reached, At, Ended, BadMap, ThreadsRead, domain_count, two_bytes, field_end, domains_at, domains_from, domains_read, threads_from, threads_after, threads_read, schedule_start, entries_at, described, reading_of}
use Rattle.lock_file.proofs.Positions.{field_within}

-- an accepted reading
pub record AcceptedAt (bs : List ℕ) (r : Reached) (v w : TreeWords) (is : List ℕ) : Type 0 where
  pub at : ℕ
  pub reached : r ≡ At at
  pub same_tree : v ≡ w
  pub entries : entries_at bs at ≡ is

pub reading_accepted :
    (bs : List ℕ) (r : Reached) (v w : TreeWords) (is : List ℕ) → reading_of bs r v ≡ described w is → AcceptedAt bs r v w is
unfolding reading_of
reading_accepted bs (At at) v w is e = record { at = at; reached = refl; same_tree = cc; entries = cc }
reading_accepted bs Ended v w is e = absurd (let z : ◌≡◌ {A = ℕ} 0 1 = cc in omega arith)
reading_accepted bs (BadMap p) v w is e = absurd (let z : ◌≡◌ {A = ℕ} 0 1 = cc in omega arith)

-- if the schedule starts at a position, the threads end there and the number of bytes left is even
pub schedule_started :
    (bs : List ℕ) (r : Reached) (at : ℕ) → schedule_start bs r ≡ At at → (r ≡ At at) × ((length bs - at) % 2 ≡ 0)
unfolding schedule_start
schedule_started bs (At s) at e = by (eqb ((length bs - s) % 2) 0) refl e
  where
    by : (b : Bool) → eqb ((length bs - s) % 2) 0 ≡ b → cond b (At s) Ended ≡ At at → (At s ≡ At at) × ((length bs - at) % 2 ≡ 0)
    by true p q = let z : s ≡ at = cc in (q, rw z at (eqb-true ((length bs - s) % 2) 0 p))
    by false p q = absurd (let z : ◌≡◌ {A = ℕ} 0 1 = cc in omega arith)
schedule_started bs Ended at e = absurd (let z : ◌≡◌ {A = ℕ} 0 1 = cc in omega arith)
schedule_started bs (BadMap p) at e = absurd (let z : ◌≡◌ {A = ℕ} 0 1 = cc in omega arith)

-- if the threads end at a position, so do the domains, and T is there
pub record ThreadsStarted (bs : List ℕ) (r : Reached) (t : ThreadsRead) : Type 0 where
  pub at : ℕ
  pub domains_ended : r ≡ At at
  pub within : at + 2 ≤ length bs
  pub read : t ≡ threads_from bs (two_bytes bs at) 0 0 (at + 2) (replicate 256 0)

threads_counted :
    (bs : List ℕ) (q : ℕ) (f : Reached) (next : ℕ) → field_end bs q 2 ≡ f → (threads_after bs q f).reached ≡ At next →
    (q + 2 ≤ length bs) × (threads_after bs q f ≡ threads_from bs (two_bytes bs q) 0 0 (q + 2) (replicate 256 0))
unfolding threads_after
threads_counted bs q (At n) next f e =
    let w = field_within bs q 2 n (omega arith) f in
    (omega arith, rw w.0)
threads_counted bs q Ended next f e = absurd (let z : ◌≡◌ {A = ℕ} 0 1 = cc in omega arith)
threads_counted bs q (BadMap p) next f e = absurd (let z : ◌≡◌ {A = ℕ} 0 1 = cc in omega arith)

pub threads_started :
    (bs : List ℕ) (r : Reached) (next : ℕ) → (threads_read bs r).reached ≡ At next → ThreadsStarted bs r (threads_read bs r)
unfolding threads_read
threads_started bs (At q) next e =
    let c = threads_counted bs q (field_end bs q 2) next refl e in
    record { at = q; domains_ended = refl; within = c.0; read = c.1 }
threads_started bs Ended next e = absurd (let z : ◌≡◌ {A = ℕ} 0 1 = cc in omega arith)
threads_started bs (BadMap p) next e = absurd (let z : ◌≡◌ {A = ℕ} 0 1 = cc in omega arith)

-- if the domains end at a position, D is there
pub domains_started :
    (bs : List ℕ) (next : ℕ) → (domains_read bs).reached ≡ At next →
    (length bs ≢ 0) × (domains_read bs ≡ domains_from bs (domain_count bs - 1) 1 1 (replicate 64 0) (replicate 64 0))
unfolding domains_read
domains_started bs next e =
    by (eqb (length bs) 0) refl e
  where
    by :
        (b : Bool) → eqb (length bs) 0 ≡ b →
        (cond b (domains_at Ended (replicate 64 0) (replicate 64 0)) (domains_from bs (domain_count bs - 1) 1 1 (replicate 64 0) (replicate 64 0))).reached
        ≡ At next →
        (length bs ≢ 0)
        × (cond b (domains_at Ended (replicate 64 0) (replicate 64 0)) (domains_from bs (domain_count bs - 1) 1 1 (replicate 64 0) (replicate 64 0))
        ≡ domains_from bs (domain_count bs - 1) 1 1 (replicate 64 0) (replicate 64 0))
    by true p q = absurd (let z : ◌≡◌ {A = ℕ} 0 1 = cc in omega arith)
    by false p q = (eqb-false (length bs) 0 p, refl)
