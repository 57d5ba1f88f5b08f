-- The position that reading reaches is within the file.
use mathlib.Core.Path.{◌≡◌, refl}
use mathlib.Core.Bool.{cond}
use mathlib.Core.List.{List}
use Prim.Native.Nat.{ℕ, zero, suc, ◌+◌, ◌-◌, ◌%◌, ◌≤◌, ◌<◌}
use native.Mathlib.Omega.{arith}
use lib.Dec.{ltb, leb, eqb}
use lib.ListN.{length, replicate}
use borrow.Author.Tests.{ltb-false, leb-false, eqb-false}
use Rattle.model.proofs.Tests.{by_test}
use Rattle.lock_file.specs.Reading.{Reached, At, Ended, BadMap, domain_count, byte, two_bytes, field_end, entry_end, domain_size, domain_end, parent_at, threshold_at, stored, domains_at, domains_from, domains_read, thread_end, home_at, threads_from, threads_after, threads_read, schedule_start, tree_read}
use Rattle.lock_file.proofs.Positions.{reached_cases, domain_then, domain_ended, domain_bad, thread_then, thread_ended, thread_bad}

-- the position reached, or the place of a bit map without a meaning
unfoldable pub position : Reached → ℕ
position (At at) = at
position Ended = 0
position (BadMap p) = p

field_position : (bs : List ℕ) (at size : ℕ) → 0 < size → position (field_end bs at size) ≤ length bs
unfolding field_end position
field_position bs at size h =
    by_test (λ r. position r ≤ length bs) (ltb (length bs - at) size) Ended (At (at + size)) (λ e. omega arith)
    (λ e. omega (arith, ltb-false (length bs - at) size e))

entry_position : (bs : List ℕ) (largest at size : ℕ) → 0 < size → position (entry_end bs largest at size) ≤ length bs
unfolding entry_end position
entry_position bs largest at size h =
    by_test (λ r. position r ≤ length bs) (leb (length bs) at) Ended (cond (ltb largest (byte bs at)) (BadMap at) (field_end bs at size))
    (λ e. omega arith)
    (λ e.
    by_test (λ r. position r ≤ length bs) (ltb largest (byte bs at)) (BadMap at) (field_end bs at size)
    (λ g. omega (arith, leb-false (length bs) at e)) (λ g. field_position bs at size h))

domain_position : (bs : List ℕ) (at : ℕ) → position (domain_end bs at) ≤ length bs
unfolding domain_end domain_size
domain_position bs at = entry_position bs 3 at (domain_size (byte bs at)) (omega arith)

thread_position : (bs : List ℕ) (at : ℕ) → position (thread_end bs at) ≤ length bs
unfolding thread_end
thread_position bs at = entry_position bs 1 at (1 + byte bs at % 2) (omega arith)

domains_position :
    (bs : List ℕ) (k d at : ℕ) (ps hs : List ℕ) → at ≤ length bs → position (domains_from bs k d at ps hs).reached ≤ length bs
unfolding domains_from position
domains_position bs zero d at ps hs h = h
domains_position bs (suc k) d at ps hs h =
    reached_cases (domain_end bs at)
    (λ next e.
    rw (domain_then bs k d at ps hs next e)
    (domains_position bs k (d + 1) next (stored 64 ps d (parent_at bs at)) (stored 64 hs d (threshold_at bs at))
    (rw e at (domain_position bs at))))
    (λ e. rw (domain_ended bs k d at ps hs e) (omega arith))
    (λ p e. rw (domain_bad bs k d at ps hs p e) (rw e at (domain_position bs at)))

pub domains_end_within :
    (bs : List ℕ) (at : ℕ) (ps hs : List ℕ) → 1 ≤ length bs →
    domains_at (At at) ps hs ≡ domains_from bs (domain_count bs - 1) 1 1 (replicate 64 0) (replicate 64 0) → at ≤ length bs
unfolding position
domains_end_within bs at ps hs h e = rw (← e) at (domains_position bs (domain_count bs - 1) 1 1 (replicate 64 0) (replicate 64 0) h)

pub threads_position :
    (bs : List ℕ) (k i before at : ℕ) (hs : List ℕ) → at ≤ length bs → position (threads_from bs k i before at hs).reached ≤ length bs
unfolding threads_from position
threads_position bs zero i before at hs h = h
threads_position bs (suc k) i before at hs h =
    reached_cases (thread_end bs at)
    (λ next e.
    rw (thread_then bs k i before at hs next e)
    (threads_position bs k (i + 1) (home_at bs before at) next (stored 256 hs i (home_at bs before at)) (rw e at (thread_position bs at))))
    (λ e. rw (thread_ended bs k i before at hs e) (omega arith))
    (λ p e. rw (thread_bad bs k i before at hs p e) (rw e at (thread_position bs at)))

domains_read_position : (bs : List ℕ) → position (domains_read bs).reached ≤ length bs
unfolding domains_read position
domains_read_position bs =
    by_test (λ r. position r.reached ≤ length bs) (eqb (length bs) 0) (domains_at Ended (replicate 64 0) (replicate 64 0))
    (domains_from bs (domain_count bs - 1) 1 1 (replicate 64 0) (replicate 64 0)) (λ e. omega arith)
    (λ e.
    let some : 1 ≤ length bs = positive (length bs) (eqb-false (length bs) 0 e) in
    domains_position bs (domain_count bs - 1) 1 1 (replicate 64 0) (replicate 64 0) some)
  where
    positive : (n : ℕ) → (n ≡ 0 → ⊥) → 1 ≤ n
    positive zero h = absurd (h refl)
    positive (suc n) h = omega arith

threads_after_position :
    (bs : List ℕ) (at : ℕ) (r : Reached) → position r ≤ length bs → position (threads_after bs at r).reached ≤ length bs
unfolding threads_after position
threads_after_position bs at (At next) h = threads_position bs (two_bytes bs at) 0 0 next (replicate 256 0) h
threads_after_position bs at Ended h = omega arith
threads_after_position bs at (BadMap p) h = h

threads_read_position : (bs : List ℕ) (r : Reached) → position r ≤ length bs → position (threads_read bs r).reached ≤ length bs
unfolding threads_read position
threads_read_position bs (At at) h = threads_after_position bs at (field_end bs at 2) (field_position bs at 2 (omega arith))
threads_read_position bs Ended h = omega arith
threads_read_position bs (BadMap p) h = h

schedule_start_position : (bs : List ℕ) (r : Reached) → position r ≤ length bs → position (schedule_start bs r) ≤ length bs
unfolding schedule_start position
schedule_start_position bs (At at) h =
    by_test (λ r. position r ≤ length bs) (eqb ((length bs - at) % 2) 0) (At at) Ended (λ e. h) (λ e. omega arith)
schedule_start_position bs Ended h = omega arith
schedule_start_position bs (BadMap p) h = h

pub tree_position : (bs : List ℕ) → position (tree_read bs).reached ≤ length bs
unfolding tree_read
tree_position bs =
    schedule_start_position bs (threads_read bs (domains_read bs).reached).reached
    (threads_read_position bs (domains_read bs).reached (domains_read_position bs))
