-- Document 01, "The lock file", with the kind of root of document 02, (xii): reading it from left to right, with refusals 2 and 3.
use Rattle.std.specs.Prelude.{cond, List, [], ◌∷◌, ◌++◌, ℕ, zero, suc, ◌+◌, ◌*◌, ◌-◌, ◌/◌, ◌%◌, ltb, leb, eqb, length, get_or, set, drop, replicate}
use Rattle.model.specs.declared.TreeWords.{TreeWords}
use Rattle.model.specs.Refusals.{Refusal, refusal, accepted}

-- how far reading came: to a position; to the end of the file, inside a field or before one; or to a bit map with a bit that has no meaning
pub data Reached : Type 0 where
  At : (position : ℕ) → Reached
  Ended : Reached
  BadMap : (position : ℕ) → Reached

-- the words of the domains, as many as the arrays hold
pub record DomainsRead : Type 0 where
  pub reached : Reached
  pub parents : List ℕ
  pub thresholds : List ℕ

-- the homes of the threads, as many as the array holds
pub record ThreadsRead : Type 0 where
  pub reached : Reached
  pub homes : List ℕ

-- a tree, and where its schedule starts
pub record TreeRead : Type 0 where
  pub reached : Reached
  pub tree : TreeWords

-- the number and place of a reading that failed: 2 at the file's length, 3 at the bit map
unfoldable pub reached_refusal : (bytes : List ℕ) → Reached → Refusal
reached_refusal bs (At at) = accepted
reached_refusal bs Ended = refusal 2 (length bs)
reached_refusal bs (BadMap p) = refusal 3 p

-- the byte at a position
abbrev pub byte : (bytes : List ℕ) → (at : ℕ) → ℕ
byte bs at = get_or bs at 0

-- a number from two bytes, low byte first
abbrev pub low_first : (low high : ℕ) → ℕ
low_first l h = l + 256 * h

-- the number in the two bytes at a position
abbrev pub two_bytes : (bytes : List ℕ) → (at : ℕ) → ℕ
two_bytes bs at = low_first (byte bs at) (byte bs (at + 1))

-- D: the first byte, without the 128 of a ticket root
abbrev pub domain_count : (bytes : List ℕ) → ℕ
domain_count bs = byte bs 0 % 128

-- 1 for a ticket root, 0 for a queue root
abbrev pub root_number : (bytes : List ℕ) → ℕ
root_number bs = byte bs 0 / 128

-- bit 0 of a bit map, 0 or 1
abbrev pub bit_0 : (map : ℕ) → ℕ
bit_0 m = m % 2

-- bit 1 of a bit map, 0 or 1
abbrev pub bit_1 : (map : ℕ) → ℕ
bit_1 m = m / 2 % 2

-- the position after a field or an entry of this size, unless the file ends before it
unfoldable pub field_end : (bytes : List ℕ) → (at size : ℕ) → Reached
field_end bs at size = cond (ltb (length bs - at) size) Ended (At (at + size))

-- the position after an entry that starts with a bit map; a map above the largest has a bit without a meaning
unfoldable pub entry_end : (bytes : List ℕ) → (largest at size : ℕ) → Reached
entry_end bs largest at size = cond (leb (length bs) at) Ended (cond (ltb largest (byte bs at)) (BadMap at) (field_end bs at size))

-- the size of a domain's entry: one byte for the bit map, one for the parent if bit 0 is set, two for the threshold if bit 1 is set
unfoldable pub domain_size : (map : ℕ) → ℕ
domain_size m = 1 + bit_0 m + 2 * bit_1 m

-- the position after a domain's entry
unfoldable pub domain_end : (bytes : List ℕ) → (at : ℕ) → Reached
domain_end bs at = entry_end bs 3 at (domain_size (byte bs at))

-- the parent in a domain's entry; 0 without bit 0
unfoldable pub parent_at : (bytes : List ℕ) → (at : ℕ) → ℕ
parent_at bs at = cond (eqb (bit_0 (byte bs at)) 1) (byte bs (at + 1)) 0

-- the threshold in a domain's entry; 16 without bit 1
unfoldable pub threshold_at : (bytes : List ℕ) → (at : ℕ) → ℕ
threshold_at bs at = cond (eqb (bit_1 (byte bs at)) 1) (two_bytes bs (at + 1 + bit_0 (byte bs at))) 16

-- the position reached, and the domains read so far
abbrev pub domains_at : Reached → (parents thresholds : List ℕ) → DomainsRead
domains_at r ps hs = record { reached = r; parents = ps; thresholds = hs }

-- the array with a word stored, if the index is below the array's length
unfoldable pub stored : {A : Type 0} → (room : ℕ) → (words : List A) → (at : ℕ) → (word : A) → List A
stored room ws k v = cond (ltb k room) (set ws k v) ws

-- the entries of `left` domains, starting at a given one; 64 of them are stored
unfoldable pub domains_from : (bytes : List ℕ) → (left domain at : ℕ) → (parents thresholds : List ℕ) → DomainsRead
domains_from bs zero d at ps hs = domains_at (At at) ps hs
domains_from bs (suc k) d at ps hs =
    elim (domain_end bs at) [
      | At next ↦ domains_from bs k (d + 1) next (stored 64 ps d (parent_at bs at)) (stored 64 hs d (threshold_at bs at))
      | Ended ↦ domains_at Ended ps hs
      | BadMap p ↦ domains_at (BadMap p) ps hs
    ]

-- D in one byte, then the domains 1 to D − 1; with D of 0 or 1 there are no domain entries
unfoldable pub domains_read : (bytes : List ℕ) → DomainsRead
domains_read bs =
    cond (eqb (length bs) 0) (domains_at Ended (replicate 64 0) (replicate 64 0))
    (domains_from bs (domain_count bs - 1) 1 1 (replicate 64 0) (replicate 64 0))

-- the position after a thread's entry: a bit map, and the home in one byte if bit 0 is set
unfoldable pub thread_end : (bytes : List ℕ) → (at : ℕ) → Reached
thread_end bs at = entry_end bs 1 at (1 + bit_0 (byte bs at))

-- the home in a thread's entry; without bit 0, that of the thread before
unfoldable pub home_at : (bytes : List ℕ) → (before at : ℕ) → ℕ
home_at bs before at = cond (eqb (bit_0 (byte bs at)) 1) (byte bs (at + 1)) before

-- the position reached, and the homes read so far
abbrev pub threads_at : Reached → (homes : List ℕ) → ThreadsRead
threads_at r hs = record { reached = r; homes = hs }

-- the entries of `left` threads, starting at a given one; 256 of them are stored
unfoldable pub threads_from : (bytes : List ℕ) → (left thread before at : ℕ) → (homes : List ℕ) → ThreadsRead
threads_from bs zero i before at hs = threads_at (At at) hs
threads_from bs (suc k) i before at hs =
    let h = home_at bs before at in
    elim (thread_end bs at) [
      | At next ↦ threads_from bs k (i + 1) h next (stored 256 hs i h)
      | Ended ↦ threads_at Ended hs
      | BadMap p ↦ threads_at (BadMap p) hs
    ]

-- T in two bytes at a position, then the threads 0 to T − 1; the home before the first is 0
unfoldable pub threads_after : (bytes : List ℕ) → (at : ℕ) → Reached → ThreadsRead
threads_after bs at (At next) = threads_from bs (two_bytes bs at) 0 0 next (replicate 256 0)
threads_after bs at Ended = threads_at Ended (replicate 256 0)
threads_after bs at (BadMap p) = threads_at (BadMap p) (replicate 256 0)

-- the threads, read from where the domains end
unfoldable pub threads_read : (bytes : List ℕ) → Reached → ThreadsRead
threads_read bs (At at) = threads_after bs at (field_end bs at 2)
threads_read bs Ended = threads_at Ended (replicate 256 0)
threads_read bs (BadMap p) = threads_at (BadMap p) (replicate 256 0)

-- T, read from where the domains end
unfoldable pub thread_count : (bytes : List ℕ) → Reached → ℕ
thread_count bs (At at) = two_bytes bs at
thread_count bs Ended = 0
thread_count bs (BadMap p) = 0

-- where the schedule starts. The rest of the file is the schedule, two bytes per entry; an odd number of bytes ends inside an entry
unfoldable pub schedule_start : (bytes : List ℕ) → Reached → Reached
schedule_start bs (At at) = cond (eqb ((length bs - at) % 2) 0) (At at) Ended
schedule_start bs Ended = Ended
schedule_start bs (BadMap p) = BadMap p

-- the position reached, and the words of the tree read so far
abbrev pub tree_at : Reached → TreeWords → TreeRead
tree_at r w = record { reached = r; tree = w }

-- the tree that was read, and where the schedule starts
unfoldable pub tree_read : (bytes : List ℕ) → TreeRead
tree_read bs =
    let domains = domains_read bs in
    let threads = threads_read bs domains.reached in
    record {
      reached = schedule_start bs threads.reached;
      tree =
          record {
            domains = domain_count bs;
            threads = thread_count bs domains.reached;
            parents = domains.parents;
            thresholds = domains.thresholds;
            homes = threads.homes;
            ticket_root = root_number bs;
          };
    }

-- `left` schedule entries, starting at a position
unfoldable pub entries_from : (bytes : List ℕ) → (left at : ℕ) → List ℕ
entries_from bs zero at = []
entries_from bs (suc k) at = two_bytes bs at ∷ entries_from bs k (at + 2)

-- all schedule entries from a position on
unfoldable pub entries_at : (bytes : List ℕ) → (at : ℕ) → List ℕ
entries_at bs at = entries_from bs ((length bs - at) / 2) at

-- the result of reading: refused by 2 or 3, or a tree with a schedule
pub data Reading : Type 0 where
  refused : Refusal → Reading
  described : TreeWords → (schedule : List ℕ) → Reading

-- the result, given where the schedule starts and the tree
unfoldable pub reading_of : (bytes : List ℕ) → Reached → TreeWords → Reading
reading_of bs (At at) w = described w (entries_at bs at)
reading_of bs Ended w = refused (reached_refusal bs Ended)
reading_of bs (BadMap p) w = refused (reached_refusal bs (BadMap p))

-- the result of reading a file
unfoldable pub file_read : (bytes : List ℕ) → Reading
file_read bs = reading_of bs (tree_read bs).reached (tree_read bs).tree

-- the buffer with entries at its front and the rest unchanged; a buffer too short for them is unchanged
unfoldable pub filled : (entries buffer : List ℕ) → List ℕ
filled is b = cond (ltb (length b) (length is)) b (is ++ drop (length is) b)
