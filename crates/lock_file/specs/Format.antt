-- WHAT A LOCK FILE IS, independent of reading it: which bytes describe a tree and a schedule.
use Rattle.std.specs.Prelude.{◌≡◌, List, [], ◌∷◌, ◌++◌, ◌⊎◌, ℕ, suc, ◌+◌, ◌*◌, ◌-◌, ◌≤◌, ◌<◌, length, get_or}
use Rattle.model.specs.declared.TreeWords.{TreeWords}
use Rattle.lock_file.specs.Reading.{low_first}

-- a domain's entry for a parent and a threshold: any bit map that has a meaning; a field may be left out only if its value is the default
pub data DomainEntry : (parent threshold : ℕ) → (bytes : List ℕ) → Type 0 where
  no_field : DomainEntry 0 16 (0 ∷ [])
  parent_only : (p : ℕ) → DomainEntry p 16 (1 ∷ p ∷ [])
  threshold_only : (low high : ℕ) → DomainEntry 0 (low_first low high) (2 ∷ low ∷ high ∷ [])
  both_fields : (p low high : ℕ) → DomainEntry p (low_first low high) (3 ∷ p ∷ low ∷ high ∷ [])

-- a thread's entry for a home; the home of the thread before is given
pub data ThreadEntry : (before home : ℕ) → (bytes : List ℕ) → Type 0 where
  home_before : (h : ℕ) → ThreadEntry h h (0 ∷ [])
  home_given : (before h : ℕ) → ThreadEntry before h (1 ∷ h ∷ [])

-- the word of an array at an index, if the array is long enough
abbrev pub Holds : (words : List ℕ) → (at word : ℕ) → Type 0
Holds ws k v = k < length ws → get_or ws k 0 ≡ v

-- the entries of `left` domains, starting at a given one
pub data DomainEntries (parents thresholds : List ℕ) : (domain left : ℕ) → (bytes : List ℕ) → Type 0 where
  no_domain : (d : ℕ) → DomainEntries parents thresholds d 0 []
  next_domain :
      (d k p h : ℕ) (xs ys : List ℕ) → DomainEntry p h xs → Holds parents d p → Holds thresholds d h →
      DomainEntries parents thresholds (d + 1) k ys → DomainEntries parents thresholds d (suc k) (xs ++ ys)

-- the entries of `left` threads, starting at a given one; the home before it is given
pub data ThreadEntries (homes : List ℕ) : (thread left before : ℕ) → (bytes : List ℕ) → Type 0 where
  no_thread : (i before : ℕ) → ThreadEntries homes i 0 before []
  next_thread :
      (i k before h : ℕ) (xs ys : List ℕ) → ThreadEntry before h xs → Holds homes i h → ThreadEntries homes (i + 1) k h ys →
      ThreadEntries homes i (suc k) before (xs ++ ys)

-- two bytes per schedule entry
pub data ScheduleEntries : (schedule bytes : List ℕ) → Type 0 where
  no_entry : ScheduleEntries [] []
  next_entry :
      (low high : ℕ) (is bs : List ℕ) → ScheduleEntries is bs → ScheduleEntries (low_first low high ∷ is) (low ∷ high ∷ bs)

-- all arrays have their full length, and every word that no entry gives is 0: the root's, and the unused slots
pub record FullRoom (w : TreeWords) : Type 0 where
  pub parents_room : length w.parents ≡ 64
  pub thresholds_room : length w.thresholds ≡ 64
  pub homes_room : length w.homes ≡ 256
  pub no_parent : (d : ℕ) → (d ≡ 0) ⊎ (w.domains ≤ d) → get_or w.parents d 0 ≡ 0
  pub no_threshold : (d : ℕ) → (d ≡ 0) ⊎ (w.domains ≤ d) → get_or w.thresholds d 0 ≡ 0
  pub no_home : (i : ℕ) → w.threads ≤ i → get_or w.homes i 0 ≡ 0

-- D in one byte, with 128 more for a ticket root; the domains 1 to D − 1; T in two bytes; the threads 0 to T − 1; the schedule
pub record Describes (bytes : List ℕ) (w : TreeWords) (schedule : List ℕ) : Type 0 where
  pub domain_bytes : List ℕ
  pub low : ℕ
  pub high : ℕ
  pub thread_bytes : List ℕ
  pub schedule_bytes : List ℕ
  pub joined : bytes ≡ (w.domains + 128 * w.ticket_root) ∷ (domain_bytes ++ (low ∷ high ∷ (thread_bytes ++ schedule_bytes)))
  pub domains_counted : w.domains < 128
  pub threads_counted : w.threads ≡ low_first low high
  pub domains_given : DomainEntries w.parents w.thresholds 1 (w.domains - 1) domain_bytes
  pub threads_given : ThreadEntries w.homes 0 w.threads 0 thread_bytes
  pub schedule_given : ScheduleEntries schedule schedule_bytes
  pub room : FullRoom w
