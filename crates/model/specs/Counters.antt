-- Document 02, (vii): the counters that a lock state has in addition to its words, what steps add to them, and which values they may have.
use Rattle.std.specs.Prelude.{Bool, ◌&&◌, ◌||◌, not, cond, List, [], ◌∷◌, ℕ, suc, ◌+◌, max, eqb, ltb, leb, get_or, replicate}
use Rattle.model.specs.declared.State.{State}
use Rattle.model.specs.declared.Counters.{Counters}
use Rattle.model.specs.declared.LockState.{LockState}
use Rattle.model.specs.Scans.{any_below, all_below}
use Rattle.model.specs.Trees.{Tree}
use Rattle.model.specs.States.{fresh_words}
use Rattle.model.specs.Steps.{Step}
use Rattle.model.specs.Runs.{state_after}
use Rattle.model.specs.Tenures.{domain_entries, domain_tenures, longest_tenure}

-- a lock state: the words of the lock and its counters
abbrev pub lock_state : State → Counters → LockState
lock_state s c = record { words = s; counters = c }

-- all counters start at 0
unfoldable pub fresh_counters : Counters
fresh_counters = record { entries = replicate 64 0; tenures = replicate 64 0; longest = replicate 64 0 }

-- the fresh lock with start 0: its words and counters
abbrev pub fresh_lock : LockState
fresh_lock = lock_state fresh_words fresh_counters

-- a function of index and element, applied to each element; the first index is given
unfoldable pub each_with_index : (ℕ → ℕ → ℕ) → (from : ℕ) → List ℕ → List ℕ
each_with_index f k [] = []
each_with_index f k (v ∷ vs) = f k v ∷ each_with_index f (suc k) vs

-- the counters after some steps: entries and tenures are added, and the longest tenure takes in each reported length
unfoldable pub counters_after : Tree → Counters → List Step → Counters
counters_after t c xs =
    record {
      entries = each_with_index (λ d v. v + domain_entries t d xs) 0 c.entries;
      tenures = each_with_index (λ d v. v + domain_tenures t d xs) 0 c.tenures;
      longest = each_with_index (λ d v. max v (longest_tenure t d xs)) 0 c.longest;
    }

-- the lock state after some steps
unfoldable pub lock_after : Tree → LockState → List Step → LockState
lock_after t s xs = lock_state (state_after s.words xs) (counters_after t s.counters xs)

-- the largest value of a counter, 2^63
abbrev pub most_counted : ℕ
most_counted = 9223372036854775808

-- a domain that has counters: every domain of the tree except the root
abbrev pub is_counted : Tree → (domain : ℕ) → Bool
is_counted t d = not (eqb d 0) && ltb d t.domains

-- a counter of a domain is at most 2^63; those of the root and of unused slots are 0
abbrev pub count_fits : Tree → (domain count : ℕ) → Bool
count_fits t d v = cond (is_counted t d) (leb v most_counted) (eqb v 0)

-- the three counters of a domain fit, and its longest tenure is at most its threshold
unfoldable pub good_count : Tree → Counters → (domain : ℕ) → Bool
good_count t c d =
    count_fits t d (get_or c.entries d 0) && (count_fits t d (get_or c.tenures d 0)
    && (count_fits t d (get_or c.longest d 0) && leb (get_or c.longest d 0) (t.threshold d)))

-- the counters of every domain fit
unfoldable pub good_counts : Tree → Counters → Bool
good_counts t c = all_below 64 (good_count t c)

-- some counter of the domain is above 2^63
unfoldable pub count_above : Counters → (domain : ℕ) → Bool
count_above c d = ltb most_counted (get_or c.entries d 0) || (ltb most_counted (get_or c.tenures d 0) || ltb most_counted (get_or c.longest d 0))

-- some counter is above 2^63
unfoldable pub any_above : Counters → Bool
any_above c = any_below 64 (count_above c)
