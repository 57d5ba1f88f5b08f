-- What a row counts, given the words that it reads.
use Rattle.std.specs.Prelude.{◌≡◌, ℕ, ◌+◌, ◌-◌, ◌<◌, ◌≤◌, max, Bool, true, false, cond, not, ◌&&◌, ◌≢◌, List, length, ◌==◌, nat_lt, slice_index, slice_index_or, slice_set}
use Rattle.model.specs.declared.Counters.{Counters}
use Rattle.model.specs.declared.PlaceWords.{PlaceWords}
use Rattle.model.specs.Counters.{each_with_index}
use Rattle.model.specs.Trees.{read_word, child_from}
use Rattle.refusals.specs.Arrays.{parents_in}
use Rattle.rows.specs.Common.Standing.{is_entry_number}

-- the parent of a domain, read from the array of parents
abbrev pub parent_in : (domains : ℕ) → (parents : List ℕ) → ℕ → ℕ
parent_in m ps = read_word 1 m ps

-- one more than any counter fits in 64 bits
pub record RoomAbove (counters : List ℕ) : Type 0 where
  pub room : (d : ℕ) → d < 64 → slice_index counters d < 18446744073709551615

-- the child domain whose record a thread with this home uses at a domain; 0 if it uses its own record
abbrev pub taken_in : (domains : ℕ) → (parents : List ℕ) → (home domain : ℕ) → ℕ
taken_in m ps h l = cond (l == h) 0 (child_from 6 (parents_in m ps) l h)

-- the domain that owns a record; 0 for a thread's record
abbrev pub record_domain_in : (number : ℕ) → ℕ
record_domain_in r = cond (nat_lt r 256) 0 (r - 256)

-- one more at a domain; no change for the root
abbrev pub added_at : List ℕ → (domain : ℕ) → List ℕ
added_at vs d = cond (d == 0) vs (slice_set vs d (slice_index vs d + 1))

-- at least this value at a domain; no change for the root
abbrev pub raised_at : List ℕ → (domain value : ℕ) → List ℕ
raised_at vs d v = cond (d == 0) vs (slice_set vs d (max (slice_index vs d) v))

-- one more at each domain from a given one up to the root, excluded
pub data Climbed (parent : ℕ → ℕ) : (from : ℕ) → (before after : List ℕ) → Type 0 where
  at_root : (vs : List ℕ) → Climbed parent 0 vs vs
  one_up : (c : ℕ) (vs ws : List ℕ) → c ≢ 0 → Climbed parent (parent c) (slice_set vs c (slice_index vs c + 1)) ws → Climbed parent c vs ws

-- one more tenure of a domain, of length 1; none for domain 0
pub record Started (domain : ℕ) (old new : Counters) : Type 0 where
  pub added : new.tenures ≡ added_at old.tenures domain
  pub raised : new.longest ≡ raised_at old.longest domain 1

-- an entry counts in the domains from the home up; any other step counts nothing
pub record Entered (parent : ℕ → ℕ) (kind home : ℕ) (before after : List ℕ) : Type 0 where
  pub entry : is_entry_number kind ≡ true → Climbed parent home before after
  pub other : is_entry_number kind ≡ false → after ≡ before

-- the place is Watch
abbrev pub is_watch_in : PlaceWords → Bool
is_watch_in q = q.row == 12 && (q.domain == 0 && (q.peer == 0 && q.word == 0))

-- the marks with the domain for whose record a thread watches, if the record has this ticket
abbrev pub marked_in : (domains : ℕ) → (parents : List ℕ) → (home : ℕ) → (statuses : List ℕ) → PlaceWords → (ticket : ℕ) → List Bool → List Bool
marked_in m ps h vs q v bs = cond (is_watch_in q && slice_index vs (256 + taken_in m ps h 0) == v) (slice_set bs (taken_in m ps h 0) true) bs

-- a domain other than the root and below a number is marked
abbrev pub is_shown : (shown : List Bool) → (below domain : ℕ) → Bool
is_shown bs n d = not (d == 0) && (nat_lt d n && slice_index_or bs d false)

-- one more tenure for each such domain, with its longest tenure at least 1; nothing else changes
pub record CountedShown (shown : List Bool) (below : ℕ) (old new : Counters) : Type 0 where
  pub added : new.tenures ≡ each_with_index (λ d v. v + cond (is_shown shown below d) 1 0) 0 old.tenures
  pub raised : new.longest ≡ each_with_index (λ d v. max v (cond (is_shown shown below d) 1 0)) 0 old.longest

-- no domain is marked
pub record Clear (shown : List Bool) : Type 0 where
  pub room : length shown ≡ 64
  pub none : (d : ℕ) → d < 64 → slice_index_or shown d false ≡ false

-- the answer is false only if no domain's record has this ticket
pub record Holding (statuses : List ℕ) (domains ticket : ℕ) (answer : Bool) : Type 0 where
  pub none_holds : answer ≡ false → (d : ℕ) → d < domains → slice_index statuses (256 + d) ≢ ticket

-- how many threads a step looks at to see a shown ticket: a raise looks at all, or at none if no domain's record has the ticket; any other step at none
pub record Looked (row : ℕ) (statuses : List ℕ) (domains ticket threads looked : ℕ) : Type 0 where
  pub other : row ≢ 13 → looked ≡ 0
  pub all : row ≡ 13 → looked ≢ 0 → looked ≡ threads
  pub nobody : row ≡ 13 → looked ≢ threads → (d : ℕ) → d < domains → slice_index statuses (256 + d) ≢ ticket

-- the marks after looking at some threads: none if no thread was looked at, and none beyond the tree's domains
pub record ShownFor (looked domains : ℕ) (shown : List Bool) : Type 0 where
  pub room : length shown ≡ 64
  pub nobody : looked ≡ 0 → (d : ℕ) → d < 64 → slice_index_or shown d false ≡ false
  pub beyond : (d : ℕ) → domains ≤ d → d < 64 → slice_index_or shown d false ≡ false
