-- The state of a lock: tails, nexts, statuses, places and the two counters of a ticket lock; and the status words.
use Rattle.std.specs.Prelude.{cond, ℕ, zero, suc, ◌+◌, ◌%◌, ◌<◌, eqb, length, get_or, set, replicate, ◌≡◌}
use Rattle.model.specs.declared.PlaceWords.{PlaceWords}
use Rattle.model.specs.declared.Place.{Place}
use Rattle.model.specs.declared.PlaceArrays.{PlaceArrays}
use Rattle.model.specs.declared.State.{State}
use Rattle.model.specs.Trees.{Tree}
use Rattle.model.specs.Places.{place_words, words_of, place_of, is_inside}

-- STATUS WORDS. COHORT_START, 1
abbrev pub cohort_start : ℕ
cohort_start = 1

-- ACQUIRE_PARENT, 2^64 − 2
abbrev pub acquire_parent : ℕ
acquire_parent = 18446744073709551614

-- WAIT, 2^64 − 1
abbrev pub wait_word : ℕ
wait_word = 18446744073709551615

-- UNLOCKED, at the root
abbrev pub unlocked : ℕ
unlocked = 0

-- LOCKED, at the root
abbrev pub locked : ℕ
locked = 1

-- one word for the root, another for other domains
abbrev pub root_word : (domain at_root elsewhere : ℕ) → ℕ
root_word l a b = cond (eqb l 0) a b

-- no record. A tail or a next is 0 for none, and otherwise one more than the record
abbrev pub none : ℕ
none = 0

-- the tail of a domain
abbrev pub tail : State → (domain : ℕ) → ℕ
tail s d = get_or s.tails d 0

-- the next of a record
abbrev pub next : State → (number : ℕ) → ℕ
next s r = get_or s.nexts r 0

-- the status of a record
abbrev pub status : State → (number : ℕ) → ℕ
status s r = get_or s.statuses r 0

-- the four numbers of a thread's place
unfoldable pub numbers_at : PlaceArrays → (thread : ℕ) → PlaceWords
numbers_at q i = place_words (get_or q.rows i 0) (get_or q.domains i 0) (get_or q.peers i 0) (get_or q.words i 0)

-- the arrays with four numbers stored as a thread's place
unfoldable pub store_numbers : PlaceArrays → (thread : ℕ) → PlaceWords → PlaceArrays
store_numbers q i x =
    record {
      rows = set q.rows i x.row;
      domains = set q.domains i x.domain;
      peers = set q.peers i x.peer;
      words = set q.words i x.word;
    }

-- each of the four arrays has 256 elements
pub record PlacesRoom (q : PlaceArrays) : Type 0 where
  pub rows : length q.rows ≡ 256
  pub domains : length q.domains ≡ 256
  pub peers : length q.peers ≡ 256
  pub words : length q.words ≡ 256

-- these lengths, and a thread below 256
abbrev pub HasRoom : PlaceArrays → (thread : ℕ) → Type 0
HasRoom q i = PlacesRoom q × (i < 256)

-- the place of a thread
abbrev pub place : State → (thread : ℕ) → Place
place s i = place_of (numbers_at s.places i)

-- every word is 0, unused slots included: no tails, no nexts, statuses 0, threads Idle, ticket counters 0
unfoldable pub fresh_words : State
fresh_words =
    record {
      tails = replicate 64 0;
      nexts = replicate 320 0;
      statuses = replicate 320 0;
      places = record { rows = replicate 256 0; domains = replicate 256 0; peers = replicate 256 0; words = replicate 256 0 };
      ticket = 0;
      grant = 0;
    }

-- one more than a 16-bit counter of a ticket lock: 0 comes after 65,535
abbrev pub wrap : ℕ → ℕ
wrap v = v % 65536

-- the state with another tail for a domain
abbrev pub with_tail : (domain value : ℕ) → State → State
with_tail d v s = record { tails = set s.tails d v; nexts = s.nexts; statuses = s.statuses; places = s.places; ticket = s.ticket; grant = s.grant }

-- the state with another next for a record
abbrev pub with_next : (number value : ℕ) → State → State
with_next r v s = record { tails = s.tails; nexts = set s.nexts r v; statuses = s.statuses; places = s.places; ticket = s.ticket; grant = s.grant }

-- the state with another status for a record
abbrev pub with_status : (number value : ℕ) → State → State
with_status r v s = record { tails = s.tails; nexts = s.nexts; statuses = set s.statuses r v; places = s.places; ticket = s.ticket; grant = s.grant }

-- the state with another place for a thread
abbrev pub with_place : (thread : ℕ) → Place → State → State
with_place i p s = record { tails = s.tails; nexts = s.nexts; statuses = s.statuses; places = store_numbers s.places i (words_of p); ticket = s.ticket; grant = s.grant }

-- the state with another ticket
abbrev pub with_ticket : (value : ℕ) → State → State
with_ticket v s = record { tails = s.tails; nexts = s.nexts; statuses = s.statuses; places = s.places; ticket = v; grant = s.grant }

-- the state with another grant
abbrev pub with_grant : (value : ℕ) → State → State
with_grant v s = record { tails = s.tails; nexts = s.nexts; statuses = s.statuses; places = s.places; ticket = s.ticket; grant = v }

-- the fresh state: at a ticket root both counters are the start, a number that the fresh call takes; at a queue root they are 0
unfoldable pub fresh_state : Tree → (start : ℕ) → State
fresh_state t v = let first = cond t.ticket_root (wrap v) 0 in with_grant first (with_ticket first fresh_words)

-- how many of the first n threads are Inside
unfoldable pub inside_below : (n : ℕ) → State → ℕ
inside_below zero s = 0
inside_below (suc n) s = inside_below n s + cond (is_inside (place s n)) 1 0

-- how many threads are Inside, unused slots included
unfoldable pub inside_count : State → ℕ
inside_count s = inside_below 256 s
