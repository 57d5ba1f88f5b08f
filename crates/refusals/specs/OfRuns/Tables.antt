-- The tests of a state with a table of the records' owners. proofs/ shows that they agree with the model's.
use Rattle.std.specs.Prelude.{◌≡◌, Bool, true, false, ◌&&◌, ◌||◌, not, cond, List, ℕ, ◌+◌, ◌-◌, ◌<◌, ◌≤◌, eqb, ltb, leb, get_or, length}
use Rattle.model.specs.declared.PlaceArrays.{PlaceArrays}
use Rattle.model.specs.declared.PlaceWords.{PlaceWords}
use Rattle.model.specs.declared.State.{State}
use Rattle.model.specs.declared.TreeWords.{TreeWords}
use Rattle.model.specs.Scans.{all_below}
use Rattle.model.specs.States.{numbers_at}
use Rattle.model.specs.Places.{has_domain, has_peer, has_word}
use Rattle.model.specs.Trees.{Tree, tree_of, meets, is_record, owner_domain}
use Rattle.refusals.specs.Paths.Records.{own_record_in}

-- for each record, the domain whose member owns it; 255 if no member does
pub record Owners (t : Tree) (owners : List ℕ) : Type 0 where
  pub owner : (r : ℕ) → r < 320 → get_or owners r 0 ≡ cond (is_record t r) (owner_domain t r) 255

-- the record belongs to a member of the domain
abbrev pub member_in : (owners : List ℕ) → (domain number : ℕ) → Bool
member_in os d r = ltb r 320 && eqb (get_or os r 0) d

-- a tail of the domain, or a next of one of its members' records, fits
abbrev pub next_in : (owners : List ℕ) → (domain next : ℕ) → Bool
next_in os d n = eqb n 0 || member_in os d (n - 1)

-- the next and the status of a record fit
abbrev pub record_in : (owners : List ℕ) → (number next status : ℕ) → Bool
record_in os r n v = cond (eqb (get_or os r 0) 255) (eqb n 0 && eqb v 0) (next_in os (get_or os r 0) n)

-- the words of a domain fit: its tail, and the next and the status of its record
abbrev pub domain_words_in : (owners : List ℕ) → (domain tail next status : ℕ) → Bool
domain_words_in os d b n v = next_in os d b && record_in os (256 + d) n v

-- the tail of a domain of the tree, and the next of its record, fit
abbrev pub tail_and_next_in : (owners : List ℕ) → (domain tail next : ℕ) → Bool
tail_and_next_in os d b n = next_in os d b && next_in os (get_or os (256 + d) 0) n

-- the word is 0 if the row has none
abbrev pub spare_word_in : (row word : ℕ) → Bool
spare_word_in r w = not (eqb w 0) && not (has_word r)

-- the other record fits the row
abbrev pub peer_in : (owners : List ℕ) → (row domain peer : ℕ) → Bool
peer_in os r l p = cond (has_peer r) (member_in os l p) (eqb p 0)

-- the place may not be at this domain: the root in Check, and a ticket root in every place of a queue
abbrev pub barred_in : Tree → (row domain : ℕ) → Bool
barred_in t r l = eqb l 0 && (eqb r 6 || t.ticket_root)

-- the domain is on the path from a home and allowed, and the other record fits the row
abbrev pub domain_in : Tree → (owners : List ℕ) → (home row domain peer : ℕ) → Bool
domain_in t os h r l p = not (barred_in t r l) && (meets 6 t h l && peer_in os r l p)

-- Draw, Watch and Raise are only at a ticket root, and a watched status is at most 65,535
unfoldable pub ticket_place_in : Tree → (statuses : List ℕ) → (thread home : ℕ) → PlaceWords → Bool
ticket_place_in t vs i h q =
    t.ticket_root && (not (ltb 13 q.row) && (eqb q.word 0 && (eqb q.domain 0 && (eqb q.peer 0
    && (not (eqb q.row 12) || leb (get_or vs (own_record_in t i h 0) 0) 65535)))))

-- the place of a thread fits
unfoldable pub place_in : Tree → (owners statuses : List ℕ) → (thread home : ℕ) → PlaceWords → Bool
place_in t os vs i h q =
    cond (ltb 10 q.row) (ticket_place_in t vs i h q)
    (not (spare_word_in q.row q.word)
    && cond (has_domain q.row) (domain_in t os h q.row q.domain q.peer) (eqb q.domain 0 && eqb q.peer 0))

-- the words of the root fit: no tail at a ticket root, no counters at a queue root
abbrev pub root_in : Tree → (tail ticket grant : ℕ) → Bool
root_in t b v g = cond t.ticket_root (eqb b 0) (eqb v 0 && eqb g 0)

-- the place is Idle
abbrev pub idle_in : PlaceWords → Bool
idle_in q = eqb q.row 0 && (eqb q.domain 0 && (eqb q.peer 0 && eqb q.word 0))

-- the row and the domain of a place are those of Idle, or this row and this domain
abbrev pub row_rests_in : (resting home row domain : ℕ) → Bool
row_rests_in w h r l = (eqb r 0 && eqb l 0) || (eqb r w && eqb l h)

-- the place is this row at this domain, without record and word, or it is Idle
abbrev pub rests_in : (resting home : ℕ) → PlaceWords → Bool
rests_in w h q = eqb q.word 0 && (eqb q.peer 0 && row_rests_in w h q.row q.domain)

-- a mark for each thread below a number: 0 only if the thread rests
pub record RestMarks (threads resting : ℕ) (owners : List ℕ) (places : PlaceArrays) (marks : List ℕ) : Type 0 where
  pub room : length marks ≡ 256
  pub rests : (k : ℕ) → k < threads → get_or marks k 0 ≡ 0 → rests_in resting (get_or owners k 0) (numbers_at places k) ≡ true

-- the row of threads that rest: Wait, or Idle if their home is a ticket root, which is then the only domain
abbrev pub resting_row : Tree → ℕ
resting_row t = cond (t.ticket_root && eqb t.domains 1) 0 4

-- the row of a thread that rests: Wait at its home, which is then no ticket root; or Idle, if its home is the root
pub data Rest (t : Tree) (home : ℕ) : (row : ℕ) → Type 0 where
  of_wait : barred_in t 4 home ≡ false → Rest t home 4
  of_idle : home ≡ 0 → Rest t home 0

-- there are at most 256 threads, every thread's home is a domain of the tree, and a thread that rests there has a good place
pub record HomesThere (w : TreeWords) (owners : List ℕ) : Type 0 where
  pub few : w.threads ≤ 256
  pub home : (i : ℕ) → i < w.threads → get_or owners i 0 < w.domains
  pub rest : (i : ℕ) → i < w.threads → Rest (tree_of w) (get_or owners i 0) (resting_row (tree_of w))

-- the words of a thread fit: the next of its record, and its place
abbrev pub used_in : Tree → (owners statuses : List ℕ) → (thread : ℕ) → PlaceWords → (next : ℕ) → Bool
used_in t os vs i q n = next_in os (get_or os i 0) n && place_in t os vs i (get_or os i 0) q

-- UNUSED SLOTS. All numbers from one index up to another, excluded, are 0
unfoldable pub zeros_between : (from to : ℕ) → List ℕ → Bool
zeros_between a b l = all_below (b - a) (λ k. eqb (get_or l (a + k) 0) 0)

-- the places of unused threads are 0
abbrev pub places_clear : (threads : ℕ) → PlaceArrays → Bool
places_clear m q = zeros_between m 256 q.rows && (zeros_between m 256 q.domains && (zeros_between m 256 q.peers && zeros_between m 256 q.words))

-- the records of unused threads and domains, record 256, and the tails of unused domains are 0
abbrev pub records_clear : (threads domains : ℕ) → (tails nexts statuses : List ℕ) → Bool
records_clear m n ts ns vs =
    zeros_between n 64 ts
    && (zeros_between m 257 ns && (zeros_between (256 + n) 320 ns && (zeros_between m 257 vs && zeros_between (256 + n) 320 vs)))

-- all unused slots are 0
abbrev pub clear_in : (threads domains : ℕ) → State → Bool
clear_in m n s = places_clear m s.places && records_clear m n s.tails s.nexts s.statuses

-- the slot of an unused thread is fresh
abbrev pub unused_in : PlaceWords → (next status : ℕ) → Bool
unused_in q n v = idle_in q && (eqb n 0 && eqb v 0)

-- the slot of a thread fits
unfoldable pub thread_in : Tree → (owners statuses : List ℕ) → (thread : ℕ) → PlaceWords → (next status : ℕ) → Bool
thread_in t os vs i q n v =
    cond (ltb i t.threads) (used_in t os vs i q n) (unused_in q n v)
