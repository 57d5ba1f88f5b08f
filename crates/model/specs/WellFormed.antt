-- When a state that a caller passes in is well formed: document 01, and for a ticket lock at the root document 02, (xii).
use Rattle.std.specs.Prelude.{Bool, true, false, ◌&&◌, ◌||◌, not, cond, ℕ, ◌-◌, eqb, ltb, leb}
use Rattle.model.specs.declared.Place.{Place}
use Rattle.model.specs.declared.State.{State}
use Rattle.model.specs.Scans.{all_below}
use Rattle.model.specs.Trees.{Tree, is_ticket, on_path, own_record, is_record, is_member, owner_domain}
use Rattle.model.specs.Places.{words_of, Shape, at_home, at_queue, below_root, with_record, with_word, at_ticket_lock, no_row, shape, is_idle, is_watch}
use Rattle.model.specs.States.{none, tail, next, status, place}

-- a tail is none or the record of a member of its domain; a ticket lock has none
unfoldable pub good_tail : Tree → State → (domain : ℕ) → Bool
good_tail t s d = eqb (tail s d) none || (not (is_ticket t d) && is_member t d (tail s d - 1))

-- a next is none, or the record of a member of the owner's domain; unused slots and record 256 have none
abbrev pub next_fits : Tree → (number next : ℕ) → Bool
next_fits t r v = eqb v none || (is_record t r && is_member t (owner_domain t r) (v - 1))

-- the next of a record fits
unfoldable pub good_next : Tree → State → (number : ℕ) → Bool
good_next t s r = next_fits t r (next s r)

-- the status of a member may be any word; that of an unused slot and of record 256 is 0
abbrev pub status_fits : Tree → (number status : ℕ) → Bool
status_fits t r v = eqb v 0 || is_record t r

-- the status of a record fits
unfoldable pub good_status : Tree → State → (number : ℕ) → Bool
good_status t s r = status_fits t r (status s r)

-- the domain is on the thread's path and has a queue
unfoldable pub queue_on_path : Tree → (thread domain : ℕ) → Bool
queue_on_path t i l = on_path t i l && not (is_ticket t l)

-- a place names a domain on the thread's path. Check is not at the root; Draw, Watch and Raise are at a ticket root, and no other place names a ticket lock. The record in Link or Grant is that of a member of the domain
abbrev pub parts_fit : Tree → (thread : ℕ) → Shape → (domain peer : ℕ) → Bool
parts_fit t i (at_home x) l p = true
parts_fit t i (at_queue f) l p = queue_on_path t i l
parts_fit t i (below_root f) l p = on_path t i l && not (eqb l 0)
parts_fit t i (with_record f) l p = queue_on_path t i l && is_member t l p
parts_fit t i (with_word f) l p = queue_on_path t i l && is_member t l p
parts_fit t i (at_ticket_lock x) l p = t.ticket_root
parts_fit t i no_row l p = false

-- the place of a thread fits
unfoldable pub good_place : Tree → (thread : ℕ) → Place → Bool
good_place t i x = parts_fit t i (shape (words_of x).row) (words_of x).domain (words_of x).peer

-- a watched status is at most 65,535
abbrev pub watch_fits : Tree → State → (thread : ℕ) → Place → Bool
watch_fits t s i p = not (is_watch p) || leb (status s (own_record t i 0)) 65535

-- the status that a thread watches fits
unfoldable pub good_watch : Tree → State → (thread : ℕ) → Bool
good_watch t s i = watch_fits t s i (place s i)

-- a thread's place fits, and so does the status that it watches; unused slots are Idle
abbrev pub thread_fits : Tree → (thread : ℕ) → Place → (watch : Bool) → Bool
thread_fits t i p b = cond (ltb i t.threads) (good_place t i p && b) (is_idle p)

-- the slot of a thread fits
unfoldable pub good_thread : Tree → State → (thread : ℕ) → Bool
good_thread t s i = thread_fits t i (place s i) (good_watch t s i)

-- at a queue root both ticket counters are 0; at a ticket root they may be any number
unfoldable pub good_counters : Tree → State → Bool
good_counters t s = t.ticket_root || (eqb s.ticket 0 && eqb s.grant 0)

-- the state is well formed
unfoldable pub well_formed : Tree → State → Bool
well_formed t s =
    (all_below 64 (good_tail t s) && all_below 320 (good_next t s))
    && (all_below 320 (good_status t s) && (all_below 256 (good_thread t s) && good_counters t s))
