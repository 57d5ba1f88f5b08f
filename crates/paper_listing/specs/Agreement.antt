-- How much of the listing one schedule entry takes, by document 01's step table and, at a ticket root, the rows of document 02, (xii); and that the listing and the table agree.
use Rattle.std.specs.Prelude.{◌≡◌, Bool, not, cond, List, [], ◌∷◌, ◌≢◌, ◌⊎◌, ℕ, zero, suc, ◌+◌, ◌≤◌, ◌<◌, eqb, replicate}
use Rattle.model.specs.declared.Place.{Place}
use Rattle.model.specs.declared.Place.TheVariants.{Idle, Prep, Swap, Link, Wait, Inside, Check, Help, Cas, Linger, Grant, Draw, Watch, Raise, Invalid}
use Rattle.model.specs.declared.State.{State}
use Rattle.model.specs.Trees.{Tree, own_record}
use Rattle.model.specs.Places.{same_row}
use Rattle.model.specs.States.{none, next, status, place, wrap, fresh_state}
use Rattle.model.specs.Steps.{release_word, step}
use Rattle.model.specs.Runs.{run}
use Rattle.model.specs.Refusals.{tree_refusal}
use Rattle.model.specs.Laws.{FreshRun, Formed}
use Rattle.paper_listing.specs.Calls.{Memory, Return, from_acquire, from_release, after_17, after_29, after_31, after_41, after_43, after_82, Frame, frame, TicketPoint, line_90, line_91, line_91_again, line_92, Point, outside, critical, line_7, line_9, line_10, line_11, line_13, line_14, line_16, line_17, line_25, line_27, line_29, line_31, line_35, line_36, line_37, line_41, line_43, line_53, line_54, line_55, line_57, line_58, line_59, line_66, line_67, line_68, line_69, line_71, line_72, line_82, ticket_lock, Control, control, After}
use Rattle.paper_listing.specs.Listing.{top_domain, top_node, top_back, next_line}

-- THE TABLE: the place of a thread that stands at a point, in a call with L that returns where it says. At a point where no thread stands between entries, Invalid
-- the first line of AcquireReal is such a point where line 17 made the call; at home it is none: Idle does Prep(home), or Draw, in one entry
unfoldable pub called_place : Return → Place → Place
called_place from_acquire p = Invalid
called_place from_release p = Invalid
called_place after_17 p = p
called_place after_29 p = Invalid
called_place after_31 p = Invalid
called_place after_41 p = Invalid
called_place after_43 p = Invalid
called_place after_82 p = Invalid

-- in the ticket lock: the first test of line 91 belongs to the entry that takes the ticket
unfoldable pub ticket_place : TicketPoint → Return → Place
ticket_place line_90 b = called_place b Draw
ticket_place line_91 b = Invalid
ticket_place line_91_again b = Watch
ticket_place line_92 b = Raise

unfoldable pub place_at : Point → (L : ℕ) → Return → Place
place_at outside L b = Idle
place_at line_7 L b = called_place b (Prep L)
place_at line_66 L b = called_place b (Prep L)
place_at line_9 L b = Swap L
place_at line_67 L b = Swap L
place_at (line_11 pred) L b = Link L pred
place_at (line_71 pred) L b = Link L pred
place_at line_13 L b = Wait L
place_at line_72 L b = Wait L
place_at critical L b = Inside
place_at line_25 L b = Check L
place_at (line_37 c succ) L b = Grant L succ (c + 1)
place_at (line_53 v) L b = Help L
place_at (line_55 succ v) L b = Grant L succ v
place_at (line_57 v) L b = Cas L
place_at (line_58 v) L b = Linger L
place_at (line_59 succ v) L b = Grant L succ v
place_at (line_10 pred) L b = Invalid
place_at (line_14 s) L b = Invalid
place_at line_16 L b = Invalid
place_at line_17 L b = Invalid
place_at (line_27 c) L b = Invalid
place_at line_29 L b = Invalid
place_at line_31 L b = Invalid
place_at (line_35 c) L b = Invalid
place_at (line_36 c n) L b = Invalid
place_at line_41 L b = Invalid
place_at line_43 L b = Invalid
place_at (line_54 n v) L b = Invalid
place_at (line_68 pred) L b = Invalid
place_at line_69 L b = Invalid
place_at line_82 L b = Invalid
place_at (ticket_lock p) L b = ticket_place p b

unfoldable pub place_of_control : Control → Place
place_of_control c = place_at c.point (top_domain c.frames) (top_back c.frames)

unfoldable pub is_place : Place → Bool
is_place p = not (same_row p Invalid)

-- ONE SCHEDULE ENTRY: one line, and on to the next point at which a thread stands; eight lines more are enough
unfoldable pub settle : (lines : ℕ) → Tree → (i : ℕ) → After → After
settle zero t i x = x
settle (suc n) t i x = let on = settle n t i (next_line t i x) in cond (is_place (place_of_control x.thread)) x on

unfoldable pub entry : Tree → (i : ℕ) → After → After
entry t i x = settle 8 t i (next_line t i x)

-- THE LISTING'S STATE: the memory, and each thread's control
pub record Threads : Type 0 where
  pub memory : Memory
  pub controls : (thread : ℕ) → Control

-- at first: no lock held, every thread outside; a ticket lock's counters are equal, any 16-bit number, and where there is none 0
unfoldable pub at_first : Tree → (start : ℕ) → Threads
at_first t v =
    let first = cond t.ticket_root (wrap v) 0 in
    record {
      memory = record { locks = replicate 64 0; nexts = replicate 320 0; statuses = replicate 320 0; ticket = first; grant = first };
      controls = λ i. control outside [];
    }

unfoldable pub turn : Tree → (i : ℕ) → Threads → Threads
turn t i x =
    let y = entry t i (record { thread = x.controls i; memory = x.memory }) in
    record { memory = y.memory; controls = λ j. cond (eqb j i) y.thread (x.controls j) }

-- threads take turns by a schedule
unfoldable pub turns : Tree → (schedule : List ℕ) → Threads → Threads
turns t [] x = x
turns t (i ∷ is) x = turns t is (turn t i x)

unfoldable pub memory_of : State → Memory
memory_of s = record { locks = s.tails; nexts = s.nexts; statuses = s.statuses; ticket = s.ticket; grant = s.grant }

-- WHERE A THREAD STANDS, by the calls that it has made. AcquireReal of its home, and by line 17 of one parent after another up to L
pub data Acquiring (t : Tree) (i : ℕ) : (L : ℕ) → (calls : List Frame) → Type 0 where
  acquire_home : Acquiring t i (t.home i) (frame (t.home i) i from_acquire ∷ [])
  by_17 : (L : ℕ) (fs : List Frame) → L ≢ 0 → Acquiring t i L fs → Acquiring t i (t.parent L) (frame (t.parent L) (256 + L) after_17 ∷ fs)

-- ReleaseReal of its home, and by line 29 or 41 of one parent after another up to L
pub data Releasing (t : Tree) (i : ℕ) : (L : ℕ) → (calls : List Frame) → Type 0 where
  release_home : Releasing t i (t.home i) (frame (t.home i) i from_release ∷ [])
  by_29 : (L : ℕ) (fs : List Frame) → L ≢ 0 → Releasing t i L fs → Releasing t i (t.parent L) (frame (t.parent L) (256 + L) after_29 ∷ fs)
  by_41 : (L : ℕ) (fs : List Frame) → L ≢ 0 → Releasing t i L fs → Releasing t i (t.parent L) (frame (t.parent L) (256 + L) after_41 ∷ fs)

-- in the last of these, ReleaseHelper by line 31, 43 or 82
pub data Helping (t : Tree) (i : ℕ) : (L : ℕ) → (calls : List Frame) → Type 0 where
  by_31 : (L : ℕ) (fs : List Frame) → Releasing t i L fs → Helping t i L (frame L (top_node fs) after_31 ∷ fs)
  by_43 : (L : ℕ) (fs : List Frame) → Releasing t i L fs → Helping t i L (frame L (top_node fs) after_43 ∷ fs)
  by_82 : (L : ℕ) (fs : List Frame) → Releasing t i L fs → Helping t i L (frame L (top_node fs) after_82 ∷ fs)

-- a control that stands at a place. Prep(home), and Draw at home, is none of those that a schedule reaches; Grant's word is free
pub data StandsAt (t : Tree) (i : ℕ) : Control → Place → Type 0 where
  at_idle : StandsAt t i (control outside []) Idle
  at_prep : (L : ℕ) (fs : List Frame) → Acquiring t i L fs → StandsAt t i (control (cond (eqb L 0) line_66 line_7) fs) (Prep L)
  at_swap : (L : ℕ) (fs : List Frame) → Acquiring t i L fs → StandsAt t i (control (cond (eqb L 0) line_67 line_9) fs) (Swap L)
  at_link : (L p : ℕ) (fs : List Frame) → Acquiring t i L fs → StandsAt t i (control (cond (eqb L 0) (line_71 p) (line_11 p)) fs) (Link L p)
  at_wait : (L : ℕ) (fs : List Frame) → Acquiring t i L fs → StandsAt t i (control (cond (eqb L 0) line_72 line_13) fs) (Wait L)
  at_inside : StandsAt t i (control critical []) Inside
  at_check : (L : ℕ) (fs : List Frame) → L ≢ 0 → Releasing t i L fs → StandsAt t i (control line_25 fs) (Check L)
  at_37 : (L c r : ℕ) (fs : List Frame) → L ≢ 0 → Releasing t i L fs → StandsAt t i (control (line_37 c r) fs) (Grant L r (c + 1))
  at_help : (L : ℕ) (fs : List Frame) → Helping t i L fs → StandsAt t i (control (line_53 (release_word L)) fs) (Help L)
  at_cas : (L : ℕ) (fs : List Frame) → Helping t i L fs → StandsAt t i (control (line_57 (release_word L)) fs) (Cas L)
  at_linger : (L : ℕ) (fs : List Frame) → Helping t i L fs → StandsAt t i (control (line_58 (release_word L)) fs) (Linger L)
  at_55 : (L r w : ℕ) (fs : List Frame) → Helping t i L fs → StandsAt t i (control (line_55 r w) fs) (Grant L r w)
  at_59 : (L r w : ℕ) (fs : List Frame) → Helping t i L fs → StandsAt t i (control (line_59 r w) fs) (Grant L r w)
  at_draw : (fs : List Frame) → Acquiring t i 0 fs → StandsAt t i (control (ticket_lock line_90) fs) Draw
  at_watch : (fs : List Frame) → Acquiring t i 0 fs → StandsAt t i (control (ticket_lock line_91_again) fs) Watch
  at_raise : (fs : List Frame) → Releasing t i 0 fs → StandsAt t i (control (ticket_lock line_92) fs) Raise

-- EVERY WELL-FORMED STATE OF A CALLER. The entry of a thread whose control is c, beside the step of the table
pub record DoesRow (t : Tree) (i : ℕ) (s : State) (c : Control) : Type 0 where
  -- the same memory
  pub memory : (entry t i (record { thread = c; memory = memory_of s })).memory ≡ memory_of (step t i s).state
  -- the thread stands at its place after the step, which is that of its point and calls; no other place changes
  pub stands : StandsAt t i (entry t i (record { thread = c; memory = memory_of s })).thread (place (step t i s).state i)
  pub placed : place_of_control (entry t i (record { thread = c; memory = memory_of s })).thread ≡ place (step t i s).state i
  pub others : (j : ℕ) → j ≢ i → place (step t i s).state j ≡ place s j

-- at a Check the listing's test, by equality, gives what the table's gives: the status is not above the threshold, or there is no next; elsewhere the table goes
unfoldable pub SameTest : Tree → (i : ℕ) → State → Type 0
SameTest t i s =
    (l : ℕ) → place s i ≡ Check l → (status s (own_record t i l) ≤ t.threshold l) ⊎ (next s (own_record t i l) ≡ none)

-- some control stands at the thread's place, and each that does so does the row, exactly if the test is the same
pub record DoesRows (t : Tree) (i : ℕ) (s : State) : Type 0 where
  pub some_control : Control
  pub some_stands : StandsAt t i some_control (place s i)
  pub does : SameTest t i s → (c : Control) → StandsAt t i c (place s i) → DoesRow t i s c
  pub only : (c : Control) → StandsAt t i c (place s i) → DoesRow t i s c → SameTest t i s

unfoldable pub EntryLaw : Type 0
EntryLaw = (t : Tree) → (tree_refusal t).number ≡ 0 → (s : State) → Formed t s → (i : ℕ) → i < t.threads → DoesRows t i s

-- AGREEMENT with a state of the step table: the whole memory, and every thread's place, so also who is in the critical section
pub record Agrees (t : Tree) (x : Threads) (s : State) : Type 0 where
  pub memory : x.memory ≡ memory_of s
  pub places : (i : ℕ) → i < t.threads → place_of_control (x.controls i) ≡ place s i

-- after every schedule from fresh, and so after each of its entries: no Check reached from fresh has a status above the threshold. For both kinds of root: at a queue root Listing 1 as printed, at a ticket root with the ticket lock in place of lines 63 to 89, from every start
unfoldable pub ListingAgrees : Type 0
ListingAgrees =
    (t : Tree) (start : ℕ) (is : List ℕ) → FreshRun t is → Agrees t (turns t is (at_first t start)) (run t is (fresh_state t start)).state
