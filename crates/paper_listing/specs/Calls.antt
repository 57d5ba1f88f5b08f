-- What Listing 1 (source document 000) and the ticket lock at a root (source document 001) share: memory, calls and returns, program points.
use Rattle.std.specs.Prelude.{cond, List, [], ◌∷◌, ℕ, eqb, get_or, set}
use Rattle.model.specs.Trees.{Tree, is_ticket}

-- SHARED MEMORY: L->lock by domain; I->next and I->status by record; ticket and grant of a ticket lock at the root. A pointer to a QNode is 0 for NULL, else one more than the record
pub record Memory : Type 0 where
  pub locks : List ℕ
  pub nexts : List ℕ
  pub statuses : List ℕ
  pub ticket : ℕ
  pub grant : ℕ

-- L->lock of a domain
abbrev pub lock_at : Memory → (domain : ℕ) → ℕ
lock_at m d = get_or m.locks d 0

-- I->next of a record
abbrev pub next_at : Memory → (node : ℕ) → ℕ
next_at m r = get_or m.nexts r 0

-- I->status of a record
abbrev pub status_at : Memory → (node : ℕ) → ℕ
status_at m r = get_or m.statuses r 0

-- a store to L->lock
abbrev pub store_lock : (domain value : ℕ) → Memory → Memory
store_lock d v m = record { locks = set m.locks d v; nexts = m.nexts; statuses = m.statuses; ticket = m.ticket; grant = m.grant }

-- a store to I->next
abbrev pub store_next : (node value : ℕ) → Memory → Memory
store_next r v m = record { locks = m.locks; nexts = set m.nexts r v; statuses = m.statuses; ticket = m.ticket; grant = m.grant }

-- a store to I->status
abbrev pub store_status : (node value : ℕ) → Memory → Memory
store_status r v m = record { locks = m.locks; nexts = m.nexts; statuses = set m.statuses r v; ticket = m.ticket; grant = m.grant }

-- a store to the ticket
abbrev pub store_ticket : (value : ℕ) → Memory → Memory
store_ticket v m = record { locks = m.locks; nexts = m.nexts; statuses = m.statuses; ticket = v; grant = m.grant }

-- a store to the grant
abbrev pub store_grant : (value : ℕ) → Memory → Memory
store_grant v m = record { locks = m.locks; nexts = m.nexts; statuses = m.statuses; ticket = m.ticket; grant = v }

-- WHERE A CALL RETURNS: to the program that called Acquire or Release, or after the call in a line
pub data Return : Type 0 where
  from_acquire from_release : Return
  after_17 after_29 after_31 after_41 after_43 after_82 : Return

-- A CALL of AcquireReal, ReleaseReal or ReleaseHelper: its L and I, and where it returns
pub record Frame : Type 0 where
  pub domain : ℕ
  pub node : ℕ
  pub back : Return

-- a call with these parts
abbrev pub frame : (domain node : ℕ) → Return → Frame
frame l r b = record { domain = l; node = r; back = b }

-- PROGRAM POINTS: the next line, with the local variables in use there. In the ticket lock line 91 is a loop, with one point before its first test and one before a later test
pub data TicketPoint : Type 0 where
  line_90 line_91 line_91_again line_92 : TicketPoint

-- outside Acquire and Release, in the critical section, in Listing 1 and in the ticket lock
pub data Point : Type 0 where
  outside critical : Point
  line_7 line_9 line_13 line_16 line_17 : Point
  line_10 line_11 : (pred : ℕ) → Point
  line_14 : (curStatus : ℕ) → Point
  line_25 line_29 line_31 line_41 line_43 : Point
  line_27 line_35 : (curCount : ℕ) → Point
  line_36 line_37 : (curCount succ : ℕ) → Point
  line_53 line_57 line_58 : (val : ℕ) → Point
  line_54 line_55 line_59 : (succ val : ℕ) → Point
  line_66 line_67 line_69 line_72 line_82 : Point
  line_68 line_71 : (pred : ℕ) → Point
  ticket_lock : TicketPoint → Point

-- a thread's control: its point and its calls, the innermost first
pub record Control : Type 0 where
  pub point : Point
  pub frames : List Frame

-- a control with these parts
abbrev pub control : Point → List Frame → Control
control p fs = record { point = p; frames = fs }

-- the control and the memory after a line
pub record After : Type 0 where
  pub thread : Control
  pub memory : Memory

-- the thread goes to a point, with these calls and this memory
abbrev pub goes : Point → List Frame → Memory → After
goes p fs m = record { thread = control p fs; memory = m }

-- CALLS. AcquireReal: if its L is the root, HMCS<depth-1> is the second template, lines 63 to 89, or the ticket lock at a ticket root
unfoldable pub acquire_real : Tree → (domain node : ℕ) → Return → List Frame → Control
acquire_real t l r b fs = control (cond (is_ticket t l) (ticket_lock line_90) (cond (eqb l 0) line_66 line_7)) (frame l r b ∷ fs)

-- ReleaseReal, with the same choice
unfoldable pub release_real : Tree → (domain node : ℕ) → Return → List Frame → Control
release_real t l r b fs = control (cond (is_ticket t l) (ticket_lock line_92) (cond (eqb l 0) line_82 line_25)) (frame l r b ∷ fs)

-- ReleaseHelper, line 52
unfoldable pub release_helper : (domain node val : ℕ) → Return → List Frame → Control
release_helper l r v b fs = control (line_53 v) (frame l r b ∷ fs)

-- RETURNS: a call returns to after the line that made it; after 17, 31, 43 and 82 its caller returns too (lines 18, 32, 44 and 83)
unfoldable pub goes_back : Return → (caller_ends : Control) → (callers : List Frame) → Control
goes_back from_acquire c fs = control critical []
goes_back from_release c fs = control outside []
goes_back after_17 c fs = c
goes_back after_29 c fs = control line_31 fs
goes_back after_31 c fs = c
goes_back after_41 c fs = control line_43 fs
goes_back after_43 c fs = c
goes_back after_82 c fs = c

-- the innermost call returns
unfoldable pub returns : (calls : List Frame) → Control
-- without a call this does not occur
returns [] = control outside []
returns (f ∷ fs) = goes_back f.back (returns fs) fs
