-- The ticket lock of source document 001, section 2, as a program: at a ticket root it replaces the second template of Listing 1, lines 63 to 89, and its lines are numbered from 90. A ticket is kept in the status of the node that takes it.
use Rattle.std.specs.Prelude.{cond, List, ℕ, ◌+◌, eqb}
use Rattle.model.specs.States.{wrap}
use Rattle.paper_listing.specs.Calls.{Memory, status_at, store_status, store_ticket, store_grant, Frame, TicketPoint, line_90, line_91, line_91_again, line_92, ticket_lock, control, After, goes, returns}

-- one test in the loop of line 91
unfoldable pub tests_grant : (I : ℕ) → (fs : List Frame) → (m : Memory) → After
tests_grant I fs m = record { thread = cond (eqb (status_at m I) m.grant) (returns fs) (control (ticket_lock line_91_again) fs); memory = m }

-- ONE LINE, in a call with I; fs are all calls, m the memory. AcquireReal is lines 90 and 91, ReleaseReal line 92
unfoldable pub ticket_line : TicketPoint → (I : ℕ) → (fs : List Frame) → (m : Memory) → After
-- 90: I->status = FETCH_AND_INCREMENT(&(L->ticket));
ticket_line line_90 I fs m = goes (ticket_lock line_91) fs (store_ticket (wrap (m.ticket + 1)) (store_status I m.ticket m))
-- 91: while (L->grant != I->status); // spin
ticket_line line_91 I fs m = tests_grant I fs m
ticket_line line_91_again I fs m = tests_grant I fs m
-- 92: L->grant = L->grant + 1;
ticket_line line_92 I fs m = record { thread = returns fs; memory = store_grant (wrap (m.grant + 1)) m }
