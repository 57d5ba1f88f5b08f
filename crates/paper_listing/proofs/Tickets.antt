-- The lines of the ticket lock, entry by entry, do what the rows Draw, Watch and Raise do.
use mathlib.Core.Path.{◌≡◌, refl, ap, ◌∙◌}
use mathlib.Core.Bool.{Bool, true, false, cond}
use mathlib.Core.List.{List, [], ◌∷◌}
use Prim.Native.Nat.{ℕ, suc, ◌+◌, ◌≤◌, ◌<◌}
use native.Mathlib.Omega.{arith}
use lib.Dec.{eqb}
use lib.ListN.{length}
use lib.Seq.{get_or-set_same}
use borrow.Author.Tests.{eqb-true, eqb-false, eq-eqb, ne_eqb}
use Rattle.model.specs.declared.Place.TheVariants.{Inside, Draw, Watch, Raise}
use Rattle.model.specs.declared.State.{State}
use Rattle.model.specs.Trees.{Tree, is_ticket, own_record}
use Rattle.model.specs.States.{place, wrap, HasRoom}
use Rattle.model.specs.Steps.{RowResult, done_place, draw_row}
use Rattle.model.proofs.Branches.{Branch, draw_shown, draw_unshown, watch_shown, watch_unshown, raise_counts, draw_branch}
use Rattle.model.proofs.Trees.Index.{ancestor, height, record_at}
use Rattle.model.proofs.Trees.Accepted.{Accepted}
use Rattle.model.proofs.Trees.Tickets.{ticket_facts}
use Rattle.model.proofs.Trees.Records.{own_record_at, record_small}
use Rattle.claims.proofs.Words.Releasing.{done_at, done_place_at}
use Rattle.paper_listing.specs.Calls.{Memory, status_at, store_status, store_ticket, store_grant, Return, from_acquire, Frame, frame, outside, critical, ticket_lock, line_90, line_91, line_91_again, line_92, Control, control, After, goes, acquire_real, returns}
use Rattle.paper_listing.specs.TicketLock.{tests_grant, ticket_line}
use Rattle.paper_listing.specs.Listing.{line, next_line, top_domain, top_node, top_back}
use Rattle.paper_listing.specs.Agreement.{called_place, ticket_place, place_at, place_of_control, is_place, settle, entry, memory_of}
use Rattle.paper_listing.proofs.Stacks.{acquire_back, acquire_callers, acquire_stack, acquired, ReleaseStack, c_inside, c_watch}
use Rattle.paper_listing.proofs.Entries.{through, there, begins}
use Rattle.paper_listing.proofs.Acquiring.{Together, standing, moved, stayed, together}
use Rattle.paper_listing.proofs.Returning.{ended}

-- the memory after line 90
abbrev taken : (node : ℕ) → Memory → Memory
taken r m = store_ticket (wrap (m.ticket + 1)) (store_status r m.ticket m)

-- the control after a test of line 91, by its outcome
abbrev tested : Bool → List Frame → Control
tested c fs = cond c (control critical []) (control (ticket_lock line_91_again) fs)

-- WHAT AN ENTRY EXECUTES
module _ (t : Tree) (i : ℕ) where
  module _ (l r : ℕ) (b : Return) (fs : List Frame) (m : Memory) where
    abbrev all : List Frame
    all = frame l r b ∷ fs

    tested_stands : (n : ℕ) (c : Bool) → settle (suc n) t i (record { thread = tested c all; memory = m }) ≡ record { thread = tested c all; memory = m }
    unfolding place_of_control place_at ticket_place is_place
    tested_stands n true = there t i n (goes critical [] m) refl
    tested_stands n false = there t i n (goes (ticket_lock line_91_again) all m) refl

    -- the first test, in the entry that takes the ticket
    tests_first :
        (n : ℕ) (c : Bool) → eqb (status_at m r) m.grant ≡ c → returns all ≡ control critical [] →
        settle (suc (suc n)) t i (goes (ticket_lock line_91) all m) ≡ record { thread = tested c all; memory = m }
    unfolding next_line line ticket_line tests_grant top_domain top_node place_of_control place_at ticket_place is_place
    tests_first n c e a = through t i (suc n) (goes (ticket_lock line_91) all m) (record { thread = tested c all; memory = m }) refl (rw (e, a)) ∙ tested_stands n c

    -- a later test
    tests_again :
        (c : Bool) → eqb (status_at m r) m.grant ≡ c → returns all ≡ control critical [] →
        entry t i (goes (ticket_lock line_91_again) all m) ≡ record { thread = tested c all; memory = m }
    unfolding next_line line ticket_line tests_grant top_domain top_node
    tests_again c e a = begins t i (goes (ticket_lock line_91_again) all m) (record { thread = tested c all; memory = m }) (rw (e, a)) ∙ tested_stands 7 c

  module _ (l r : ℕ) (b : Return) (fs : List Frame) (m : Memory) (c : Bool) (e : eqb (status_at (taken r m) r) m.grant ≡ c) where
    draws : returns (frame l r b ∷ fs) ≡ control critical [] → entry t i (goes (ticket_lock line_90) (frame l r b ∷ fs) m) ≡ record { thread = tested c (frame l r b ∷ fs); memory = taken r m }
    unfolding next_line line ticket_line top_domain top_node
    draws a =
        begins t i (goes (ticket_lock line_90) (frame l r b ∷ fs) m) (goes (ticket_lock line_91) (frame l r b ∷ fs) (taken r m)) refl
        ∙ tests_first l r b fs (taken r m) 6 c e a

  -- Idle at a ticket root: the call and line 90, before which no entry ends
  draws_at_home :
      (m : Memory) (c : Bool) → eqb (status_at (taken i m) i) m.grant ≡ c → is_ticket t (t.home i) ≡ true → returns (frame (t.home i) i from_acquire ∷ []) ≡ control critical [] →
      entry t i (goes outside [] m) ≡ record { thread = tested c (frame (t.home i) i from_acquire ∷ []); memory = taken i m }
  unfolding next_line line ticket_line acquire_real top_domain top_node top_back place_of_control place_at ticket_place called_place is_place
  draws_at_home m c e n a =
      let calls = frame (t.home i) i from_acquire ∷ [] in
      begins t i (goes outside [] m) (goes (ticket_lock line_90) calls m) (rw n)
      ∙ through t i 7 (goes (ticket_lock line_90) calls m) (goes (ticket_lock line_91) calls (taken i m)) refl refl
      ∙ tests_first (t.home i) i from_acquire [] (taken i m) 5 c e a

-- THE ROWS
module _ (t : Tree) (valid : Accepted t) (i : ℕ) (h : i < t.threads) (s : State) (room : HasRoom s.places i) where
  module _ (k : ℕ) (l : k ≤ height t i) (root : ancestor t i k ≡ 0) where
    root_record_at : own_record t i 0 ≡ record_at t i k
    root_record_at = rw root at (own_record_at t valid i h k l)

    -- the first test reads the ticket
    status_taken : length s.statuses ≡ 320 → status_at (taken (record_at t i k) (memory_of s)) (record_at t i k) ≡ s.ticket
    unfolding memory_of
    status_taken wide = get_or-set_same s.statuses (record_at t i k) s.ticket 0 (omega (arith, wide, record_small t valid i h k l))

    -- DRAW, by an entry that takes a ticket and tests once
    drawn_by :
        (x : After) (c : Bool) → eqb s.ticket s.grant ≡ c → x ≡ record { thread = tested c (acquire_stack t i k); memory = taken (record_at t i k) (memory_of s) } → {y : RowResult} →
        Branch t i s Draw y → Together t i s y x
    unfolding memory_of
    drawn_by x true e d (draw_shown _) =
        rw root_record_at (together t valid i h s room (goes critical [] (taken (record_at t i k) (memory_of s))) Inside d refl (moved refl) c_inside)
    drawn_by x false e d (draw_unshown _) =
        rw root_record_at
        (together t valid i h s room (goes (ticket_lock line_91_again) (acquire_stack t i k) (taken (record_at t i k) (memory_of s))) Watch d refl (moved refl) (c_watch k l root))
    drawn_by x true e d (draw_unshown n) = absurd (n (eqb-true s.ticket s.grant e))
    drawn_by x false e d (draw_shown z) = absurd (eqb-false s.ticket s.grant e z)

    drawn :
        (x : After) (c : Bool) → eqb s.ticket s.grant ≡ c → x ≡ record { thread = tested c (acquire_stack t i k); memory = taken (record_at t i k) (memory_of s) } →
        Together t i s (draw_row t i s) x
    drawn x c e d = drawn_by x c e d (draw_branch t i s)

    pub draw_together : length s.statuses ≡ 320 → Together t i s (draw_row t i s) (entry t i (standing (control (ticket_lock line_90) (acquire_stack t i k)) s))
    unfolding memory_of
    draw_together wide =
        drawn _ (eqb s.ticket s.grant) refl
        (draws t i (ancestor t i k) (record_at t i k) (acquire_back k) (acquire_callers t i k) (memory_of s) (eqb s.ticket s.grant) (ap (λ v. eqb v s.grant) (status_taken wide)) (acquired t i k))

    -- WATCH
    pub watch_together :
        place s i ≡ Watch → {x : RowResult} → Branch t i s Watch x → Together t i s x (entry t i (standing (control (ticket_lock line_91_again) (acquire_stack t i k)) s))
    unfolding memory_of
    watch_together q (watch_shown y) =
        together t valid i h s room (goes critical [] (memory_of s)) Inside
        (tests_again t i (ancestor t i k) (record_at t i k) (acquire_back k) (acquire_callers t i k) (memory_of s) true (rw root_record_at at (eq-eqb _ s.grant y)) (acquired t i k)) refl
        (moved refl) c_inside
    watch_together q (watch_unshown y) =
        together t valid i h s room (goes (ticket_lock line_91_again) (acquire_stack t i k) (memory_of s)) Watch
        (tests_again t i (ancestor t i k) (record_at t i k) (acquire_back k) (acquire_callers t i k) (memory_of s) false (rw root_record_at at (ne_eqb _ s.grant y)) (acquired t i k)) refl
        (stayed refl q) (c_watch k l root)

    -- RAISE
    done_root : done_place t i 0 ≡ done_at t i k
    done_root = rw root at (done_place_at t valid i h k l)

    pub raise_together : (fs : List Frame) → ReleaseStack t i k fs → {x : RowResult} → Branch t i s Raise x → Together t i s x (entry t i (standing (control (ticket_lock line_92) fs) s))
    unfolding memory_of next_line line ticket_line
    raise_together fs x raise_counts =
        let m = store_grant (wrap (s.grant + 1)) (memory_of s) in
        let z = ended t i valid h k fs m l x in
        rw done_root
        (together t valid i h s room (record { thread = z.thread; memory = m }) (done_at t i k)
        (begins t i (goes (ticket_lock line_92) fs (memory_of s)) (record { thread = returns fs; memory = m }) refl ∙ z.same) refl
        (moved refl) z.corresponds)

  -- IDLE, if the home is a ticket root
  pub idle_draw_together : length s.statuses ≡ 320 → is_ticket t (t.home i) ≡ true → Together t i s (draw_row t i s) (entry t i (standing (control outside []) s))
  unfolding memory_of ancestor record_at acquire_back acquire_callers
  idle_draw_together wide n =
      let root : ancestor t i 0 ≡ 0 = (ticket_facts t (t.home i) n).1 in
      drawn 0 (omega arith) root _ (eqb s.ticket s.grant) refl
      (draws_at_home t i (memory_of s) (eqb s.ticket s.grant) (ap (λ v. eqb v s.grant) (status_taken 0 (omega arith) root wide)) n (acquired t i 0))
