-- The rows with which a thread acquires a ticket lock at the root: Draw, Idle if the root is home, and Watch.
use mathlib.Core.Path.{◌≡◌, refl, sym, ap, ◌∙◌}
use mathlib.Core.Bool.{true, false}
use mathlib.Core.List.{List, [], ◌∷◌, ◌++◌}
use mathlib.Core.Logic.{◌≢◌}
use Prim.Native.Nat.{ℕ, suc, ◌+◌, ◌≤◌, ◌<◌}
use native.Mathlib.Omega.{arith}
use lib.ListN.{length}
use Rattle.model.specs.declared.Place.{Place}
use Rattle.model.specs.declared.Place.TheVariants.{Inside, Draw, Watch}
use Rattle.model.specs.declared.State.{State as WordState}
use Rattle.model.specs.Trees.{Tree, is_ticket}
use Rattle.model.specs.States.{wrap, status}
use Rattle.model.specs.Steps.{RowResult, is_entry, draw_row, watch_row}
use Rattle.model.specs.Runs.{ended_in}
use Rattle.model.specs.Tenures.{taken_from, given}
use Rattle.model.proofs.Branches.{Branch, draw_shown, draw_unshown, watch_shown, watch_unshown, draw_branch, watch_branch}
use Rattle.model.proofs.Trees.Index.{ancestor, height, record_at}
use Rattle.model.proofs.Trees.Accepted.{Accepted}
use Rattle.model.proofs.Trees.Tickets.{queue_lower}
use Rattle.model.proofs.Trees.Paths.{ancestor_root}
use Rattle.model.proofs.Trees.Records.{root_record, record_small}
use Rattle.model.proofs.Lists.{put, put_same, put_other, first, first_cons, rest, count}
use Rattle.claims.proofs.Queues.Paths.{laws}
use Rattle.claims.proofs.Queues.Moves.{climb, queued, ready, inside, low, acts, State, Move, begins, join_root, join_after, enter}
use Rattle.claims.proofs.Queues.Changes.{unmoved, moved, event_shown, change_shown, made_first, change_firsts, made_begins}
use Rattle.claims.proofs.Queues.Invariant.{Inv}
use Rattle.claims.proofs.Queues.Keeps.{keeps}
use Rattle.claims.proofs.Words.View.{Words, words_in, Room, status_to, place_to, ticket_to}
use Rattle.claims.proofs.Words.Represents.{Linked, Tickets, Numbered, Counted, at_inside, at_watch, Represents}
use Rattle.claims.proofs.Words.Tickets.{list_short, length_none, tickets_snoc, tickets_after, tickets_first, tickets_rest}
use Rattle.claims.proofs.Words.Frame.{Others, tickets_kept, counted_below, assembled}
use Rattle.claims.proofs.Words.Joining.{away, grown, took_root_state, stood_state, join_apart}
use Rattle.claims.proofs.Words.Acquiring.{entered_state, entered}
use Rattle.claims.proofs.Words.Outcome.{standing_shown, entry_shown, row_shown, Outcome, outcome, placed, draw_placed, member_small}

-- a queue that is not empty has a first
some_first : (q : List ℕ) → q ≢ [] → (a : ℕ) × (first q ≡ suc a)
some_first [] n = absurd (n refl)
some_first (x ∷ xs) n = (x, first_cons x xs)

pub begins_at : (t : Tree) (g g' : State) (d e m : ℕ) → d ≡ e → Move t g (begins d m) g' → Move t g (begins e m) g'
begins_at t g g' d e m z mv = rw z at mv

-- the queue at a ticket root is short enough for the counters
pub root_short : (t : Tree) → Accepted t → (g : State) → Inv t g → length (g.queue 0) ≤ 320
root_short t valid g inv = list_short 320 (g.queue 0) (member_small t valid g inv 0) (inv.once 0)

module _ (t : Tree) (valid : Accepted t) (s : WordState) (room : Room s) (g : State) (i : ℕ) (h : i < t.threads) (o : Others t (words_in s) g i)
    (root : t.ticket_root ≡ true) where
  abbrev w : Words
  w = words_in s

  abbrev inv : Inv t g
  inv = o.invariant

  few : i < 256
  few = omega (arith, valid.few_threads)

  -- DRAW
  module _ (k : ℕ) (top : k ≡ height t i) where
    abbrev L : ℕ
    L = ancestor t i k

    abbrev R : ℕ
    R = record_at t i k

    there : L ≡ 0
    there = ap (ancestor t i) top ∙ ancestor_root t valid i h

    pub within : k ≤ height t i
    within = omega arith

    queue_there : g.queue L ≡ g.queue 0
    queue_there = ap g.queue there

    abbrev pub drawn : Place → Words
    drawn p = place_to i p (ticket_to (wrap (w.ticket + 1)) (status_to R w.ticket w))

    others_kept : (r : ℕ) → r ≢ R → put w.statuses R w.ticket r ≡ w.statuses r
    others_kept r n = put_other w.statuses R w.ticket r n

    module _ (e : g.stage i ≡ climb k) (p : Place) (g' : State) (queues : g'.queue ≡ grown t valid w g i h o k within) where
      drawn_linked : (d : ℕ) → is_ticket t d ≡ false → Linked (drawn p) (g'.queue d) d
      drawn_linked d nd =
          let other : d ≢ L = λ z. queue_lower t d nd root (z ∙ there) in
          rw (queues, put_other g.queue L (g.queue L ++ (R ∷ [])) d other) (record { last = (o.linked d nd).last; chain = (o.linked d nd).chain })

      drawn_numbered : t.ticket_root ≡ true → Numbered (drawn p) (g'.queue 0)
      drawn_numbered z =
          let old = o.numbered root in
          rw (queues, put_same g.queue L (g.queue L ++ (R ∷ [])) 0 (sym there), queue_there)
          (record {
            small = old.small;
            held = tickets_snoc (drawn p).statuses w.grant w.ticket R (g.queue 0) (put_same w.statuses R w.ticket R refl)
                (tickets_kept w.statuses (drawn p).statuses w.grant w.ticket (g.queue 0)
                (λ a m. others_kept a (away t valid w g i h o k within e 0 a m)) old.held);
          })

    -- the ticket equals the grant exactly if the queue is empty
    pub nobody_there : w.ticket ≡ w.grant → g.queue L ≡ []
    nobody_there z =
        let old = o.numbered root in
        let b = tickets_after w.statuses w.grant w.ticket (g.queue 0) old.small old.held in
        let few_there = root_short t valid g inv in
        let small = old.small in
        queue_there ∙ length_none (g.queue 0) (omega arith)

    pub somebody_there : w.ticket ≢ w.grant → (a : ℕ) × (first (g.queue L) ≡ suc a)
    unfolding Tickets
    somebody_there n =
        let old = o.numbered root in
        some_first (g.queue L) (λ z.
        let empty : Tickets w.statuses w.grant w.ticket [] = rw (sym queue_there ∙ z) at old.held in
        n empty)

    pub draw_enters : g.stage i ≡ climb k → Counted t w g i k → w.ticket ≡ w.grant → Represents t (drawn Inside) (took_root_state t valid w g i h o k within)
    draw_enters e c z =
        let g' = took_root_state t valid w g i h o k within in
        assembled t valid w g i h o (drawn Inside) g' Inside inside (keeps t (laws t valid) g inv (join_root i k e there (nobody_there z)))
        (drawn_linked e Inside g' refl) (drawn_numbered e Inside g' refl)
        (put_same w.places i Inside i refl) (put_same g.stage i inside i refl)
        (at_inside (λ m b q. counted_below t valid w g i h o (drawn Inside) g' k within others_kept (λ r n. refl) c m (omega arith) q))
        (λ j hj n. join_apart t valid w g i h o k within (drawn Inside) g' refl refl e j hj n (put_other w.places i Inside j n)
        (put_other g.stage i inside j n) others_kept (λ r q. refl) (λ d r q z. z))

    pub draw_watches : g.stage i ≡ climb k → Counted t w g i k → w.ticket ≢ w.grant → Represents t (drawn Watch) (stood_state t valid w g i h o k within)
    draw_watches e c z =
        let g' = stood_state t valid w g i h o k within in
        let f = somebody_there z in
        assembled t valid w g i h o (drawn Watch) g' Watch (queued k) (keeps t (laws t valid) g inv (join_after i k f.0 e f.1))
        (drawn_linked e Watch g' refl) (drawn_numbered e Watch g' refl)
        (put_same w.places i Watch i refl) (put_same g.stage i (queued k) i refl)
        (at_watch k top root (counted_below t valid w g i h o (drawn Watch) g' k within others_kept (λ r n. refl) c))
        (λ j hj n. join_apart t valid w g i h o k within (drawn Watch) g' refl refl e j hj n (put_other w.places i Watch j n)
        (put_other g.stage i (queued k) j n) others_kept (λ r q. refl) (λ d r q z. z))

    pub draw_outcome : (d : ℕ) → L ≡ d → g.stage i ≡ climb k → Counted t w g i k → Outcome t g i d Draw (draw_row t i s)
    unfolding row_shown standing_shown entry_shown is_entry words_in given taken_from ended_in change_shown change_firsts event_shown made_first
    draw_outcome d z e c = by (draw_branch t i s)
      where
        by : {x : RowResult} → Branch t i s Draw x → Outcome t g i d Draw x
        by (draw_shown same) =
            rw (root_record t valid i h, ← top)
            (outcome _ _ (draw_placed s room i few Inside R s.ticket (wrap (s.ticket + 1)) (record_small t valid i h k within)) (draw_enters e c same)
            (moved (join_root i k e there (nobody_there same))) refl (rw (root_record t valid i h, ← top) refl))
        by (draw_unshown other) =
            let f = somebody_there other in
            let mv = begins_at t g _ L d R z (join_after i k f.0 e f.1) in
            rw (root_record t valid i h, ← top)
            (outcome _ _ (draw_placed s room i few Watch R s.ticket (wrap (s.ticket + 1)) (record_small t valid i h k within)) (draw_watches e c other)
            (moved mv) refl (made_begins t mv))

  -- WATCH: the ticket is not shown yet
  pub not_shown : g.stage i ≡ queued (height t i) → status s (record_at t i (height t i)) ≢ s.grant
  unfolding words_in low acts
  not_shown e =
      let old = o.numbered root in
      let R = record_at t i (height t i) in
      let stands : 1 ≤ count R (rest (g.queue (ancestor t i (height t i)))) = rw e at ((inv.threads i).stands (rw e (omega arith))) in
      let in_rest : 1 ≤ count R (rest (g.queue 0)) = rw (ancestor_root t valid i h) at stands in
      tickets_rest w.statuses w.grant w.ticket R (g.queue 0) old.small (root_short t valid g inv) old.held in_rest

  pub watch_outcome : Represents t w g → g.stage i ≡ queued (height t i) → Outcome t g i 0 Watch (watch_row t i s)
  unfolding row_shown standing_shown entry_shown is_entry words_in low acts given taken_from ended_in change_shown change_firsts
  watch_outcome rep e = by (watch_branch t i s)
    where
      by : {x : RowResult} → Branch t i s Watch x → Outcome t g i 0 Watch x
      by (watch_shown same) = absurd (not_shown e (rw (root_record t valid i h) at same))
      by (watch_unshown _) = outcome _ g (record { same = refl; room = room }) rep unmoved refl refl

  -- the ticket is shown: the thread is first at the root
  pub is_shown : g.stage i ≡ ready → status s (record_at t i (height t i)) ≡ s.grant
  unfolding words_in low
  is_shown e =
      let R = record_at t i (height t i) in
      let head : first (g.queue 0) ≡ suc R = rw (ancestor_root t valid i h) at ((inv.threads i).heads (height t i) (rw e (omega arith))) in
      tickets_first w.statuses w.grant w.ticket R (g.queue 0) (o.numbered root).held head

  pub shown_outcome : g.stage i ≡ ready → Counted t w g i (height t i) → Outcome t g i 0 Watch (watch_row t i s)
  unfolding row_shown standing_shown entry_shown is_entry given taken_from ended_in change_shown change_firsts event_shown made_first
  shown_outcome e c = by (watch_branch t i s)
    where
      by : {x : RowResult} → Branch t i s Watch x → Outcome t g i 0 Watch x
      by (watch_shown _) = outcome _ (entered_state t valid s room g i h o) (placed s room i few Inside) (entered t valid s room g i h o e c) (moved (enter i e)) refl refl
      by (watch_unshown other) = absurd ((rw (root_record t valid i h) at other) (is_shown e))
