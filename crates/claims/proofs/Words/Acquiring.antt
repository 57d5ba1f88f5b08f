-- The rows from Idle to Inside as moves of the queues.
use mathlib.Core.Path.{◌≡◌, refl}
use mathlib.Core.Bool.{false}
use Prim.Native.Nat.{ℕ, suc, ◌+◌, ◌-◌, ◌≤◌, ◌<◌}
use native.Mathlib.Omega.{arith}
use Rattle.model.specs.declared.Place.TheVariants.{Prep, Swap, Link, Wait, Inside}
use Rattle.model.specs.declared.State.{State as WordState}
use Rattle.model.specs.Trees.{Tree, is_ticket}
use Rattle.model.specs.States.{acquire_parent, none, tail, status}
use Rattle.model.specs.Steps.{RowResult, is_entry, acquire_place, prep_row, swap_row, link_row, wait_row}
use Rattle.model.specs.Runs.{ended_in}
use Rattle.model.specs.Laws.{SixteenBit}
use Rattle.model.specs.Tenures.{finds_none, taken_from, given}
use Rattle.model.proofs.Branches.{word_is, Branch, prepares, swap_root, swap_inner, swap_joins, link_writes, prep_branch, swap_branch, link_branch}
use Rattle.model.proofs.Waiting.{ungranted_row, acquiring_row, Granted, granted_root, granted_inner, granted_row}
use Rattle.model.proofs.Trees.Index.{ancestor, height, record_at}
use Rattle.model.proofs.Trees.Accepted.{Accepted}
use Rattle.model.proofs.Trees.Paths.{ancestor_real, ancestor_inner, ancestor_zero, ancestor_not_root, ancestor_parent_of}
use Rattle.model.proofs.Trees.Records.{own_record_at, record_small}
use Rattle.model.proofs.Lists.{put, put_same, put_other}
use Rattle.claims.proofs.Queues.Paths.{laws}
use Rattle.claims.proofs.Queues.Moves.{out, climb, queued, ready, inside, low, State, start, join_empty, join_root, join_after, enter}
use Rattle.claims.proofs.Queues.Changes.{started_by, unmoved, moved, event_shown, change_shown, made_first, change_firsts}
use Rattle.claims.proofs.Queues.Keeps.{keeps}
use Rattle.claims.proofs.Words.Links.{after, after_in}
use Rattle.claims.proofs.Words.View.{Words, words_in, Room, place_to}
use Rattle.claims.proofs.Words.Represents.{waiting_word, Counted, at_inside, Represents, left_alone}
use Rattle.claims.proofs.Words.Frame.{Others, apart, replaced}
use Rattle.claims.proofs.Words.Joining.{prepare, empty_there, take_root, take, stand_first, stand, link, climb_on}
use Rattle.claims.proofs.Words.Outcome.{standing_shown, entry_shown, row_shown, Outcome, outcome, placed, status_placed, next_placed, tail_placed, prep_placed, swap_placed, member_small}

module _ (t : Tree) (valid : Accepted t) (s : WordState) (room : Room s) (g : State) (i : ℕ) (h : i < t.threads) (o : Others t (words_in s) g i) where
  abbrev w : Words
  w = words_in s

  few : i < 256
  few = omega (arith, valid.few_threads)

  -- the domain and the record at an index are within the arrays
  domain_small : (k : ℕ) → ancestor t i k < 64
  domain_small k = omega (arith, ancestor_real t valid i h k, valid.few_domains)

  -- PREP
  pub prep_outcome : (k : ℕ) → k ≤ height t i → g.stage i ≡ climb k → Counted t w g i k → Outcome t g i (ancestor t i k) (Prep (ancestor t i k)) (prep_row t i (ancestor t i k) s)
  unfolding row_shown standing_shown entry_shown is_entry given taken_from ended_in change_shown change_firsts
  prep_outcome k l e c = by (prep_branch t i s (ancestor t i k))
    where
      by : {x : RowResult} → Branch t i s (Prep (ancestor t i k)) x → Outcome t g i (ancestor t i k) (Prep (ancestor t i k)) x
      by (prepares _ v at) =
          let b = record_small t valid i h k l in
          rw (word_is at, own_record_at t valid i h k l)
          (outcome _ g (prep_placed s room i few (Swap (ancestor t i k)) (record_at t i k) (waiting_word (ancestor t i k)) none b) (prepare t valid w g i h o k l e c) unmoved refl refl)

  -- SWAP
  pub swap_outcome :
      (k : ℕ) → k ≤ height t i → is_ticket t (ancestor t i k) ≡ false → g.stage i ≡ climb k → Counted t w g i k → w.nexts (record_at t i k) ≡ 0 →
      w.statuses (record_at t i k) ≡ waiting_word (ancestor t i k) → Outcome t g i (ancestor t i k) (Swap (ancestor t i k)) (swap_row t i (ancestor t i k) s)
  unfolding row_shown standing_shown entry_shown is_entry words_in given taken_from ended_in change_shown change_firsts event_shown made_first finds_none
  swap_outcome k l nt e c nx sw = by (swap_branch t i s (ancestor t i k))
    where
      by : {x : RowResult} → Branch t i s (Swap (ancestor t i k)) x → Outcome t g i (ancestor t i k) (Swap (ancestor t i k)) x
      by (swap_root _ root tl) =
          let b = record_small t valid i h k l in
          let d = domain_small k in
          rw (own_record_at t valid i h k l)
          (outcome _ _ (swap_placed s room i few Inside (ancestor t i k) (record_at t i k + 1) (record_at t i k) 0 d b)
          (take_root t valid w g i h o k l nt e root (ancestor_zero t valid i h k l root) tl nx c) (moved (join_root i k e root (empty_there t valid w g i h o k l nt tl)))
          refl (rw (own_record_at t valid i h k l) refl))
      by (swap_inner _ n tl) =
          let b = record_small t valid i h k l in
          let d = domain_small k in
          let lower = ancestor_not_root t valid i h k l (omega (arith, n)) in
          rw (own_record_at t valid i h k l, ancestor_parent_of t valid i h k lower)
          (outcome _ _ (swap_placed s room i few (acquire_place t (ancestor t i (suc k))) (ancestor t i k) (record_at t i k + 1) (record_at t i k) 1 d b)
          (take t valid w g i h o k l nt e n lower tl nx c) (moved (join_empty i k e n (empty_there t valid w g i h o k l nt tl)))
          refl (rw (own_record_at t valid i h k l) refl))
      by (swap_joins _ tl) =
          let d = domain_small k in
          let f = stand_first t valid w g i h o k l nt tl in
          rw (own_record_at t valid i h k l)
          (outcome _ _ (tail_placed s room i few (Link (ancestor t i k) (tail s (ancestor t i k) - 1)) (ancestor t i k) (record_at t i k + 1) d)
          (stand t valid w g i h o k l nt e tl nx sw c) (moved (join_after i k f.0 e f.1)) refl refl)

  -- LINK
  pub link_outcome :
      (k p : ℕ) → k ≤ height t i → is_ticket t (ancestor t i k) ≡ false → g.stage i ≡ queued k → Counted t w g i k → after (g.queue (ancestor t i k)) p ≡ suc (record_at t i k) → w.nexts p ≡ 0 →
      w.statuses (record_at t i k) ≡ waiting_word (ancestor t i k) → Outcome t g i (ancestor t i k) (Link (ancestor t i k) p) (link_row t i (ancestor t i k) p s)
  unfolding row_shown standing_shown entry_shown is_entry given taken_from ended_in change_shown change_firsts
  link_outcome k p l nt e c a nx sw = by (link_branch t i s (ancestor t i k) p)
    where
      by : {x : RowResult} → Branch t i s (Link (ancestor t i k) p) x → Outcome t g i (ancestor t i k) (Link (ancestor t i k) p) x
      by (link_writes _ _) =
          let b = member_small t valid g o.invariant (ancestor t i k) p (after_in (g.queue (ancestor t i k)) p (record_at t i k) a) in
          rw (own_record_at t valid i h k l)
          (outcome _ g (next_placed s room i few (Wait (ancestor t i k)) p (record_at t i k + 1) b)
          (link t valid w g i h o k l nt p e a nx sw c) unmoved refl refl)

  -- WAIT, not granted
  pub wait_outcome :
      Represents t w g → (k : ℕ) → k ≤ height t i → w.statuses (record_at t i k) ≡ waiting_word (ancestor t i k) →
      Outcome t g i (ancestor t i k) (Wait (ancestor t i k)) (wait_row t i (ancestor t i k) s)
  unfolding row_shown standing_shown entry_shown is_entry words_in given taken_from ended_in change_shown change_firsts
  wait_outcome rep k l sw =
      rw (ungranted_row t i s (ancestor t i k) (rw (own_record_at t valid i h k l) sw)) (outcome _ g (record { same = refl; room = room }) rep unmoved refl refl)

  -- WAIT, granted the domain only
  pub woken_outcome :
      (k : ℕ) → k < height t i → g.stage i ≡ climb (suc k) → Counted t w g i k → w.statuses (record_at t i k) ≡ acquire_parent →
      g.tally (record_at t i k) ≡ 1 → Outcome t g i (ancestor t i k) (Wait (ancestor t i k)) (wait_row t i (ancestor t i k) s)
  unfolding row_shown standing_shown entry_shown is_entry words_in given taken_from ended_in change_shown change_firsts
  woken_outcome k b e c sw ta =
      let l : k ≤ height t i = omega arith in
      let own = own_record_at t valid i h k l in
      let inner = ancestor_inner t valid i h k b in
      rw (acquiring_row t i s (ancestor t i k) (λ z. omega arith) (rw own sw), own, ancestor_parent_of t valid i h k b)
      (outcome _ g (status_placed s room i few (acquire_place t (ancestor t i (suc k))) (record_at t i k) 1 (record_small t valid i h k l)) (climb_on t valid w g i h o k l e b ta c) unmoved refl refl)

  -- WAIT, granted the lock
  abbrev pub entered_state : State
  entered_state = record { queue = g.queue; stage = put g.stage i inside; tally = g.tally }

  pub entered : g.stage i ≡ ready → Counted t w g i (height t i) → Represents t (place_to i Inside w) entered_state
  entered e c =
      replaced t valid w g i h o entered_state Inside inside (keeps t (laws t valid) g o.invariant (enter i e)) refl refl (put_same g.stage i inside i refl)
      (λ j n. put_other g.stage i inside j n) (at_inside c)

  -- the word for this: UNLOCKED at the root, a count below it
  pub ready_row :
      SixteenBit t → (k : ℕ) → k ≤ height t i → g.stage i ≡ ready → (k < height t i → w.statuses (record_at t i k) ≡ g.tally (record_at t i k)) →
      (k ≡ height t i → w.statuses (record_at t i k) ≡ 0) → Granted t i s (ancestor t i k) (wait_row t i (ancestor t i k) s)
  unfolding words_in low
  ready_row bits k l e c sw =
      let own = own_record_at t valid i h k l in
      granted_row t i s (ancestor t i k)
      (λ z. let v : status s (record_at t i k) ≡ 0 = sw (ancestor_zero t valid i h k l z) in rw own (λ y. omega arith))
      (λ n.
      let b = ancestor_not_root t valid i h k l (omega (arith, n)) in
      let count = c b in
      let first = (o.invariant.threads i).heads k (rw e (omega arith)) in
      let fits = (o.invariant.counts (ancestor t i k) (record_at t i k) n first).1 in
      rw own (omega (arith, bits (ancestor t i k))))

  pub ready_outcome :
      SixteenBit t → (k : ℕ) → k ≤ height t i → g.stage i ≡ ready → Counted t w g i (height t i) →
      (k ≡ height t i → w.statuses (record_at t i k) ≡ 0) → Outcome t g i (ancestor t i k) (Wait (ancestor t i k)) (wait_row t i (ancestor t i k) s)
  unfolding row_shown standing_shown entry_shown is_entry given taken_from ended_in change_shown change_firsts event_shown made_first
  ready_outcome bits k l e c sw = by (ready_row bits k l e (λ b. c k b b) sw)
    where
      by : {x : RowResult} → Granted t i s (ancestor t i k) x → Outcome t g i (ancestor t i k) (Wait (ancestor t i k)) x
      by (granted_root z) = outcome _ entered_state (placed s room i few Inside) (entered e c) (moved (enter i e)) refl refl
      by (granted_inner n kind entry) = outcome _ entered_state (placed s room i few Inside) (entered e c) (moved (enter i e)) (rw entry refl) refl

  -- IDLE: the thread starts
  pub started : g.stage i ≡ out → Others t w (started_by g i) i
  started e =
      record {
        invariant = keeps t (laws t valid) g o.invariant (start i h e);
        linked = o.linked;
        numbered = o.numbered;
        others = λ j hj n. left_alone (apart t valid w g i h o w (started_by g i) 0 (omega arith) j hj n refl (put_other g.stage i (climb 0) j n) (λ r q. refl)
            (λ r q. refl) (λ r q. refl) (λ m p q nd a. (a, refl)) (λ d r q z. z)) (o.others j hj n);
      }
